-- Paths that have numbers: a list, in which each path stands at its number.
use Rattle.std.specs.Prelude.{◌≡◌, ◌≢◌, ℕ, ◌<◌, ◌≤◌, List, [], ◌∷◌, ◌++◌, length, Option, Some, None}
use Rattle.std.specs.Prelude.{slice_get, slice_index_or}
use Rattle.hv_limits.specs.Limits.{depth_limit}

-- how many paths can have numbers
abbrev pub ids_limit : ℕ
ids_limit = 65536

-- a number that was given, or none, which stands for the bare machine
abbrev pub IsNumber : ℕ → Option ℕ → Type 0
IsNumber n None = Unit {0}
IsNumber n (Some k) = k < n

-- the path at a number that was given
abbrev pub path_at : List (List ℕ) → ℕ → List ℕ
path_at paths k = slice_index_or paths k []

-- the path of a parent: that at its number, or the bare machine's where it has none
abbrev pub parent_path : List (List ℕ) → Option ℕ → List ℕ
parent_path paths None = []
parent_path paths (Some k) = path_at paths k

-- the path of a child: its parent's, and the child's syllable
abbrev pub child_path : List (List ℕ) → Option ℕ → ℕ → List ℕ
child_path paths parent syllable = parent_path paths parent ++ syllable ∷ []

-- the path has no number
abbrev pub IsNew : List (List ℕ) → List ℕ → Type 0
IsNew paths path = (k : ℕ) → slice_get paths k ≢ Some path

-- a path is that of a child of the bare machine, or of a machine whose path is among the first n
pub record IsChild (paths : List (List ℕ)) (n : ℕ) (path : List ℕ) : Type 0 where
  pub parent : Option ℕ
  pub syllable : ℕ
  pub earlier : IsNumber n parent
  pub is : path ≡ child_path paths parent syllable

-- Not more paths have numbers than can; none has two; none is deeper than a machine can be; and each is the path of a
-- child of the bare machine, or of a machine whose path has a smaller number.
pub record IsNumbered (paths : List (List ℕ)) : Type 0 where
  pub few : length paths ≤ ids_limit
  pub once : (i j : ℕ) (path : List ℕ) → slice_get paths i ≡ Some path → slice_get paths j ≡ Some path → i ≡ j
  pub shallow : (k : ℕ) (path : List ℕ) → slice_get paths k ≡ Some path → length path ≤ depth_limit
  pub child : (k : ℕ) (path : List ℕ) → slice_get paths k ≡ Some path → IsChild paths k path
