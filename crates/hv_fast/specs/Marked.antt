-- The bare pages on which rests what is kept beside the state: pages of tables and directories, whose words were read,
-- and pages of control blocks.
use Rattle.std.specs.Prelude.{◌≡◌, ℕ, Bool, true, false, ◌||◌, List}
use Rattle.std.specs.List.{AllByRecursion}
use Rattle.hv_word.specs.Words.{has}
use Rattle.hv_map.specs.Held.{SamePages}
use Rattle.hv_map.specs.Item.{Item}
use Rattle.hv_map.specs.Gathered.{Listed}

pub record Marked : Type 0 where
  pub tables : List ℕ
  pub blocks : List ℕ

-- whether something rests on a page
abbrev pub has_mark : Marked → ℕ → Bool
has_mark m g = has g m.tables || has g m.blocks

-- pages as a list that isn't full
abbrev pub listed : List ℕ → Listed
listed gs = record { pages = gs; full = false }

-- the blocks of the items are in these pages
abbrev pub BlocksIn : List ℕ → List Item → Type 0
BlocksIn gs items = AllByRecursion (λ (x : Item). has x.block gs ≡ true) items

-- two storages have the same words in the pages on which something rests
pub record SameMarked (S T : List ℕ) (m : Marked) : Type 0 where
  pub tables : SamePages S T m.tables
  pub blocks : SamePages S T m.blocks

-- everything that rests on pages of m rests on pages of n
pub record IsMore (m n : Marked) : Type 0 where
  pub tables : (g : ℕ) → has g m.tables ≡ true → has g n.tables ≡ true
  pub blocks : (g : ℕ) → has g m.blocks ≡ true → has g n.blocks ≡ true
