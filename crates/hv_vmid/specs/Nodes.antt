-- How the paths that have numbers are kept: each by its parent's number and its last syllable.
use Rattle.std.specs.Prelude.{◌≡◌, ℕ, zero, suc, ◌<◌, ◌≤◌, Bool, List, [], ◌∷◌, ◌++◌, length, Option, Some, None}
use Rattle.std.specs.Prelude.{slice_index_or}
use Rattle.hv_limits.specs.Limits.{depth_limit}
use Rattle.hv_vmid.specs.Paths.{ids_limit, IsNumber, path_at, child_path}
use Rattle.hv_vmid.specs.declared.ids.Node.{Node}
use Rattle.hv_vmid.specs.contracts.ids.NodePartialEq.TheImpl as node_eq

-- whether two nodes are the same
abbrev pub same_node : Node → Node → Bool
same_node = (node_eq.ghosts).eq

-- the node under a key
abbrev pub node_at : List (Option Node) → ℕ → Option Node
node_at slots k = slice_index_or slots k None

-- one path more: that of a node whose parent's path is listed
abbrev pub with_node : List (List ℕ) → Option Node → List (List ℕ)
with_node paths None = paths
with_node paths (Some node) = paths ++ child_path paths node.parent node.syllable ∷ []

-- the paths of the nodes under the first n keys
unfoldable pub paths_of : List (Option Node) → ℕ → List (List ℕ)
paths_of slots zero = []
paths_of slots (suc k) = with_node (paths_of slots k) (node_at slots k)

-- a node stands under key k, and its parent's path has a smaller number
pub record IsPlaced (slots : List (Option Node)) (k : ℕ) : Type 0 where
  pub node : Node
  pub is : node_at slots k ≡ Some node
  pub earlier : IsNumber k node.parent

-- Nodes stand under the first n keys, and nowhere else. Each is found at its key, and nothing else is found. No two of
-- their paths are the same, and none is too long.
pub record AreNodesKept (slots : List (Option Node)) (n : ℕ) (number : Node → Option ℕ) : Type 0 where
  pub few : n ≤ ids_limit
  pub placed : (k : ℕ) → k < n → IsPlaced slots k
  pub vacant : (k : ℕ) → n ≤ k → node_at slots k ≡ None
  pub found : (k : ℕ) (node : Node) → number node ≡ Some k → node_at slots k ≡ Some node
  pub listed : (k : ℕ) (node : Node) → node_at slots k ≡ Some node → number node ≡ Some k
  pub once : (i j : ℕ) → i < n → j < n → path_at (paths_of slots n) i ≡ path_at (paths_of slots n) j → i ≡ j
  pub shallow : (k : ℕ) → k < n → length (path_at (paths_of slots n) k) ≤ depth_limit
