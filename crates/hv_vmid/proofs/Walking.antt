-- From a number to its path, by the node that is kept under it.
use Rattle.std.proofs.Common.{◌≡◌, ℕ, ◌<◌, List, length, Option, Some, IsSome, slice_get, refl, sym, ap, ◌∙◌, subst, arith}
use Rattle.std.proofs.lemmas.List.{length_push}
use Rattle.hv_limits.specs.Limits.{depth_limit}
use Rattle.hv_vmid.specs.Paths.{IsNumber, parent_path, child_path}
use Rattle.hv_vmid.specs.Nodes.{node_at, paths_of, AreNodesKept}
use Rattle.hv_vmid.specs.declared.ids.Node.{Node}
use Rattle.hv_vmid.proofs.Numbering.{kept-earlier, kept-get, kept-length, kept-path}

-- what is known of the node under a number
pub record Stands (paths : List (List ℕ)) (id : ℕ) (node : Node) : Type 0 where
  pub earlier : IsNumber id node.parent
  pub short : length (parent_path paths node.parent) < depth_limit
  pub is : slice_get paths id ≡ Some (child_path paths node.parent node.syllable)

module _ (S : List (Option Node)) (n : ℕ) (look : Node → Option ℕ) (K : AreNodesKept S n look) (paths : List (List ℕ)) (view : paths_of S n ≡ paths) (id : ℕ) (given : id < length paths) where
  below : id < n
  below = omega (arith, given, ap length view, kept-length S n look K)

  -- a node is kept under a number that was given
  pub has-node : IsSome (node_at S id)
  has-node = subst IsSome (sym (K.placed id below).is) refl

  -- its parent has a smaller number, and its path is its parent's and its syllable
  pub stands : (node : Node) → node_at S id ≡ Some node → Stands paths id node
  stands node is =
      let P = paths_of S n in
      let path = kept-path S n look K id node below is in
      subst (λ (Q : List (List ℕ)). Stands Q id node) view
      (record {
        earlier = kept-earlier S n look K id node below is;
        short = omega (arith, K.shallow id below, ap length path, length_push (parent_path P node.parent) node.syllable);
        is = kept-get S n look K id below ∙ ap Some path;
      })
