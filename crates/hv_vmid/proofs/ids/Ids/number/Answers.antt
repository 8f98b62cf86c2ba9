-- What is found has the path of its node, and what isn't found has no number.
use Rattle.std.proofs.Common.{◌≡◌, ℕ, List, length, Option, Some, None, sym, ap, ◌∙◌, subst, MatchOption, slice_get}
use Rattle.std.specs.HashMap as hash
use Rattle.hv_vmid.specs.Paths.{IsNumber, child_path, IsNew, IsNumbered}
use Rattle.hv_vmid.specs.Nodes.{same_node, paths_of, AreNodesKept}
use Rattle.hv_vmid.specs.declared.ids.Node.{Node}
use Rattle.hv_vmid.proofs.Numbering.{kept-found, kept-new, kept-length, kept-numbered}
use Rattle.hv_vmid.proofs.ids.Ids.number.Goals as goal

answered : (S : List (Option Node)) (n : ℕ) (look : Node → Option ℕ) (K : AreNodesKept S n look) (node : Node) (paths : List (List ℕ)) (o : Option ℕ)
    → paths_of S n ≡ paths
    → IsNumber (length paths) node.parent
    → o ≡ look node
    → MatchOption o (IsNew paths (child_path paths node.parent node.syllable)) (λ k. slice_get paths k ≡ Some (child_path paths node.parent node.syllable))
answered S n look K node paths None view earlier e =
    subst (λ (P : List (List ℕ)). IsNew P (child_path P node.parent node.syllable)) view
    (kept-new S n look K node (subst (λ (k : ℕ). IsNumber k node.parent) (sym (ap length view) ∙ kept-length S n look K) earlier) (sym e))
answered S n look K node paths (Some k) view earlier e =
    subst (λ (P : List (List ℕ)). slice_get P k ≡ Some (child_path P node.parent node.syllable)) view (kept-found S n look K k node (sym e))

pub returns-clause-found : goal.returns-clause-found
returns-clause-found c =
    answered c.self.inside.nodes.slots _ (hash.get same_node c.self.inside.numbers) c.self.invariant c.args.node.now _ c.copied.result
    c.self.view_is c.requires (c.copied.ensures ∙ c.get.ensures.value)

pub returns-clause-numbered : goal.returns-clause-numbered
returns-clause-numbered c = subst IsNumbered c.self.view_is (kept-numbered _ _ _ c.self.invariant)
