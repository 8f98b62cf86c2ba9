-- A node that is added under the next key.
use Rattle.std.proofs.Common.{◌≡◌, ◌≢◌, ℕ, suc, ◌+◌, ◌<◌, cond, List, [], ◌∷◌, ◌++◌, length, Option, Some, None, count_by, is_some, sym, ap, ◌∙◌, subst, arith}
use Rattle.hv_limits.specs.Limits.{depth_limit}
use Rattle.hv_vmid.specs.Paths.{ids_limit, IsNumber, parent_path, child_path, IsNew, IsNumbered}
use Rattle.hv_vmid.specs.Nodes.{same_node, node_at, paths_of, AreNodesKept}
use Rattle.hv_vmid.specs.declared.ids.Node.{Node}
use Rattle.hv_vmid.proofs.Numbering.{added-kept, added-paths, kept-length, kept-numbered, new-none}

-- room that is made changes no path
pub reserved-numbered : (S R : List (Option Node)) (look : Node → Option ℕ) → AreNodesKept S (count_by is_some S) look → R ≡ S → IsNumbered (paths_of R (count_by is_some R))
reserved-numbered S R look K e =
    subst (λ (T : List (Option Node)). IsNumbered (paths_of T (count_by is_some T))) (sym e) (kept-numbered S (count_by is_some S) look K)

-- what holds of the nodes T after the node is added under the next key to the nodes S, which had room made as R
pub record Adds (T : List (Option Node)) (m : ℕ) (more : Node → Option ℕ) (paths : List (List ℕ)) (node : Node) : Type 0 where
  pub kept : AreNodesKept T m more
  pub paths_are : paths_of T m ≡ paths ++ child_path paths node.parent node.syllable ∷ []

pub adds :
    (S R T : List (Option Node)) (m key : ℕ) (look more : Node → Option ℕ) (node : Node) (paths : List (List ℕ))
    → AreNodesKept S (count_by is_some S) look
    → paths_of S (count_by is_some S) ≡ paths
    → R ≡ S
    → key ≡ count_by is_some S
    → node_at T key ≡ Some node
    → ((k : ℕ) → k ≢ key → node_at T k ≡ node_at R k)
    → m ≡ count_by is_some R + 1
    → ((q : Node) → more q ≡ cond (same_node node q) (Some (count_by is_some S)) (look q))
    → length paths < ids_limit
    → IsNumber (length paths) node.parent
    → length (parent_path paths node.parent) < depth_limit
    → IsNew paths (child_path paths node.parent node.syllable)
    → Adds T m more paths node
adds S R T m key look more node paths K view same is at others count found room earlier depth new =
    let n = count_by is_some S in
    let long : n ≡ length paths = sym (kept-length S n look K) ∙ ap length view in
    let next : m ≡ suc n = omega (arith, count, ap (count_by is_some) same) in
    let here : node_at T n ≡ Some node = sym (ap (node_at T) is) ∙ at in
    let there : (k : ℕ) → k ≢ n → node_at T k ≡ node_at S k =
    λ k d. others k (λ e. d (e ∙ is)) ∙ ap (λ (X : List (Option Node)). node_at X k) same in
    let none : look node ≡ None =
    new-none S n look K node (subst (λ (P : List (List ℕ)). IsNew P (child_path P node.parent node.syllable)) (sym view) new) in
    let kept : AreNodesKept T (suc n) more =
    added-kept S T n look more node K here there found none
    (omega (arith, long, room))
    (subst (λ (k : ℕ). IsNumber k node.parent) (sym long) earlier)
    (subst (λ (P : List (List ℕ)). length (parent_path P node.parent) < depth_limit) (sym view) depth) in
    record {
      kept = subst (λ (k : ℕ). AreNodesKept T k more) (sym next) kept;
      paths_are =
          ap (paths_of T) next
          ∙ added-paths S T n look more node K here there
          ∙ ap (λ (P : List (List ℕ)). P ++ child_path P node.parent node.syllable ∷ []) view;
    }
