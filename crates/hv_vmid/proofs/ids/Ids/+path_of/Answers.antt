-- The parent's path, and the node's syllable behind it.
use Rattle.std.proofs.Common.{◌≡◌, ◌∙◌, ℕ, List, [], ◌∷◌, ◌++◌, length, Some, sym, ap, subst, arith}
use Rattle.std.proofs.lemmas.Option.{get_or_from_slice_get}
use Rattle.hv_vmid.specs.Paths.{IsNumber, parent_path}
use Rattle.hv_vmid.proofs.Walking.{has-node, stands}
use Rattle.hv_vmid.proofs.ids.Ids.+path_of.Goals as goal
use Rattle.hv_vmid.proofs.ids.Ids.+path_of.Goals.{in-Some, in-None}

pub index-node-requires : goal.index-node-requires
index-node-requires t c = has-node _ _ _ c.self.invariant _ c.self.view_is c.args.id c.requires

pub path_of-path-requires : goal.path_of-path-requires
path_of-path-requires t c =
    let known = stands _ _ _ c.self.invariant _ c.self.view_is c.args.id c.requires c.index-node.result.now c.index-node.ensures in
    let less : IsNumber c.args.id (Some c.in-Some.parent) = subst (IsNumber c.args.id) c.in-Some.is known.earlier in
    (omega (arith, less, c.decreases), omega (arith, less, c.requires))

-- the path that was walked so far is the parent's
above : (t : ℕ) (c : goal.After-path-1 t) → parent_path c.args.self.now c.index-node.result.now.parent ≡ c.match-node.path
above t c =
    let paths = c.args.self.now in
    elim c.match-node.branch [
      | in-Some w ↦ ap (parent_path paths) w.in-Some.is ∙ get_or_from_slice_get paths _ _ _ w.path_of-path.ensures ∙ sym w.path-is
      | in-None w ↦ ap (parent_path paths) w.in-None.is ∙ sym w.new-path.ensures ∙ sym w.path-is
    ]

pub push-requires : goal.push-requires
push-requires t c =
    let known = stands _ _ _ c.self.invariant _ c.self.view_is c.args.id c.requires c.index-node.result.now c.index-node.ensures in
    omega (arith, known.short, ap length (above t c))

pub returns : goal.returns
returns t c =
    let known = stands _ _ _ c.self.invariant _ c.self.view_is c.args.id c.requires c.index-node.result.now c.index-node.ensures in
    known.is
    ∙ ap (λ (p : List ℕ). Some (p ++ c.index-node.result.now.syllable ∷ [])) (above t c.before)
    ∙ ap Some (sym c.push.ensures)
