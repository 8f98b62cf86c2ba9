-- The node is added under the next key.
use Rattle.std.proofs.Common.{◌∙◌, ℕ, cond, Some, length, sym, ap}
use Rattle.std.specs.HashMap as hash
use Rattle.slab.specs.Slab.{Slab, slab_len}
use Rattle.hv_vmid.specs.Nodes.{same_node}
use Rattle.hv_vmid.specs.declared.ids.Node.{Node}
use Rattle.hv_vmid.proofs.Numbering.{kept-length, kept-numbered}
use Rattle.hv_vmid.proofs.Adding.{Adds, adds, reserved-numbered}
use Rattle.hv_vmid.proofs.ids.Ids.add.Goals as goal

pub returns-in_default-clause-numbered : goal.returns-in_default-clause-numbered
returns-in_default-clause-numbered c = reserved-numbered _ _ _ c.self.invariant (ap (λ (s : Slab Node). s.slots) c.reserve.ensures.rest_kept)

pub returns-then-vacant_key-number-clause-numbered : goal.returns-then-vacant_key-number-clause-numbered
returns-then-vacant_key-number-clause-numbered c = reserved-numbered _ _ _ c.self.invariant (ap (λ (s : Slab Node). s.slots) c.reserve.ensures.rest_kept)

pub returns-in_default-insert-clause-numbered : goal.returns-in_default-insert-clause-numbered
returns-in_default-insert-clause-numbered c = reserved-numbered _ _ _ c.self.invariant (ap (λ (s : Slab Node). s.slots) c.reserve.ensures.rest_kept)

done : (c : goal.After-insert_reserved)
    → Adds c.insert_reserved.new.self.slots (slab_len c.insert_reserved.new.self) (hash.get same_node c.insert.new.self) c.args.self.now c.args.node
done c =
    let number = c.len-number.ensures in
    adds
    c.self.inside.nodes.slots c.reserve.new.self.slots c.insert_reserved.new.self.slots
    (slab_len c.insert_reserved.new.self) c.insert_reserved.result
    (hash.get same_node c.self.inside.numbers) (hash.get same_node c.insert.new.self)
    c.args.node c.args.self.now
    c.self.invariant c.self.view_is
    (ap (λ (s : Slab Node). s.slots) c.reserve.ensures.rest_kept)
    (c.insert_reserved.ensures.key ∙ sym c.vacant_key.ensures.value ∙ c.if-vacant_key-number.false ∙ number)
    c.insert_reserved.ensures.updates.changed c.insert_reserved.ensures.updates.others c.insert_reserved.ensures.len
    (λ (q : Node). c.in-Ok-insert.ensures.updates.0 q
    ∙ ap (λ (k : ℕ). cond (same_node c.args.node q) (Some k) (hash.get same_node c.self.inside.numbers q)) number)
    c.requires.room c.requires.parent c.requires.depth c.requires.path

pub invariant_of-self-2 : goal.invariant_of-self-2
invariant_of-self-2 c = (done c).kept

pub returns-clause-number : goal.returns-clause-number
returns-clause-number c =
    c.len-number.ensures ∙ sym (kept-length _ _ _ c.self.invariant) ∙ ap length c.self.view_is

pub returns-clause-added : goal.returns-clause-added
returns-clause-added c = (done c).paths_are

pub returns-clause-numbered : goal.returns-clause-numbered
returns-clause-numbered c = kept-numbered _ _ _ (done c).kept
