-- The step is that of the registers which stand there.
use Rattle.std.proofs.Common.{◌≡◌, ◌≤◌, Some, length, arith, slice_get, get_or, sym, subst}
use Rattle.hv_nest.specs.Frame.{IsFramedBy}
use Rattle.hv_nest.specs.Move.{running_at}
use Rattle.hv_nest.proofs.AtHart.{registers_at, replaced_at, moved_at_hart, next_kept}
use Rattle.hv_nest.proofs.harts.Harts.step_into.Goals as goal

pub returns-clause-moves : goal.returns-clause-moves
returns-clause-moves c =
    let fits : c.self.inside.count ≤ length c.self.inside.cpus = omega (arith, c.self.invariant) in
    let at : slice_get c.args.self.now c.args.hart ≡ Some (get_or c.self.inside.cpus c.args.hart c.index-self-hart.result) =
    registers_at c.self.inside.count c.args.hart c.self.inside.cpus c.args.self.now c.index-self-hart.result c.self.view_is fits c.requires.hart in
    moved_at_hart c.args.store.now c.host_step_into.new.store c.args.self.now _ c.args.hart (get_or c.self.inside.cpus c.args.hart c.index-self-hart.result) c.host_step_into.new.cpu c.host_step_into.new.outcome.kind at
    (replaced_at c.self.inside.count c.args.hart c.self.inside.cpus c.args.self.now c.host_step_into.new.cpu c.self.view_is fits c.requires.hart)
    c.host_step_into.ensures.steps

pub returns-clause-frame : goal.returns-clause-frame
returns-clause-frame c =
    let fits : c.self.inside.count ≤ length c.self.inside.cpus = omega (arith, c.self.invariant) in
    let at : slice_get c.args.self.now c.args.hart ≡ Some (get_or c.self.inside.cpus c.args.hart c.index-self-hart.result) =
    registers_at c.self.inside.count c.args.hart c.self.inside.cpus c.args.self.now c.index-self-hart.result c.self.view_is fits c.requires.hart in
    subst (λ o. IsFramedBy c.args.store.now (running_at c.args.store.now o) c.host_step_into.new.store) (sym at) c.host_step_into.ensures.frame

pub returns-clause-next : goal.returns-clause-next
returns-clause-next c =
    let fits : c.self.inside.count ≤ length c.self.inside.cpus = omega (arith, c.self.invariant) in
    next_kept _ c.args.hart c.args.self.now _ c.host_step_into.new.cpu
    (replaced_at c.self.inside.count c.args.hart c.self.inside.cpus c.args.self.now c.host_step_into.new.cpu c.self.view_is fits c.requires.hart)
    c.host_step_into.ensures.next c.requires.next
