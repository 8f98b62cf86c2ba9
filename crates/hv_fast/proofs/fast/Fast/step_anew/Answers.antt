-- What the step changed is dropped.
use Rattle.std.proofs.Common.{◌<◌, List, length, sym, subst}
use Rattle.hv_cpu.specs.Regs.{Regs}
use Rattle.hv_fast.specs.Beside.{IsRightBeside}
use Rattle.hv_fast.specs.Engine.{Engine}
use Rattle.hv_fast.proofs.Engines.{moved_harts, same_pages, stands}
use Rattle.hv_fast.proofs.Mounting.{right_noted}
use Rattle.hv_fast.proofs.fast.Fast.step_anew.Goals as goal

pub invariant_of-self : goal.invariant_of-self
invariant_of-self c =
    let S = c.self.inside.store in
    let T = c.step_into.new.store in
    let R = c.self.inside.harts in
    let s = stands R c.args.hart (subst (λ (e : Engine). c.args.hart < length e.state.harts) (sym c.self.view_is) c.requires) in
    let m = moved_harts S T R c.step_into.new.self c.args.hart s.regs c.step_into.new.outcome.kind s.there c.step_into.ensures.moves in
    record {
      next = same_pages S T c.step_into.new.self c.step_into.ensures.len c.step_into.ensures.next;
      right = subst (λ (ks : List Regs). IsRightBeside T ks c.after.new.self) (sym m.is) (c.after.ensures.right S R m.regs (right_noted S R c.self.inside.beside c.step_into.new.notes c.self.invariant.right) (sym c.step_into.ensures.len) c.step_into.ensures.changed);
    }
