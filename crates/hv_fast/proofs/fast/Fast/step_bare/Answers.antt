-- What the step changed is dropped; the hart has no pin in use.
use Rattle.std.proofs.Common.{◌≡◌, ◌<◌, List, length, Option, slice_get, sym, subst}
use Rattle.std.specs.Prelude.{IfSome}
use Rattle.hv_cpu.specs.Regs.{Regs}
use Rattle.hv_fast.specs.Beside.{IsRightBeside}
use Rattle.hv_fast.specs.Engine.{Engine}
use Rattle.hv_fast.proofs.Engines.{moved_harts, same_pages, stands}
use Rattle.hv_fast.proofs.Mounting.{right_noted}
use Rattle.hv_fast.proofs.Resting.{idle_unpinned}
use Rattle.hv_fast.proofs.fast.Fast.step_bare.Goals as goal

pub invariant_of-self : goal.invariant_of-self
invariant_of-self c =
    let S = c.self.inside.store in
    let T = c.step_into.new.store in
    let R = c.self.inside.harts in
    let s = stands R c.args.hart (subst (λ (e : Engine). c.args.hart < length e.state.harts) (sym c.self.view_is) c.requires.hart) in
    let m = moved_harts S T R c.step_into.new.self c.args.hart s.regs c.step_into.new.outcome.kind s.there c.step_into.ensures.moves in
    let noted = right_noted S R c.self.inside.beside c.step_into.new.notes c.self.invariant.right in
    let idle : s.regs.next ≡ 0 = subst (λ (o : Option Regs). IfSome o (λ (r : Regs). r.next ≡ 0)) s.there (subst (λ (e : Engine). IfSome (slice_get e.state.harts c.args.hart) (λ (r : Regs). r.next ≡ 0)) (sym c.self.view_is) c.requires.idle) in
    record {
      next = same_pages S T c.step_into.new.self c.step_into.ensures.len c.step_into.ensures.next;
      right = subst (λ (ks : List Regs). IsRightBeside T ks c.spare_all.new.self) (sym m.is) (c.spare_all.ensures.right S R c.args.hart m.regs _ (idle_unpinned S R _ c.args.hart s.regs noted s.there idle) noted (sym c.step_into.ensures.len) c.step_into.ensures.changed);
    }
