-- A ride is the hart's step, and all is right after it.
use Rattle.std.proofs.Common.{◌∙◌, ap, sym}
use Rattle.hv_fast.specs.Engine.{Engine}
use Rattle.hv_fast.proofs.Engines.{ridden_frames, ridden_moves, same_pages}
use Rattle.hv_fast.proofs.Riders.{is_none}
use Rattle.hv_fast.proofs.fast.Fast.ride.Goals as goal

pub invariant_of-self-2 : goal.invariant_of-self-2
invariant_of-self-2 c =
    let R = c.self.inside.harts in
    let r = c.at-cpu.result.now in
    record {
      next = same_pages c.self.inside.store c.ride.new.store R c.ride.ensures.len c.self.invariant.next;
      right = c.ride.ensures.right R r c.at-cpu.ensures (c.ready.ensures.right R c.at-cpu.ensures c.self.invariant.right);
    }

pub returns-clause-moves : goal.returns-clause-moves
returns-clause-moves c = λ rode.
    let S = c.self.inside.store in
    let R = c.self.inside.harts in
    let r = c.at-cpu.result.now in
    let quiet = sym c.pending.ensures.takes ∙ is_none c.pending.result (sym c.is_some.ensures ∙ c.if-is_some.false) in
    let right = c.ready.ensures.right R c.at-cpu.ensures c.self.invariant.right in
    ridden_moves S c.ride.new.store R c.args.hart r c.args.self.now.state c.at-cpu.ensures (ap (λ (e : Engine). e.state) c.self.view_is) (c.ride.ensures.rode rode R r c.at-cpu.ensures right quiet)

pub returns-clause-frame : goal.returns-clause-frame
returns-clause-frame c = λ rode.
    let S = c.self.inside.store in
    let R = c.self.inside.harts in
    let r = c.at-cpu.result.now in
    let quiet = sym c.pending.ensures.takes ∙ is_none c.pending.result (sym c.is_some.ensures ∙ c.if-is_some.false) in
    let right = c.ready.ensures.right R c.at-cpu.ensures c.self.invariant.right in
    ridden_frames S c.ride.new.store R c.args.hart r c.args.self.now.state c.at-cpu.ensures (ap (λ (e : Engine). e.state) c.self.view_is) (c.ride.ensures.rode rode R r c.at-cpu.ensures right quiet)
