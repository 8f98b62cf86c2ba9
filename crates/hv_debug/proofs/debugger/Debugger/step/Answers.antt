use Rattle.std.proofs.Common.{List, refl, subst}
use Rattle.std.proofs.lemmas.Result.{on_ok_weaker}
use Rattle.hv_debug.specs.declared.debugger.Debugger.{Debugger}
use Rattle.hv_debug.specs.declared.stop.Break.{Break}
use Rattle.hv_debug.specs.Reaching.{Halts}
use Rattle.hv_debug.proofs.Sessions.{goes_on, halts_on_way}
use Rattle.hv_debug.proofs.debugger.Debugger.step.Goals as goal

pub returns-clause-goes : goal.returns-clause-goes
returns-clause-goes g c =
    let d = c.args.self.now in
    let here = g.N.Nested.state c.args.nested.now in
    let there = g.N.Nested.state c.play_on-stop.new.nested in
    let e : Debugger = record { player = c.play_on-stop.new.self; breaks = d.breaks; out = c.put_at.new.out } in
    let halts = subst (λ (bs : List Break). Halts bs c.args.count d.player here e.player there c.play_on-stop.result) c.deref.ensures.value c.play_on-stop.ensures.halts in
    on_ok_weaker c.put_at.result (λ text. goes_on d e here there c.args.count c.play_on-stop.result halts refl text) c.put_at.ensures

pub returns-clause-way : goal.returns-clause-way
returns-clause-way g c =
    halts_on_way c.args.self.now c.play_on-stop.new.self (g.N.Nested.state c.args.nested.now) (g.N.Nested.state c.play_on-stop.new.nested) c.deref.result.now c.args.count c.play_on-stop.result c.play_on-stop.ensures.halts
