use Rattle.std.proofs.Common.{◌≡◌, ◌++◌, List, ℕ, refl, ap, ◌∙◌}
use Rattle.std.proofs.lemmas.Result.{on_ok_weaker}
use Rattle.hv_debug.specs.declared.debugger.Debugger.{Debugger}
use Rattle.hv_debug.specs.Answers.{echo_line}
use Rattle.hv_debug.proofs.Sessions.{echo_on_way, line_goes, stays}
use Rattle.hv_debug.proofs.debugger.Debugger.line.Goals as goal

-- what was told, by the words of the line
told_as : (old new words same : List ℕ) → new ≡ old ++ echo_line words → words ≡ same → new ≡ old ++ echo_line same
told_as old new words same is e = is ∙ ap (λ (w : List ℕ). old ++ echo_line w) e

pub returns-in_err-put_echo-clause-way : goal.returns-in_err-put_echo-clause-way
returns-in_err-put_echo-clause-way g c =
    stays c.args.self.now (g.N.Nested.state c.args.nested.now) (g.N.Nested.state c.args.nested.now) refl

pub returns-clause-goes : goal.returns-clause-goes
returns-clause-goes g c =
    let d = c.args.self.now in
    let m : Debugger = record { player = d.player; breaks = d.breaks; out = c.put_echo.new.out } in
    let text = told_as d.out.items c.put_echo.new.out.items c.as_slice.result.now c.args.line.now.words c.in_ok-put_echo.ensures c.as_slice.ensures in
    on_ok_weaker c.answer.result
    (λ goes. line_goes d m c.answer.new.self (g.N.Nested.state c.args.nested.now) (g.N.Nested.state c.answer.new.nested) c.args.names.now c.args.line.now refl refl text goes)
    c.answer.ensures.goes

pub returns-clause-way : goal.returns-clause-way
returns-clause-way g c =
    let d = c.args.self.now in
    let m : Debugger = record { player = d.player; breaks = d.breaks; out = c.put_echo.new.out } in
    let text = told_as d.out.items c.put_echo.new.out.items c.as_slice.result.now c.args.line.now.words c.in_ok-put_echo.ensures c.as_slice.ensures in
    echo_on_way d m (g.N.Nested.state c.args.nested.now) (g.N.Nested.state c.answer.new.nested) c.args.line.now refl refl text c.answer.ensures.way
