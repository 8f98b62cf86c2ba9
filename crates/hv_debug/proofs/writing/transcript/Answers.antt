use Rattle.std.proofs.Common.{Result, Ok, Err, OnErr, List, take, sym, subst, ◌∙◌}
use Rattle.std.specs.Prelude.{fold}
use Rattle.hv_load.specs.declared.start.Named.{Named}
use Rattle.hv_run.proofs.Moves.{last_none}
use Rattle.hv_run.specs.Record.{schedule}
use Rattle.hv_debug.specs.Reaching.{Becomes}
use Rattle.hv_debug.specs.Transcript.{after_line, session_before}
use Rattle.hv_debug.proofs.Sessions.{session_more}
use Rattle.hv_debug.proofs.writing.transcript.Goals as goal

at_err : {T E : Type 0} (P : Type 0) (r : Result T E) → P → OnErr r P
at_err P (Ok x) p = tt
at_err P (Err e) p = p

pub returns-in_err-debugger-clause-err : goal.returns-in_err-debugger-clause-err
returns-in_err-debugger-clause-err g c =
    at_err _ c.from_residual.result (0, c.new.ensures.same ∙ sym (last_none (g.N.Nested.state c.args.nested.now)))

pub returns-in_err-line-clause-err : goal.returns-in_err-line-clause-err
returns-in_err-line-clause-err g c =
    let start = g.N.Nested.state c.args.nested.now in
    let job = c.args.job.now in
    let before = fold (after_line start c.args.plan.now.names) (session_before job.recording) (take c.loop-line.line-index c.as_slice-line-items.result.now) in
    at_err _ c.from_residual-in_err-line.result (c.line.ensures.way start (schedule job.recording) before c.loop-line.invariant.session)

pub loop-line-preserved : goal.loop-line-preserved
loop-line-preserved g c =
    let start = g.N.Nested.state c.args.nested.now in
    let job = c.args.job.now in
    let names = c.args.plan.now.names in
    let lines = c.as_slice-line-items.result.now in
    let here = g.N.Nested.state c.loop-line.nested in
    let there = g.N.Nested.state c.line.new.nested in
    let before = fold (after_line start names) (session_before job.recording) (take c.loop-line.line-index lines) in
    let goes = subst
    (λ (ns : List Named). Becomes (λ start s. after_line start ns s c.line-item.result) c.loop-line.debugger here c.line.new.self there)
    c.as_slice.ensures
    c.in_ok-line.ensures.goes in
    record {
      can = c.line.ensures.can;
      session = session_more start (schedule job.recording) c.line.new.self there names lines c.loop-line.line-index c.line-item.result (session_before job.recording) c.loop-line-test.true c.line-item.is
          (goes start (schedule job.recording) before c.loop-line.invariant.session);
    }
