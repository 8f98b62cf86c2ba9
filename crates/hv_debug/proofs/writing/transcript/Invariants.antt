use Rattle.std.proofs.Common.{length, take}
use Rattle.std.specs.Prelude.{fold}
use Rattle.hv_run.specs.Record.{schedule}
use Rattle.hv_debug.specs.Reaching.{CanGo, IsSession}
use Rattle.hv_debug.specs.Transcript.{after_line, session_before}
use Rattle.hv_debug.proofs.writing.transcript.Given as goal

abbrev pub invariant-loop-line : goal.invariant-loop-line
invariant-loop-line g l = record {
  can : CanGo (length (g.N.Nested.state l.nested).harts) l.debugger.player;
  session : IsSession
      (g.N.Nested.state l.fn.nested)
      (schedule l.job.recording)
      l.debugger
      (g.N.Nested.state l.nested)
      (fold (after_line (g.N.Nested.state l.fn.nested) l.plan.names) (session_before l.job.recording) (take l.line-index l.line-items));
}
