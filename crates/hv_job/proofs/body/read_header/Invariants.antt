use Rattle.std.proofs.Common.{◌≡◌, ◌+◌, ◌≤◌, length}
use Rattle.hv_lex.specs.Lines.{lines_of}
use Rattle.hv_job.specs.JobOf.{header_from}
use Rattle.hv_job.proofs.body.read_header.Given as goal

-- the job of what is left is that of the text
abbrev pub invariant-loop-rest : goal.invariant-loop-rest
invariant-loop-rest l = record {
  size : l.number + length l.rest ≤ length l.text + 1;
  told : header_from l.number (lines_of l.rest) ≡ header_from 1 (lines_of l.text);
}

abbrev pub decreases-loop-rest : goal.decreases-loop-rest
decreases-loop-rest l = length l.rest
