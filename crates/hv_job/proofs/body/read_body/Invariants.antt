use Rattle.std.proofs.Common.{◌≡◌, ◌+◌, ◌≤◌, false, length}
use Rattle.hv_lex.specs.Lines.{lines_of}
use Rattle.hv_job.specs.JobOf.{body_from, draft_of}
use Rattle.hv_job.proofs.body.read_body.Given as goal

-- the job of the draft and what is left is that of the text
abbrev pub invariant-loop-rest : goal.invariant-loop-rest
invariant-loop-rest l = record {
  size : l.number + length l.rest ≤ l.first + length l.fn.text;
  told : body_from l.draft false l.number (lines_of l.rest) ≡ body_from (draft_of l.fn.version l.pages) false l.first (lines_of l.fn.text);
}

abbrev pub decreases-loop-rest : goal.decreases-loop-rest
decreases-loop-rest l = length l.rest
