use Rattle.std.proofs.Common.{◌≡◌, ◌+◌, ◌≤◌, length}
use Rattle.hv_lex.specs.Lines.{lines_of}
use Rattle.hv_line.specs.declared.version.JobVersion.{JobVersion}
use Rattle.hv_job.specs.JobOf.{storage_from}
use Rattle.hv_job.proofs.body.read_storage.Given as goal

-- the job of what is left is that of the text, whichever form it has
abbrev pub invariant-loop-rest : goal.invariant-loop-rest
invariant-loop-rest l = record {
  size : l.number + length l.rest ≤ l.first + length l.text;
  told : (version : JobVersion) → storage_from version l.number (lines_of l.rest) ≡ storage_from version l.first (lines_of l.text);
}

abbrev pub decreases-loop-rest : goal.decreases-loop-rest
decreases-loop-rest l = length l.rest
