use Rattle.std.proofs.Common.{◌≡◌, ◌+◌, ◌-◌, ◌<◌, ◌≤◌, ◌++◌, length, take}
use Rattle.std.specs.List.{list_any}
use Rattle.hv_lex.specs.Lines.{lines_of}
use Rattle.hv_job.specs.JobOf.{is_end}
use Rattle.hv_job.proofs.Ending.{IsFront}
use Rattle.hv_job.proofs.images.cut_at_end.Given as goal

-- the text is cut at a line, and no line before it is an end
abbrev pub invariant-loop-rest : goal.invariant-loop-rest
invariant-loop-rest l = record {
  cut : take (length l.text - length l.rest) l.text ++ l.rest ≡ l.text;
  size : l.count + length l.rest ≤ length l.text;
  none : list_any is_end (lines_of l.text) ≡ list_any is_end (lines_of l.rest);
  front : 0 < length l.rest → IsFront (take (length l.text - length l.rest) l.text) l.count;
}

abbrev pub decreases-loop-rest : goal.decreases-loop-rest
decreases-loop-rest l = length l.rest
