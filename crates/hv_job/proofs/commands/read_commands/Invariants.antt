use Rattle.std.proofs.Common.{◌≡◌, ◌+◌, ◌≤◌, [], length}
use Rattle.hv_lex.specs.Lines.{lines_of}
use Rattle.hv_job.specs.Commands.{commands_from}
use Rattle.hv_job.proofs.commands.read_commands.Given as goal

-- the commands so far, and those of what is left, are those of the text
abbrev pub invariant-loop-rest : goal.invariant-loop-rest
invariant-loop-rest l = record {
  size : l.number + length l.rest ≤ l.first + length l.fn.text;
  told : commands_from l.version l.commands l.number (lines_of l.rest) ≡ commands_from l.version [] l.first (lines_of l.fn.text);
}

abbrev pub decreases-loop-rest : goal.decreases-loop-rest
decreases-loop-rest l = length l.rest
