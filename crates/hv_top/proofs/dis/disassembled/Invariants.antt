use Rattle.std.proofs.Common.{◌≡◌, ◌+◌, ◌≤◌, length}
use Rattle.hv_lex.specs.Lines.{lines_of}
use Rattle.hv_top.specs.Dis.{dis_from}
use Rattle.hv_top.specs.Output.{in_front}
use Rattle.hv_top.proofs.dis.disassembled.Given as goal

-- the text so far, and what is written for the lines that are left, is what is written for all
abbrev pub invariant-loop-rest : goal.invariant-loop-rest
invariant-loop-rest l = record {
  line : l.number + length l.rest ≤ length l.fn.input + 1;
  told : in_front l.text.items (dis_from l.number (lines_of l.rest)) ≡ dis_from 1 (lines_of l.fn.input);
}

abbrev pub decreases-loop-rest : goal.decreases-loop-rest
decreases-loop-rest l = length l.rest
