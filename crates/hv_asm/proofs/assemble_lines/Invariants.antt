use Rattle.std.proofs.Common.{◌≡◌, ◌+◌, ◌*◌, ◌^◌, ◌≤◌, true, length}
use Rattle.hv_lex.specs.Lines.{lines_of}
use Rattle.hv_asm.specs.Assembly.{in_front, words_from}
use Rattle.hv_asm.specs.Labels.{place_in}
use Rattle.hv_asm.specs.Outlines.{AreIdle, NoneRepeats}
use Rattle.hv_asm.proofs.assemble_lines.Given as goal

-- the words so far, and those of what is left, are those of the text
abbrev pub invariant-loop-rest : goal.invariant-loop-rest
invariant-loop-rest l = record {
  some : 1 ≤ l.number;
  line : l.number + length l.rest ≤ length l.fn.text + 1;
  at : l.at + 2097152 * length l.rest ≤ 2 ^ 32 + 2097152 * length l.fn.text;
  told :
      in_front l.words.items (words_from (place_in l.outline.labels) l.base l.number l.at (lines_of l.rest))
      ≡ words_from (place_in l.outline.labels) l.base 1 l.base (lines_of l.fn.text);
  none : l.outline.labels.distinct ≡ true → NoneRepeats (place_in l.outline.labels) l.number (lines_of l.rest);
  idle : AreIdle l.flags (lines_of l.rest);
}

abbrev pub decreases-loop-rest : goal.decreases-loop-rest
decreases-loop-rest l = length l.rest
