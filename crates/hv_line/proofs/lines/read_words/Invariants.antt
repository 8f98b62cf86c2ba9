use Rattle.std.proofs.Common.{◌≡◌, ◌≤◌, ◌-◌, ◌++◌, length, take}
use Rattle.hv_line.specs.Lines.{words_of}
use Rattle.hv_line.specs.Texts.{texts}
use Rattle.hv_line.proofs.lines.read_words.Given as goal

-- the words so far, and those of what is left, are those of the line
abbrev pub invariant-loop-count : goal.invariant-loop-count
invariant-loop-count l = record {
  within : l.count ≤ 13;
  room : length l.words ≡ 13;
  told : texts (take l.count l.words) ++ words_of l.rest ≡ words_of l.fn.line;
}

abbrev pub decreases-loop-count : goal.decreases-loop-count
decreases-loop-count l = 13 - l.count
