use Rattle.std.proofs.Common.{◌≡◌, ◌++◌, length}
use Rattle.hv_line.specs.Commands.{join_words_of, behind_blanks}
use Rattle.hv_line.specs.Lines.{words_of}
use Rattle.hv_line.proofs.commands.join_words.Given as goal

-- the words so far, and those of what is left, are those of the line
abbrev pub invariant-loop-word : goal.invariant-loop-word
invariant-loop-word l = l.joined.items ++ behind_blanks (words_of l.rest) ≡ join_words_of (words_of l.fn.line)

abbrev pub decreases-loop-word : goal.decreases-loop-word
decreases-loop-word l = length l.rest
