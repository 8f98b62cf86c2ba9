use Rattle.std.proofs.Common.{◌≡◌, ◌+◌, length}
use Rattle.hv_lex.specs.Tokens.{Rise, lexed_at, with_front}
use Rattle.hv_lex.proofs.tokens.Given as goal

-- the tokens so far, and those of what is left, are those of the line
abbrev pub invariant-loop-rest : goal.invariant-loop-rest
invariant-loop-rest l = record {
  place : l.at + length l.rest ≡ length l.fn.line;
  rise : Rise 0 l.tokens.items l.at;
  told : with_front l.tokens.items (lexed_at l.at l.rest) ≡ lexed_at 0 l.fn.line;
}

abbrev pub decreases-loop-rest : goal.decreases-loop-rest
decreases-loop-rest l = length l.rest
