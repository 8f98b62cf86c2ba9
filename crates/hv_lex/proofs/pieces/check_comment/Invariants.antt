use Rattle.std.proofs.Common.{◌≡◌, ◌+◌, drop}
use Rattle.hv_lex.specs.Tokens.{comment_from}
use Rattle.hv_lex.proofs.pieces.check_comment.Given as goal

-- what is left is refused as the whole is
abbrev pub invariant-loop-i : goal.invariant-loop-i
invariant-loop-i l = comment_from (l.at + l.i) (drop l.i l.text) ≡ comment_from l.at l.text
