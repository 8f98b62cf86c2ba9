use Rattle.hv_lex.proofs.Cutting.{comment_bad, comment_more, comment_end}
use Rattle.hv_lex.proofs.pieces.check_comment.Goals as goal
use Rattle.std.proofs.Common.{rules}

pub returns-then-not-is_plain : goal.returns-then-not-is_plain
returns-then-not-is_plain c = comment_bad c.args.at c.loop-i.i c.args.text.now (search rules) (search rules) c.loop-i.invariant

pub loop-i-preserved : goal.loop-i-preserved
loop-i-preserved c = comment_more c.args.at c.loop-i.i c.args.text.now (search rules) (search rules) c.loop-i.invariant

pub returns : goal.returns
returns c = comment_end c.args.at c.loop-i.i c.args.text.now (search rules) c.loop-i.invariant
