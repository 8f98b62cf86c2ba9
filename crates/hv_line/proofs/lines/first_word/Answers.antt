use Rattle.std.proofs.Common.{rules}
use Rattle.hv_line.proofs.Cutting.{cut_none, cut_some}
use Rattle.hv_line.proofs.lines.first_word.Goals as goal

pub returns-then-is_empty-clause-cut : goal.returns-then-is_empty-clause-cut
returns-then-is_empty-clause-cut c =
    cut_none c.args.line.now c.split_at.result.1.now c.split_at-2.result.0.now c.blanks.result c.letters.result c.blanks.ensures.within
    c.blanks.ensures.before c.blanks.ensures.ends c.split_at.ensures.back c.letters.ensures.within c.letters.ensures.ends c.split_at-2.ensures.front
    (search rules)

pub returns-else-is_empty-clause-cut : goal.returns-else-is_empty-clause-cut
returns-else-is_empty-clause-cut c =
    cut_some c.args.line.now c.split_at.result.1.now c.split_at-2.result.0.now c.split_at-2.result.1.now c.blanks.result c.letters.result
    c.blanks.ensures.within c.blanks.ensures.before c.split_at.ensures.back c.letters.ensures.within c.letters.ensures.before
    c.letters.ensures.ends c.split_at-2.ensures.front c.split_at-2.ensures.back (search rules)
