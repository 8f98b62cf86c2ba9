use Rattle.hv_lex.proofs.LineCuts.{line_first, front_first}
use Rattle.hv_lex.proofs.lines.first_line.Goals as goal

pub returns-clause-cut : goal.returns-clause-cut
returns-clause-cut c = line_first _ _ _ _ c.first_cut.ensures.cut c.returned.ensures.value

pub returns-clause-front : goal.returns-clause-front
returns-clause-front c = λ some q. front_first _ _ _ _ q (c.first_cut.ensures.front some q) c.returned.ensures.value
