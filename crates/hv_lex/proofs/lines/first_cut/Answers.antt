use Rattle.std.proofs.Common.{arith}
use Rattle.hv_lex.proofs.LineCuts.{line_at, line_end, rest_some, rest_none, front_some}
use Rattle.hv_lex.proofs.lines.first_cut.Goals as goal

pub returns-in-Some-clause-cut : goal.returns-in-Some-clause-cut
returns-in-Some-clause-cut c =
    line_at c.args.text.now c.split_at.result.0.now c.split_at.result.1.now c.in-Some.rest.now c.in-Some.field-0-0.now c.find-end.result
    c.find-end.ensures.before c.find-end.ensures.found c.split_at.ensures.front c.split_at.ensures.back c.in-Some.ensures.cases.0

pub returns-in-None-clause-cut : goal.returns-in-None-clause-cut
returns-in-None-clause-cut c =
    line_end c.args.text.now c.split_at.result.0.now c.split_at.result.1.now c.find-end.result c.requires
    c.find-end.ensures.within c.find-end.ensures.before c.split_at.ensures.front c.split_at.ensures.back c.in-None.ensures.cases

pub returns-in-Some-clause-rest : goal.returns-in-Some-clause-rest
returns-in-Some-clause-rest c =
    rest_some c.args.text.now c.split_at.result.1.now c.in-Some.rest.now c.in-Some.field-0-0.now c.find-end.result
    c.split_at.ensures.back c.in-Some.ensures.cases.0

pub returns-in-Some-clause-front : goal.returns-in-Some-clause-front
returns-in-Some-clause-front c = λ some q.
    front_some c.args.text.now c.split_at.result.0.now c.split_at.result.1.now c.in-Some.rest.now c.in-Some.field-0-0.now c.find-end.result
    q c.find-end.ensures.before c.find-end.ensures.found c.split_at.ensures.front c.split_at.ensures.back c.in-Some.ensures.cases.0

pub returns-in-None-clause-rest : goal.returns-in-None-clause-rest
returns-in-None-clause-rest c = rest_none c.args.text.now c.split_at.result.1.now c.in-None.ensures.cases

pub returns-in-None-clause-front : goal.returns-in-None-clause-front
returns-in-None-clause-front c = λ some q. absurd (omega (arith, c.in-None.ensures.cases))
