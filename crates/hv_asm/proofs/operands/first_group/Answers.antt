use Rattle.hv_asm.proofs.Grouping.{group_at, group_end}
use Rattle.hv_asm.proofs.operands.first_group.Goals as goal

pub returns-in-Some-clause-cut : goal.returns-in-Some-clause-cut
returns-in-Some-clause-cut c =
    group_at c.args.tokens.now c.split_at.result.0.now c.split_at.result.1.now c.in-Some.rest.now c.in-Some.field-0-0.now c.find_comma-end.result
    c.find_comma-end.ensures.before c.find_comma-end.ensures.found c.split_at.ensures.front c.split_at.ensures.back c.in-Some.ensures.cases.0

pub returns-in-None-clause-cut : goal.returns-in-None-clause-cut
returns-in-None-clause-cut c =
    group_end c.args.tokens.now c.split_at.result.0.now c.split_at.result.1.now c.find_comma-end.result
    c.find_comma-end.ensures.within c.find_comma-end.ensures.before c.split_at.ensures.front c.split_at.ensures.back c.in-None.ensures.cases
