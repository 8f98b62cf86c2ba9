use Rattle.std.proofs.Common.{rules}
use Rattle.hv_lex.proofs.LineCuts.{returned_is, returned_not, returned_none}
use Rattle.hv_lex.proofs.lines.returned.Goals as goal

pub returns-in_default-clause-value : goal.returns-in_default-clause-value
returns-in_default-clause-value c = returned_none c.args.line.now (search rules)

pub returns-then-last-eq13-clause-value : goal.returns-then-last-eq13-clause-value
returns-then-last-eq13-clause-value c = returned_is c.in-Some.front.now c.args.line.now c.in-Some.last.now (search rules) c.if-last-eq13.true

pub returns-else-last-eq13-clause-value : goal.returns-else-last-eq13-clause-value
returns-else-last-eq13-clause-value c = returned_not c.in-Some.front.now c.args.line.now c.in-Some.last.now (search rules) c.if-last-eq13.false
