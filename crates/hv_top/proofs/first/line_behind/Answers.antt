-- Behind the last line no line is left.
use Rattle.std.proofs.Common.{arith, rules}
use Rattle.hv_top.proofs.Lines.{none_left}
use Rattle.hv_top.proofs.first.line_behind.Goals as goal

pub returns : goal.returns
returns c =
    let none = none_left c.loop-rest.rest.now (search rules) in
    omega (arith, none, c.loop-rest.invariant.told)
