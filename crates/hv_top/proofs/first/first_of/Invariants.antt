use Rattle.std.proofs.Common.{◌≡◌, length}
use Rattle.std.specs.Prelude.{drop}
use Rattle.hv_top.specs.First.{first_watching}
use Rattle.hv_top.proofs.first.first_of.Given as goal

-- no line so far asks for a watch, so what is asked first is asked by those that are left
abbrev pub invariant-loop-placed : goal.invariant-loop-placed
invariant-loop-placed l = first_watching l.fn.lines ≡ first_watching (drop l.placed-index l.fn.lines)
