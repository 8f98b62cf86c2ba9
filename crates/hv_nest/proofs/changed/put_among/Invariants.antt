use Rattle.std.proofs.Common.{◌≡◌, ◌++◌, take, drop}
use Rattle.hv_nest.specs.Rows.{with_row}
use Rattle.hv_nest.proofs.changed.put_among.Given as goal

abbrev pub invariant-loop-i : goal.invariant-loop-i
invariant-loop-i l = with_row l.fn.row l.fn.rows ≡ take l.i l.rows ++ with_row l.moved (drop l.i l.rows)
