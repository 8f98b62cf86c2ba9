use Rattle.std.proofs.Common.{take}
use Rattle.hv_fast.proofs.Dropping.{Dropped}
use Rattle.hv_fast.proofs.beside.Beside.spare_all.Given as goal

abbrev pub invariant-loop-row : goal.invariant-loop-row
invariant-loop-row l = Dropped l.store (take l.row-index l.row-items) l.initial.self l.self
