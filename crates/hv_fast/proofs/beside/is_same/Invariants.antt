use Rattle.std.proofs.Common.{◌≡◌, take}
use Rattle.hv_fast.proofs.beside.is_same.Given as goal

abbrev pub invariant-loop-i : goal.invariant-loop-i
invariant-loop-i l = take l.i l.path ≡ take l.i l.other
