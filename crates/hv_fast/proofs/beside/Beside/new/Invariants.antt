use Rattle.std.proofs.Common.{◌≡◌, length}
use Rattle.hv_fast.proofs.Mounting.{Unused}
use Rattle.hv_fast.proofs.beside.Beside.new.Given as goal

abbrev pub invariant-loop-hart : goal.invariant-loop-hart
invariant-loop-hart l = record {
  count : length l.pins.items ≡ l._hart;
  unused : Unused l.pins.items;
}
