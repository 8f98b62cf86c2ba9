use Rattle.std.proofs.Common.{◌≡◌, ◌-◌, drop, length, replicate, take}
use Rattle.hv_load.proofs.levels.name.Given as goal

abbrev pub invariant-loop-i : goal.invariant-loop-i
invariant-loop-i l = record {
  front : take l.i l.letters ≡ take l.i l.text;
  len : length l.letters ≡ 16;
  rest : drop l.i l.letters ≡ replicate (16 - l.i) 0;
}
