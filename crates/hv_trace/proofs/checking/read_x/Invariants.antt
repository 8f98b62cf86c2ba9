-- x0 to x31 are filled in up to here, and 0 from here on.
use Rattle.std.proofs.Common.{◌≡◌, ◌-◌, ◌<◌, ◌≤◌, ◌++◌, take, replicate}
use Rattle.hv_cpu.specs.Regs.{file_of}
use Rattle.hv_capsule.specs.Parked.{regs_of_words}
use Rattle.hv_trace.proofs.checking.read_x.Given as goal

abbrev pub invariant-loop-i : goal.invariant-loop-i
invariant-loop-i l = record {
  behind_x0 : 0 < l.i;
  within : l.i ≤ 32;
  filled : l.x ≡ take l.i (file_of (regs_of_words l.words)) ++ replicate (32 - l.i) 0;
}
