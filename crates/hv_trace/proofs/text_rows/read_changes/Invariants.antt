use Rattle.std.proofs.Common.{◌≡◌, ◌-◌, take}
use Rattle.hv_trace.specs.TextFronts.{AreFront, next_place}
use Rattle.hv_trace.proofs.text_rows.read_changes.Given as goal

abbrev pub invariant-loop-len : goal.invariant-loop-len
invariant-loop-len l = AreFront l.text l.regs l.len l.rest × (l.least ≡ next_place 0 (take l.len l.regs))

abbrev pub decreases-loop-len : goal.decreases-loop-len
decreases-loop-len l = 8 - l.len
