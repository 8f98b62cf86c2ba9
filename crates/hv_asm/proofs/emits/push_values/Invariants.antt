use Rattle.std.proofs.Common.{◌≡◌, drop}
use Rattle.hv_asm.specs.Emitted.{with_front}
use Rattle.hv_asm.specs.Labels.{place_in}
use Rattle.hv_asm.specs.Words.{values_of}
use Rattle.hv_asm.proofs.emits.push_values.Given as goal

-- the words so far, and those of what is left, are those of all operands
abbrev pub invariant-loop-operand : goal.invariant-loop-operand
invariant-loop-operand l =
    with_front l.out.items (values_of (place_in l.labels) l.line (drop l.operand-index l.operands))
    ≡ with_front l.fn.out.items (values_of (place_in l.labels) l.line l.operands)
