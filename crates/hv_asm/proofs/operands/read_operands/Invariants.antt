use Rattle.std.proofs.Common.{◌≡◌, ◌≤◌, ◌+◌, [], length, vec_len}
use Rattle.hv_asm.specs.Operands.{groups_of, operands_from}
use Rattle.hv_asm.proofs.operands.read_operands.Given as goal

-- the operands so far, and those of what is left, are those of all tokens
abbrev pub invariant-loop-operand : goal.invariant-loop-operand
invariant-loop-operand l = record {
  told : operands_from l.operands.items (groups_of l.rest) ≡ operands_from [] (groups_of l.fn.tokens);
  count : vec_len l.operands + length l.rest ≤ length l.fn.tokens;
}

abbrev pub decreases-loop-operand : goal.decreases-loop-operand
decreases-loop-operand l = length l.rest
