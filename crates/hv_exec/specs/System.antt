-- The rows that speak of modes and of control and status registers.
use Rattle.std.specs.Prelude.{ℕ, ◌+◌, ◌-◌, ◌^◌, ◌==◌, Bool, ◌&&◌, ◌||◌, if◌then◌else◌, Option, Some, None, bit_and}
use Rattle.std.specs.Prelude.{bit_or}
use Rattle.hv_word.specs.Words.{field_of}
use Rattle.hv_cpu.specs.Regs.{Regs}
use Rattle.hv_isa.specs.declared.Instr.{Instr}
use Rattle.hv_csr.specs.Access.{csr_read_of, csr_write_of}
use Rattle.hv_exec.specs.declared.system.Update.{Update}
use Rattle.hv_exec.specs.declared.system.Update.TheVariants.{Replace, Set, Clear}
use Rattle.hv_exec.specs.Answer.{Answer, Next, Trap, Enter, given, illegal_of}

-- What a CSR row writes over the old value, if it writes. The rows that set or clear bits write nothing where their
-- source field is zero, be it a register or a number (Unprivileged ISA, section 9.1).
abbrev pub new_value : Update → ℕ → ℕ → ℕ → Option ℕ
new_value Replace field old source = Some source
new_value Set field old source = if field == 0 then None else Some (bit_or old source)
new_value Clear field old source = if field == 0 then None else Some (bit_and old (2 ^ 32 - 1 - source))

-- the registers after that write, if it is allowed
abbrev pub stored_csr : Regs → ℕ → Option ℕ → Option Regs
stored_csr r number None = Some r
stored_csr r number (Some v) = csr_write_of r number v

-- the old value goes to rd
abbrev pub answered_csr : Option Regs → ℕ → ℕ → ℕ → Answer
answered_csr None rd old w = illegal_of w
answered_csr (Some q) rd old w = Next (given q rd old)

-- an instruction on a control register whose old value is given, none where it can't be read
abbrev pub read_csr : Option ℕ → Update → ℕ → Instr → ℕ → Regs → Answer
read_csr None update source i w r = illegal_of w
read_csr (Some old) update source i w r =
    answered_csr (stored_csr r i.imm (new_value update i.rs1 old source)) i.rd old w

-- A CSR row of hart h with a source: the register is read first, and what may not be read or written is illegal.
unfoldable pub csr_row : Update → ℕ → Instr → ℕ → Regs → ℕ → Answer
csr_row update source i w r h = read_csr (csr_read_of r h i.imm) update source i w r

-- a return from a trap, where this mode has it
unfoldable pub returned : Option Regs → ℕ → Answer
returned None w = illegal_of w
returned (Some q) w = Next q

-- WFI is illegal below M where TW, bit 21 of mstatus, is set (Privileged Architecture, section 3.1.6.5).
unfoldable pub may_wait : Regs → Bool
may_wait r = r.mode == 3 || field_of r.mstatus 21 1 == 0

-- SFENCE.VMA is illegal in U, and in S where TVM, bit 20 of mstatus, is set (Privileged Architecture, sections 3.1.6.5
-- and 4.2.1).
unfoldable pub may_fence : Regs → Bool
may_fence r = r.mode == 3 || (r.mode == 1 && field_of r.mstatus 20 1 == 0)

-- ECALL raises cause 8 from U, 9 from S and 11 from M (Privileged Architecture, table 3.6).
abbrev pub called : Regs → Answer
called r = Trap (8 + r.mode) 0

-- VMENTER, which the manual leaves free, is illegal below M.
unfoldable pub entering : Regs → ℕ → ℕ → Answer
entering r value w = if r.mode == 3 then Enter value else illegal_of w
