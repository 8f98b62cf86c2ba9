-- Which control registers an instruction may read and write, and what it does there.
use Rattle.std.specs.Prelude.{ℕ, Bool, ◌==◌, ◌&&◌, ◌||◌, nat_lt, if◌then◌else◌, Option, Some, None, Result, Ok, Err}
use Rattle.hv_word.specs.Words.{field_of}
use Rattle.hv_cpu.specs.Regs.{Regs}
use Rattle.hv_csr.specs.declared.csr.Csr.{Csr}
use Rattle.hv_csr.specs.declared.csr.Csr.TheVariants.{Satp}
use Rattle.hv_csr.specs.Table.{row_of, csr_of}

-- bits 9:8 of the number are the least mode that may use it (Privileged Architecture, section 2.1), and
-- TVM keeps satp from S (section 3.1.6.5)
abbrev pub is_barred : Regs → ℕ → Bool
is_barred r number =
    nat_lt r.mode (field_of number 8 2)
    || (number == (row_of Satp).number && (r.mode == 1 && field_of r.mstatus 20 1 == 1))

-- bits 11:10 of the number are 3 where the register can only be read (section 2.1)
abbrev pub is_read_only : ℕ → Bool
is_read_only number = field_of number 10 2 == 3

-- the value of a register that there is, on this hart
abbrev pub read_at : Regs → ℕ → Option Csr → Option ℕ
read_at r hart None = None
read_at r hart (Some c) = Some ((row_of c).read r hart)

-- the registers after a write to one that there is
abbrev pub write_at : Regs → ℕ → Option Csr → Option Regs
write_at r v None = None
write_at r v (Some c) = Some ((row_of c).write r v)

-- the word read from control register number, on the hart of that number; none where that is illegal
abbrev pub csr_read_of : Regs → ℕ → ℕ → Option ℕ
csr_read_of r hart number = if is_barred r number then None else read_at r hart (csr_of number)

-- the registers after v is written to control register number; none where that is illegal
abbrev pub csr_write_of : Regs → ℕ → ℕ → Option Regs
csr_write_of r number v =
    if is_barred r number || is_read_only number then None else write_at r v (csr_of number)

-- the registers that a call leaves, none where it was illegal
abbrev pub left_by : {E : Type 0} → Result Unit E → Regs → Option Regs
left_by (Ok _) r = Some r
left_by (Err _) r = None
