-- The lines that come from outside: the software, timer and external interrupts of M.
-- (Privileged Architecture, section 3.1.9: these bits of mip can't be written by instructions.)
use Rattle.std.specs.Prelude.{ℕ, ◌+◌, ◌-◌}
use Rattle.std.specs.Int.RustNames.{bit_and}
use Rattle.hv_limits.specs.Limits.{lines_mask}
use Rattle.hv_cpu.specs.Regs.{Regs}

-- the lines among the bits of w, and w without them
abbrev pub lines : ℕ → ℕ
lines w = bit_and w lines_mask

-- w without its lines
abbrev pub unlined : ℕ → ℕ
unlined w = w - lines w

-- w with the lines m in place of its own
abbrev pub relined : ℕ → ℕ → ℕ
relined w m = unlined w + m

-- the registers after the lines became m
abbrev pub lined_of : Regs → ℕ → Regs
lined_of r m = record r { mip = relined r.mip m }
