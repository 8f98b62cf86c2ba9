-- Modes as words.
use Rattle.std.specs.Prelude.{ℕ, zero, suc}
use Rattle.hv_cpu.specs.declared.Mode.{Mode}
use Rattle.hv_cpu.specs.declared.Mode.TheVariants.{U, S, M}

-- the two bits that name a mode (Privileged Architecture, section 1.2)
abbrev pub mode_word : Mode → ℕ
mode_word U = 0
mode_word S = 1
mode_word M = 3

-- the mode of a number
abbrev pub mode_of : ℕ → Mode
mode_of zero = U
mode_of (suc zero) = S
mode_of (suc (suc _)) = M
