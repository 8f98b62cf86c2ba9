-- Numbers as operands have them: a sign and a size.
use Rattle.std.specs.Prelude.{ℕ, ℤ, pos, negsuc, ◌-◌, ◌%◌, ◌^◌, ◌==◌, nat_lt, nat_le, Bool, if◌then◌else◌}
use Rattle.std.proofs.Common.{suc}
use Rattle.hv_asm.specs.declared.amounts.Amount.{Amount}
use Rattle.hv_asm.specs.declared.amounts.Amount.TheVariants.{Plus, Minus}

-- a number by its sign and its size
abbrev pub amount_of : ℤ → Amount
amount_of (pos n) = Plus n
amount_of (negsuc n) = Minus (suc n)

-- from 0 to below the bound
abbrev pub within : ℕ → Amount → Bool
within bound (Plus n) = nat_lt n bound
within bound (Minus n) = n == 0

-- from -bound to below the bound
abbrev pub within_signed : ℕ → Amount → Bool
within_signed bound (Plus n) = nat_lt n bound
within_signed bound (Minus n) = nat_le n bound

-- a multiple of 2
abbrev pub is_even : Amount → Bool
is_even (Plus n) = n % 2 == 0
is_even (Minus n) = n % 2 == 0

-- the number modulo 2 ^ 32
abbrev pub word_of : Amount → ℕ
word_of (Plus n) = n % 2 ^ 32
word_of (Minus n) = (2 ^ 32 - n % 2 ^ 32) % 2 ^ 32

-- how far it is from one address to another
abbrev pub distance : (from to : ℕ) → Amount
distance from to = if nat_lt to from then Minus (from - to) else Plus (to - from)
