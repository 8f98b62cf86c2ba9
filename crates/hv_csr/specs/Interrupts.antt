-- Which interrupt is taken.
use Rattle.std.specs.Prelude.{ℕ, ◌-◌, ◌^◌, ◌==◌, ◌&&◌, ◌||◌, Bool, nat_lt, if◌then◌else◌}
use Rattle.std.specs.Prelude.{Option, None, List, [], ◌∷◌, find}
use Rattle.std.specs.Option.{option_or}
use Rattle.std.specs.Int.RustNames.{bit_and}
use Rattle.hv_word.specs.Words.{field_of}
use Rattle.hv_cpu.specs.Regs.{Regs}

-- from the most urgent on: MEI, MSI, MTI, SEI, SSI, STI (Privileged Architecture, section 3.1.9)
abbrev pub by_urgency : List ℕ
by_urgency = 11 ∷ 3 ∷ 7 ∷ 9 ∷ 1 ∷ 5 ∷ []

-- interrupt k is in the set
abbrev pub has_line : ℕ → ℕ → Bool
has_line set k = bit_and set (2 ^ k) == 2 ^ k

-- pending and enabled
abbrev pub raised : Regs → ℕ
raised r = bit_and r.mip r.mie

-- the ones that aren't delegated and those that are
abbrev pub raised_m : Regs → ℕ
raised_m r = raised r - bit_and (raised r) r.mideleg

abbrev pub raised_s : Regs → ℕ
raised_s r = bit_and (raised r) r.mideleg

-- one that isn't delegated is taken below M, and in M with MIE (section 3.1.6.1)
abbrev pub is_open_m : Regs → Bool
is_open_m r = nat_lt r.mode 3 || field_of r.mstatus 3 1 == 1

-- a delegated one is taken in U, and in S with SIE (section 3.1.6.1)
abbrev pub is_open_s : Regs → Bool
is_open_s r = r.mode == 0 || (r.mode == 1 && field_of r.mstatus 1 1 == 1)

-- the most urgent of a set
abbrev pub most_urgent_of : ℕ → Option ℕ
most_urgent_of set = find (has_line set) by_urgency

-- the most urgent of a set whose interrupts are taken, or none
abbrev pub most_urgent_open : Bool → ℕ → Option ℕ
most_urgent_open is_open set = if is_open then most_urgent_of set else None

-- the one to take: of those that aren't delegated the first, else the first delegated one
abbrev pub pending_of : Regs → Option ℕ
pending_of r = option_or (most_urgent_open (is_open_m r) (raised_m r)) (most_urgent_open (is_open_s r) (raised_s r))
