-- The states that a monitor of a tower comes through, and what each step does to those of all monitors.
use Rattle.std.proofs.Common.{◌≡◌, ℕ, zero, suc, ◌+◌, ◌*◌, Bool, true, false, List, [], ◌∷◌, replicate, None, refl, arith}
use Rattle.hv_cpu.specs.Regs.{Regs, reset_regs}
use Rattle.hv_csr.specs.Interrupts.{pending_of}
use Rattle.hv_block.specs.Block.{regs_at, fits_hart}
use Rattle.hv_map.specs.Item.{Item}

-- before its first step, before its second, before it enters its child, while the child runs, and after it got control back
pub data Phase : Type 0 where
  Fresh : Phase
  Loaded : Phase
  Ready : Phase
  Away : Phase
  Back : Phase

abbrev pub next_phase : Phase → Phase
next_phase Fresh = Loaded
next_phase Loaded = Ready
next_phase Ready = Away
next_phase Away = Away
next_phase Back = Ready

abbrev pub phase_regs : Phase → Regs
phase_regs Fresh = reset_regs
phase_regs Loaded = record reset_regs { pc = 4; x5 = 4096 }
phase_regs Ready = record reset_regs { pc = 8; x5 = 4096 }
phase_regs Away = record reset_regs { pc = 12; x5 = 4096; next = 1 }
phase_regs Back = record reset_regs { pc = 12; x5 = 4096 }

pub never_pending : (p : Phase) → pending_of (phase_regs p) ≡ None
never_pending Fresh = refl
never_pending Loaded = refl
never_pending Ready = refl
never_pending Away = refl
never_pending Back = refl

pub always_fits : (p : Phase) → fits_hart (phase_regs p) ≡ true
always_fits Fresh = refl
always_fits Loaded = refl
always_fits Ready = refl
always_fits Away = refl
always_fits Back = refl

-- the first monitor that isn't away makes the next step
abbrev pub advance : List Phase → List Phase
advance [] = []
advance (Fresh ∷ ps) = Loaded ∷ ps
advance (Loaded ∷ ps) = Ready ∷ ps
advance (Ready ∷ ps) = Away ∷ ps
advance (Away ∷ ps) = Away ∷ advance ps
advance (Back ∷ ps) = Ready ∷ ps

-- whether all are away
abbrev pub are_away : List Phase → Bool
are_away [] = true
are_away (Fresh ∷ ps) = false
are_away (Loaded ∷ ps) = false
are_away (Ready ∷ ps) = false
are_away (Away ∷ ps) = are_away ps
are_away (Back ∷ ps) = false

-- how many steps a monitor makes until it is away
abbrev pub wait : Phase → ℕ
wait Fresh = 3
wait Loaded = 2
wait Ready = 1
wait Away = 0
wait Back = 2

abbrev pub waits : List Phase → ℕ
waits [] = 0
waits (p ∷ ps) = wait p + waits ps

pub one_less : (ps : List Phase) → are_away ps ≡ false → waits ps ≡ suc (waits (advance ps))
one_less [] e = absurd (let f : true ≡ false = e in cc)
one_less (Fresh ∷ ps) e = omega arith
one_less (Loaded ∷ ps) e = omega arith
one_less (Ready ∷ ps) e = omega arith
one_less (Away ∷ ps) e = omega (arith, one_less ps e)
one_less (Back ∷ ps) e = omega arith

pub none_left : (ps : List Phase) → are_away ps ≡ true → waits ps ≡ 0
none_left [] e = refl
none_left (Fresh ∷ ps) e = absurd (let f : false ≡ true = e in cc)
none_left (Loaded ∷ ps) e = absurd (let f : false ≡ true = e in cc)
none_left (Ready ∷ ps) e = absurd (let f : false ≡ true = e in cc)
none_left (Away ∷ ps) e = omega (arith, none_left ps e)
none_left (Back ∷ ps) e = absurd (let f : false ≡ true = e in cc)

pub first_wait : (n : ℕ) → waits (replicate n Fresh) ≡ 3 * n
first_wait zero = refl
first_wait (suc n) = omega (arith, first_wait n)

-- The machine with the registers r and those of the items but the last are monitors, in these phases.
abbrev pub InPhases : List ℕ → Regs → List Item → List Phase → Type 0
InPhases S r [] [] = Unit {0}
InPhases S r [] (p ∷ ps) = ⊥
InPhases S r (x ∷ xs) [] = ⊥
InPhases S r (x ∷ xs) (p ∷ ps) = (r ≡ phase_regs p) × InPhases S (regs_at S x.block) xs ps
