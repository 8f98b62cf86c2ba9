-- Registers are put back among the words of a parked machine.
use Rattle.std.proofs.Common.{◌≡◌, ℕ, List, sym, ap, subst}
use Rattle.hv_cpu.specs.Regs.{Regs, FitsHart, spelled}
use Rattle.hv_capsule.specs.Parked.{IsParked, Parked, regs_of_words}

pub spelled_back : (ws : List ℕ) (r : Regs) → ws ≡ spelled r → regs_of_words ws ≡ r
spelled_back ws r e = ap regs_of_words e

parked_with : (r : Regs) (S : List ℕ) → FitsHart r → r.next ≡ 0 → IsParked record { regs = r; storage = S }
parked_with r S fits none = record { fits = fits; next = λ some. absurd (some none) }

pub parked : (ws : List ℕ) (r : Regs) (S : List ℕ) → ws ≡ spelled r → FitsHart r → r.next ≡ 0
    → IsParked record { regs = regs_of_words ws; storage = S }
parked ws r S e fits none =
    subst (λ (x : Regs). IsParked record { regs = x; storage = S }) (sym (spelled_back ws r e)) (parked_with r S fits none)

pub still_parked : (r : Regs) (S T : List ℕ) → IsParked record { regs = r; storage = S } → r.next ≡ 0
    → IsParked record { regs = r; storage = T }
still_parked r S T is none = parked_with r T is.fits none

-- the machine with registers that are put back
abbrev pub with_storage : List ℕ → Regs → Parked
with_storage S r = record { regs = r; storage = S }

pub parked_same : (ws : List ℕ) (r : Regs) (S : List ℕ) → regs_of_words ws ≡ r
    → ◌≡◌ {A = Parked} record { regs = regs_of_words ws; storage = S } record { regs = r; storage = S }
parked_same ws r S e = ap (with_storage S) e

pub ruleset parking = (parked, still_parked, parked_same)
