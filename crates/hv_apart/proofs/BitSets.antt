-- Reading and setting bits.
use Rattle.std.proofs.Common.{◌≡◌, ◌≢◌, ℕ, ◌*◌, ◌/◌, ◌%◌, ◌^◌, ◌<◌, ◌≤◌, inl, inr, Bool, true, false, ◌||◌, ◌==◌, List, [], length, get_or, set, replicate, ap, ◌∙◌, sym, arith, w32}
use Rattle.std.specs.Prelude.{bit_or, bit_and}
use Rattle.std.proofs.Math.ListN.{get_or-eq_default}
use Rattle.std.proofs.lemmas.Bool.{cases_lt}
use Rattle.std.proofs.lemmas.Bool.Decides.{eqb_tells}
use Rattle.std.proofs.lemmas.List.{get_or-set_same, get_or-set_other, get_or-replicate, length-replicate}
use Rattle.std.proofs.lemmas.Nat.Bits.{shr_and_one, bit_at-zero, bit_at_set_same, bit_at_set_other}
use Rattle.hv_apart.specs.Marked.{is_marked, SetOf}

-- what is read
pub marked_read : (words : List ℕ) (at word : ℕ) → word ≡ get_or words (at / 32) 0 → (bit_and (word / 2 ^ (at % 32)) 1 == 1) ≡ is_marked words at
unfolding is_marked
marked_read words at word e =
    ap (λ (b : ℕ). b == 1) (shr_and_one word (at % 32) ∙ ap (λ (w : ℕ). w / 2 ^ (at % 32) % 2) e)

zero_bit : (k : ℕ) → (0 / 2 ^ k % 2 == 1) ≡ false
zero_bit k = ap (λ (b : ℕ). b == 1) (bit_at-zero k)

pub marked_past : (words : List ℕ) (at : ℕ) → length words ≤ at / 32 → is_marked words at ≡ false
unfolding is_marked
marked_past words at h =
    ap (λ (w : ℕ). w / 2 ^ (at % 32) % 2 == 1) (get_or-eq_default words 0 h) ∙ zero_bit (at % 32)

-- what is set
pub marked_set : (words : List ℕ) (at a : ℕ) → at / 32 < length words
    → is_marked (set words (at / 32) (bit_or (get_or words (at / 32) 0) (1 * 2 ^ (at % 32) % 2 ^ 32))) a ≡ ((a == at) || is_marked words a)
unfolding is_marked
marked_set words at a h = elim (eqb_tells a at) [ inl e ↦ there e | inr e ↦ other e ]
  where
    written : ℕ
    written = bit_or (get_or words (at / 32) 0) (1 * 2 ^ (at % 32) % 2 ^ 32)

    reads : List ℕ → ℕ → Bool
    reads ws b = get_or ws (b / 32) 0 / 2 ^ (b % 32) % 2 == 1

    there : ((a == at) ≡ true) × (a ≡ at) → reads (set words (at / 32) written) a ≡ ((a == at) || reads words a)
    there e =
        ap (reads (set words (at / 32) written)) e.1
        ∙ ap (λ (w : ℕ). w / 2 ^ (at % 32) % 2 == 1) (get_or-set_same words (at / 32) written 0 h)
        ∙ ap (λ (b : ℕ). b == 1) (bit_at_set_same w32 (get_or words (at / 32) 0) (at % 32) (omega arith))
        ∙ sym (ap (λ (b : Bool). b || reads words a) e.0)

    other : ((a == at) ≡ false) × (a ≢ at) → reads (set words (at / 32) written) a ≡ ((a == at) || reads words a)
    other e = elim (eqb_tells (a / 32) (at / 32)) [ inl s ↦ beside s | inr s ↦ elsewhere s ] ∙ sym (ap (λ (b : Bool). b || reads words a) e.0)
      where
        beside : ((a / 32 == at / 32) ≡ true) × (a / 32 ≡ at / 32) → reads (set words (at / 32) written) a ≡ reads words a
        beside s =
            let ne : a % 32 ≢ at % 32 = (λ r. e.1 (omega (arith, r, s.1))) in
            ap (λ (i : ℕ). get_or (set words (at / 32) written) i 0 / 2 ^ (a % 32) % 2 == 1) s.1
            ∙ ap (λ (w : ℕ). w / 2 ^ (a % 32) % 2 == 1) (get_or-set_same words (at / 32) written 0 h)
            ∙ ap (λ (b : ℕ). b == 1) (bit_at_set_other w32 (get_or words (at / 32) 0) (at % 32) (omega arith) (a % 32) ne)
            ∙ sym (ap (λ (i : ℕ). get_or words i 0 / 2 ^ (a % 32) % 2 == 1) s.1)

        elsewhere : ((a / 32 == at / 32) ≡ false) × (a / 32 ≢ at / 32) → reads (set words (at / 32) written) a ≡ reads words a
        elsewhere s = ap (λ (w : ℕ). w / 2 ^ (a % 32) % 2 == 1) (get_or-set_other words (at / 32) (a / 32) written 0 s.1)

-- no number is in a set of zeros
same_items : (n z i : ℕ) → get_or (replicate n z) i z ≡ z
same_items n z i = elim (cases_lt i n) [ inl h ↦ get_or-replicate n i z z h | inr h ↦ get_or-eq_default (replicate n z) z (omega (arith, length-replicate n z)) ]

pub marks_none : (n : ℕ) → SetOf (replicate n 0) []
unfolding is_marked
marks_none n = record { each = λ a. ap (λ (w : ℕ). w / 2 ^ (a % 32) % 2 == 1) (same_items n 0 (a / 32)) ∙ zero_bit (a % 32) }

pub ruleset bit_sets = (marked_read, marked_past, marked_set)
