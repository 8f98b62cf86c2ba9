-- Filling whole words of a set.
use Rattle.std.proofs.Common.{◌≡◌, ◌≢◌, ℕ, zero, suc, ◌+◌, ◌*◌, ◌/◌, ◌%◌, ◌^◌, ◌<◌, ◌≤◌, inl, inr, Bool, true, false, ◌||◌, ◌==◌, List, ◌∷◌, ◌++◌, length, get_or, set, refl, ap, ◌∙◌, sym, arith}
use Rattle.std.specs.List.{range_with_len}
use Rattle.std.proofs.Math.Bool.{or-false}
use Rattle.std.proofs.lemmas.Bool.Decides.{eqb_tells}
use Rattle.std.proofs.lemmas.List.{get_or-set_same, get_or-set_other}
use Rattle.std.proofs.lemmas.Nat.Bits.{bit_at_ones}
use Rattle.hv_word.specs.Words.{has}
use Rattle.hv_nest.specs.Watched.{places}
use Rattle.hv_apart.specs.Marked.{is_marked, Joined}
use Rattle.hv_apart.proofs.Feet.{places-append}

or_true : (a : Bool) → (a || true) ≡ true
or_true true = refl
or_true false = refl

-- which numbers are in a range
has_inside : (a b n : ℕ) → b ≤ a → a < b + n → has a (range_with_len b n) ≡ true
has_inside a b zero low high = absurd (omega arith)
has_inside a b (suc n) low high =
    elim (eqb_tells a b) [
      | inl e ↦ ap (λ (t : Bool). t || has a (range_with_len (b + 1) n)) e.0
      | inr e ↦
          ap (λ (t : Bool). t || has a (range_with_len (b + 1) n)) e.0
          ∙ has_inside a (b + 1) n (omega (arith, e.1)) (omega arith)
    ]

has_outside : (a b n : ℕ) → ((k : ℕ) → b ≤ k → k < b + n → a ≢ k) → has a (range_with_len b n) ≡ false
has_outside a b zero out = refl
has_outside a b (suc n) out = elim (eqb_tells a b) [
  | inl e ↦ absurd (out b (omega arith) (omega arith) e.1)
  | inr e ↦
      ap (λ (t : Bool). t || has a (range_with_len (b + 1) n)) e.0
      ∙ has_outside a (b + 1) n (λ k low high. out k (omega arith) (omega arith))
]

-- the 32 numbers of a word
pub filled : (words : List ℕ) (i : ℕ) → i < length words → Joined words (set words i 4294967295) (range_with_len (32 * i) 32)
unfolding is_marked
filled words i h = record { each = λ a. elim (eqb_tells (a / 32) i) [ inl s ↦ here a s.1 | inr s ↦ elsewhere a s.1 ] }
  where
    here : (a : ℕ) → a / 32 ≡ i → is_marked (set words i 4294967295) a ≡ (is_marked words a || has a (range_with_len (32 * i) 32))
    here a s =
        ap (λ (k : ℕ). get_or (set words i 4294967295) k 0 / 2 ^ (a % 32) % 2 == 1) s
        ∙ ap (λ (w : ℕ). w / 2 ^ (a % 32) % 2 == 1) (get_or-set_same words i 4294967295 0 h)
        ∙ ap (λ (b : ℕ). b == 1) (bit_at_ones 32 (a % 32) (omega arith))
        ∙ sym (or_true (is_marked words a))
        ∙ ap (λ (b : Bool). is_marked words a || b) (sym (has_inside a (32 * i) 32 (omega arith) (omega arith)))

    elsewhere : (a : ℕ) → a / 32 ≢ i → is_marked (set words i 4294967295) a ≡ (is_marked words a || has a (range_with_len (32 * i) 32))
    elsewhere a s =
        let out : (k : ℕ) → 32 * i ≤ k → k < 32 * i + 32 → a ≢ k = (λ k low high e. s (omega (arith, e, low, high))) in
        ap (λ (w : ℕ). w / 2 ^ (a % 32) % 2 == 1) (get_or-set_other words i (a / 32) 4294967295 0 s)
        ∙ sym (or-false (is_marked words a))
        ∙ ap (λ (b : Bool). is_marked words a || b) (sym (has_outside a (32 * i) 32 out))

-- a page, one word of the set more each time
range-append : (a m n : ℕ) → range_with_len a (m + n) ≡ range_with_len a m ++ range_with_len (a + m) n
range-append a zero n =
    let none : 0 + n ≡ n = omega arith in
    let start : a ≡ a + 0 = omega arith in
    ap (range_with_len a) none ∙ ap (λ (b : ℕ). range_with_len b n) start
range-append a (suc m) n =
    let more : suc m + n ≡ suc (m + n) = omega arith in
    let next : a + 1 + m ≡ a + suc m = omega arith in
    ap (range_with_len a) more
    ∙ ap (λ (ks : List ℕ). a ∷ ks)
    (range-append (a + 1) m n ∙ ap (λ (b : ℕ). range_with_len (a + 1) m ++ range_with_len b n) next)

places-range : (g a n : ℕ) → places g (range_with_len a n) ≡ range_with_len (1024 * g + a) n
places-range g a zero = refl
places-range g a (suc n) =
    let next : 1024 * g + (a + 1) ≡ 1024 * g + a + 1 = omega arith in
    ap (λ (ks : List ℕ). (1024 * g + a) ∷ ks)
    (places-range g (a + 1) n ∙ ap (λ (b : ℕ). range_with_len b n) next)

pub places-fill : (g k : ℕ) → places g (range_with_len 0 (32 * (k + 1))) ≡ places g (range_with_len 0 (32 * k)) ++ range_with_len (32 * (32 * g + k)) 32
places-fill g k =
    let more : 32 * (k + 1) ≡ 32 * k + 32 = omega arith in
    let at : 1024 * g + (0 + 32 * k) ≡ 32 * (32 * g + k) = omega arith in
    ap (λ (n : ℕ). places g (range_with_len 0 n)) more
    ∙ ap (places g) (range-append 0 (32 * k) 32)
    ∙ places-append g (range_with_len 0 (32 * k)) (range_with_len (0 + 32 * k) 32)
    ∙ ap (λ (ks : List ℕ). places g (range_with_len 0 (32 * k)) ++ ks)
    (places-range g (0 + 32 * k) 32 ∙ ap (λ (b : ℕ). range_with_len b 32) at)
