-- Taking numbers out of a set.
use Rattle.std.proofs.Common.{◌≡◌, ◌≢◌, ℕ, ◌*◌, ◌/◌, ◌%◌, ◌^◌, ◌<◌, inl, inr, Bool, true, false, not, ◌||◌, ◌&&◌, ◌==◌, cond, List, [], ◌∷◌, length, get_or, set, refl, ap, ◌∙◌, sym, arith, w32}
use Rattle.std.specs.Prelude.{bit_and}
use Rattle.std.specs.Int.{bit_not}
use Rattle.std.proofs.lemmas.Bool.Decides.{eqb_tells}
use Rattle.std.proofs.lemmas.List.{get_or-set_same, get_or-set_other}
use Rattle.std.proofs.lemmas.Nat.Bits.{bit_at_clear_same, bit_at_clear_other}
use Rattle.hv_word.specs.Words.{has}
use Rattle.hv_nest.specs.Watched.{without}
use Rattle.hv_apart.specs.Marked.{is_marked, SetOf, Joined}

-- what is cleared
pub marked_clear : (words : List ℕ) (at a : ℕ) → at / 32 < length words
    → is_marked (set words (at / 32) (bit_and (get_or words (at / 32) 0) (bit_not w32 (1 * 2 ^ (at % 32) % 2 ^ 32)))) a ≡ (not (a == at) && is_marked words a)
unfolding is_marked
marked_clear words at a h = elim (eqb_tells a at) [ inl e ↦ there e | inr e ↦ other e ]
  where
    written : ℕ
    written = bit_and (get_or words (at / 32) 0) (bit_not w32 (1 * 2 ^ (at % 32) % 2 ^ 32))

    reads : List ℕ → ℕ → Bool
    reads ws b = get_or ws (b / 32) 0 / 2 ^ (b % 32) % 2 == 1

    there : ((a == at) ≡ true) × (a ≡ at) → reads (set words (at / 32) written) a ≡ (not (a == at) && reads words a)
    there e =
        ap (reads (set words (at / 32) written)) e.1
        ∙ ap (λ (w : ℕ). w / 2 ^ (at % 32) % 2 == 1) (get_or-set_same words (at / 32) written 0 h)
        ∙ ap (λ (b : ℕ). b == 1) (bit_at_clear_same w32 (get_or words (at / 32) 0) (at % 32) (omega arith))
        ∙ sym (ap (λ (b : Bool). not b && reads words a) e.0)

    other : ((a == at) ≡ false) × (a ≢ at) → reads (set words (at / 32) written) a ≡ (not (a == at) && reads words a)
    other e = elim (eqb_tells (a / 32) (at / 32)) [ inl s ↦ beside s | inr s ↦ elsewhere s ] ∙ sym (ap (λ (b : Bool). not b && reads words a) e.0)
      where
        beside : ((a / 32 == at / 32) ≡ true) × (a / 32 ≡ at / 32) → reads (set words (at / 32) written) a ≡ reads words a
        beside s =
            let ne : a % 32 ≢ at % 32 = (λ r. e.1 (omega (arith, r, s.1))) in
            ap (λ (i : ℕ). get_or (set words (at / 32) written) i 0 / 2 ^ (a % 32) % 2 == 1) s.1
            ∙ ap (λ (w : ℕ). w / 2 ^ (a % 32) % 2 == 1) (get_or-set_same words (at / 32) written 0 h)
            ∙ ap (λ (b : ℕ). b == 1) (bit_at_clear_other w32 (get_or words (at / 32) 0) (at % 32) (omega arith) (a % 32) (omega arith) ne)
            ∙ sym (ap (λ (i : ℕ). get_or words i 0 / 2 ^ (a % 32) % 2 == 1) s.1)

        elsewhere : ((a / 32 == at / 32) ≡ false) × (a / 32 ≢ at / 32) → reads (set words (at / 32) written) a ≡ reads words a
        elsewhere s = ap (λ (w : ℕ). w / 2 ^ (a % 32) % 2 == 1) (get_or-set_other words (at / 32) (a / 32) written 0 s.1)

not_false : (c : Bool) → (not c && false) ≡ false
not_false true = refl
not_false false = refl

skip : (c d h : Bool) → c ≡ d → (not c && h) ≡ (not c && (d || h))
skip true true h e = refl
skip true false h e = refl
skip false true h e = absurd (cc)
skip false false h e = refl

keep : (c d h : Bool) → (c ≡ true → d ≡ false) → (d || (not c && h)) ≡ (not c && (d || h))
keep true true h e = absurd (let f : true ≡ false = e refl in cc)
keep true false h e = refl
keep false true h e = refl
keep false false h e = refl

is_number : (x a : ℕ) → (x == a) ≡ true → x ≡ a
is_number x a t = elim (eqb_tells x a) [ inl f ↦ f.1 | inr f ↦ absurd (let g : (x == a) ≡ false = f.0 in cc) ]

differs : (x a b : ℕ) → b ≢ a → (x == a) ≡ true → (x == b) ≡ false
differs x a b ne is =
    elim (eqb_tells x b) [ inl f ↦ absurd (ne (sym f.1 ∙ is_number x a is)) | inr f ↦ f.0 ]

-- a number is in a list without another where it is in the list and isn't that one
pub has-without : (x a : ℕ) (xs : List ℕ) → has x (without a xs) ≡ (not (x == a) && has x xs)
unfolding without
has-without x a [] = sym (not_false (x == a))
has-without x a (b ∷ bs) =
    let rest : has x (without a bs) ≡ (not (x == a) && has x bs) = has-without x a bs in
    elim (eqb_tells b a) [
      | inl e ↦
          ap (λ (c : Bool). has x (cond c (without a bs) (b ∷ without a bs))) e.0
          ∙ rest
          ∙ skip (x == a) (x == b) (has x bs) (ap (λ (y : ℕ). x == y) (sym e.1))
      | inr e ↦
          ap (λ (c : Bool). has x (cond c (without a bs) (b ∷ without a bs))) e.0
          ∙ ap (λ (h : Bool). (x == b) || h) rest
          ∙ keep (x == a) (x == b) (has x bs) (differs x a b e.1)
    ]

-- a set that was empty has what joined it
pub set_joined : (before after ys : List ℕ) → SetOf before [] → Joined before after ys → SetOf after ys
set_joined before after ys none joined = record {
  each = λ a. joined.each a ∙ ap (λ (b : Bool). b || has a ys) (none.each a);
}

-- a set without a number
pub set_cleared : (before after xs : List ℕ) (at : ℕ)
    → ((a : ℕ) → is_marked after a ≡ (not (a == at) && is_marked before a))
    → SetOf before xs
    → SetOf after (without at xs)
set_cleared before after xs at cleared marks = record {
  each = λ a. cleared a ∙ ap (λ (b : Bool). not (a == at) && b) (marks.each a) ∙ sym (has-without a at xs);
}

pub ruleset clearings = (marked_clear)
