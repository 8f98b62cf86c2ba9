-- Numbers inside a mask, and what keeps them there.
use Rattle.std.proofs.Common.{◌≡◌, ℕ, ◌+◌, sym, ap, ◌∙◌, arith, bit_and, bit_or}
use Rattle.std.specs.Int.Bits.{or_add_and, and_zero_r}
use Rattle.std.proofs.lemmas.Nat.Bits.{bit_at_and, bit_at_or, same_from_bits}

pub and_assoc : (a b c : ℕ) → bit_and (bit_and a b) c ≡ bit_and a (bit_and b c)
and_assoc a b c = same_from_bits _ _ (λ i. simp bit_at_and (omega arith))

pub or_and : (a b m : ℕ) → bit_and (bit_or a b) m ≡ bit_or (bit_and a m) (bit_and b m)
or_and a b m = same_from_bits _ _ (λ i. simp (bit_at_and, bit_at_or) (omega arith))

pub and_or : (w a b : ℕ) → bit_and w (bit_or a b) ≡ bit_or (bit_and w a) (bit_and w b)
and_or w a b = same_from_bits _ _ (λ i. simp (bit_at_and, bit_at_or) (omega arith))

pub and_twice : (w a b : ℕ) → bit_and (bit_and w a) (bit_and w b) ≡ bit_and w (bit_and a b)
and_twice w a b = same_from_bits _ _ (λ i. simp bit_at_and (omega arith))

-- what is cut to a mask is inside it, also inside a wider one
pub and_inside : (w m : ℕ) → bit_and (bit_and w m) m ≡ bit_and w m
and_inside w m = same_from_bits _ _ (λ i. simp bit_at_and (omega arith))

pub and_within : (w m wide : ℕ) → bit_and m wide ≡ m → bit_and (bit_and w m) wide ≡ bit_and w m
and_within w m wide h = and_assoc w m wide ∙ ap (λ (n : ℕ). bit_and w n) h

pub or_inside : (a b m : ℕ) → bit_and a m ≡ a → bit_and b m ≡ b → bit_and (bit_or a b) m ≡ bit_or a b
or_inside a b m p q = cc (or_and a b m)

-- a number inside two masks without a common bit is the sum of its parts
pub parts : (w a b : ℕ) → bit_and a b ≡ 0 → bit_and w (bit_or a b) ≡ w → bit_and w a + bit_and w b ≡ w
parts w a b p q =
    let none : bit_and (bit_and w a) (bit_and w b) ≡ 0 =
    and_twice w a b ∙ ap (λ (n : ℕ). bit_and w n) p ∙ and_zero_r w
    in
    let all : bit_or (bit_and w a) (bit_and w b) ≡ w = sym (and_or w a b) ∙ q in
    omega (arith, or_add_and (bit_and w a) (bit_and w b), none, all)

-- parts of masks without a common bit have none, so their union is their sum
pub apart_sum : (v w a b : ℕ) → bit_and a b ≡ 0 → bit_and w b ≡ w → bit_or (bit_and v a) w ≡ bit_and v a + w
apart_sum v w a b p q =
    let none : bit_and (bit_and v a) w ≡ 0 =
    ap (λ (n : ℕ). bit_and (bit_and v a) n) (sym q)
    ∙ same_from_bits (bit_and (bit_and v a) (bit_and w b)) (bit_and (bit_and v w) (bit_and a b)) (λ i. simp bit_at_and (omega arith))
    ∙ ap (λ (n : ℕ). bit_and (bit_and v w) n) p
    ∙ and_zero_r (bit_and v w)
    in
    omega (arith, or_add_and (bit_and v a) w, none)
