-- The interrupt lines of a word, and the rest of it.
use Rattle.std.proofs.Common.{◌≡◌, ℕ, zero, suc, ◌+◌, ◌-◌, ◌^◌, ◌<◌, ◌≤◌, ap, ◌∙◌, sym, arith, bit_and, bit_or, lit<}
use Rattle.std.specs.Int.Bits.{or_add_and, and_self, and_zero_r, and_comm}
use Rattle.std.proofs.Math.Nat.{pow-suc}
use Rattle.std.proofs.lemmas.Nat.{and_le_l, and-not, or_disjoint}
use Rattle.hv_cpu.specs.Lines.{lines, unlined, relined}
use Rattle.hv_limits.specs.Limits.{lines_mask}
use Rattle.hv_cpu.proofs.Masks.{and_assoc, or_and}

-- the lines that a word has, put into it
pub relined_own : (w : ℕ) → relined w (lines w) ≡ w
relined_own w = let low : bit_and w lines_mask ≤ w = and_le_l w lines_mask in omega arith

-- those of another word that is the same without them
pub relined_other : (v w : ℕ) → unlined v ≡ unlined w → relined v (lines w) ≡ w
relined_other v w e = ap (λ (n : ℕ). n + lines w) e ∙ relined_own w

below_pow : (n : ℕ) → n < 2 ^ n
below_pow zero = lit< tt
below_pow (suc n) = omega (arith, below_pow n, pow-suc 2 n)

-- bits outside a mask leave those inside it
apart_from : (N w m M : ℕ) → bit_and N M ≡ 0 → bit_and m M ≡ m → bit_and (bit_and N w + m) M ≡ m
apart_from N w m M none inside =
    let outside : bit_and (bit_and N w) M ≡ 0 = ap (λ (n : ℕ). bit_and n M) (and_comm N w) ∙ and_assoc w N M ∙ ap (bit_and w) none ∙ and_zero_r w in
    let apart : bit_and (bit_and N w) m ≡ 0 =
    ap (bit_and (bit_and N w)) (sym inside ∙ and_comm m M)
    ∙ sym (and_assoc (bit_and N w) M m)
    ∙ ap (λ (n : ℕ). bit_and n m) outside
    ∙ and_comm 0 m
    ∙ and_zero_r m
    in
    let sum : bit_or (bit_and N w) m ≡ bit_and N w + m = or_disjoint (bit_and N w) m apart in
    let or_none : bit_or 0 m ≡ m = omega (arith, or_add_and 0 m, and_comm 0 m, and_zero_r m) in
    ap (λ (n : ℕ). bit_and n M) (sym sum)
    ∙ or_and (bit_and N w) m M
    ∙ ap (λ (n : ℕ). bit_or n (bit_and m M)) outside
    ∙ ap (bit_or 0) inside
    ∙ or_none

-- the lines that were put in are the lines
pub lines_relined : (w m : ℕ) → bit_and m lines_mask ≡ m → lines (relined w m) ≡ m
lines_relined w m inside =
    with_bits (w + lines_mask) (omega (arith, below_pow (w + lines_mask))) (omega (arith, below_pow (w + lines_mask)))
  where
    by_mask : (M k : ℕ) → bit_and m M ≡ m → w < 2 ^ k → M < 2 ^ k → bit_and (w - bit_and w M + m) M ≡ m
    by_mask M k within small low =
        let N : ℕ = 2 ^ k - 1 - M in
        let rest : bit_and N w + bit_and M w ≡ w = and-not k M w low small in
        let mask : bit_and N M + bit_and M M ≡ M = and-not k M M low low in
        let none : bit_and N M ≡ 0 = omega (arith, and_self M) in
        let cut : w - bit_and w M ≡ bit_and N w = omega (arith, and_comm w M) in
        ap (λ (n : ℕ). bit_and (n + m) M) cut ∙ apart_from N w m M none within

    with_bits : (k : ℕ) → w < 2 ^ k → lines_mask < 2 ^ k → lines (relined w m) ≡ m
    with_bits k small low = by_mask lines_mask k inside small low
