-- Fields of a word, by shifts and masks and by quotients and remainders.
use Rattle.std.proofs.Common.{◌≡◌, ℕ, ◌+◌, ◌-◌, ◌*◌, ◌/◌, ◌%◌, ◌^◌, ◌<◌, ◌≤◌, ◌∙◌, ap, arith, lit<, bit_and, bit_or, nat_lt, if◌then◌else◌}
use Rattle.std.proofs.Math.Nat.{mod-lt, pow-le-pow_right}
use Rattle.std.proofs.lemmas.Nat.{pow_pos, pow-add, mod-pow-add, and_mask, and_comm, and-not, or_block, or_shifted, shl_whole, shr_split}
use Rattle.std.proofs.lemmas.Nat.Bits.{ones_shr, and_high}
use Rattle.std.proofs.lemmas.Bool.Decides.{nat_tests}
use Rattle.std.specs.Int.Bits.{or_zero_r}
use Rattle.hv_word.specs.Words.{field_put, sext_of}

-- the mask of the low k bits, and what it keeps
pub ones_low : (k : ℕ) → k ≤ 32 → 4294967295 / 2 ^ (32 - k) + 1 ≡ 2 ^ k
ones_low k h =
    let e : 32 - (32 - k) ≡ k = omega arith in
    let s : 4294967295 / 2 ^ (32 - k) ≡ 2 ^ k - 1 = ones_shr 32 (32 - k) (omega arith) ∙ ap (λ j. 2 ^ j - 1) e in
    let p : 0 < 2 ^ k = pow_pos k in omega arith

pub and_ones : (n m k : ℕ) → m + 1 ≡ 2 ^ k → bit_and n m ≡ n % 2 ^ k
and_ones n m k h = let e : m ≡ 2 ^ k - 1 = omega arith in ap (λ t. bit_and n t) e ∙ and_mask n k

-- a power of two is twice the one before
doubled : (k : ℕ) → 1 ≤ k → 2 ^ k ≡ 2 * 2 ^ (k - 1)
doubled k h = let e : k ≡ 1 + (k - 1) = omega arith in ap (λ j. 2 ^ j) e ∙ pow-add 2 1 (k - 1)

-- sign extension, of a number from 0 on and of one below it
taken : (p q x y : ℕ) → x < p → y ≡ x → y ≡ (if nat_lt x p then x else q)
taken p q x y h e = grind (arith, nat_tests)

not_taken : (p q x y : ℕ) → p ≤ x → y ≡ q → y ≡ (if nat_lt x p then x else q)
not_taken p q x y h e = grind (arith, nat_tests)

pub sext_plain : (b v m : ℕ) → 1 ≤ b → m + 1 ≡ 2 ^ b → bit_and v m ≤ m / 2 → bit_and v m ≡ sext_of b v
sext_plain b v m h e s =
    let d : 2 ^ b ≡ 2 * 2 ^ (b - 1) = doubled b h in
    let a : bit_and v m ≡ v % 2 ^ b = and_ones v m b e in
    taken (2 ^ (b - 1)) _ (v % 2 ^ b) (bit_and v m) (omega arith) a

pub sext_below : (b v m : ℕ) → 1 ≤ b → m + 1 ≡ 2 ^ b → m / 2 < bit_and v m → bit_and v m + (4294967295 - m) ≡ sext_of b v
sext_below b v m h e s =
    let d : 2 ^ b ≡ 2 * 2 ^ (b - 1) = doubled b h in
    let a : bit_and v m ≡ v % 2 ^ b = and_ones v m b e in
    not_taken (2 ^ (b - 1)) _ (v % 2 ^ b) _ (omega arith) (omega arith)

-- w without the ones of a field
cleared : (w lo len m : ℕ) → lo + len ≤ 32 → w < 2 ^ 32 → m + 1 ≡ 2 ^ len
    → bit_and w (4294967295 - m * 2 ^ lo) ≡ w / 2 ^ (len + lo) * 2 ^ (len + lo) + w % 2 ^ lo
cleared w lo len m h f e =
    let p : 2 ^ (len + lo) ≡ 2 ^ len * 2 ^ lo = pow-add 2 len lo in
    let x : (m + 1) * 2 ^ lo ≡ 2 ^ len * 2 ^ lo = ap (λ t. t * 2 ^ lo) e in
    let ones : m * 2 ^ lo ≡ 2 ^ (len + lo) - 2 ^ lo = omega arith in
    let z : 0 < 2 ^ lo = pow_pos lo in
    let within : len + lo ≤ 32 = omega arith in
    let top : 2 ^ (len + lo) ≤ 2 ^ 32 = pow-le-pow_right (lit< tt) {i = len + lo} {j = 32} within in
    let below : m * 2 ^ lo < 2 ^ 32 = omega arith in
    let n : bit_and (4294967295 - m * 2 ^ lo) w + bit_and (m * 2 ^ lo) w ≡ w = and-not 32 (m * 2 ^ lo) w below f in
    let k : bit_and w (4294967295 - m * 2 ^ lo) ≡ bit_and (4294967295 - m * 2 ^ lo) w = and_comm _ _ in
    let i : bit_and (m * 2 ^ lo) w ≡ (w / 2 ^ lo % 2 ^ len) * 2 ^ lo =
    and_comm _ _ ∙ ap (λ t. bit_and w t) ones ∙ and_high w len lo in
    let s : w / 2 ^ (len + lo) * 2 ^ (len + lo) + w % 2 ^ (len + lo) ≡ w = shr_split w (len + lo) in
    let r : w % 2 ^ (len + lo) ≡ (w / 2 ^ lo % 2 ^ len) * 2 ^ lo + w % 2 ^ lo = mod-pow-add w len lo in
    omega arith

-- numbers whose ones lie apart
joined : (q r x lo len : ℕ) → r < 2 ^ lo → x < 2 ^ len
    → bit_or (q * 2 ^ (len + lo) + r) (x * 2 ^ lo) ≡ q * 2 ^ (len + lo) + x * 2 ^ lo + r
joined q r x lo len h g =
    let p : 2 ^ (len + lo) ≡ 2 ^ len * 2 ^ lo = pow-add 2 len lo in
    let a : q * 2 ^ (len + lo) ≡ q * (2 ^ len * 2 ^ lo) = ap (λ t. q * t) p in
    let b : q * 2 ^ (len + lo) + r ≡ q * 2 ^ len * 2 ^ lo + r = omega (arith, a) in
    let z : 0 < 2 ^ lo = pow_pos lo in
    let c : x * 2 ^ lo ≡ x * 2 ^ lo + 0 = omega arith in
    let d : bit_or (q * 2 ^ len * 2 ^ lo + r) (x * 2 ^ lo + 0) ≡ bit_or (q * 2 ^ len) x * 2 ^ lo + bit_or r 0 =
    or_block lo (q * 2 ^ len) x r 0 h z in
    let s : bit_or (q * 2 ^ len) x * 2 ^ lo ≡ (q * 2 ^ len + x) * 2 ^ lo = ap (λ t. t * 2 ^ lo) (or_shifted q len x g) in
    let t : bit_or r 0 ≡ r = or_zero_r r in
    let u : bit_or (q * 2 ^ (len + lo) + r) (x * 2 ^ lo) ≡ bit_or (q * 2 ^ len * 2 ^ lo + r) (x * 2 ^ lo + 0) =
    ap (λ y. bit_or y (x * 2 ^ lo)) b ∙ ap (λ y. bit_or (q * 2 ^ len * 2 ^ lo + r) y) c in
    omega (arith, a, d, s, t, u)

pub put_bits : (w lo len v m : ℕ) → lo + len ≤ 32 → w < 2 ^ 32 → m + 1 ≡ 2 ^ len
    → bit_or (bit_and w (4294967295 - m * 2 ^ lo % 4294967296)) (bit_and v m * 2 ^ lo % 4294967296) ≡ field_put w lo len v
put_bits w lo len v m h f e =
    let z : 0 < 2 ^ lo = pow_pos lo in
    let y : 0 < 2 ^ len = pow_pos len in
    let low : w % 2 ^ lo < 2 ^ lo = mod-lt w z in
    let small : v % 2 ^ len < 2 ^ len = mod-lt v y in
    let mask : m * 2 ^ lo % 4294967296 ≡ m * 2 ^ lo = shl_whole m len lo 32 (omega arith) (omega arith) in
    let part : bit_and v m ≡ v % 2 ^ len = and_ones v m len e in
    let shifted : bit_and v m * 2 ^ lo % 4294967296 ≡ v % 2 ^ len * 2 ^ lo =
    ap (λ t. t * 2 ^ lo % 4294967296) part ∙ shl_whole (v % 2 ^ len) len lo 32 small (omega arith) in
    let kept : bit_and w (4294967295 - m * 2 ^ lo % 4294967296) ≡ w / 2 ^ (len + lo) * 2 ^ (len + lo) + w % 2 ^ lo =
    ap (λ t. bit_and w (4294967295 - t)) mask ∙ cleared w lo len m h f e in
    let order : len + lo ≡ lo + len = omega arith in
    ap (λ t. bit_or t (bit_and v m * 2 ^ lo % 4294967296)) kept
    ∙ ap (λ t. bit_or (w / 2 ^ (len + lo) * 2 ^ (len + lo) + w % 2 ^ lo) t) shifted
    ∙ joined (w / 2 ^ (len + lo)) (w % 2 ^ lo) (v % 2 ^ len) lo len low small
    ∙ ap (λ t. w / 2 ^ t * 2 ^ t + v % 2 ^ len * 2 ^ lo + w % 2 ^ lo) order
