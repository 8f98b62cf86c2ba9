-- A field put inside a mask keeps the mask.
use Rattle.std.proofs.Common.{◌≡◌, ℕ, ◌+◌, ◌-◌, ◌*◌, ◌/◌, ◌%◌, ◌^◌, ◌<◌, sym, ◌∙◌, ap, arith, bit_and}
use Rattle.std.proofs.Math.Nat.{mod-lt, mod-eq_of_lt}
use Rattle.std.proofs.lemmas.Nat.{pow_pos, pow-add, mod-pow-add, and_mask, and_block, and_shr, and_mod, shr_split}
use Rattle.hv_word.specs.Words.{field_of, field_put}

-- a number by its part above a field, the field and the part below it
parts : (w lo len : ℕ) → w ≡ w / 2 ^ (lo + len) * 2 ^ (lo + len) + field_of w lo len * 2 ^ lo + w % 2 ^ lo
parts w lo len =
    let order : len + lo ≡ lo + len = omega arith in
    let s : w / 2 ^ (len + lo) * 2 ^ (len + lo) + w % 2 ^ (len + lo) ≡ w = shr_split w (len + lo) in
    let r : w % 2 ^ (len + lo) ≡ field_of w lo len * 2 ^ lo + w % 2 ^ lo = mod-pow-add w len lo in
    let t : w ≡ w / 2 ^ (len + lo) * 2 ^ (len + lo) + field_of w lo len * 2 ^ lo + w % 2 ^ lo = omega (arith, s, r) in
    t ∙ ap (λ k. w / 2 ^ k * 2 ^ k + field_of w lo len * 2 ^ lo + w % 2 ^ lo) order

-- the same with the two upper parts together
grouped : (q x r lo len : ℕ) → q * 2 ^ (lo + len) + x * 2 ^ lo + r ≡ (q * 2 ^ len + x) * 2 ^ lo + r
grouped q x r lo len =
    let a : q * 2 ^ (lo + len) ≡ q * (2 ^ lo * 2 ^ len) = ap (λ t. q * t) (pow-add 2 lo len) in omega (arith, a)

and_parts : (q x r p y s lo len : ℕ) → x < 2 ^ len → y < 2 ^ len → r < 2 ^ lo → s < 2 ^ lo
    → bit_and (q * 2 ^ (lo + len) + x * 2 ^ lo + r) (p * 2 ^ (lo + len) + y * 2 ^ lo + s)
    ≡ bit_and q p * 2 ^ (lo + len) + bit_and x y * 2 ^ lo + bit_and r s
and_parts q x r p y s lo len hx hy hr hs =
    ap (λ t. bit_and t (p * 2 ^ (lo + len) + y * 2 ^ lo + s)) (grouped q x r lo len)
    ∙ ap (λ t. bit_and ((q * 2 ^ len + x) * 2 ^ lo + r) t) (grouped p y s lo len)
    ∙ and_block lo (q * 2 ^ len + x) (p * 2 ^ len + y) r s hr hs
    ∙ ap (λ t. t * 2 ^ lo + bit_and r s) (and_block len q p x y hx hy)
    ∙ sym (grouped (bit_and q p) (bit_and x y) (bit_and r s) lo len)

-- w keeps to the mask m, whose bits in the field are all ones: so does w with the field replaced
pub put_masked : (w lo len v m : ℕ) → bit_and w m ≡ w → field_of m lo len + 1 ≡ 2 ^ len
    → bit_and (field_put w lo len v) m ≡ field_put w lo len v
put_masked w lo len v m h ones =
    let x : v % 2 ^ len < 2 ^ len = mod-lt v (pow_pos len) in
    let y : field_of m lo len < 2 ^ len = mod-lt (m / 2 ^ lo) (pow_pos len) in
    let r : w % 2 ^ lo < 2 ^ lo = mod-lt w (pow_pos lo) in
    let s : m % 2 ^ lo < 2 ^ lo = mod-lt m (pow_pos lo) in
    let full : field_of m lo len ≡ 2 ^ len - 1 = omega (arith, ones) in
    let high : bit_and (w / 2 ^ (lo + len)) (m / 2 ^ (lo + len)) ≡ w / 2 ^ (lo + len) =
    sym (and_shr w m (lo + len)) ∙ ap (λ t. t / 2 ^ (lo + len)) h in
    let low : bit_and (w % 2 ^ lo) (m % 2 ^ lo) ≡ w % 2 ^ lo = sym (and_mod w m lo) ∙ ap (λ t. t % 2 ^ lo) h in
    let middle : bit_and (v % 2 ^ len) (field_of m lo len) ≡ v % 2 ^ len =
    ap (λ t. bit_and (v % 2 ^ len) t) full ∙ and_mask (v % 2 ^ len) len ∙ mod-eq_of_lt x in
    ap (λ t. bit_and (field_put w lo len v) t) (parts m lo len)
    ∙ and_parts (w / 2 ^ (lo + len)) (v % 2 ^ len) (w % 2 ^ lo) (m / 2 ^ (lo + len)) (field_of m lo len) (m % 2 ^ lo) lo len x y r s
    ∙ ap (λ t. t * 2 ^ (lo + len) + bit_and (v % 2 ^ len) (field_of m lo len) * 2 ^ lo + bit_and (w % 2 ^ lo) (m % 2 ^ lo)) high
    ∙ ap (λ t. w / 2 ^ (lo + len) * 2 ^ (lo + len) + t * 2 ^ lo + bit_and (w % 2 ^ lo) (m % 2 ^ lo)) middle
    ∙ ap (λ t. w / 2 ^ (lo + len) * 2 ^ (lo + len) + v % 2 ^ len * 2 ^ lo + t) low
