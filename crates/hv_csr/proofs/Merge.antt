-- Words whose bits in a mask are replaced, by masks and by sums.
use Rattle.std.proofs.Common.{◌≡◌, ℕ, ◌+◌, ◌-◌, ◌*◌, ◌%◌, ◌^◌, ◌<◌, ◌≤◌, refl, sym, ap, ◌∙◌, arith, lit<, bit_and, bit_or}
use Rattle.std.specs.Int.Bits.{or_add_and, and_zero_r, or_zero_r}
use Rattle.std.proofs.Math.Nat.{mod-eq_of_lt, pow-le-pow_right, add-zero}
use Rattle.std.proofs.lemmas.Nat.{and-not, and_le_r, pow_pos, pow-add, and_block}
use Rattle.std.proofs.lemmas.Nat.Bits.{bit_at_and, bit_at_or, same_from_bits, and_high}
use Rattle.hv_word.specs.Words.{field_of, field_put}
use Rattle.hv_word.proofs.Fields.{put_bits}
use Rattle.hv_cpu.specs.Masks.{mstatus_mask, mideleg_mask, interrupt_mask}
use Rattle.hv_cpu.proofs.Masks.{and_within}
use Rattle.hv_csr.specs.Table.{merge, ssi}

-- what a mask and its complement keep have no bit in common
apart : (w v n m : ℕ) → bit_and n m ≡ 0 → bit_and (bit_and w n) (bit_and v m) ≡ 0
apart w v n m h =
    same_from_bits (bit_and (bit_and w n) (bit_and v m)) (bit_and (bit_and w v) (bit_and n m)) (λ i. simp bit_at_and (omega arith))
    ∙ ap (λ (x : ℕ). bit_and (bit_and w v) x) h
    ∙ and_zero_r (bit_and w v)

split : (w n m : ℕ) → bit_and (bit_and w n) (bit_and w m) ≡ 0 → bit_or (bit_and w n) (bit_and w m) ≡ bit_and w (bit_or n m)
split w n m h = same_from_bits _ _ (λ i. simp (bit_at_and, bit_at_or) (omega arith))

-- the complement of m has no bit of m, and the others of every n
complement : (m : ℕ) → m < 2 ^ 32 → bit_and (4294967295 - m) m ≡ 0
complement m h =
    let e : bit_and (4294967295 - m) m + bit_and m m ≡ m = and-not 32 m m h h in
    let s : bit_and m m ≡ m = same_from_bits (bit_and m m) m (λ i. simp bit_at_and (omega arith)) in
    omega (arith, e, s)

and_comm' : (a b : ℕ) → bit_and a b ≡ bit_and b a
and_comm' a b = same_from_bits _ _ (λ i. simp bit_at_and (omega arith))

pub without_is : (w m : ℕ) → w < 2 ^ 32 → m < 2 ^ 32 → bit_and w (4294967295 - m) ≡ w - bit_and w m
without_is w m h k =
    let e : bit_and (4294967295 - m) w + bit_and m w ≡ w = and-not 32 m w k h in
    let a : bit_and w (4294967295 - m) ≡ bit_and (4294967295 - m) w = and_comm' w (4294967295 - m) in
    let b : bit_and w m ≡ bit_and m w = and_comm' w m in
    omega (arith, e, a, b)

pub merged_is : (w m v : ℕ) → w < 2 ^ 32 → m < 2 ^ 32 → bit_or (bit_and w (4294967295 - m)) (bit_and v m) ≡ merge w m v
merged_is w m v h k =
    let none : bit_and (bit_and w (4294967295 - m)) (bit_and v m) ≡ 0 = apart w v (4294967295 - m) m (complement m k) in
    let sum : bit_or (bit_and w (4294967295 - m)) (bit_and v m) + 0 ≡ bit_and w (4294967295 - m) + bit_and v m =
    ap (λ (x : ℕ). bit_or (bit_and w (4294967295 - m)) (bit_and v m) + x) (sym none)
    ∙ or_add_and (bit_and w (4294967295 - m)) (bit_and v m)
    in
    omega (arith, sum, without_is w m h k)

-- a mask that holds the old word and the mask of the change holds the new word
pub merged_inside : (w n v m wide : ℕ) → bit_and w wide ≡ w → bit_and m wide ≡ m
    → bit_and (bit_or (bit_and w n) (bit_and v m)) wide ≡ bit_or (bit_and w n) (bit_and v m)
merged_inside w n v m wide h k =
    same_from_bits (bit_and (bit_or (bit_and w n) (bit_and v m)) wide) (bit_or (bit_and (bit_and w wide) n) (bit_and v (bit_and m wide)))
    (λ i. simp (bit_at_and, bit_at_or) (omega arith))
    ∙ ap (λ (x : ℕ). bit_or (bit_and x n) (bit_and v (bit_and m wide))) h
    ∙ ap (λ (x : ℕ). bit_or (bit_and w n) (bit_and v x)) k

-- bits that the mask of the change leaves alone, here those of MPP
kept : (w m v k : ℕ) → m < 2 ^ 32 → k < 2 ^ 32 → bit_and m k ≡ 0
    → bit_and (bit_or (bit_and w (4294967295 - m)) (bit_and v m)) k ≡ bit_and w k
kept w m v k h l e =
    let rest : bit_and (4294967295 - m) k ≡ k = let s = and-not 32 m k h l in omega (arith, s, e) in
    same_from_bits (bit_and (bit_or (bit_and w (4294967295 - m)) (bit_and v m)) k) (bit_or (bit_and w (bit_and (4294967295 - m) k)) (bit_and v (bit_and m k)))
    (λ i. simp (bit_at_and, bit_at_or) (omega arith))
    ∙ ap (λ (x : ℕ). bit_or (bit_and w x) (bit_and v (bit_and m k))) rest
    ∙ ap (λ (x : ℕ). bit_or (bit_and w k) (bit_and v x)) e
    ∙ ap (λ (x : ℕ). bit_or (bit_and w k) x) (and_zero_r v)
    ∙ or_zero_r (bit_and w k)

same_field : (a b : ℕ) → bit_and a 0x1800 ≡ bit_and b 0x1800 → field_of a 11 2 ≡ field_of b 11 2
same_field a b h =
    let p : bit_and a 0x1800 ≡ field_of a 11 2 * 2048 = and_high a 2 11 in
    let q : bit_and b 0x1800 ≡ field_of b 11 2 * 2048 = and_high b 2 11 in
    omega (arith, p, q, h)

pub merged_mpp : (w m v : ℕ) → m < 2 ^ 32 → bit_and m 0x1800 ≡ 0
    → field_of (bit_or (bit_and w (4294967295 - m)) (bit_and v m)) 11 2 ≡ field_of w 11 2
merged_mpp w m v h e = same_field _ _ (kept w m v 0x1800 h (lit< tt) e)

-- a word cut to the mask of mstatus
pub cut_inside : (v m : ℕ) → bit_and (bit_and v m) m ≡ bit_and v m
cut_inside v m = same_from_bits _ _ (λ i. simp bit_at_and (omega arith))

-- what is delegated is an interrupt
pub delegated_inside : (m : ℕ) → bit_and m mideleg_mask ≡ m → bit_and m interrupt_mask ≡ m
delegated_inside m h = ap (λ (x : ℕ). bit_and x interrupt_mask) (sym h) ∙ and_within m mideleg_mask interrupt_mask refl ∙ h

pub ssi_inside : (m : ℕ) → bit_and (bit_and m ssi) interrupt_mask ≡ bit_and m ssi
ssi_inside m = and_within m ssi interrupt_mask refl

pub cut_mpp : (v : ℕ) → field_of (bit_and v mstatus_mask) 11 2 ≡ field_of v 11 2
cut_mpp v =
    same_field (bit_and v mstatus_mask) v
    (same_from_bits (bit_and (bit_and v mstatus_mask) 0x1800) (bit_and v (bit_and mstatus_mask 0x1800)) (λ i. simp bit_at_and (omega arith)))

-- a field put into a word is such a change, whose mask is the field's
shl_and : (a b k : ℕ) → bit_and a b * 2 ^ k ≡ bit_and (a * 2 ^ k) (b * 2 ^ k)
shl_and a b k =
    let z : 0 < 2 ^ k = pow_pos k in
    let e : bit_and (a * 2 ^ k + 0) (b * 2 ^ k + 0) ≡ bit_and a b * 2 ^ k + 0 = and_block k a b 0 0 z z in
    let p : bit_and (a * 2 ^ k + 0) (b * 2 ^ k + 0) ≡ bit_and (a * 2 ^ k) (b * 2 ^ k) = simp add-zero in
    omega (arith, e, p)

once : (a b : ℕ) → 0 < a → (a - 1) * b + b ≡ a * b
once a b h = let e : a ≡ (a - 1) + 1 = omega arith in sym (ap (λ (x : ℕ). x * b) e ∙ omega arith)

mask_fits : (lo len : ℕ) → lo + len ≤ 32 → (2 ^ len - 1) * 2 ^ lo < 2 ^ 32
mask_fits lo len h =
    let z : 0 < 2 ^ lo = pow_pos lo in
    let y : 0 < 2 ^ len = pow_pos len in
    let e : 2 ^ (len + lo) ≡ 2 ^ len * 2 ^ lo = pow-add 2 len lo in
    let d : (2 ^ len - 1) * 2 ^ lo + 2 ^ lo ≡ 2 ^ len * 2 ^ lo = once (2 ^ len) (2 ^ lo) y in
    let w : 2 ^ (len + lo) ≤ 2 ^ 32 = pow-le-pow_right (lit< tt) {i = len + lo} {j = 32} (omega arith) in
    omega (arith, d, e, w)

put_is : (w lo len v : ℕ) → lo + len ≤ 32 → w < 2 ^ 32
    → bit_or (bit_and w (4294967295 - (2 ^ len - 1) * 2 ^ lo)) (bit_and (v * 2 ^ lo) ((2 ^ len - 1) * 2 ^ lo)) ≡ field_put w lo len v
put_is w lo len v h f =
    let y : 0 < 2 ^ len = pow_pos len in
    let fits : (2 ^ len - 1) * 2 ^ lo < 2 ^ 32 = mask_fits lo len h in
    let whole : (2 ^ len - 1) * 2 ^ lo % 4294967296 ≡ (2 ^ len - 1) * 2 ^ lo = mod-eq_of_lt fits in
    let cut : bit_and v (2 ^ len - 1) * 2 ^ lo ≡ bit_and (v * 2 ^ lo) ((2 ^ len - 1) * 2 ^ lo) = shl_and v (2 ^ len - 1) lo in
    let below : bit_and (v * 2 ^ lo) ((2 ^ len - 1) * 2 ^ lo) ≤ (2 ^ len - 1) * 2 ^ lo = and_le_r (v * 2 ^ lo) ((2 ^ len - 1) * 2 ^ lo) in
    let small : bit_and v (2 ^ len - 1) * 2 ^ lo < 2 ^ 32 = omega (arith, cut, below, fits) in
    let part : bit_and v (2 ^ len - 1) * 2 ^ lo % 4294967296 ≡ bit_and (v * 2 ^ lo) ((2 ^ len - 1) * 2 ^ lo) = mod-eq_of_lt small ∙ cut in
    sym (ap (λ (x : ℕ). bit_or (bit_and w (4294967295 - x)) (bit_and v (2 ^ len - 1) * 2 ^ lo % 4294967296)) whole
    ∙ ap (λ (x : ℕ). bit_or (bit_and w (4294967295 - (2 ^ len - 1) * 2 ^ lo)) x) part)
    ∙ put_bits w lo len v (2 ^ len - 1) h f (omega arith)

pub put_inside : (w lo len v wide : ℕ) → lo + len ≤ 32 → w < 2 ^ 32 → bit_and w wide ≡ w
    → bit_and ((2 ^ len - 1) * 2 ^ lo) wide ≡ (2 ^ len - 1) * 2 ^ lo → bit_and (field_put w lo len v) wide ≡ field_put w lo len v
put_inside w lo len v wide h f inside mask =
    let is : bit_or (bit_and w (4294967295 - (2 ^ len - 1) * 2 ^ lo)) (bit_and (v * 2 ^ lo) ((2 ^ len - 1) * 2 ^ lo)) ≡ field_put w lo len v =
    put_is w lo len v h f
    in
    ap (λ (x : ℕ). bit_and x wide) (sym is)
    ∙ merged_inside w (4294967295 - (2 ^ len - 1) * 2 ^ lo) (v * 2 ^ lo) ((2 ^ len - 1) * 2 ^ lo) wide inside mask
    ∙ is

pub put_mpp : (w lo len v : ℕ) → lo + len ≤ 32 → w < 2 ^ 32 → bit_and ((2 ^ len - 1) * 2 ^ lo) 0x1800 ≡ 0
    → field_of (field_put w lo len v) 11 2 ≡ field_of w 11 2
put_mpp w lo len v h f mask =
    ap (λ (x : ℕ). field_of x 11 2) (sym (put_is w lo len v h f))
    ∙ merged_mpp w ((2 ^ len - 1) * 2 ^ lo) (v * 2 ^ lo) (mask_fits lo len h) mask
