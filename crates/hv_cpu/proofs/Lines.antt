-- Lines put into mip leave the rest of it.
use Rattle.std.proofs.Common.{◌≡◌, ℕ, ◌+◌, refl, sym, ap, ◌∙◌, arith, bit_and, bit_or}
use Rattle.hv_cpu.specs.Masks.{interrupt_mask}
use Rattle.hv_cpu.specs.Lines.{lines, relined}
use Rattle.hv_limits.specs.Limits.{lines_mask}
use Rattle.hv_cpu.proofs.Masks.{and_assoc, parts, apart_sum, or_inside, and_within}

-- the bits of mip that stay are those of S
cut : (w : ℕ) → bit_and w interrupt_mask ≡ w → bit_and w 4294965111 ≡ bit_and w 0x222
cut w h = ap (λ (n : ℕ). bit_and n 4294965111) (sym h) ∙ and_assoc w interrupt_mask 4294965111

pub relined_is : (w m : ℕ) → bit_and w interrupt_mask ≡ w → bit_and m lines_mask ≡ m → bit_or (bit_and w 4294965111) m ≡ relined w m
relined_is w m h k =
    let rest : bit_and w 0x222 + lines w ≡ w = parts w 0x222 lines_mask refl h in
    let sum : bit_or (bit_and w 0x222) m ≡ bit_and w 0x222 + m = apart_sum w m 0x222 lines_mask refl k in
    ap (λ (n : ℕ). bit_or n m) (cut w h) ∙ omega (arith, rest, sum)

pub relined_inside : (w m : ℕ) → bit_and w interrupt_mask ≡ w → bit_and m lines_mask ≡ m → bit_and (bit_or (bit_and w 4294965111) m) interrupt_mask ≡ bit_or (bit_and w 4294965111) m
relined_inside w m h k =
    let first : bit_and (bit_and w 4294965111) interrupt_mask ≡ bit_and w 4294965111 =
    rw (cut w h) (and_within w 0x222 interrupt_mask refl)
    in
    let second : bit_and m interrupt_mask ≡ m =
    ap (λ (n : ℕ). bit_and n interrupt_mask) (sym k) ∙ and_within m lines_mask interrupt_mask refl ∙ k
    in
    or_inside (bit_and w 4294965111) m interrupt_mask first second
