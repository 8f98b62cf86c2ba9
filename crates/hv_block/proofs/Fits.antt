-- The two statements of which registers a hart can have are one.
use Rattle.std.proofs.Common.{◌≡◌, ◌≢◌, ℕ, zero, suc, ◌/◌, ◌%◌, ◌<◌, ◌==◌, ◌&&◌, ◌||◌, ◌⊎◌, inl, inr, Bool, true, false, not, bit_and, refl, arith}
use Rattle.std.proofs.lemmas.Bool.{and_parts, or_cases, eqb-true, eq-eqb, ne_eqb, ltb-true, lt-ltb}
use Rattle.hv_cpu.specs.Masks.{mstatus_mask, medeleg_mask, mideleg_mask, interrupt_mask, satp_mask}
use Rattle.hv_cpu.specs.Regs.{Regs, FitsHart}
use Rattle.hv_block.specs.Block.{fits_hart}

either_mode : (m : ℕ) → m < 4 → m ≢ 2 → ((m == 0) || (m == 1) || (m == 3)) ≡ true
either_mode zero h ne = refl
either_mode (suc zero) h ne = refl
either_mode (suc (suc zero)) h ne = absurd (ne refl)
either_mode (suc (suc (suc zero))) h ne = refl
either_mode (suc (suc (suc (suc m)))) h ne = absurd (omega (arith, h))

pub hart_fits : (r : Regs) → FitsHart r → fits_hart r ≡ true
hart_fits r k = λ i.
    ((eq-eqb (r.pc % 4) 0 k.aligned) i)
    && ((either_mode r.mode k.mode_fits k.mode_real) i)
    && ((eq-eqb (bit_and r.mstatus mstatus_mask) r.mstatus k.mstatus) i)
    && not ((ne_eqb (r.mstatus / 2048 % 4) 2 k.mpp) i)
    && ((lt-ltb (r.mtvec % 4) 2 k.mtvec) i)
    && ((eq-eqb (r.mepc % 4) 0 k.mepc) i)
    && ((eq-eqb (bit_and r.medeleg medeleg_mask) r.medeleg k.medeleg) i)
    && ((eq-eqb (bit_and r.mideleg mideleg_mask) r.mideleg k.mideleg) i)
    && ((eq-eqb (bit_and r.mie interrupt_mask) r.mie k.mie) i)
    && ((eq-eqb (bit_and r.mip interrupt_mask) r.mip k.mip) i)
    && ((lt-ltb (r.stvec % 4) 2 k.stvec) i)
    && ((eq-eqb (r.sepc % 4) 0 k.sepc) i)
    && ((eq-eqb (bit_and r.satp satp_mask) r.satp k.satp) i)

-- a mode is one of the three
real_mode : (m : ℕ) → ((m == 0) || (m == 1) || (m == 3)) ≡ true → (m < 4) × (m ≢ 2)
real_mode m e = last (or_cases ((m == 0) || (m == 1)) (m == 3) e)
  where
    first : ((m == 0) ≡ true) ⊎ ((m == 1) ≡ true) → (m < 4) × (m ≢ 2)
    first (inl f) = let is : m ≡ 0 = eqb-true m 0 f in (omega arith, λ g. omega arith)
    first (inr f) = let is : m ≡ 1 = eqb-true m 1 f in (omega arith, λ g. omega arith)

    last : (((m == 0) || (m == 1)) ≡ true) ⊎ ((m == 3) ≡ true) → (m < 4) × (m ≢ 2)
    last (inl f) = first (or_cases (m == 0) (m == 1) f)
    last (inr f) = let is : m ≡ 3 = eqb-true m 3 f in (omega arith, λ g. omega arith)

not_so : (b : Bool) → not b ≡ true → b ≡ true → ⊥
not_so true e = λ f. cc
not_so false e = λ f. cc

pub fits_hart_tells : (r : Regs) → fits_hart r ≡ true → FitsHart r
fits_hart_tells r f =
    let p12 = and_parts _ _ f in
    let p11 = and_parts _ _ p12.0 in
    let p10 = and_parts _ _ p11.0 in
    let p9 = and_parts _ _ p10.0 in
    let p8 = and_parts _ _ p9.0 in
    let p7 = and_parts _ _ p8.0 in
    let p6 = and_parts _ _ p7.0 in
    let p5 = and_parts _ _ p6.0 in
    let p4 = and_parts _ _ p5.0 in
    let p3 = and_parts _ _ p4.0 in
    let p2 = and_parts _ _ p3.0 in
    let p1 = and_parts _ _ p2.0 in
    record {
      aligned = eqb-true (r.pc % 4) 0 p1.0;
      mode_fits = (real_mode r.mode p1.1).0;
      mode_real = (real_mode r.mode p1.1).1;
      mstatus = eqb-true (bit_and r.mstatus mstatus_mask) r.mstatus p2.1;
      mpp = λ e. not_so (r.mstatus / 2048 % 4 == 2) p3.1 (eq-eqb (r.mstatus / 2048 % 4) 2 e);
      mtvec = ltb-true (r.mtvec % 4) 2 p4.1;
      mepc = eqb-true (r.mepc % 4) 0 p5.1;
      medeleg = eqb-true (bit_and r.medeleg medeleg_mask) r.medeleg p6.1;
      mideleg = eqb-true (bit_and r.mideleg mideleg_mask) r.mideleg p7.1;
      mie = eqb-true (bit_and r.mie interrupt_mask) r.mie p8.1;
      mip = eqb-true (bit_and r.mip interrupt_mask) r.mip p9.1;
      stvec = ltb-true (r.stvec % 4) 2 p10.1;
      sepc = eqb-true (r.sepc % 4) 0 p11.1;
      satp = eqb-true (bit_and r.satp satp_mask) r.satp p12.1;
    }
