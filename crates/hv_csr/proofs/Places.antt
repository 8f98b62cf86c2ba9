-- Which word of the registers a write of a control register can change.
use Rattle.std.proofs.Common.{◌≡◌, ◌≢◌, ℕ, Bool, true, false, cond, List, Some, None, set, get_or, get_or-set_other, refl, sym, ap, ◌∙◌, bit_and}
use Rattle.std.specs.Prelude.{slice_index, ◌||◌}
use Rattle.std.proofs.lemmas.Option.{same_Some}
use Rattle.hv_cpu.specs.Masks.{medeleg_mask, mideleg_mask, interrupt_mask, satp_mask}
use Rattle.hv_cpu.specs.Regs.{Regs, spelled}
use Rattle.hv_csr.specs.declared.csr.Csr.{Csr}
use Rattle.hv_csr.specs.declared.csr.Csr.TheVariants.{Sstatus, Sie, Stvec, Scounteren, Sscratch, Sepc, Scause, Stval, Sip, Satp, Mstatus, Misa, Medeleg, Mideleg, Mie, Mtvec, Mcounteren, Mstatush, Mscratch, Mepc, Mcause, Mtval, Mip, Mvendorid, Marchid, Mimpid, Mhartid}
use Rattle.hv_csr.specs.Table.{row_of, csr_of, sstatus_mask, ssi, mip_writable, merge, vector, on_word, status_of}
use Rattle.hv_csr.specs.Access.{is_barred, is_read_only, write_at, csr_write_of}

-- from the registers r to q no word but the one at w changed
abbrev pub OthersStay : ℕ → Regs → Regs → Type 0
OthersStay w r q = (k : ℕ) → k ≢ w → slice_index (spelled q) k ≡ slice_index (spelled r) k

-- one word of them is set
one_set : (r q : Regs) (w x : ℕ) → spelled q ≡ set (spelled r) w x → OthersStay w r q
one_set r q w x e k ne = ap (λ (ws : List ℕ). get_or ws k 0) e ∙ get_or-set_other (spelled r) w k x 0 ne

-- the place of the word that a write changes
abbrev pub place : Csr → ℕ
place Sstatus = 33
place Sie = 41
place Stvec = 43
place Scounteren = 0
place Sscratch = 47
place Sepc = 44
place Scause = 45
place Stval = 46
place Sip = 42
place Satp = 48
place Mstatus = 33
place Misa = 0
place Medeleg = 39
place Mideleg = 40
place Mie = 41
place Mtvec = 34
place Mcounteren = 0
place Mstatush = 0
place Mscratch = 38
place Mepc = 35
place Mcause = 36
place Mtval = 37
place Mip = 42
place Mvendorid = 0
place Marchid = 0
place Mimpid = 0
place Mhartid = 0

-- a write changes no other word
pub others_stay : (c : Csr) (w : ℕ) → w ≡ place c → (r : Regs) (v : ℕ) → OthersStay w r ((row_of c).write r v)
others_stay c w e r v = λ k ne. by c k (λ f. ne (f ∙ sym e))
  where
    by : (c : Csr) → OthersStay (place c) r ((row_of c).write r v)
    by Sstatus = one_set r ((row_of Sstatus).write r v) 33 (merge r.mstatus sstatus_mask v) refl
    by Sie = one_set r ((row_of Sie).write r v) 41 (merge r.mie r.mideleg v) refl
    by Stvec = one_set r ((row_of Stvec).write r v) 43 (vector v) refl
    by Scounteren = λ k ne. refl
    by Sscratch = one_set r ((row_of Sscratch).write r v) 47 v refl
    by Sepc = one_set r ((row_of Sepc).write r v) 44 (on_word v) refl
    by Scause = one_set r ((row_of Scause).write r v) 45 v refl
    by Stval = one_set r ((row_of Stval).write r v) 46 v refl
    by Sip = one_set r ((row_of Sip).write r v) 42 (merge r.mip (bit_and r.mideleg ssi) v) refl
    by Satp = one_set r ((row_of Satp).write r v) 48 (bit_and v satp_mask) refl
    by Mstatus = one_set r ((row_of Mstatus).write r v) 33 (status_of r.mstatus v) refl
    by Misa = λ k ne. refl
    by Medeleg = one_set r ((row_of Medeleg).write r v) 39 (bit_and v medeleg_mask) refl
    by Mideleg = one_set r ((row_of Mideleg).write r v) 40 (bit_and v mideleg_mask) refl
    by Mie = one_set r ((row_of Mie).write r v) 41 (bit_and v interrupt_mask) refl
    by Mtvec = one_set r ((row_of Mtvec).write r v) 34 (vector v) refl
    by Mcounteren = λ k ne. refl
    by Mstatush = λ k ne. refl
    by Mscratch = one_set r ((row_of Mscratch).write r v) 38 v refl
    by Mepc = one_set r ((row_of Mepc).write r v) 35 (on_word v) refl
    by Mcause = one_set r ((row_of Mcause).write r v) 36 v refl
    by Mtval = one_set r ((row_of Mtval).write r v) 37 v refl
    by Mip = one_set r ((row_of Mip).write r v) 42 (merge r.mip mip_writable v) refl
    by Mvendorid = λ k ne. refl
    by Marchid = λ k ne. refl
    by Mimpid = λ k ne. refl
    by Mhartid = λ k ne. refl

-- nor does a write by the register's number
pub written_leaves : (number w : ℕ) (c : Csr) → csr_of number ≡ Some c
    → ((r : Regs) (v : ℕ) → OthersStay w r ((row_of c).write r v))
    → (r q : Regs) (v k : ℕ) → csr_write_of r number v ≡ Some q → k ≢ w
    → slice_index (spelled q) k ≡ slice_index (spelled r) k
written_leaves number w c is stay r q v k wrote ne = by (is_barred r number || is_read_only number) wrote
  where
    none_some : None ≡ Some q → ⊥
    none_some e = cc

    by : (t : Bool) → cond t None (write_at r v (csr_of number)) ≡ Some q → slice_index (spelled q) k ≡ slice_index (spelled r) k
    by true e = absurd (none_some e)
    by false e =
        let same : (row_of c).write r v ≡ q = same_Some ((row_of c).write r v) q (ap (write_at r v) (sym is) ∙ e) in
        ap (λ (p : Regs). slice_index (spelled p) k) (sym same) ∙ stay r v k ne
