-- Which words of the registers stay as they were: what an instruction tells of them holds.
use Rattle.std.proofs.Common.{◌≡◌, ◌≢◌, ℕ, zero, suc, ◌+◌, ◌==◌, Bool, true, false, cond, List, [], ◌∷◌, drop, map, set, get_or, Some, None, refl, ap, sym, subst, ◌∙◌, arith, get_or-set_other}
use Rattle.std.specs.Prelude.{◌||◌, slice_index}
use Rattle.std.proofs.lemmas.Bool.{eqb-false, ne_eqb}
use Rattle.std.proofs.lemmas.Option.{same_Some}
use Rattle.hv_word.specs.Words.{field_of, has}
use Rattle.hv_cpu.specs.Regs.{Regs, with_reg, spelled}
use Rattle.hv_csr.specs.Traps.{goes_down, cause_word, handler_of, entered_m, entered_s, take_trap_of, left_m, left_s, unprivileged, mret_of, may_sret, sret_of}
use Rattle.hv_exec.specs.Arithmetic.{sum_of}
use Rattle.hv_exec.specs.Answer.{advanced, given}
use Rattle.hv_exec.specs.Touched.{AreAsBut}
use Rattle.hv_exec.proofs.Few.{set_all, with_some, trap_down, trap_up, by_mret, by_sret}

none_of : (s t : Bool) → (s || t) ≡ false → (s ≡ false) × (t ≡ false)
none_of true t e = absurd (no e)
  where
    no : true ≡ false → ⊥
    no f = cc
none_of false t e = (refl, e)

-- words that are set leave those at other places
all_other : (ys : List ℕ) (ps : List (ℕ × ℕ)) (k : ℕ) → has k (map (λ (p : ℕ × ℕ). p.0) ps) ≡ false → get_or (set_all ys ps) k 0 ≡ get_or ys k 0
unfolding set_all
all_other ys [] k h = refl
all_other ys (p ∷ ps) k h =
    let parts = none_of (k == p.0) (has k (map (λ (q : ℕ × ℕ). q.0) ps)) h in
    all_other (set ys p.0 p.1) ps k parts.1 ∙ get_or-set_other ys p.0 k p.1 0 (eqb-false k p.0 parts.0)

some_other : (n : ℕ) (ys : List ℕ) (k i v j : ℕ) → k + j ≢ i → get_or (with_some n ys k i v) j 0 ≡ get_or ys j 0
unfolding with_some
some_other zero ys k i v j h = refl
some_other (suc n) [] k i v j h = refl
some_other (suc n) (y ∷ ys) k i v zero h =
    let ne : i ≢ k = omega arith in
    ap (λ (t : Bool). cond t v y) (ne_eqb i k ne)
some_other (suc n) (y ∷ ys) k i v (suc j) h = some_other n ys (suc k) i v j (omega arith)

same : (words : List ℕ) (r : Regs) → AreAsBut words r r
same words r = record { others = λ k h. refl }

-- the words of a list are set, one behind the other
all_besides : (r q : Regs) (ps : List (ℕ × ℕ)) → spelled q ≡ set_all (spelled r) ps → AreAsBut (map (λ (p : ℕ × ℕ). p.0) ps) r q
all_besides r q ps e = record { others = λ k h. ap (λ (ws : List ℕ). get_or ws k 0) e ∙ all_other (spelled r) ps k h }

-- the program counter is set besides
pc_besides : (words : List ℕ) (r q : Regs) (x : ℕ) → AreAsBut words r q → AreAsBut (0 ∷ words) r (record q { pc = x })
pc_besides words r q x a = record { others = stays }
  where
    stays : (k : ℕ) → has k (0 ∷ words) ≡ false → slice_index (spelled (record q { pc = x })) k ≡ slice_index (spelled r) k
    stays k h =
        let parts = none_of (k == 0) (has k words) h in
        get_or-set_other (spelled q) 0 k x 0 (eqb-false k 0 parts.0) ∙ a.others k parts.1

reg_other : (q : Regs) (i v k : ℕ) → k ≢ i → get_or (spelled (with_reg q i v)) k 0 ≡ get_or (spelled q) k 0
unfolding with_some
reg_other q i v zero ne = refl
reg_other q i v (suc k) ne = some_other 31 (drop 1 (spelled q)) 1 i v k (omega arith)

-- a register is set besides
reg_besides : (words : List ℕ) (r q : Regs) (i v : ℕ) → AreAsBut words r q → AreAsBut (i ∷ words) r (with_reg q i v)
reg_besides words r q i v a = record { others = stays }
  where
    stays : (k : ℕ) → has k (i ∷ words) ≡ false → slice_index (spelled (with_reg q i v)) k ≡ slice_index (spelled r) k
    stays k h =
        let parts = none_of (k == i) (has k words) h in
        reg_other q i v k (eqb-false k i parts.0) ∙ a.others k parts.1

-- a register and the program counter
pub file_leaves : (r q : Regs) (i v x : ℕ) → q ≡ record (with_reg r i v) { pc = x } → AreAsBut (0 ∷ i ∷ []) r q
file_leaves r q i v x e =
    subst (AreAsBut (0 ∷ i ∷ []) r) (sym e) (pc_besides (i ∷ []) r (with_reg r i v) x (reg_besides [] r r i v (same [] r)))

-- a value goes into a register
pub given_leaves : (r q : Regs) (i v : ℕ) → q ≡ given r i v → AreAsBut (0 ∷ i ∷ []) r q
unfolding given advanced
given_leaves r q i v e = file_leaves r q i v (sum_of r.pc 4) e

-- the program counter alone
pub pc_leaves : (r q : Regs) (x : ℕ) → q ≡ record r { pc = x } → AreAsBut (0 ∷ 0 ∷ []) r q
pc_leaves r q x e = subst (AreAsBut (0 ∷ 0 ∷ []) r) (sym e) (pc_besides (0 ∷ []) r r x (same (0 ∷ []) r))

-- a control register, another register and the program counter
pub csr_leaves : (r p q : Regs) (i w v : ℕ) → ((k : ℕ) → k ≢ w → slice_index (spelled p) k ≡ slice_index (spelled r) k)
    → q ≡ given p i v → AreAsBut (0 ∷ i ∷ w ∷ []) r q
unfolding given advanced
csr_leaves r p q i w v stay e =
    subst (AreAsBut (0 ∷ i ∷ w ∷ []) r) (sym e) (pc_besides (i ∷ w ∷ []) r (with_reg p i v) (sum_of p.pc 4) (reg_besides (w ∷ []) r p i v written))
  where
    written : AreAsBut (w ∷ []) r p
    written = record { others = λ k h. stay k (eqb-false k w (none_of (k == w) false h).0) }

-- a trap to M
pub trap_up_leaves : (r q : Regs) (cause tval : ℕ) → q ≡ take_trap_of r cause false tval → q.mode ≡ 3 → AreAsBut (0 ∷ 32 ∷ 33 ∷ 35 ∷ 36 ∷ 37 ∷ []) r q
unfolding set_all
trap_up_leaves r q cause tval e m = by (goes_down r cause false) e
  where
    by : (t : Bool) → q ≡ cond t (trap_down r cause false tval) (trap_up r cause false tval) → AreAsBut (0 ∷ 32 ∷ 33 ∷ 35 ∷ 36 ∷ 37 ∷ []) r q
    by true f =
        let one : q.mode ≡ 1 = ap (λ (p : Regs). p.mode) f in
        absurd (omega arith)
    by false f = all_besides r q ((0, handler_of r.mtvec cause false) ∷ (32, 3) ∷ (33, entered_m r.mstatus r.mode) ∷ (35, r.pc) ∷ (36, cause_word cause false) ∷ (37, tval) ∷ []) (ap spelled f)

-- a trap to S
pub trap_down_leaves : (r q : Regs) (cause tval : ℕ) → q ≡ take_trap_of r cause false tval → q.mode ≢ 3 → AreAsBut (0 ∷ 32 ∷ 33 ∷ 44 ∷ 45 ∷ 46 ∷ []) r q
unfolding set_all
trap_down_leaves r q cause tval e m = by (goes_down r cause false) e
  where
    by : (t : Bool) → q ≡ cond t (trap_down r cause false tval) (trap_up r cause false tval) → AreAsBut (0 ∷ 32 ∷ 33 ∷ 44 ∷ 45 ∷ 46 ∷ []) r q
    by true f = all_besides r q ((0, handler_of r.stvec cause false) ∷ (32, 1) ∷ (33, entered_s r.mstatus r.mode) ∷ (44, r.pc) ∷ (45, cause_word cause false) ∷ (46, tval) ∷ []) (ap spelled f)
    by false f =
        let three : q.mode ≡ 3 = ap (λ (p : Regs). p.mode) f in
        absurd (m three)

-- MRET
pub mret_leaves : (r q : Regs) → Some q ≡ mret_of r → AreAsBut (0 ∷ 32 ∷ 33 ∷ []) r q
unfolding set_all
mret_leaves r q e = by (r.mode == 3) e
  where
    by : (t : Bool) → Some q ≡ cond t (Some (by_mret r)) None → AreAsBut (0 ∷ 32 ∷ 33 ∷ []) r q
    by true f = all_besides r q ((0, r.mepc) ∷ (32, field_of r.mstatus 11 2) ∷ (33, unprivileged (left_m r.mstatus) (field_of r.mstatus 11 2)) ∷ []) (ap spelled (same_Some q (by_mret r) f))
    by false f = absurd (some_none f)
      where
        some_none : Some q ≡ None → ⊥
        some_none g = cc

-- SRET
pub sret_leaves : (r q : Regs) → Some q ≡ sret_of r → AreAsBut (0 ∷ 32 ∷ 33 ∷ []) r q
unfolding set_all
sret_leaves r q e = by (may_sret r) e
  where
    by : (t : Bool) → Some q ≡ cond t (Some (by_sret r)) None → AreAsBut (0 ∷ 32 ∷ 33 ∷ []) r q
    by true f = all_besides r q ((0, r.sepc) ∷ (32, field_of r.mstatus 8 1) ∷ (33, unprivileged (left_s r.mstatus) (field_of r.mstatus 8 1)) ∷ []) (ap spelled (same_Some q (by_sret r) f))
    by false f = absurd (some_none f)
      where
        some_none : Some q ≡ None → ⊥
        some_none g = cc
