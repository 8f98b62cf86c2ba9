-- Registers written into the array, and the registers one by one.
use Rattle.std.proofs.Common.{◌≡◌, ◌≢◌, ℕ, suc, ◌<◌, ◌==◌, ◌⊎◌, inl, inr, true, false, cond, Bool, List, length, set, get_or, sym, ap, ◌∙◌, arith}
use Rattle.std.proofs.lemmas.Bool.Decides.{eqb_tells}
use Rattle.std.proofs.lemmas.List.{get_or-set_same, get_or-set_other}
use Rattle.hv_cpu.specs.declared.Cpu.TheInside.{Inside}
use Rattle.hv_cpu.specs.Regs.{with_reg}
use Rattle.hv_cpu.specs.View.{regs_of}

-- a word of the array behind x0, after register i was written and x0 made 0 again
put_at : (xs : List ℕ) (i k v : ℕ) → i < length xs → get_or (set (set xs i v) 0 0) (suc k) 0 ≡ cond (i == suc k) v (get_or xs (suc k) 0)
put_at xs i k v h = get_or-set_other (set xs i v) 0 (suc k) 0 0 (λ e. omega arith) ∙ by (eqb_tells i (suc k))
  where
    by : ((i == suc k ≡ true) × (i ≡ suc k)) ⊎ ((i == suc k ≡ false) × (i ≢ suc k)) → get_or (set xs i v) (suc k) 0 ≡ cond (i == suc k) v (get_or xs (suc k) 0)
    by (inl e) =
        ap (λ (n : ℕ). get_or (set xs i v) n 0) (sym e.1)
        ∙ get_or-set_same xs i v 0 h
        ∙ sym (ap (λ (b : Bool). cond b v (get_or xs (suc k) 0)) e.0)
    by (inr e) =
        get_or-set_other xs i (suc k) v 0 (λ f. e.1 (sym f))
        ∙ sym (ap (λ (b : Bool). cond b v (get_or xs (suc k) 0)) e.0)

pub regs_put : (a : Inside) (i v : ℕ) → i < length a.x → regs_of (record a { x = set (set a.x i v) 0 0 }) ≡ with_reg (regs_of a) i v
regs_put a i v h = λ j. record (regs_of a) {
  x1 = put_at a.x i 0 v h j;
  x2 = put_at a.x i 1 v h j;
  x3 = put_at a.x i 2 v h j;
  x4 = put_at a.x i 3 v h j;
  x5 = put_at a.x i 4 v h j;
  x6 = put_at a.x i 5 v h j;
  x7 = put_at a.x i 6 v h j;
  x8 = put_at a.x i 7 v h j;
  x9 = put_at a.x i 8 v h j;
  x10 = put_at a.x i 9 v h j;
  x11 = put_at a.x i 10 v h j;
  x12 = put_at a.x i 11 v h j;
  x13 = put_at a.x i 12 v h j;
  x14 = put_at a.x i 13 v h j;
  x15 = put_at a.x i 14 v h j;
  x16 = put_at a.x i 15 v h j;
  x17 = put_at a.x i 16 v h j;
  x18 = put_at a.x i 17 v h j;
  x19 = put_at a.x i 18 v h j;
  x20 = put_at a.x i 19 v h j;
  x21 = put_at a.x i 20 v h j;
  x22 = put_at a.x i 21 v h j;
  x23 = put_at a.x i 22 v h j;
  x24 = put_at a.x i 23 v h j;
  x25 = put_at a.x i 24 v h j;
  x26 = put_at a.x i 25 v h j;
  x27 = put_at a.x i 26 v h j;
  x28 = put_at a.x i 27 v h j;
  x29 = put_at a.x i 28 v h j;
  x30 = put_at a.x i 29 v h j;
  x31 = put_at a.x i 30 v h j;
}
