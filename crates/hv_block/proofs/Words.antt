-- The words of a storage after registers were put into a block.
use Rattle.std.proofs.Common.{◌≡◌, ◌≢◌, ℕ, zero, suc, ◌+◌, ◌*◌, ◌<◌, ◌≤◌, ◌⊎◌, inl, inr, List, [], ◌∷◌, length, take, set, get_or, get_or-set_same, get_or-set_other, length-set, refl, ap, ◌∙◌, sym, arith}
use Rattle.std.proofs.Math.Seq.{sets, length-sets}
use Rattle.std.proofs.lemmas.Bool.{cases_order}
use Rattle.std.proofs.Math.Dec.{lit<}
use Rattle.hv_word.specs.Storage.{word_at, page_count}
use Rattle.hv_cpu.specs.Regs.{Regs, spelled}
use Rattle.hv_block.specs.Block.{put_regs, regs_at, IsOther}

-- a word outside those that are written
pub sets_outside : (vs l : List ℕ) (i k : ℕ) → (k < i) ⊎ (i + length vs ≤ k) → get_or (sets l i vs) k 0 ≡ get_or l k 0
sets_outside [] l i k h = refl
sets_outside (v ∷ vs) l i k h =
    let ne : k ≢ i = apart h in
    sets_outside vs (set l i v) (suc i) k (later h) ∙ get_or-set_other l i k v 0 ne
  where
    apart : (k < i) ⊎ (i + suc (length vs) ≤ k) → k ≢ i
    apart (inl e) = omega arith
    apart (inr e) = omega arith

    later : (k < i) ⊎ (i + suc (length vs) ≤ k) → (k < suc i) ⊎ (suc i + length vs ≤ k)
    later (inl e) = inl (omega arith)
    later (inr e) = inr (omega arith)

-- and one of those
pub sets_at : (vs l : List ℕ) (i k at : ℕ) → i + length vs ≤ length l → k < length vs → i + k ≡ at → get_or (sets l i vs) at 0 ≡ get_or vs k 0
sets_at [] l i k at fits h e = absurd (let n : k < 0 = h in omega arith)
sets_at (v ∷ vs) l i zero at fits h e =
    let here : i ≡ at = omega arith in
    let inside : i < length l = omega arith in
    ap (λ (p : ℕ). get_or (sets (set l i v) (suc i) vs) p 0) (sym here)
    ∙ sets_outside vs (set l i v) (suc i) i (inl (omega arith))
    ∙ get_or-set_same l i v 0 inside
sets_at (v ∷ vs) l i (suc k) at fits h e =
    let fits' : suc i + length vs ≤ length (set l i v) = omega (arith, length-set l i v) in
    sets_at vs (set l i v) (suc i) k at fits' (omega arith) (omega arith)

pub length-put_regs : (S : List ℕ) (g : ℕ) (r : Regs) → length (put_regs S g r) ≡ length S
length-put_regs S g r =
    length-set (sets S (1024 * g) (take 49 (spelled r))) (1024 * g + 64) r.next ∙ length-sets S (1024 * g) (take 49 (spelled r))

-- no other word changes
pub put_other : (S : List ℕ) (g : ℕ) (r : Regs) (x w : ℕ) → w < 1024 → (x ≢ g) ⊎ IsOther w → word_at (put_regs S g r) x w ≡ word_at S x w
put_other S g r x w h other =
    get_or-set_other (sets S (1024 * g) (take 49 (spelled r))) (1024 * g + 64) (1024 * x + w) r.next 0 (not_next other)
    ∙ sets_outside (take 49 (spelled r)) S (1024 * g) (1024 * x + w) (outside other)
  where
    not_next : (x ≢ g) ⊎ IsOther w → 1024 * x + w ≢ 1024 * g + 64
    not_next (inl e) = λ f. e (omega arith)
    not_next (inr e) = λ f. e.1 (omega arith)

    here : (x ≢ g) ⊎ IsOther w → x ≡ g → 49 ≤ w
    here (inl e) f = absurd (e f)
    here (inr e) f = e.0

    by_page : (x ≡ g) ⊎ ((x < g) ⊎ (g < x)) → (x ≡ g → 49 ≤ w) → (1024 * x + w < 1024 * g) ⊎ (1024 * g + 49 ≤ 1024 * x + w)
    by_page (inl e) f = inr (let n : 49 ≤ w = f e in omega arith)
    by_page (inr (inl lt)) f = inl (omega arith)
    by_page (inr (inr gt)) f = inr (omega arith)

    outside : (x ≢ g) ⊎ IsOther w → (1024 * x + w < 1024 * g) ⊎ (1024 * g + 49 ≤ 1024 * x + w)
    outside f = by_page (cases_order x g) (here f)

-- the registers are what the page says then
module _ (S : List ℕ) (g : ℕ) (r : Regs) (inside : g < page_count S) where
  word_back : (k : ℕ) → k < 49 → word_at (put_regs S g r) g k ≡ get_or (take 49 (spelled r)) k 0
  word_back k h =
      let ne : 1024 * g + k ≢ 1024 * g + 64 = omega arith in
      let fits : 1024 * g + 49 ≤ length S = omega arith in
      get_or-set_other (sets S (1024 * g) (take 49 (spelled r))) (1024 * g + 64) (1024 * g + k) r.next 0 ne
      ∙ sets_at (take 49 (spelled r)) S (1024 * g) k (1024 * g + k) fits h refl

  next_back : word_at (put_regs S g r) g 64 ≡ r.next
  next_back =
      let fits : 1024 * g + 64 < length (sets S (1024 * g) (take 49 (spelled r))) = omega (arith, length-sets S (1024 * g) (take 49 (spelled r))) in
      get_or-set_same (sets S (1024 * g) (take 49 (spelled r))) (1024 * g + 64) r.next 0 fits

  pub regs_back : regs_at (put_regs S g r) g ≡ r
  regs_back = λ i. record {
    pc = (word_back 0 (lit< tt)) i;
    x1 = (word_back 1 (lit< tt)) i;
    x2 = (word_back 2 (lit< tt)) i;
    x3 = (word_back 3 (lit< tt)) i;
    x4 = (word_back 4 (lit< tt)) i;
    x5 = (word_back 5 (lit< tt)) i;
    x6 = (word_back 6 (lit< tt)) i;
    x7 = (word_back 7 (lit< tt)) i;
    x8 = (word_back 8 (lit< tt)) i;
    x9 = (word_back 9 (lit< tt)) i;
    x10 = (word_back 10 (lit< tt)) i;
    x11 = (word_back 11 (lit< tt)) i;
    x12 = (word_back 12 (lit< tt)) i;
    x13 = (word_back 13 (lit< tt)) i;
    x14 = (word_back 14 (lit< tt)) i;
    x15 = (word_back 15 (lit< tt)) i;
    x16 = (word_back 16 (lit< tt)) i;
    x17 = (word_back 17 (lit< tt)) i;
    x18 = (word_back 18 (lit< tt)) i;
    x19 = (word_back 19 (lit< tt)) i;
    x20 = (word_back 20 (lit< tt)) i;
    x21 = (word_back 21 (lit< tt)) i;
    x22 = (word_back 22 (lit< tt)) i;
    x23 = (word_back 23 (lit< tt)) i;
    x24 = (word_back 24 (lit< tt)) i;
    x25 = (word_back 25 (lit< tt)) i;
    x26 = (word_back 26 (lit< tt)) i;
    x27 = (word_back 27 (lit< tt)) i;
    x28 = (word_back 28 (lit< tt)) i;
    x29 = (word_back 29 (lit< tt)) i;
    x30 = (word_back 30 (lit< tt)) i;
    x31 = (word_back 31 (lit< tt)) i;
    mode = (word_back 32 (lit< tt)) i;
    mstatus = (word_back 33 (lit< tt)) i;
    mtvec = (word_back 34 (lit< tt)) i;
    mepc = (word_back 35 (lit< tt)) i;
    mcause = (word_back 36 (lit< tt)) i;
    mtval = (word_back 37 (lit< tt)) i;
    mscratch = (word_back 38 (lit< tt)) i;
    medeleg = (word_back 39 (lit< tt)) i;
    mideleg = (word_back 40 (lit< tt)) i;
    mie = (word_back 41 (lit< tt)) i;
    mip = (word_back 42 (lit< tt)) i;
    stvec = (word_back 43 (lit< tt)) i;
    sepc = (word_back 44 (lit< tt)) i;
    scause = (word_back 45 (lit< tt)) i;
    stval = (word_back 46 (lit< tt)) i;
    sscratch = (word_back 47 (lit< tt)) i;
    satp = (word_back 48 (lit< tt)) i;
    next = next_back i;
  }
