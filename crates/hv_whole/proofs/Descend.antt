-- A step that goes down through the items: the machine at the end of them makes it, or one further out takes an interrupt.
use Rattle.std.proofs.Common.{◌≡◌, ℕ, zero, suc, ◌+◌, ◌<◌, ◌⊎◌, inl, inr, Bool, true, false, cond, ◌==◌, List, [], ◌∷◌, Option, Some, None, refl, ap, ◌∙◌, sym, subst, arith, slice_get}
use Rattle.std.proofs.lemmas.Bool.{and_parts, eqb-true}
use Rattle.std.proofs.lemmas.Option.{same_Some}
use Rattle.hv_word.specs.Storage.{word_at}
use Rattle.hv_cpu.specs.Regs.{Regs}
use Rattle.hv_csr.specs.Traps.{take_trap_of}
use Rattle.hv_csr.specs.Interrupts.{pending_of}
use Rattle.hv_store.specs.declared.access.Slot.{Slot}
use Rattle.hv_store.specs.declared.access.Way.{Way}
use Rattle.hv_store.specs.declared.access.Way.TheVariants.{Open, Shut}
use Rattle.hv_block.specs.Block.{regs_at}
use Rattle.hv_map.specs.Item.{Item}
use Rattle.hv_map.specs.Compose.{compose}
use Rattle.hv_map.specs.Chain.{along, child_next, run_on, running}
use Rattle.hv_map.specs.Words.{IsChild, Chained, syllables}
use Rattle.hv_map.proofs.Words.{follows}
use Rattle.hv_nest.specs.Step.{Stepped, Worked, Recalled, Faulted, Barred, idle, interrupt_of, put_back, step_on, step_of}
use Rattle.hv_nest.specs.Routing.{regs_along, hart_along}
use Rattle.hv_nest.specs.Watched.{begins}
use Rattle.hv_nest.proofs.Reasons.{next_some, resumed_goes}
use Rattle.hv_whole.proofs.Each.{more, deep, deep_is}

-- the step of the machine before the items, where X is that of the one at their end
unfoldable pub lifted : List ℕ → ℕ → List Item → Regs → Stepped → Stepped
lifted S j [] r X = X
lifted S j (x ∷ xs) r X = put_back S j r x.block (lifted S (j + 1) xs (regs_at S x.block) X)

-- a machine at a level below k took control back for an interrupt
abbrev pub LowRecall : ℕ → Stepped → Type 0
LowRecall k (Worked S r) = ⊥
LowRecall k (Recalled l S r) = l < k
LowRecall k (Faulted l c address a S r) = ⊥
LowRecall k (Barred e) = ⊥

page_in : Way → ℕ
page_in (Open g) = g
page_in (Shut l c p w) = 0

-- two children on one page are the same
same_child : (S : List ℕ) (F : List Slot) (x y : Item) → x.syllable ≡ y.syllable → IsChild S F x → IsChild S F y → y ≡ x
unfolding page_in
same_child S F x y e a b =
    let slot : b.slot ≡ a.slot = same_Some b.slot a.slot (sym b.there ∙ ap (slice_get F) (sym e) ∙ a.there) in
    let block : y.block ≡ x.block = ap page_in (sym b.writes ∙ ap (λ (s : Slot). s.write) slot ∙ a.writes) in
    let pages : y.pages ≡ x.pages = sym b.pages ∙ ap (λ (g : ℕ). word_at S g 65) block ∙ a.pages in
    let table : y.table ≡ x.table = sym b.table ∙ ap (λ (g : ℕ). word_at S g 66) block ∙ a.table in
    let version : y.version ≡ x.version = sym b.version ∙ ap (λ (g : ℕ). word_at S g 67) block ∙ a.version in
    λ i. record { syllable = (sym e) i; block = block i; pages = pages i; table = table i; version = version i }

-- the next that is a child's
next_follows : (S : List ℕ) (F : List Slot) (s : ℕ) (y : Item) → child_next S F s ≡ Some y → IsChild S F y
next_follows S F zero y e = absurd (let f : None ≡ Some y = e in cc)
next_follows S F (suc s) y e = (follows S F (suc s) y e).child

-- a running path that begins with the page of a child goes on in that child
record GoesInto (n : ℕ) (S : List ℕ) (F : List Slot) (j : ℕ) (x : Item) (xs : List Item) (r : Regs) : Type 0 where
  child : child_next S F r.next ≡ Some x
  rest : begins (syllables xs) (running n S (compose S F j x.pages x.table x.version) (j + 1) (regs_at S x.block)) ≡ true

goes : (n : ℕ) (S : List ℕ) (F : List Slot) (j : ℕ) (x : Item) (xs : List Item) (r : Regs) → IsChild S F x → begins (syllables (x ∷ xs)) (running (suc n) S F j r) ≡ true → GoesInto n S F j x xs r
unfolding running
goes n S F j x xs r child e = go (child_next S F r.next) refl e
  where
    go : (o : Option Item) → child_next S F r.next ≡ o → begins (syllables (x ∷ xs)) (run_on (running n) S F j o) ≡ true → GoesInto n S F j x xs r
    go None is f = absurd (let h : false ≡ true = f in cc)
    go (Some y) is f =
        let parts = and_parts (x.syllable == y.syllable) (begins (syllables xs) (running n S (compose S F j y.pages y.table y.version) (j + 1) (regs_at S y.block))) f in
        let same : y ≡ x = same_child S F x y (eqb-true x.syllable y.syllable parts.0) child (next_follows S F r.next y is) in
        record {
          child = is ∙ ap Some same;
          rest = subst (λ (z : Item). begins (syllables xs) (running n S (compose S F j z.pages z.table z.version) (j + 1) (regs_at S z.block)) ≡ true) same parts.1;
        }

-- a machine that runs a child takes control back for an interrupt
interrupts : (S : List ℕ) (F : List Slot) (j k : ℕ) (r : Regs) (x : Item) (p : ℕ) → j < k → child_next S F r.next ≡ Some x → LowRecall k (interrupt_of S j r p)
interrupts S F j k r x p lt e = go r.next e
  where
    go : (s : ℕ) → child_next S F s ≡ Some x → LowRecall k (cond (s == 0) (Worked S (take_trap_of r p true 0)) (Recalled j S (idle r)))
    go zero f = absurd (let h : None ≡ Some x = f in cc)
    go (suc s) f = subst (λ (b : Bool). LowRecall k (cond b (Worked S (take_trap_of r p true 0)) (Recalled j S (idle r)))) (sym (next_some s)) lt

put_low : (S : List ℕ) (j k : ℕ) (r : Regs) (g : ℕ) (X : Stepped) → LowRecall k X → LowRecall k (put_back S j r g X)
put_low S j k r g (Worked T q) h = absurd h
put_low S j k r g (Recalled l T q) h = h
put_low S j k r g (Faulted l c a b T q) h = absurd h
put_low S j k r g (Barred e) h = absurd h

pub hart_same : (xs : List Item) → hart_along xs 0 ≡ 0
hart_same [] = refl
hart_same (x ∷ xs) = refl

-- the step of the machine at the end of the items, where there may be m more levels below it
unfoldable pub at_end : ℕ → List ℕ → List Slot → ℕ → List Item → ℕ → Regs → Stepped
at_end m S F j items hart r = step_of m S (along S F j items) (deep j items) (hart_along items hart) (regs_along S items r)

one_down : (n m : ℕ) (S : List ℕ) (F : List Slot) (j hart : ℕ) (r : Regs) (x : Item) (xs : List Item) → child_next S F r.next ≡ Some x
    → LowRecall (deep (j + 1) xs) (step_of n S (compose S F j x.pages x.table x.version) (j + 1) 0 (regs_at S x.block))
    ⊎ (step_of n S (compose S F j x.pages x.table x.version) (j + 1) 0 (regs_at S x.block) ≡ lifted S (j + 1) xs (regs_at S x.block) (at_end m S (compose S F j x.pages x.table x.version) (j + 1) xs 0 (regs_at S x.block)))
    → LowRecall (deep (j + 1) xs) (step_of (suc n) S F j hart r)
    ⊎ (step_of (suc n) S F j hart r ≡ put_back S j r x.block (lifted S (j + 1) xs (regs_at S x.block) (at_end m S (compose S F j x.pages x.table x.version) (j + 1) xs 0 (regs_at S x.block))))
unfolding step_of
one_down n m S F j hart r x xs child h = by (pending_of r)
  where
    below : (k : ℕ) → k ≡ deep (j + 1) xs → j < k
    below k e = omega (arith, deep_is (j + 1) xs)

    by : (p : Option ℕ) → LowRecall (deep (j + 1) xs) (step_on (Some (step_of n)) S F j hart r p)
        ⊎ (step_on (Some (step_of n)) S F j hart r p ≡ put_back S j r x.block (lifted S (j + 1) xs (regs_at S x.block) (at_end m S (compose S F j x.pages x.table x.version) (j + 1) xs 0 (regs_at S x.block))))
    by (Some p) = inl (interrupts S F j (deep (j + 1) xs) r x p (below (deep (j + 1) xs) refl) child)
    by None = at h
      where
        at : LowRecall (deep (j + 1) xs) (step_of n S (compose S F j x.pages x.table x.version) (j + 1) 0 (regs_at S x.block))
            ⊎ (step_of n S (compose S F j x.pages x.table x.version) (j + 1) 0 (regs_at S x.block) ≡ lifted S (j + 1) xs (regs_at S x.block) (at_end m S (compose S F j x.pages x.table x.version) (j + 1) xs 0 (regs_at S x.block)))
            → LowRecall (deep (j + 1) xs) (step_on (Some (step_of n)) S F j hart r None)
            ⊎ (step_on (Some (step_of n)) S F j hart r None ≡ put_back S j r x.block (lifted S (j + 1) xs (regs_at S x.block) (at_end m S (compose S F j x.pages x.table x.version) (j + 1) xs 0 (regs_at S x.block))))
        at (inl low) = inl (subst (LowRecall (deep (j + 1) xs)) (sym (resumed_goes (step_of n) S F j hart r x child)) (put_low S j (deep (j + 1) xs) r x.block (step_of n S (compose S F j x.pages x.table x.version) (j + 1) 0 (regs_at S x.block)) low))
        at (inr is) = inr (resumed_goes (step_of n) S F j hart r x child ∙ ap (put_back S j r x.block) is)

pub descended : (m : ℕ) (S : List ℕ) (items : List Item) (F : List Slot) (j hart : ℕ) (r : Regs) → Chained S F j items
    → begins (syllables items) (running (more items m) S F j r) ≡ true
    → LowRecall (deep j items) (step_of (more items m) S F j hart r)
    ⊎ (step_of (more items m) S F j hart r ≡ lifted S j items r (at_end m S F j items hart r))
unfolding more deep lifted along at_end
descended m S [] F j hart r chained e = inr refl
descended m S (x ∷ xs) F j hart r chained e =
    let g = goes (more xs m) S F j x xs r chained.0 e in
    let d = one_down (more xs m) m S F j hart r x xs g.child (descended m S xs (compose S F j x.pages x.table x.version) (j + 1) 0 (regs_at S x.block) chained.1 g.rest) in
    subst (λ (h : ℕ). LowRecall (deep (j + 1) xs) (step_of (suc (more xs m)) S F j hart r)
    ⊎ (step_of (suc (more xs m)) S F j hart r ≡ put_back S j r x.block (lifted S (j + 1) xs (regs_at S x.block) (step_of m S (along S (compose S F j x.pages x.table x.version) (j + 1) xs) (deep (j + 1) xs) h (regs_along S xs (regs_at S x.block))))))
    (hart_same xs) d
