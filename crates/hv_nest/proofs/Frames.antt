-- A step changes only words that the running machine may write, and words of the blocks on the way to it.
use Rattle.std.proofs.Common.{◌≡◌, ◌≢◌, ℕ, zero, suc, ◌+◌, ◌*◌, ◌-◌, ◌<◌, ◌≤◌, ◌⊎◌, inl, inr, Bool, true, false, cond, ◌&&◌, List, [], ◌∷◌, length, take, set, get_or, Option, Some, None, refl, ap, ◌∙◌, sym, subst, arith, slice_get, get_or-set_other, lit<}
use Rattle.std.specs.Prelude.{◌==◌, ◌||◌, ◌/◌, ◌%◌, nat_le}
use Rattle.std.specs.Option.{option_and_then}
use Rattle.std.proofs.Math.Seq.{sets}
use Rattle.std.proofs.lemmas.Bool.{eq-eqb, eqb-true, eqb-false, le-leb, leb-true, leb-false}
use Rattle.std.proofs.lemmas.Option.{same_Some}
use Rattle.hv_word.specs.Storage.{page_count}
use Rattle.hv_cpu.specs.Regs.{Regs, spelled}
use Rattle.hv_csr.specs.Traps.{take_trap_of}
use Rattle.hv_csr.specs.Interrupts.{pending_of}
use Rattle.hv_store.specs.declared.access.Refusal.{Refusal}
use Rattle.hv_store.specs.declared.access.Slot.{Slot}
use Rattle.hv_store.specs.declared.access.Way.{Way}
use Rattle.hv_store.specs.declared.access.Way.TheVariants.{Open, Shut}
use Rattle.hv_store.specs.Access.{identity}
use Rattle.hv_exec.specs.Act.{Acted, Done, Refused, act_of}
use Rattle.hv_word.specs.Words.{has}
use Rattle.hv_exec.specs.Changes.{opens_for_writing, ChangesFew}
use Rattle.hv_exec.proofs.Few.{few_act, may_write}
use Rattle.hv_block.specs.Block.{Contents, regs_at, block_of, put_regs, with_fault, access_word}
use Rattle.hv_block.proofs.Blocks.{block_holds}
use Rattle.hv_map.specs.Item.{Item}
use Rattle.hv_map.specs.Compose.{compose}
use Rattle.hv_map.specs.Chain.{along, map_along, child_with, child_through, child_at, child_of, option_cons, machines, pin_of, child_next, run_on, running, running_path}
use Rattle.hv_limits.specs.Limits.{depth_limit}
use Rattle.hv_nest.specs.declared.outcome.StepKind.{StepKind}
use Rattle.hv_nest.specs.declared.outcome.StepKind.TheVariants.{Worked as WorkedKind, Recall, Fault}
use Rattle.hv_nest.specs.Kinds.{step_as}
use Rattle.hv_nest.specs.Step.{Stepped, Worked, Recalled, Faulted, Barred, Machine, idle, interrupt_of, act_step, tell_of, put_back, malformed, child_step, child_step_through, child_step_at, next_step, step_on, step_of, host_step_of}
use Rattle.hv_nest.specs.Frame.{is_kept_word, is_kept_in, is_kept_of, IsFramed, IsFramedBy}

true-false : true ≡ false → ⊥
true-false e = cc

false-true : false ≡ true → ⊥
false-true e = cc

-- a word that isn't kept in the block in page g isn't one of those that hold registers or faults
kept_at : (g k a : ℕ) → k < 1024 → is_kept_word k ≡ true → 1024 * g + k ≡ a → is_kept_in g a ≡ true
kept_at g k a h e is =
    let page : a / 1024 ≡ g = omega arith in
    let word : a % 1024 ≡ k = omega arith in
    ap (λ (t : Bool). t && is_kept_word (a % 1024)) (eq-eqb (a / 1024) g page) ∙ ap is_kept_word word ∙ e

low_kept : (k : ℕ) → k ≤ 48 → is_kept_word k ≡ true
low_kept k h = ap (λ (t : Bool). t || ((k == 64) || (nat_le 72 k && nat_le k 74))) (le-leb k 48 h)

sets_outside : (vs l : List ℕ) (i a : ℕ) → (a < i) ⊎ (i + length vs ≤ a) → get_or (sets l i vs) a 0 ≡ get_or l a 0
sets_outside [] l i a h = refl
sets_outside (v ∷ vs) l i a (inl h) =
    let ne : a ≢ i = omega arith in
    sets_outside vs (set l i v) (suc i) a (inl (omega arith)) ∙ get_or-set_other l i a v 0 ne
sets_outside (v ∷ vs) l i a (inr h) =
    let ne : a ≢ i = omega (arith, h) in
    let far : suc i + length vs ≤ a = omega (arith, h) in
    sets_outside vs (set l i v) (suc i) a (inr far) ∙ get_or-set_other l i a v 0 ne

either_side : (i n a : ℕ) → ((k : ℕ) → k < n → i + k ≡ a → ⊥) → (a < i) ⊎ (i + n ≤ a)
either_side i n a f = by (nat_le i a) refl (nat_le (i + n) a) refl
  where
    by : (s : Bool) → nat_le i a ≡ s → (t : Bool) → nat_le (i + n) a ≡ t → (a < i) ⊎ (i + n ≤ a)
    by false p t q = inl (leb-false i a p)
    by true p true q = inr (leb-true (i + n) a q)
    by true p false q =
        let le : i ≤ a = leb-true i a p in
        let lt : a < i + n = leb-false (i + n) a q in
        let inside : a - i < n = omega arith in
        let is : i + (a - i) ≡ a = omega arith in
        absurd (f (a - i) inside is)

pub put_elsewhere : (T : List ℕ) (g : ℕ) (q : Regs) (a : ℕ) → is_kept_in g a ≡ false → get_or (put_regs T g q) a 0 ≡ get_or T a 0
put_elsewhere T g q a e =
    let next : a ≢ 1024 * g + 64 = λ p. true-false (sym (kept_at g 64 a (lit< tt) refl (sym p)) ∙ e) in
    get_or-set_other (sets T (1024 * g) (take 49 (spelled q))) (1024 * g + 64) a q.next 0 next
    ∙ sets_outside (take 49 (spelled q)) T (1024 * g) a
    (either_side (1024 * g) 49 a (λ k h p. true-false (sym (kept_at g k a (omega (arith, h)) (low_kept k (omega (arith, h))) p) ∙ e)))

pub fault_elsewhere : (S : List ℕ) (g c p x a : ℕ) → is_kept_in g a ≡ false → get_or (with_fault S g c p x) a 0 ≡ get_or S a 0
fault_elsewhere S g c p x a e =
    let one : a ≢ 1024 * g + 72 = λ q. true-false (sym (kept_at g 72 a (lit< tt) refl (sym q)) ∙ e) in
    let two : a ≢ 1024 * g + 73 = λ q. true-false (sym (kept_at g 73 a (lit< tt) refl (sym q)) ∙ e) in
    let three : a ≢ 1024 * g + 74 = λ q. true-false (sym (kept_at g 74 a (lit< tt) refl (sym q)) ∙ e) in
    get_or-set_other (set (set S (1024 * g + 72) c) (1024 * g + 73) p) (1024 * g + 74) a x 0 three
    ∙ get_or-set_other (set S (1024 * g + 72) c) (1024 * g + 73) a p 0 two
    ∙ get_or-set_other S (1024 * g + 72) a c 0 one

-- a word of page g
kept_page : (g a : ℕ) → is_kept_in g a ≡ true → a / 1024 ≡ g
kept_page g a e = by (a / 1024 == g) refl e
  where
    by : (t : Bool) → (a / 1024 == g) ≡ t → (t && is_kept_word (a % 1024)) ≡ true → a / 1024 ≡ g
    by true p w = eqb-true (a / 1024) g p
    by false p w = absurd (false-true w)

-- what a step leaves, if it leaves something
FramedStep : List ℕ → List Slot → List Item → Stepped → Type 0
FramedStep S F items (Worked T q) = IsFramed S F items T
FramedStep S F items (Recalled l T q) = IsFramed S F items T
FramedStep S F items (Faulted l c p a T q) = IsFramed S F items T
FramedStep S F items (Barred e) = Unit {0}

framed_same : (S : List ℕ) (F : List Slot) (items : List Item) → IsFramed S F items S
framed_same S F items = λ a ne. absurd (ne refl)

framed_interrupted : (S : List ℕ) (F : List Slot) (items : List Item) (j : ℕ) (r : Regs) (k : ℕ) → FramedStep S F items (interrupt_of S j r k)
unfolding FramedStep
framed_interrupted S F items j r k = by (r.next == 0)
  where
    by : (t : Bool) → FramedStep S F items (cond t (Worked S (take_trap_of r k true 0)) (Recalled j S (idle r)))
    by true = framed_same S F items
    by false = framed_same S F items

or_left : (s t : Bool) → s ≡ true → (s || t) ≡ true
or_left s t e = ap (λ u. u || t) e

or_right : (s t : Bool) → t ≡ true → (s || t) ≡ true
or_right true t e = refl
or_right false t e = e

or_more : (o s t : Bool) → (o || t) ≡ true → (o || (s || t)) ≡ true
or_more true s t e = refl
or_more false s t e = or_right s t e

framed_acted : (S : List ℕ) (F : List Slot) (h : ℕ) (r : Regs) (items : List Item) → FramedStep S F items (act_step (act_of S F h r))
unfolding FramedStep
framed_acted S F h r items = by (act_of S F h r) (few_act S F h r)
  where
    by : (A : Acted) → ChangesFew S F r A → FramedStep S F items (act_step A)
    by (Refused e) f = tt
    by (Done T q) f = λ a ne. at a ne (has a f.0) refl
      where
        at : (a : ℕ) → get_or S a 0 ≢ get_or T a 0 → (t : Bool) → has a f.0 ≡ t → (opens_for_writing F (a / 1024) || is_kept_of items a) ≡ true
        at a ne true p = or_left (opens_for_writing F (a / 1024)) (is_kept_of items a) (f.4 a p)
        at a ne false p = absurd (ne (sym (f.2.elsewhere a p)))

-- a fault that is told in page g, which is the page of a block on the way, or may be written
framed_told : (S : List ℕ) (F : List Slot) (items : List Item) (j : ℕ) (r : Regs) (g : ℕ) (e : Refusal) → ((a : ℕ) → is_kept_in g a ≡ true → (opens_for_writing F (a / 1024) || is_kept_of items a) ≡ true) → FramedStep S F items (tell_of S j r g e)
unfolding FramedStep
framed_told S F items j r g e f = by (e.level == j)
  where
    T : List ℕ
    T = with_fault S g e.cause e.address (access_word e.access)

    at : (a : ℕ) → get_or S a 0 ≢ get_or (with_fault S g e.cause e.address (access_word e.access)) a 0 → (t : Bool) → is_kept_in g a ≡ t → (opens_for_writing F (a / 1024) || is_kept_of items a) ≡ true
    at a ne true p = f a p
    at a ne false p = absurd (ne (sym (fault_elsewhere S g e.cause e.address (access_word e.access) a p)))

    by : (t : Bool) → FramedStep S F items (cond t (Faulted j e.cause e.address e.access (with_fault S g e.cause e.address (access_word e.access)) (idle r)) (Barred e))
    by true = λ a ne. at a ne (is_kept_in g a) refl
    by false = tt

-- a child's step, with its registers put back
framed_back : (S : List ℕ) (F : List Slot) (items : List Item) (j : ℕ) (r : Regs) (x : Item) (X : Stepped) → FramedStep S F items X → FramedStep S F (x ∷ items) (put_back S j r x.block X)
unfolding FramedStep
framed_back S F items j r x X f = by X f
  where
    here : (a : ℕ) → is_kept_in x.block a ≡ true → (opens_for_writing F (a / 1024) || is_kept_of (x ∷ items) a) ≡ true
    here a p = or_right (opens_for_writing F (a / 1024)) (is_kept_of (x ∷ items) a) (or_left (is_kept_in x.block a) (is_kept_of items a) p)

    put : (T : List ℕ) (q : Regs) → IsFramed S F items T → IsFramed S F (x ∷ items) (put_regs T x.block q)
    put T q g = λ a ne. at a ne (is_kept_in x.block a) refl
      where
        at : (a : ℕ) → get_or S a 0 ≢ get_or (put_regs T x.block q) a 0 → (t : Bool) → is_kept_in x.block a ≡ t → (opens_for_writing F (a / 1024) || is_kept_of (x ∷ items) a) ≡ true
        at a ne true p = here a p
        at a ne false p =
            or_more (opens_for_writing F (a / 1024)) (is_kept_in x.block a) (is_kept_of items a)
            (g a (λ e. ne (e ∙ sym (put_elsewhere T x.block q a p))))

    by : (Y : Stepped) → FramedStep S F items Y → FramedStep S F (x ∷ items) (put_back S j r x.block Y)
    by (Worked T q) g = put T q g
    by (Recalled l T q) g = put T q g
    by (Faulted l c p a T q) g = put T q g
    by (Barred e) g = framed_told S F (x ∷ items) j r x.block e here

-- the machines on a path from a machine with the map F on, at level j, and what the step leaves
record Framing (S : List ℕ) (F : List Slot) (j : ℕ) (path : List ℕ) (X : Stepped) : Type 0 where
  items : List Item
  there : machines S F j path ≡ Some items
  frame : FramedStep S (along S F j items) items X

-- no machine runs
ends : (S : List ℕ) (F : List Slot) (j : ℕ) (X : Stepped) → FramedStep S F [] X → Framing S F j [] X
unfolding machines along
ends S F j X f = record { items = []; there = refl; frame = f }

real_next : (S : List ℕ) (F : List Slot) (s : ℕ) → s ≢ 0 → child_next S F s ≡ child_of S F s
real_next S F zero ne = absurd (ne refl)
real_next S F (suc s) ne = refl

no_child : (S : List ℕ) (F : List Slot) (j : ℕ) (r : Regs) (deeper : Machine) → child_of S F r.next ≡ None → FramedStep S F [] (child_step_at deeper S F j r (slice_get F r.next))
unfolding FramedStep
no_child S F j r deeper e = at (slice_get F r.next) refl e
  where
    some-none : (x : Item) → Some x ≡ None → ⊥
    some-none x p = cc

    contents : (g : ℕ) → opens_for_writing F g ≡ true → (o : Option Contents) → child_with r.next g o ≡ None → FramedStep S F [] (child_step deeper S F j r g o)
    contents g open_to None e =
        framed_told S F [] j r g (malformed j r.next)
        (λ a k. or_left (opens_for_writing F (a / 1024)) (is_kept_of [] a) (ap (opens_for_writing F) (kept_page g a k) ∙ open_to))
    contents g open_to (Some h) e = absurd (some-none record { syllable = r.next; block = g; pages = h.pages; table = h.table; version = h.version } e)

    through : (slot : Slot) → slice_get F r.next ≡ Some slot → (way : Way) → slot.write ≡ way → child_through S r.next way ≡ None → FramedStep S F [] (child_step_through deeper S F j r way)
    through slot is (Open g) w e = contents g (may_write F r.next slot g is w) (block_of S g) e
    through slot is (Shut l c p k) w e = tt

    at : (o : Option Slot) → slice_get F r.next ≡ o → child_at S r.next o ≡ None → FramedStep S F [] (child_step_at deeper S F j r o)
    at None is e = tt
    at (Some slot) is e = through slot is slot.write refl e

-- the child that runs is the one that its parent's next names
child_goes : (S : List ℕ) (F : List Slot) (j : ℕ) (r : Regs) (deeper : Machine) (x : Item) → child_of S F r.next ≡ Some x → child_step_at deeper S F j r (slice_get F r.next) ≡ put_back S j r x.block (deeper S (compose S F j x.pages x.table x.version) (j + 1) 0 (regs_at S x.block))
child_goes S F j r deeper x e = at (slice_get F r.next) e
  where
    none-some : None ≡ Some x → ⊥
    none-some p = cc

    contents : (g : ℕ) (o : Option Contents) → block_of S g ≡ o → child_with r.next g o ≡ Some x → child_step deeper S F j r g o ≡ put_back S j r x.block (deeper S (compose S F j x.pages x.table x.version) (j + 1) 0 (regs_at S x.block))
    contents g None is e = absurd (none-some e)
    contents g (Some h) is e =
        ap (λ (q : Regs). put_back S j r g (deeper S (compose S F j h.pages h.table h.version) (j + 1) 0 q)) (sym (ap (λ (k : Contents). k.regs) (block_holds S g h is).1))
        ∙ ap (λ (y : Item). put_back S j r y.block (deeper S (compose S F j y.pages y.table y.version) (j + 1) 0 (regs_at S y.block))) (same_Some record { syllable = r.next; block = g; pages = h.pages; table = h.table; version = h.version } x e)

    through : (way : Way) → child_through S r.next way ≡ Some x → child_step_through deeper S F j r way ≡ put_back S j r x.block (deeper S (compose S F j x.pages x.table x.version) (j + 1) 0 (regs_at S x.block))
    through (Open g) e = contents g (block_of S g) refl e
    through (Shut l c p k) e = absurd (none-some e)

    at : (o : Option Slot) → child_at S r.next o ≡ Some x → child_step_at deeper S F j r o ≡ put_back S j r x.block (deeper S (compose S F j x.pages x.table x.version) (j + 1) 0 (regs_at S x.block))
    at None e = absurd (none-some e)
    at (Some slot) e = through slot.write e

child_named : (S : List ℕ) (F : List Slot) (s : ℕ) (x : Item) → child_of S F s ≡ Some x → s ≡ x.syllable
child_named S F s x e = at (slice_get F s) e
  where
    none-some : None ≡ Some x → ⊥
    none-some p = cc

    contents : (g : ℕ) (o : Option Contents) → child_with s g o ≡ Some x → s ≡ x.syllable
    contents g None e = absurd (none-some e)
    contents g (Some h) e = ap (λ (y : Item). y.syllable) (same_Some record { syllable = s; block = g; pages = h.pages; table = h.table; version = h.version } x e)

    through : (way : Way) → child_through S s way ≡ Some x → s ≡ x.syllable
    through (Open g) e = contents g (block_of S g) e
    through (Shut l c p k) e = absurd (none-some e)

    at : (o : Option Slot) → child_at S s o ≡ Some x → s ≡ x.syllable
    at None e = absurd (none-some e)
    at (Some slot) e = through slot.write e

module _ (n : ℕ) (S : List ℕ) (F : List Slot) (j h : ℕ) (r : Regs) where
  stops : child_next S F r.next ≡ None → Framing S F j [] (step_on (Some (step_of n)) S F j h r (pending_of r))
  unfolding FramedStep
  stops e = ends S F j (step_on (Some (step_of n)) S F j h r (pending_of r)) (by (pending_of r))
    where
      going : (t : Bool) → (r.next == 0) ≡ t → FramedStep S F [] (cond t (act_step (act_of S F h r)) (next_step (Some (step_of n)) S F j r))
      going true z = framed_acted S F h r []
      going false z =
          let ne : r.next ≢ 0 = eqb-false r.next 0 z in
          no_child S F j r (step_of n) (sym (real_next S F r.next ne) ∙ e)

      by : (p : Option ℕ) → FramedStep S F [] (step_on (Some (step_of n)) S F j h r p)
      by (Some k) = framed_interrupted S F [] j r k
      by None = going (r.next == 0) refl

  goes_on : (x : Item) → child_next S F r.next ≡ Some x → Framing S (compose S F j x.pages x.table x.version) (j + 1) (running n S (compose S F j x.pages x.table x.version) (j + 1) (regs_at S x.block)) (step_of n S (compose S F j x.pages x.table x.version) (j + 1) 0 (regs_at S x.block)) → Framing S F j (x.syllable ∷ running n S (compose S F j x.pages x.table x.version) (j + 1) (regs_at S x.block)) (step_on (Some (step_of n)) S F j h r (pending_of r))
  unfolding machines along FramedStep
  goes_on x e d = record {
    items = x ∷ d.items;
    there =
        ap (option_and_then (λ (y : Item). option_cons y (machines S (compose S F j y.pages y.table y.version) (j + 1) (running n S (compose S F j x.pages x.table x.version) (j + 1) (regs_at S x.block))))) (ap (child_of S F) (sym (child_named S F r.next x here)) ∙ here)
        ∙ ap (option_cons x) d.there;
    frame = by (pending_of r);
  }
    where
      none-some : None ≡ Some x → ⊥
      none-some p = cc

      ne : r.next ≢ 0
      ne z = none-some (sym (ap (child_next S F) z) ∙ e)

      here : child_of S F r.next ≡ Some x
      here = sym (real_next S F r.next ne) ∙ e

      G : List Slot
      G = along S (compose S F j x.pages x.table x.version) (j + 1) d.items

      going : (t : Bool) → (r.next == 0) ≡ t → FramedStep S (along S (compose S F j x.pages x.table x.version) (j + 1) d.items) (x ∷ d.items) (cond t (act_step (act_of S F h r)) (next_step (Some (step_of n)) S F j r))
      going true z = absurd (ne (eqb-true r.next 0 z))
      going false z =
          subst (FramedStep S (along S (compose S F j x.pages x.table x.version) (j + 1) d.items) (x ∷ d.items)) (sym (child_goes S F j r (step_of n) x here))
          (framed_back S (along S (compose S F j x.pages x.table x.version) (j + 1) d.items) d.items j r x (step_of n S (compose S F j x.pages x.table x.version) (j + 1) 0 (regs_at S x.block)) d.frame)

      by : (p : Option ℕ) → FramedStep S (along S (compose S F j x.pages x.table x.version) (j + 1) d.items) (x ∷ d.items) (step_on (Some (step_of n)) S F j h r p)
      by (Some k) = framed_interrupted S (along S (compose S F j x.pages x.table x.version) (j + 1) d.items) (x ∷ d.items) j r k
      by None = going (r.next == 0) refl

  by_child : ((x : Item) → Framing S (compose S F j x.pages x.table x.version) (j + 1) (running n S (compose S F j x.pages x.table x.version) (j + 1) (regs_at S x.block)) (step_of n S (compose S F j x.pages x.table x.version) (j + 1) 0 (regs_at S x.block))) → (o : Option Item) → child_next S F r.next ≡ o → Framing S F j (run_on (running n) S F j o) (step_on (Some (step_of n)) S F j h r (pending_of r))
  by_child d None e = stops e
  by_child d (Some x) e = goes_on x e (d x)

framing : (n : ℕ) (S : List ℕ) (F : List Slot) (j h : ℕ) (r : Regs) → Framing S F j (running n S F j r) (step_of n S F j h r)
unfolding running step_of FramedStep
framing zero S F j h r = ends S F j (step_on None S F j h r (pending_of r)) (by (pending_of r))
  where
    going : (t : Bool) → FramedStep S F [] (cond t (act_step (act_of S F h r)) (next_step None S F j r))
    going true = framed_acted S F h r []
    going false = tt

    by : (p : Option ℕ) → FramedStep S F [] (step_on None S F j h r p)
    by (Some k) = framed_interrupted S F [] j r k
    by None = going (r.next == 0)
framing (suc n) S F j h r =
    by_child n S F j h r (λ x. framing n S (compose S F j x.pages x.table x.version) (j + 1) 0 (regs_at S x.block)) (child_next S F r.next) refl

-- a step of the bare machine
kept_kind : (S T : List ℕ) (G : List Slot) (items : List Item) (q : Regs) (kind : StepKind) → FramedStep S G items (step_as kind T q) → IsFramed S G items T
unfolding FramedStep
kept_kind S T G items q WorkedKind g = g
kept_kind S T G items q (Recall l) g = g
kept_kind S T G items q (Fault l c p a) g = g

pub host_framed : (S T : List ℕ) (h : ℕ) (r q : Regs) (kind : StepKind) → step_as kind T q ≡ host_step_of S h r → IsFramedBy S (running_path S r) T
unfolding host_step_of pin_of map_along IsFramedBy
host_framed S T h r q kind e =
    let f = framing depth_limit S (identity (page_count S)) 0 h r in
    (f.items, f.there, kept_kind S T (along S (identity (page_count S)) 0 f.items) f.items q kind (subst (FramedStep S (along S (identity (page_count S)) 0 f.items) f.items) (sym e) f.frame))
