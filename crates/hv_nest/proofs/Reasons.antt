-- The path that a step follows, and why the machine at its end comes to a refusal.
use Rattle.std.proofs.Common.{◌≡◌, ◌≢◌, ℕ, zero, suc, ◌+◌, ◌-◌, ◌<◌, ◌≤◌, Bool, true, false, cond, ◌&&◌, ◌==◌, is_none, List, [], ◌∷◌, length, Option, Some, None, refl, ap, ◌∙◌, sym, subst, arith, slice_get}
use Rattle.std.proofs.lemmas.Option.{same_Some}
use Rattle.std.proofs.lemmas.Bool.{eqb-true, eqb-false, ne_eqb}
use Rattle.hv_word.specs.Storage.{page_count}
use Rattle.hv_cpu.specs.Regs.{Regs}
use Rattle.hv_csr.specs.Traps.{take_trap_of}
use Rattle.hv_csr.specs.Interrupts.{pending_of}
use Rattle.hv_store.specs.declared.access.Access.TheVariants.{Write}
use Rattle.hv_store.specs.declared.access.Refusal.{Refusal}
use Rattle.hv_store.specs.declared.access.Slot.{Slot}
use Rattle.hv_store.specs.declared.access.Way.{Way}
use Rattle.hv_store.specs.declared.access.Way.TheVariants.{Open, Shut}
use Rattle.hv_store.specs.Access.{way_for, refused}
use Rattle.hv_exec.specs.Act.{Acted, Done, Refused, act_of}
use Rattle.hv_block.specs.Block.{Contents, block_of, regs_at, with_fault, access_word}
use Rattle.hv_block.proofs.Blocks.{block_holds, block_sized}
use Rattle.hv_map.specs.Item.{Item}
use Rattle.hv_map.specs.Compose.{compose}
use Rattle.hv_map.specs.Chain.{along, child_with, child_through, child_at, child_of, machines, child_next, run_on, running}
use Rattle.hv_map.specs.Carried.{ShutBelow}
use Rattle.hv_map.proofs.Assoc.{begins_from}
use Rattle.hv_map.proofs.Slots.{length-composed}
use Rattle.hv_map.proofs.Views.{composed_below}
use Rattle.hv_map.proofs.Words.{follows}
use Rattle.hv_nest.specs.Step.{Stepped, Worked, Recalled, Faulted, Barred, Machine, idle, interrupt_of, act_step, tell_of, put_back, malformed, too_deep, child_step, child_step_through, child_step_at, quiet_step, step_on, step_of}
use Rattle.hv_nest.specs.Asks.{Ask, asks, refusal_through, refusal_at, refusal_of, first_refused}
use Rattle.hv_nest.specs.Received.{HasBlock}
use Rattle.hv_nest.specs.Routing.{regs_along, hart_along, is_calm}
use Rattle.hv_nest.proofs.Received.{OpensInside, Received, composed_inside, writes_inside, worked_received, interrupted_received, told_received, put_received}
use Rattle.hv_nest.proofs.Refused.{first_refusal, act_refusal, act_refused}

-- the refusal that a step came to, whether it was told already or is passed on
abbrev pub reason_of : Stepped → Option Refusal
reason_of (Worked S r) = None
reason_of (Recalled l S r) = None
reason_of (Faulted l c address a S r) = Some record { level = l; cause = c; address = address; access = a }
reason_of (Barred e) = Some e

-- what is passed on is for a machine at a level below j
abbrev pub PassedBelow : ℕ → Stepped → Type 0
PassedBelow j (Worked S r) = Unit {0}
PassedBelow j (Recalled l S r) = Unit {0}
PassedBelow j (Faulted l c address a S r) = Unit {0}
PassedBelow j (Barred e) = e.level < j

-- the block of the child on page s can't be run
abbrev pub blocked_by : ℕ → ℕ → Option Contents → Option Refusal
blocked_by k s None = Some (malformed k s)
blocked_by k s (Some contents) = None

abbrev pub blocked_through : List ℕ → ℕ → ℕ → Way → Option Refusal
blocked_through S k s (Open g) = blocked_by k s (block_of S g)
blocked_through S k s (Shut l c p w) = Some (refused l c p w 0 Write)

abbrev pub blocked_at : List ℕ → ℕ → ℕ → Option Slot → Option Refusal
blocked_at S k s None = Some (too_deep s)
blocked_at S k s (Some slot) = blocked_through S k s slot.write

-- a machine that may have n more levels below it, and runs a child that can't be run
abbrev pub stopped : ℕ → List ℕ → List Slot → ℕ → ℕ → Option Refusal
stopped zero S F k s = Some (too_deep s)
stopped (suc n) S F k s = blocked_at S k s (slice_get F s)

-- why the machine at the end of a running path comes to a refusal
abbrev pub ended : ℕ → List ℕ → List Slot → ℕ → ℕ → Regs → Option Refusal
ended n S F k hart c = cond (c.next == 0) (first_refusal F (asks S F hart c)) (stopped n S F k c.next)

-- how many more levels there may be below the last of the items
abbrev pub left : ℕ → List Item → ℕ
left n [] = n
left zero (x ∷ xs) = zero
left (suc n) (x ∷ xs) = left n xs

abbrev pub level_along : ℕ → List Item → ℕ
level_along j [] = j
level_along j (x ∷ xs) = level_along (j + 1) xs

-- an interrupt is no refusal
interrupted_reason : (S : List ℕ) (j : ℕ) (r : Regs) (k : ℕ) → reason_of (interrupt_of S j r k) ≡ None
interrupted_reason S j r k = go (r.next == 0)
  where
    go : (b : Bool) → reason_of (cond b (Worked S (take_trap_of r k true 0)) (Recalled j S (idle r))) ≡ None
    go true = refl
    go false = refl

interrupted_below : (S : List ℕ) (j : ℕ) (r : Regs) (k : ℕ) → PassedBelow j (interrupt_of S j r k)
interrupted_below S j r k = go (r.next == 0)
  where
    go : (b : Bool) → PassedBelow j (cond b (Worked S (take_trap_of r k true 0)) (Recalled j S (idle r)))
    go true = tt
    go false = tt

worked_reason : (A : Acted) → reason_of (act_step A) ≡ act_refusal A
worked_reason (Done S r) = refl
worked_reason (Refused e) = refl

-- a refusal stays what it is on its way out
module _ (S : List ℕ) (j : ℕ) (r : Regs) (g : ℕ) (e : Refusal) where
  told_reason : reason_of (tell_of S j r g e) ≡ Some e
  told_reason = go (e.level == j) refl
    where
      go : (b : Bool) → (e.level == j) ≡ b → reason_of (cond b (Faulted j e.cause e.address e.access (with_fault S g e.cause e.address (access_word e.access)) (idle r)) (Barred e)) ≡ Some e
      go true is = ap (λ (k : ℕ). Some record { level = k; cause = e.cause; address = e.address; access = e.access }) (sym (eqb-true e.level j is))
      go false is = refl

  told_below : e.level < j + 1 → PassedBelow j (tell_of S j r g e)
  told_below h = go (e.level == j) refl
    where
      go : (b : Bool) → (e.level == j) ≡ b → PassedBelow j (cond b (Faulted j e.cause e.address e.access (with_fault S g e.cause e.address (access_word e.access)) (idle r)) (Barred e))
      go true is = tt
      go false is = let other : e.level ≢ j = eqb-false e.level j is in omega arith

put_reason : (S : List ℕ) (j : ℕ) (r : Regs) (g : ℕ) (X : Stepped) → reason_of (put_back S j r g X) ≡ reason_of X
put_reason S j r g (Worked T q) = refl
put_reason S j r g (Recalled l T q) = refl
put_reason S j r g (Faulted l c address a T q) = refl
put_reason S j r g (Barred e) = told_reason S j r g e

put_below : (S : List ℕ) (j : ℕ) (r : Regs) (g : ℕ) (X : Stepped) → PassedBelow (j + 1) X → PassedBelow j (put_back S j r g X)
put_below S j r g (Worked T q) h = tt
put_below S j r g (Recalled l T q) h = tt
put_below S j r g (Faulted l c address a T q) h = tt
put_below S j r g (Barred e) h = told_below S j r g e h

-- a refusal by a map whose ways are shut below j is for a machine below j
through_below : (j : ℕ) (way : Way) (k : ℕ) (a : Rattle.hv_store.specs.declared.access.Access.Access) (e : Refusal) → ((l c p : ℕ) (w : Option ℕ) → way ≡ Shut l c p w → l < j) → refusal_through way k a ≡ Some e → e.level < j
through_below j (Open g) k a e below is = absurd (let f : None ≡ Some e = is in cc)
through_below j (Shut l c p None) k a e below is =
    let same : l ≡ e.level = ap (λ (x : Refusal). x.level) (same_Some (refused l c p None k a) e is) in
    subst (λ (x : ℕ). x < j) same (below l c p None refl)
through_below j (Shut l c p (Some w)) k a e below is =
    let same : l ≡ e.level = ap (λ (x : Refusal). x.level) (same_Some (refused l c p (Some w) k a) e is) in
    subst (λ (x : ℕ). x < j) same (below l c p (Some w) refl)

pub refusal_below : (j : ℕ) (F : List Slot) (q : Ask) (e : Refusal) → ShutBelow j F → refusal_of F q ≡ Some e → e.level < j
refusal_below j F q e below = go (slice_get F q.page) refl
  where
    go : (o : Option Slot) → slice_get F q.page ≡ o → refusal_at o q.word q.access ≡ Some e → e.level < j
    go None there is = absurd (let f : None ≡ Some e = is in cc)
    go (Some s) there is = through_below j (way_for s q.access) q.word q.access e (λ l c p w shut. below q.page s q.access l c p w there shut) is

pub first_below : (j : ℕ) (F : List Slot) (qs : List Ask) (e : Refusal) → ShutBelow j F → first_refusal F qs ≡ Some e → e.level < j
first_below j F qs e below = go (first_refused F qs)
  where
    go : (o : Option Ask) → Rattle.std.specs.Option.option_and_then (refusal_of F) o ≡ Some e → e.level < j
    go None is = absurd (let f : None ≡ Some e = is in cc)
    go (Some q) is = refusal_below j F q e below is

worked_below : (j : ℕ) (A : Acted) → ((e : Refusal) → act_refusal A ≡ Some e → e.level < j) → PassedBelow j (act_step A)
worked_below j (Done S r) h = tt
worked_below j (Refused e) h = h e refl

acts_below : (S : List ℕ) (F : List Slot) (j hart : ℕ) (r : Regs) → ShutBelow j F → PassedBelow j (act_step (act_of S F hart r))
acts_below S F j hart r below = worked_below j (act_of S F hart r) (λ e is. first_below j F (asks S F hart r) e below (sym (act_refused S F r hart) ∙ is))

acts_reason : (S : List ℕ) (F : List Slot) (hart : ℕ) (r : Regs) → reason_of (act_step (act_of S F hart r)) ≡ first_refusal F (asks S F hart r)
acts_reason S F hart r = worked_reason (act_of S F hart r) ∙ act_refused S F r hart

-- a next is no 0
pub next_some : (s : ℕ) → (suc s == 0) ≡ false
next_some s = ne_eqb (suc s) 0 (λ e. absurd (omega arith))

-- the machine runs a child that can't be run
module _ (deeper : Machine) (S : List ℕ) (F : List Slot) (j hart : ℕ) (r : Regs) where
  contents_stop : (g s : ℕ) (o : Option Contents) → child_with s g o ≡ None → reason_of (child_step deeper S F j r g o) ≡ blocked_by j r.next o
  contents_stop g s None e = told_reason S j r g (malformed j r.next)
  contents_stop g s (Some contents) e = absurd (let f : Some record { syllable = s; block = g; pages = contents.pages; table = contents.table; version = contents.version } ≡ None = e in cc)

  through_stops : (s : ℕ) (way : Way) → child_through S s way ≡ None → reason_of (child_step_through deeper S F j r way) ≡ blocked_through S j r.next way
  through_stops s (Open g) e = contents_stop g s (block_of S g) e
  through_stops s (Shut l c p w) e = refl

  slot_stops : (s : ℕ) (o : Option Slot) → child_at S s o ≡ None → reason_of (child_step_at deeper S F j r o) ≡ blocked_at S j r.next o
  slot_stops s None e = refl
  slot_stops s (Some slot) e = through_stops s slot.write e

  contents_below : (g s : ℕ) (o : Option Contents) → child_with s g o ≡ None → PassedBelow j (child_step deeper S F j r g o)
  contents_below g s None e = told_below S j r g (malformed j r.next) (omega arith)
  contents_below g s (Some contents) e = absurd (let f : Some record { syllable = s; block = g; pages = contents.pages; table = contents.table; version = contents.version } ≡ None = e in cc)

  through_stops_below : (s : ℕ) (way : Way) → ((l c p : ℕ) (w : Option ℕ) → way ≡ Shut l c p w → l < j) → child_through S s way ≡ None → PassedBelow j (child_step_through deeper S F j r way)
  through_stops_below s (Open g) below e = contents_below g s (block_of S g) e
  through_stops_below s (Shut l c p None) below e = below l c p None refl
  through_stops_below s (Shut l c p (Some w)) below e = below l c p (Some w) refl

  slot_stops_below : ShutBelow j F → (s i : ℕ) → i < length F → (o : Option Slot) → slice_get F i ≡ o → child_at S s o ≡ None → PassedBelow j (child_step_at deeper S F j r o)
  slot_stops_below below s i inside None there e = absurd (outside there)
    where
      outside : slice_get F i ≡ None → ⊥
      outside none =
          let some = Rattle.std.proofs.lemmas.Option.slice_get-get_or F i (Rattle.hv_store.specs.Access.open_at 0) inside in
          let f : None ≡ Some (Rattle.std.proofs.Common.get_or F i (Rattle.hv_store.specs.Access.open_at 0)) = sym none ∙ some in
          cc
  slot_stops_below below s i inside (Some slot) there e =
      through_stops_below s slot.write (λ l c p w shut. below i slot Write l c p w there shut) e

  -- it runs a child that can be run
  contents_go : (g s : ℕ) (x : Item) (o : Option Contents) → block_of S g ≡ o → child_with s g o ≡ Some x
      → child_step deeper S F j r g o ≡ put_back S j r x.block (deeper S (compose S F j x.pages x.table x.version) (j + 1) 0 (regs_at S x.block))
  contents_go g s x None is e = absurd (let f : None ≡ Some x = e in cc)
  contents_go g s x (Some contents) is e =
      let regs : contents.regs ≡ regs_at S g = sym (ap (λ (h : Contents). h.regs) (block_holds S g contents is).1) in
      let item : record { syllable = s; block = g; pages = contents.pages; table = contents.table; version = contents.version } ≡ x = same_Some record { syllable = s; block = g; pages = contents.pages; table = contents.table; version = contents.version } x e in
      ap (λ (c : Regs). put_back S j r g (deeper S (compose S F j contents.pages contents.table contents.version) (j + 1) 0 c)) regs
      ∙ ap (λ (y : Item). put_back S j r y.block (deeper S (compose S F j y.pages y.table y.version) (j + 1) 0 (regs_at S y.block))) item

  through_goes : (s : ℕ) (x : Item) (way : Way) → child_through S s way ≡ Some x
      → child_step_through deeper S F j r way ≡ put_back S j r x.block (deeper S (compose S F j x.pages x.table x.version) (j + 1) 0 (regs_at S x.block))
  through_goes s x (Open g) e = contents_go g s x (block_of S g) refl e
  through_goes s x (Shut l c p w) e = absurd (let f : None ≡ Some x = e in cc)

  slot_goes : (s : ℕ) (x : Item) (o : Option Slot) → child_at S s o ≡ Some x
      → child_step_at deeper S F j r o ≡ put_back S j r x.block (deeper S (compose S F j x.pages x.table x.version) (j + 1) 0 (regs_at S x.block))
  slot_goes s x None e = absurd (let f : None ≡ Some x = e in cc)
  slot_goes s x (Some slot) e = through_goes s x slot.write e

  -- by whether it has a next
  pub resumed_stops : (n : ℕ) → child_next S F r.next ≡ None → reason_of (quiet_step (Some deeper) S F j hart r) ≡ ended (suc n) S F j hart r
  resumed_stops n e = go r.next e
    where
      go : (s : ℕ) → child_next S F s ≡ None
          → reason_of (cond (s == 0) (act_step (act_of S F hart r)) (child_step_at deeper S F j r (slice_get F s)))
          ≡ cond (s == 0) (first_refusal F (asks S F hart r)) (blocked_at S j r.next (slice_get F s))
      go zero f = acts_reason S F hart r
      go (suc s) f =
          ap (λ (b : Bool). reason_of (cond b (act_step (act_of S F hart r)) (child_step_at deeper S F j r (slice_get F (suc s))))) (next_some s)
          ∙ slot_stops (suc s) (slice_get F (suc s)) f
          ∙ sym (ap (λ (b : Bool). cond b (first_refusal F (asks S F hart r)) (blocked_at S j r.next (slice_get F (suc s)))) (next_some s))

  pub resumed_below : ShutBelow j F → r.next < length F → child_next S F r.next ≡ None → PassedBelow j (quiet_step (Some deeper) S F j hart r)
  resumed_below below inside e = go r.next inside e
    where
      go : (s : ℕ) → s < length F → child_next S F s ≡ None → PassedBelow j (cond (s == 0) (act_step (act_of S F hart r)) (child_step_at deeper S F j r (slice_get F s)))
      go zero h f = acts_below S F j hart r below
      go (suc s) h f =
          subst (λ (b : Bool). PassedBelow j (cond b (act_step (act_of S F hart r)) (child_step_at deeper S F j r (slice_get F (suc s))))) (sym (next_some s))
          (slot_stops_below below (suc s) (suc s) h (slice_get F (suc s)) refl f)

  -- what that leaves
  contents_received : (g s : ℕ) (o : Option Contents) → g < page_count S → HasBlock F r.next g → child_with s g o ≡ None → Received S F j [] r (child_step deeper S F j r g o)
  contents_received g s None inside has e = told_received S F j [] r g (malformed j r.next) inside has
  contents_received g s (Some contents) inside has e = absurd (let f : Some record { syllable = s; block = g; pages = contents.pages; table = contents.table; version = contents.version } ≡ None = e in cc)

  through_received : (s : ℕ) (slot : Slot) (way : Way) → OpensInside (page_count S) F → slice_get F r.next ≡ Some slot → slot.write ≡ way → child_through S s way ≡ None → Received S F j [] r (child_step_through deeper S F j r way)
  through_received s slot (Open g) bounds there writes e =
      let has : HasBlock F r.next g = record { slot = slot; there = there; writes = writes } in
      contents_received g s (block_of S g) (writes_inside (page_count S) F r.next g bounds has) has e
  through_received s slot (Shut l c p w) bounds there writes e = tt

  slot_received : (s : ℕ) (o : Option Slot) → OpensInside (page_count S) F → slice_get F r.next ≡ o → child_at S s o ≡ None → Received S F j [] r (child_step_at deeper S F j r o)
  slot_received s None bounds there e = tt
  slot_received s (Some slot) bounds there e = through_received s slot slot.write bounds there refl e

  pub resumed_received : OpensInside (page_count S) F → child_next S F r.next ≡ None → Received S F j [] r (quiet_step (Some deeper) S F j hart r)
  resumed_received bounds e = go r.next refl e
    where
      go : (s : ℕ) → r.next ≡ s → child_next S F s ≡ None → Received S F j [] r (cond (s == 0) (act_step (act_of S F hart r)) (child_step_at deeper S F j r (slice_get F s)))
      go zero is f = worked_received S F j [] r (act_of S F hart r)
      go (suc s) is f =
          subst (λ (b : Bool). Received S F j [] r (cond b (act_step (act_of S F hart r)) (child_step_at deeper S F j r (slice_get F (suc s))))) (sym (next_some s))
          (slot_received (suc s) (slice_get F (suc s)) bounds (ap (slice_get F) is) f)

  pub resumed_goes : (x : Item) → child_next S F r.next ≡ Some x
      → quiet_step (Some deeper) S F j hart r ≡ put_back S j r x.block (deeper S (compose S F j x.pages x.table x.version) (j + 1) 0 (regs_at S x.block))
  resumed_goes x e = go r.next e
    where
      go : (s : ℕ) → child_next S F s ≡ Some x
          → cond (s == 0) (act_step (act_of S F hart r)) (child_step_at deeper S F j r (slice_get F s)) ≡ put_back S j r x.block (deeper S (compose S F j x.pages x.table x.version) (j + 1) 0 (regs_at S x.block))
      go zero f = absurd (let h : None ≡ Some x = f in cc)
      go (suc s) f =
          ap (λ (b : Bool). cond b (act_step (act_of S F hart r)) (child_step_at deeper S F j r (slice_get F (suc s)))) (next_some s)
          ∙ slot_goes (suc s) x (slice_get F (suc s)) f

-- at the deepest level it runs no child
deepest_reason : (S : List ℕ) (F : List Slot) (j hart : ℕ) (r : Regs) → reason_of (quiet_step None S F j hart r) ≡ ended zero S F j hart r
deepest_reason S F j hart r = go (r.next == 0)
  where
    go : (b : Bool) → reason_of (cond b (act_step (act_of S F hart r)) (Barred (too_deep r.next))) ≡ cond b (first_refusal F (asks S F hart r)) (Some (too_deep r.next))
    go true = acts_reason S F hart r
    go false = refl

deepest_below : (S : List ℕ) (F : List Slot) (j hart : ℕ) (r : Regs) → ShutBelow j F → 0 < j → PassedBelow j (quiet_step None S F j hart r)
deepest_below S F j hart r below deep = go (r.next == 0)
  where
    go : (b : Bool) → PassedBelow j (cond b (act_step (act_of S F hart r)) (Barred (too_deep r.next)))
    go true = acts_below S F j hart r below
    go false = deep

deepest_received : (S : List ℕ) (F : List Slot) (j hart : ℕ) (r : Regs) → Received S F j [] r (quiet_step None S F j hart r)
deepest_received S F j hart r = go (r.next == 0)
  where
    go : (b : Bool) → Received S F j [] r (cond b (act_step (act_of S F hart r)) (Barred (too_deep r.next)))
    go true = worked_received S F j [] r (act_of S F hart r)
    go false = tt

-- the child that runs has its next below its number of pages
record Child (S : List ℕ) (F : List Slot) (s : ℕ) (x : Item) : Type 0 where
  pub there : child_of S F x.syllable ≡ Some x
  pub inside : (regs_at S x.block).next < x.pages
  pub has : HasBlock F s x.block

contents_inside : (S : List ℕ) (g s : ℕ) (x : Item) (o : Option Contents) → block_of S g ≡ o → child_with s g o ≡ Some x → (regs_at S x.block).next < x.pages
contents_inside S g s x None is e = absurd (let f : None ≡ Some x = e in cc)
contents_inside S g s x (Some contents) is e =
    let regs : contents.regs ≡ regs_at S g = sym (ap (λ (h : Contents). h.regs) (block_holds S g contents is).1) in
    let item : record { syllable = s; block = g; pages = contents.pages; table = contents.table; version = contents.version } ≡ x = same_Some record { syllable = s; block = g; pages = contents.pages; table = contents.table; version = contents.version } x e in
    subst (λ (y : Item). (regs_at S y.block).next < y.pages) item
    (subst (λ (c : Regs). c.next < contents.pages) regs (block_sized S g contents is).next)

through_inside : (S : List ℕ) (s : ℕ) (x : Item) (way : Way) → child_through S s way ≡ Some x → (regs_at S x.block).next < x.pages
through_inside S s x (Open g) e = contents_inside S g s x (block_of S g) refl e
through_inside S s x (Shut l c p w) e = absurd (let f : None ≡ Some x = e in cc)

slot_inside : (S : List ℕ) (s : ℕ) (x : Item) (o : Option Slot) → child_at S s o ≡ Some x → (regs_at S x.block).next < x.pages
slot_inside S s x None e = absurd (let f : None ≡ Some x = e in cc)
slot_inside S s x (Some slot) e = through_inside S s x slot.write e

next_child : (S : List ℕ) (F : List Slot) (s : ℕ) (x : Item) → child_next S F s ≡ Some x → Child S F s x
next_child S F zero x e = absurd (let f : None ≡ Some x = e in cc)
next_child S F (suc s) x e =
    let f = follows S F (suc s) x e in
    record {
      there = ap (child_of S F) f.syllable ∙ e;
      inside = slot_inside S (suc s) x (slice_get F (suc s)) e;
      has = record { slot = f.child.slot; there = ap (slice_get F) (sym f.syllable) ∙ f.child.there; writes = f.child.writes };
    }

-- The machines on the running path, and why the step came to a refusal.
pub record Trace (n : ℕ) (S : List ℕ) (F : List Slot) (j hart : ℕ) (r : Regs) : Type 0 where
  pub items : List Item
  pub there : machines S F j (running n S F j r) ≡ Some items
  pub size : length items ≡ length (running n S F j r)
  pub short : length items ≤ n
  pub inside : (regs_along S items r).next < length (along S F j items)
  pub reason : reason_of (step_of n S F j hart r) ≡ cond (is_calm S items r) (ended (left n items) S (along S F j items) (level_along j items) (hart_along items hart) (regs_along S items r)) None
  pub below : PassedBelow j (step_of n S F j hart r)
  pub received : Received S F j items r (step_of n S F j hart r)

trace_here : (S : List ℕ) (F : List Slot) (j hart : ℕ) (r : Regs) → ShutBelow j F → r.next < length F → 0 < j → Trace zero S F j hart r
unfolding machines along running step_of
trace_here S F j hart r below inside deep = record {
  items = [];
  there = refl;
  size = refl;
  short = omega arith;
  inside = inside;
  reason = reason_by (pending_of r);
  below = below_by (pending_of r);
  received = received_by (pending_of r);
}
  where
    reason_by : (p : Option ℕ) → reason_of (step_on None S F j hart r p) ≡ cond (is_none p) (ended zero S F j hart r) None
    reason_by None = deepest_reason S F j hart r
    reason_by (Some k) = interrupted_reason S j r k

    below_by : (p : Option ℕ) → PassedBelow j (step_on None S F j hart r p)
    below_by None = deepest_below S F j hart r below deep
    below_by (Some k) = interrupted_below S j r k

    received_by : (p : Option ℕ) → Received S F j [] r (step_on None S F j hart r p)
    received_by None = deepest_received S F j hart r
    received_by (Some k) = interrupted_received S F j [] r k

module _ (n : ℕ) (S : List ℕ) (F : List Slot) (j hart : ℕ) (r : Regs) (below : ShutBelow j F) (bounds : OpensInside (page_count S) F) (inside : r.next < length F) where
  trace_end : child_next S F r.next ≡ None → Trace (suc n) S F j hart r
  unfolding machines along running step_of
  trace_end e =
      let path : running (suc n) S F j r ≡ [] = ap (run_on (running n) S F j) e in
      record {
        items = [];
        there = ap (machines S F j) path;
        size = sym (ap length path);
        short = omega arith;
        inside = inside;
        reason = reason_by (pending_of r);
        below = below_by (pending_of r);
        received = received_by (pending_of r);
      }
    where
      reason_by : (p : Option ℕ) → reason_of (step_on (Some (step_of n)) S F j hart r p) ≡ cond (is_none p) (ended (suc n) S F j hart r) None
      reason_by None = resumed_stops (step_of n) S F j hart r n e
      reason_by (Some k) = interrupted_reason S j r k

      below_by : (p : Option ℕ) → PassedBelow j (step_on (Some (step_of n)) S F j hart r p)
      below_by None = resumed_below (step_of n) S F j hart r below inside e
      below_by (Some k) = interrupted_below S j r k

      received_by : (p : Option ℕ) → Received S F j [] r (step_on (Some (step_of n)) S F j hart r p)
      received_by None = resumed_received (step_of n) S F j hart r bounds e
      received_by (Some k) = interrupted_received S F j [] r k

  trace_child : (x : Item) → child_next S F r.next ≡ Some x
      → Trace n S (compose S F j x.pages x.table x.version) (j + 1) 0 (regs_at S x.block)
      → Trace (suc n) S F j hart r
  unfolding machines along running step_of
  trace_child x e t =
      let path : running (suc n) S F j r ≡ x.syllable ∷ running n S (compose S F j x.pages x.table x.version) (j + 1) (regs_at S x.block) = ap (run_on (running n) S F j) e in
      record {
        items = x ∷ t.items;
        there =
            ap (machines S F j) path
            ∙ begins_from S F j x.syllable (running n S (compose S F j x.pages x.table x.version) (j + 1) (regs_at S x.block)) x t.items (next_child S F r.next x e).there t.there;
        size = ap suc t.size ∙ sym (ap length path);
        short = omega (arith, t.short);
        inside = t.inside;
        reason = reason_by (pending_of r);
        below = below_by (pending_of r);
        received = received_by (pending_of r);
      }
    where
      goes : quiet_step (Some (step_of n)) S F j hart r ≡ put_back S j r x.block (step_of n S (compose S F j x.pages x.table x.version) (j + 1) 0 (regs_at S x.block))
      goes = resumed_goes (step_of n) S F j hart r x e

      hart_same : (xs : List Item) → hart_along xs 0 ≡ 0
      hart_same [] = refl
      hart_same (y ∷ ys) = refl

      reason_by : (p : Option ℕ) → reason_of (step_on (Some (step_of n)) S F j hart r p) ≡ cond (is_none p && is_calm S t.items (regs_at S x.block)) (ended (left n t.items) S (along S (compose S F j x.pages x.table x.version) (j + 1) t.items) (level_along (j + 1) t.items) 0 (regs_along S t.items (regs_at S x.block))) None
      reason_by None =
          ap reason_of goes
          ∙ put_reason S j r x.block (step_of n S (compose S F j x.pages x.table x.version) (j + 1) 0 (regs_at S x.block))
          ∙ t.reason
          ∙ ap (λ (h : ℕ). cond (is_calm S t.items (regs_at S x.block)) (ended (left n t.items) S (along S (compose S F j x.pages x.table x.version) (j + 1) t.items) (level_along (j + 1) t.items) h (regs_along S t.items (regs_at S x.block))) None) (hart_same t.items)
      reason_by (Some k) = interrupted_reason S j r k

      below_by : (p : Option ℕ) → PassedBelow j (step_on (Some (step_of n)) S F j hart r p)
      below_by None =
          subst (PassedBelow j) (sym goes)
          (put_below S j r x.block (step_of n S (compose S F j x.pages x.table x.version) (j + 1) 0 (regs_at S x.block)) t.below)
      below_by (Some k) = interrupted_below S j r k

      received_by : (p : Option ℕ) → Received S F j (x ∷ t.items) r (step_on (Some (step_of n)) S F j hart r p)
      received_by None =
          let has : HasBlock F r.next x.block = (next_child S F r.next x e).has in
          subst (Received S F j (x ∷ t.items) r) (sym goes)
          (put_received S F j x t.items r (step_of n S (compose S F j x.pages x.table x.version) (j + 1) 0 (regs_at S x.block))
          (writes_inside (page_count S) F r.next x.block bounds has) has t.received)
      received_by (Some k) = interrupted_received S F j (x ∷ t.items) r k

trace_more : (n : ℕ) (S : List ℕ) (F : List Slot) (j hart : ℕ) (r : Regs) (o : Option Item) → child_next S F r.next ≡ o → ShutBelow j F → OpensInside (page_count S) F → r.next < length F → 0 < j + suc n
    → ((G : List Slot) (k h : ℕ) (c : Regs) → ShutBelow k G → OpensInside (page_count S) G → c.next < length G → 0 < k + n → Trace n S G k h c)
    → Trace (suc n) S F j hart r
trace_more n S F j hart r None e below bounds inside deep deeper = trace_end n S F j hart r below bounds inside e
trace_more n S F j hart r (Some x) e below bounds inside deep deeper =
    let child = next_child S F r.next x e in
    let within : (regs_at S x.block).next < length (compose S F j x.pages x.table x.version) = omega (arith, length-composed S F j x.pages x.table x.version, child.inside) in
    trace_child n S F j hart r below bounds inside x e
    (deeper (compose S F j x.pages x.table x.version) (j + 1) 0 (regs_at S x.block) (composed_below S F j x.pages x.table x.version below)
    (composed_inside (page_count S) S F j x.pages x.table x.version bounds) within (omega arith))

pub trace : (n : ℕ) (S : List ℕ) (F : List Slot) (j hart : ℕ) (r : Regs) → ShutBelow j F → OpensInside (page_count S) F → r.next < length F → 0 < j + n → Trace n S F j hart r
trace zero S F j hart r below bounds inside deep = trace_here S F j hart r below inside (omega arith)
trace (suc n) S F j hart r below bounds inside deep =
    trace_more n S F j hart r (child_next S F r.next) refl below bounds inside deep (λ G k h c b o i d. trace n S G k h c b o i d)
