-- Which refusals a machine passes on whose map is shut at no level before k: those that aren't for the machines before k, but
-- for a machine that is too deep.
use Rattle.std.proofs.Common.{◌≡◌, ℕ, zero, suc, ◌+◌, ◌≤◌, ◌⊎◌, inl, inr, Bool, true, false, cond, List, Option, Some, None, refl, ap, ◌∙◌, sym, subst, arith, slice_get}
use Rattle.std.specs.Prelude.{◌==◌}
use Rattle.std.specs.Option.{option_and_then}
use Rattle.std.proofs.lemmas.Option.{same_Some}
use Rattle.hv_cpu.specs.Regs.{Regs}
use Rattle.hv_csr.specs.Traps.{take_trap_of}
use Rattle.hv_csr.specs.Interrupts.{pending_of}
use Rattle.hv_store.specs.declared.access.Access.{Access}
use Rattle.hv_store.specs.declared.access.Access.TheVariants.{Write}
use Rattle.hv_store.specs.declared.access.Refusal.{Refusal}
use Rattle.hv_store.specs.declared.access.Slot.{Slot}
use Rattle.hv_store.specs.declared.access.Way.{Way}
use Rattle.hv_store.specs.declared.access.Way.TheVariants.{Open, Shut}
use Rattle.hv_store.specs.Access.{way_for, refused}
use Rattle.hv_exec.specs.Act.{Acted, Done, Refused, act_of}
use Rattle.hv_block.specs.Block.{Contents, block_of, with_fault, access_word}
use Rattle.hv_map.specs.Compose.{compose}
use Rattle.hv_map.proofs.Handed.{composed_level}
use Rattle.hv_nest.specs.Asks.{Ask, asks, refusal_through, refusal_at, refusal_of, first_refused}
use Rattle.hv_nest.specs.Step.{Stepped, Worked, Recalled, Faulted, Barred, Machine, idle, interrupt_of, act_step, tell_of, put_back, malformed, child_step, child_step_through, child_step_at, next_step, step_on, step_of}
use Rattle.hv_nest.proofs.Refused.{first_refusal, act_refusal, act_refused}
use Rattle.hv_nest.proofs.SimulatedAsks.{refused_level}

-- each shut way of F is shut at level k or a deeper one
abbrev pub ShutFrom : ℕ → List Slot → Type 0
ShutFrom k F =
    (y : ℕ) (s : Slot) (a : Access) (l c p : ℕ) (w : Option ℕ)
    → slice_get F y ≡ Some s
    → way_for s a ≡ Shut l c p w
    → k ≤ l

pub composed_from : (k : ℕ) (S : List ℕ) (F : List Slot) (j n t v : ℕ) → k ≤ j → ShutFrom k F → ShutFrom k (compose S F j n t v)
composed_from k S F j n t v low from y s a l c p w is e = elim (composed_level F j S n t v y s a l c p w is e) [
  | inl h ↦ omega (arith, h, low)
  | inr h ↦ from h.0 h.1 h.2 l h.3 h.4 h.5 h.6 h.7
]

-- a refusal for a machine at level k or deeper, or one of a machine that is too deep, which the bare machine is told
abbrev pub IsDeep : ℕ → Refusal → Type 0
IsDeep k e = (k ≤ e.level) ⊎ ((e.level ≡ 0) × (e.cause ≡ 5))

abbrev pub PassesDeep : ℕ → Stepped → Type 0
PassesDeep k (Worked S r) = Unit {0}
PassesDeep k (Recalled l S r) = Unit {0}
PassesDeep k (Faulted l c address a S r) = Unit {0}
PassesDeep k (Barred e) = IsDeep k e

module _ (k : ℕ) where
  through_deep : (way : Way) (n : ℕ) (a : Access) (e : Refusal) → ((l c p : ℕ) (w : Option ℕ) → way ≡ Shut l c p w → k ≤ l) → refusal_through way n a ≡ Some e → k ≤ e.level
  through_deep (Open g) n a e from is = absurd (let f : None ≡ Some e = is in cc)
  through_deep (Shut l c p w) n a e from is =
      let same : l ≡ e.level = sym (refused_level l c p w n a) ∙ ap (λ (x : Refusal). x.level) (same_Some (refused l c p w n a) e is) in
      subst (λ (x : ℕ). k ≤ x) same (from l c p w refl)

  refusal_deep : (F : List Slot) (q : Ask) (e : Refusal) → ShutFrom k F → refusal_of F q ≡ Some e → k ≤ e.level
  refusal_deep F q e from = go (slice_get F q.page) refl
    where
      go : (o : Option Slot) → slice_get F q.page ≡ o → refusal_at o q.word q.access ≡ Some e → k ≤ e.level
      go None there is = absurd (let f : None ≡ Some e = is in cc)
      go (Some s) there is = through_deep (way_for s q.access) q.word q.access e (λ l c p w shut. from q.page s q.access l c p w there shut) is

  first_deep : (F : List Slot) (qs : List Ask) (e : Refusal) → ShutFrom k F → first_refusal F qs ≡ Some e → k ≤ e.level
  first_deep F qs e from = go (first_refused F qs)
    where
      go : (o : Option Ask) → option_and_then (refusal_of F) o ≡ Some e → k ≤ e.level
      go None is = absurd (let f : None ≡ Some e = is in cc)
      go (Some q) is = refusal_deep F q e from is

  worked_deep : (A : Acted) → ((e : Refusal) → act_refusal A ≡ Some e → k ≤ e.level) → PassesDeep k (act_step A)
  worked_deep (Done S r) h = tt
  worked_deep (Refused e) h = inl (h e refl)

  act_deep : (S : List ℕ) (F : List Slot) (hart : ℕ) (r : Regs) → ShutFrom k F → PassesDeep k (act_step (act_of S F hart r))
  act_deep S F hart r from = worked_deep (act_of S F hart r) (λ e is. first_deep F (asks S F hart r) e from (sym (act_refused S F r hart) ∙ is))

  interrupted_deep : (S : List ℕ) (j : ℕ) (r : Regs) (p : ℕ) → PassesDeep k (interrupt_of S j r p)
  interrupted_deep S j r p = by (r.next == 0)
    where
      by : (t : Bool) → PassesDeep k (cond t (Worked S (take_trap_of r p true 0)) (Recalled j S (idle r)))
      by true = tt
      by false = tt

  told_deep : (S : List ℕ) (j : ℕ) (r : Regs) (g : ℕ) (e : Refusal) → IsDeep k e → PassesDeep k (tell_of S j r g e)
  told_deep S j r g e h = by (e.level == j)
    where
      by : (t : Bool) → PassesDeep k (cond t (Faulted j e.cause e.address e.access (with_fault S g e.cause e.address (access_word e.access)) (idle r)) (Barred e))
      by true = tt
      by false = h

  back_deep : (S : List ℕ) (j : ℕ) (r : Regs) (g : ℕ) (X : Stepped) → PassesDeep k X → PassesDeep k (put_back S j r g X)
  back_deep S j r g (Worked T q) h = tt
  back_deep S j r g (Recalled l T q) h = tt
  back_deep S j r g (Faulted l c p a T q) h = tt
  back_deep S j r g (Barred e) h = told_deep S j r g e h

  abbrev PassesAll : Machine → Type 0
  PassesAll deeper = (S : List ℕ) (F : List Slot) (j hart : ℕ) (r : Regs) → k ≤ j → ShutFrom k F → PassesDeep k (deeper S F j hart r)

  module _ (deeper : Machine) (deep : PassesAll deeper) (S : List ℕ) (F : List Slot) (j : ℕ) (r : Regs) (low : k ≤ j) (from : ShutFrom k F) where
    child_deep : (g : ℕ) (o : Option Contents) → PassesDeep k (child_step deeper S F j r g o)
    child_deep g None = told_deep S j r g (malformed j r.next) (inl low)
    child_deep g (Some contents) =
        back_deep S j r g (deeper S (compose S F j contents.pages contents.table contents.version) (j + 1) 0 contents.regs)
        (deep S (compose S F j contents.pages contents.table contents.version) (j + 1) 0 contents.regs (omega (arith, low)) (composed_from k S F j contents.pages contents.table contents.version low from))

    way_deep : (way : Way) → ((l c p : ℕ) (w : Option ℕ) → way ≡ Shut l c p w → k ≤ l) → PassesDeep k (child_step_through deeper S F j r way)
    way_deep (Open g) h = child_deep g (block_of S g)
    way_deep (Shut l c p w) h = inl (subst (λ (x : ℕ). k ≤ x) (sym (refused_level l c p w 0 Write)) (h l c p w refl))

    at_deep : (o : Option Slot) → slice_get F r.next ≡ o → PassesDeep k (child_step_at deeper S F j r o)
    at_deep None is = inr (refl, refl)
    at_deep (Some slot) is = way_deep slot.write (λ l c p w e. from r.next slot Write l c p w is e)

  on_deep : (m : Option Machine) (S : List ℕ) (F : List Slot) (j hart : ℕ) (r : Regs) → ShutFrom k F → PassesDeep k (next_step m S F j r) → (p : Option ℕ) → PassesDeep k (step_on m S F j hart r p)
  on_deep m S F j hart r from h (Some p) = interrupted_deep S j r p
  on_deep m S F j hart r from h None = by (r.next == 0)
    where
      by : (t : Bool) → PassesDeep k (cond t (act_step (act_of S F hart r)) (next_step m S F j r))
      by true = act_deep S F hart r from
      by false = h

  pub step_deep : (n : ℕ) (S : List ℕ) (F : List Slot) (j hart : ℕ) (r : Regs) → k ≤ j → ShutFrom k F → PassesDeep k (step_of n S F j hart r)
  unfolding step_of
  step_deep zero S F j hart r low from = on_deep None S F j hart r from (inr (refl, refl)) (pending_of r)
  step_deep (suc n) S F j hart r low from =
      on_deep (Some (step_of n)) S F j hart r from (at_deep (step_of n) (step_deep n) S F j r low from (slice_get F r.next) refl) (pending_of r)
