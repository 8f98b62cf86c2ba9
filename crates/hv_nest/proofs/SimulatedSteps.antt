-- A step in the bare storage, and in the storage that the machine sees, by induction on how deep the machines inside may be.
use Rattle.std.proofs.Common.{◌≡◌, ℕ, zero, suc, ◌+◌, ◌<◌, ◌≤◌, inl, inr, Bool, true, false, cond, List, Option, Some, None, refl, ap, ◌∙◌, sym, subst, arith, slice_get}
use Rattle.std.specs.Prelude.{◌==◌}
use Rattle.std.proofs.lemmas.Bool.{eq-eqb, ne_eqb, eqb-true, eqb-false}
use Rattle.hv_cpu.specs.Regs.{Regs}
use Rattle.hv_csr.specs.Traps.{take_trap_of}
use Rattle.hv_csr.specs.Interrupts.{pending_of}
use Rattle.hv_store.specs.declared.access.Access.TheVariants.{Write}
use Rattle.hv_store.specs.declared.access.Refusal.{Refusal}
use Rattle.hv_store.specs.declared.access.Slot.{Slot}
use Rattle.hv_store.specs.declared.access.Way.{Way}
use Rattle.hv_store.specs.declared.access.Way.TheVariants.{Open, Shut}
use Rattle.hv_store.specs.Access.{refused}
use Rattle.hv_exec.specs.Act.{Acted, act_of}
use Rattle.hv_block.specs.Block.{Contents, block_of, put_regs, with_fault, access_word}
use Rattle.hv_block.proofs.Blocks.{block_alike, block_sized}
use Rattle.hv_map.specs.Carried.{WayLike, SlotLike, MapLike}
use Rattle.hv_map.specs.Compose.{compose, reading}
use Rattle.hv_map.proofs.Like.{composed_like}
use Rattle.hv_nest.specs.Step.{Stepped, Worked, Recalled, Faulted, Barred, Machine, idle, interrupt_of, act_step, tell_of, put_back, malformed, too_deep, child_step, child_step_through, child_step_at, next_step, step_on, step_with, step_of}
use Rattle.hv_nest.specs.Simulation.{Sees, Simulation, deepened, StepLike, refused_further_out, both_work, both_recall, both_fault, both_refused}
use Rattle.hv_nest.proofs.SimulatedAsks.{refused_below, refused_raised, opened}
use Rattle.hv_nest.proofs.SimulatedActs.{ActLike, act_further_out, both_done, act_refused, act_like}
use Rattle.hv_nest.proofs.SimulatedPuts.{put_regs_like, with_fault_like}

-- a level is that of the machine both before and after it is raised
same_test : (a b k : ℕ) → (a + k == b + k) ≡ (a == b)
same_test a b k = go (a == b) refl
  where
    go : (t : Bool) → (a == b) ≡ t → (a + k == b + k) ≡ (a == b)
    go true e = eq-eqb (a + k) (b + k) (ap (λ (m : ℕ). m + k) (eqb-true a b e)) ∙ sym e
    go false e = ne_eqb (a + k) (b + k) (λ f. eqb-false a b e (omega (arith, f))) ∙ sym e

-- what the steps of two machines, of which one is deeper by k levels, do alike
DeeperLike : (k : ℕ) → List Slot → (List ℕ → List ℕ → Type 0) → Machine → Machine → Type 0
DeeperLike k F R d d' =
    (S T : List ℕ) (H G : List Slot) (j hart : ℕ) (r : Regs)
    → R S T
    → MapLike k F H G
    → StepLike k R (d S H (j + k) hart r) (d' T G j hart r)

module _ (k : ℕ) (F : List Slot) (R : List ℕ → List ℕ → Type 0) (sim : Simulation k F R) (S T : List ℕ) (related : R S T) where
  sees : Sees k F S T
  sees = sim.sees S T related

  module _ (y x : ℕ) (is_open : reading F y ≡ Some (Open x)) where
    told_below : (j : ℕ) (r : Regs) (e : Refusal) (Y : Stepped) → e.level < k → StepLike k R (tell_of S (j + k) r x e) Y
    told_below j r e Y low =
        let ne : e.level ≡ j + k → ⊥ = λ f. omega (arith, f, low) in
        subst (λ (t : Bool). StepLike k R (cond t (Faulted (j + k) e.cause e.address e.access (with_fault S x e.cause e.address (access_word e.access)) (idle r)) (Barred e)) Y) (sym (ne_eqb e.level (j + k) ne))
        (refused_further_out e Y low)

    told_like : (j : ℕ) (r : Regs) (e : Refusal) → StepLike k R (tell_of S (j + k) r x (deepened k e)) (tell_of T j r y e)
    told_like j r e =
        subst (λ (t : Bool). StepLike k R (cond t (Faulted (j + k) e.cause e.address e.access (with_fault S x e.cause e.address (access_word e.access)) (idle r)) (Barred (deepened k e))) (tell_of T j r y e)) (sym (same_test e.level j k))
        (by (e.level == j))
      where
        by : (t : Bool)
            → StepLike k R
            (cond t (Faulted (j + k) e.cause e.address e.access (with_fault S x e.cause e.address (access_word e.access)) (idle r)) (Barred (deepened k e)))
            (cond t (Faulted j e.cause e.address e.access (with_fault T y e.cause e.address (access_word e.access)) (idle r)) (Barred e))
        by true =
            both_fault j e.cause e.address e.access (with_fault S x e.cause e.address (access_word e.access)) (with_fault T y e.cause e.address (access_word e.access)) (idle r)
            (with_fault_like k F R sim y x is_open S T e.cause e.address (access_word e.access) related)
        by false = both_refused e

    put_back_like : (j : ℕ) (r : Regs) (X Y : Stepped) → StepLike k R X Y → StepLike k R (put_back S (j + k) r x X) (put_back T j r y Y)
    put_back_like j r X Y (refused_further_out e Z low) = told_below j r e (put_back T j r y Z) low
    put_back_like j r X Y (both_work A B q h) =
        both_work (put_regs A x q) (put_regs B y q) r (put_regs_like k F R sim y x is_open A B q h)
    put_back_like j r X Y (both_recall l A B q h) =
        both_recall l (put_regs A x q) (put_regs B y q) r (put_regs_like k F R sim y x is_open A B q h)
    put_back_like j r X Y (both_fault l c p a A B q h) =
        both_fault l c p a (put_regs A x q) (put_regs B y q) r (put_regs_like k F R sim y x is_open A B q h)
    put_back_like j r X Y (both_refused e) = told_like j r e

  interrupted_like : (j : ℕ) (r : Regs) (n : ℕ) → StepLike k R (interrupt_of S (j + k) r n) (interrupt_of T j r n)
  interrupted_like j r n = by (r.next == 0)
    where
      by : (t : Bool) → StepLike k R (cond t (Worked S (take_trap_of r n true 0)) (Recalled (j + k) S (idle r))) (cond t (Worked T (take_trap_of r n true 0)) (Recalled j T (idle r)))
      by true = both_work S T (take_trap_of r n true 0) related
      by false = both_recall j S T (idle r) related

  worked_like : (A B : Acted) → ActLike k R A B → StepLike k R (act_step A) (act_step B)
  worked_like A B (act_further_out e C low) = refused_further_out e (act_step C) low
  worked_like A B (both_done U V q h) = both_work U V q h
  worked_like A B (act_refused e) = both_refused e

  -- a machine that is too deep to run another tells the bare machine, which is an ancestor if there is one
  too_deep_below : (s : ℕ) (Y : Stepped) → 0 < k → StepLike k R (Barred (too_deep s)) Y
  too_deep_below s Y h = refused_further_out (too_deep s) Y h

  too_deep_like : (s : ℕ) → StepLike k R (Barred (too_deep s)) (Barred (too_deep s))
  too_deep_like s = by k refl
    where
      by : (n : ℕ) → k ≡ n → StepLike k R (Barred (too_deep s)) (Barred (too_deep s))
      by zero e =
          let same : 0 + k ≡ 0 = omega (arith, e) in
          subst (λ (l : ℕ). StepLike k R (Barred record { level = l; cause = (too_deep s).cause; address = (too_deep s).address; access = (too_deep s).access }) (Barred (too_deep s))) same
          (both_refused (too_deep s))
      by (suc n) e = too_deep_below s (Barred (too_deep s)) (omega (arith, e))

  module _ (H G : List Slot) (like : MapLike k F H G) (j : ℕ) where
    with_like : (d d' : Option Machine) (hart : ℕ) (r : Regs) → StepLike k R (next_step d S H (j + k) r) (next_step d' T G j r) → StepLike k R (step_with d S H (j + k) hart r) (step_with d' T G j hart r)
    with_like d d' hart r deep = by (pending_of r)
      where
        going : (t : Bool) → StepLike k R (cond t (act_step (act_of S H hart r)) (next_step d S H (j + k) r)) (cond t (act_step (act_of T G hart r)) (next_step d' T G j r))
        going true = worked_like (act_of S H hart r) (act_of T G hart r) (act_like k F R sim S T related H G like hart r)
        going false = deep

        by : (o : Option ℕ) → StepLike k R (step_on d S H (j + k) hart r o) (step_on d' T G j hart r o)
        by (Some n) = interrupted_like j r n
        by None = going (r.next == 0)

    module _ (d d' : Machine) (deeper : DeeperLike k F R d d') (r : Regs) where
      composed_deeper : (n t v : ℕ) (q : Regs) → n ≤ 1048576 → StepLike k R (d S (compose S H (j + k) n t v) (j + k + 1) 0 q) (d' T (compose T G j n t v) (j + 1) 0 q)
      unfolding DeeperLike
      composed_deeper n t v q bound =
          let level : j + 1 + k ≡ j + k + 1 = omega arith in
          subst (λ (l : ℕ). StepLike k R (d S (compose S H (j + k) n t v) l 0 q) (d' T (compose T G j n t v) (j + 1) 0 q)) level
          (deeper S T (compose S H (j + k) n t v) (compose T G j n t v) (j + 1) 0 q related
          (composed_like k F S T sees.below sees.agree H G like j n t v bound))

      contents_like : (y x : ℕ) → reading F y ≡ Some (Open x) → (o : Option Contents) → block_of T y ≡ o → StepLike k R (child_step d S H (j + k) r x o) (child_step d' T G j r y o)
      contents_like y x is_open None e = told_like y x is_open j r (malformed j r.next)
      contents_like y x is_open (Some contents) e =
          put_back_like y x is_open j r
          (d S (compose S H (j + k) contents.pages contents.table contents.version) (j + k + 1) 0 contents.regs)
          (d' T (compose T G j contents.pages contents.table contents.version) (j + 1) 0 contents.regs)
          (composed_deeper contents.pages contents.table contents.version contents.regs (block_sized T y contents e).pages)

      block_like : (y x : ℕ) (s : Slot) → slice_get F y ≡ Some s → s.read ≡ Open x → StepLike k R (child_step d S H (j + k) r x (block_of S x)) (child_step d' T G j r y (block_of T y))
      block_like y x s is read =
          subst (λ (o : Option Contents). StepLike k R (child_step d S H (j + k) r x o) (child_step d' T G j r y (block_of T y)))
          (sym (block_alike S T x y (λ w lt. sees.agree y x w s is read lt)))
          (contents_like y x (opened F y x s is read) (block_of T y) refl)

      stopped_like : (l c p : ℕ) (w : Option ℕ) (Y : Stepped) → l < k → StepLike k R (child_step_through d S H (j + k) r (Shut l c p w)) Y
      stopped_like l c p w Y low = refused_further_out (refused l c p w 0 Write) Y (refused_below k l c p w 0 Write low)

      opened_like : (y : ℕ) (s : Slot) → slice_get F y ≡ Some s → (way : Way) → s.write ≡ way → StepLike k R (child_step_through d S H (j + k) r way) (child_step_through d' T G j r (Open y))
      opened_like y s is (Open x) e = block_like y x s is (sees.same y s Write x is e)
      opened_like y s is (Shut l c p w) e =
          stopped_like l c p w (child_step_through d' T G j r (Open y)) (sees.below y s Write l c p w is e)

      through_like : (h w : Way) → WayLike k F Write h w → StepLike k R (child_step_through d S H (j + k) r h) (child_step_through d' T G j r w)
      through_like (Open x) w (inl e) = absurd e
      through_like (Shut l c p v) w (inl e) = stopped_like l c p v (child_step_through d' T G j r w) e
      through_like h (Open y) (inr e) =
          subst (λ (way : Way). StepLike k R (child_step_through d S H (j + k) r way) (child_step_through d' T G j r (Open y))) (sym e.2) (opened_like y e.0 e.1 e.0.write refl)
      through_like h (Shut l c p w) (inr e) =
          subst (λ (way : Way). StepLike k R (child_step_through d S H (j + k) r way) (child_step_through d' T G j r (Shut l c p w))) (sym e)
          (subst (λ (f : Refusal). StepLike k R (Barred f) (Barred (refused l c p w 0 Write))) (sym (refused_raised k l c p w 0 Write)) (both_refused (refused l c p w 0 Write)))

      slot_like : (o p : Option Slot) → SlotLike k F o p → StepLike k R (child_step_at d S H (j + k) r o) (child_step_at d' T G j r p)
      slot_like None None e = too_deep_like r.next
      slot_like None (Some g) e = absurd e
      slot_like (Some h) None e = absurd e
      slot_like (Some h) (Some g) e = through_like h.write g.write (e Write)

      descended_like : StepLike k R (next_step (Some d) S H (j + k) r) (next_step (Some d') T G j r)
      descended_like = slot_like (slice_get H r.next) (slice_get G r.next) (like r.next)

-- where S may have n more levels beneath, T may have k more
pub step_like : (k : ℕ) (F : List Slot) (R : List ℕ → List ℕ → Type 0) → Simulation k F R → (n m : ℕ) → m ≡ n + k → (S T : List ℕ) (H G : List Slot) (j hart : ℕ) (r : Regs) → R S T → MapLike k F H G → StepLike k R (step_of n S H (j + k) hart r) (step_of m T G j hart r)
unfolding step_of DeeperLike
step_like k F R sim zero zero e S T H G j hart r related like =
    with_like k F R sim S T related H G like j None None hart r (too_deep_like k F R sim S T related r.next)
step_like k F R sim zero (suc m) e S T H G j hart r related like =
    let below : 0 < k = omega (arith, e) in
    with_like k F R sim S T related H G like j None (Some (step_of m)) hart r
    (too_deep_below k F R sim S T related r.next (next_step (Some (step_of m)) T G j r) below)
step_like k F R sim (suc n) zero e S T H G j hart r related like = absurd (omega (arith, e))
step_like k F R sim (suc n) (suc m) e S T H G j hart r related like =
    let less : m ≡ n + k = omega (arith, e) in
    with_like k F R sim S T related H G like j (Some (step_of n)) (Some (step_of m)) hart r
    (descended_like k F R sim S T related H G like j (step_of n) (step_of m) (step_like k F R sim n m less) r)
