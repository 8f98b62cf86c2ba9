-- A step that counts is a step of the bare machine, which leaves the pages that it can't reach as they were.
use Rattle.std.proofs.Common.{◌≡◌, ◌≢◌, ℕ, ◌+◌, ◌-◌, ◌<◌, ◌≤◌, ◌⊎◌, inl, inr, Bool, true, false, not, ◌&&◌, ◌==◌, List, length, Option, Some, refl, ap, ◌∙◌, sym, subst, arith, slice_get, get_or}
use Rattle.std.proofs.lemmas.Bool.{and_parts, eqb-true, lt-ltb}
use Rattle.std.proofs.lemmas.Option.{slice_get-get_or}
use Rattle.std.proofs.lemmas.List.{length-map}
use Rattle.hv_word.specs.Storage.{page_count, word_at}
use Rattle.hv_store.specs.declared.access.Way.TheVariants.{Open}
use Rattle.hv_map.specs.Compose.{reading}
use Rattle.hv_cpu.specs.Regs.{Regs, reset_regs}
use Rattle.hv_store.specs.declared.access.Slot.{Slot}
use Rattle.hv_store.specs.Access.{identity}
use Rattle.hv_map.specs.Item.{Item}
use Rattle.hv_map.specs.Chain.{running, running_path}
use Rattle.hv_limits.specs.Limits.{depth_limit}
use Rattle.hv_map.specs.Words.{syllables}
use Rattle.hv_nest.specs.State.{State, hart_regs}
use Rattle.hv_nest.specs.Step.{Stepped, Worked, Recalled, Faulted, Barred, step_of, host_step_of}
use Rattle.hv_nest.specs.Move.{StepOf, moved_by, moved_at, running_at, state_after}
use Rattle.hv_nest.specs.Watched.{begins, is_outside, is_counted}
use Rattle.hv_nest.specs.Bare.{alone}
use Rattle.hv_nest.specs.Simulation.{StepLike, refused_further_out, both_work, both_recall, both_fault, both_refused, StillSees, SimulationLaw, deepened}
use Rattle.hv_nest.specs.Routing.{regs_along, hart_along}
use Rattle.hv_whole.specs.Linked.{Alone, Linked}
use Rattle.hv_whole.proofs.Each.{more, more_is, deep, deep_is}
use Rattle.hv_whole.proofs.Descend.{lifted, LowRecall, descended, at_end}
use Rattle.hv_whole.proofs.Lifts.{LowFault, lifted_worked, lifted_recalled, lifted_faulted, lifted_barred}
use Rattle.hv_whole.proofs.Links.{along_still, chained_still, relink}

-- after a move, the state next is linked with that of the bare machine
unfoldable pub SteppedAfter : ℕ → List Item → List ℕ → List Slot → List ℕ → State → State → Type 0
SteppedAfter h items A F T next bare = (U : List ℕ) × (c : Regs) × (bare ≡ alone U c) × Linked h items A F next U c × ((y w : ℕ) → ((x : ℕ) → reading F y ≢ Some (Open x)) → w < 1024 → word_at U y w ≡ word_at T y w)

true_false : true ≡ false → ⊥
true_false e = cc

-- what goes further out is no step that counts
low_recall : (st : State) (h k : ℕ) (R : Stepped) → LowRecall k R → is_outside k (moved_by st h R).kind ≡ false → ⊥
low_recall st h k (Worked S r) low e = low
low_recall st h k (Recalled l S r) low e = true_false (sym (lt-ltb l k low) ∙ e)
low_recall st h k (Faulted l c a b S r) low e = low
low_recall st h k (Barred e) low f = low

low_fault : (st : State) (h k : ℕ) (R : Stepped) → LowFault k R → is_outside k (moved_by st h R).kind ≡ false → ⊥
low_fault st h k (Worked S r) low e = low
low_fault st h k (Recalled l S r) low e = low
low_fault st h k (Faulted l c a b S r) low e = true_false (sym (lt-ltb l k low) ∙ e)
low_fault st h k (Barred e) low f = low

module _ (A : List ℕ) (items : List Item) (F : List Slot) (apart : Alone A items F) (h : ℕ) (st : State) (T : List ℕ) (c : Regs) (link : Linked h items A F st T c) (there : h < length st.harts) (r : Regs) where
  -- the step of the whole machine, where the one at the end of the items makes the step X, and the bare one the step Y
  outcome : (k : ℕ) → k ≡ length items → (R X Y : Stepped) → R ≡ lifted st.storage 0 items r X → StepLike k (StillSees k F st.storage T) X Y → is_outside k (moved_by st h R).kind ≡ false
      → SteppedAfter h items A F T (moved_by st h R).state (moved_by (alone T c) 0 Y).state
  unfolding SteppedAfter
  outcome k level R X Y is (both_work S U d still) counted =
      (U, d, refl, subst (λ (Z : Stepped). Linked h items A F (moved_by st h Z).state U d) (sym (is ∙ lifted_worked st.storage 0 items r S d)) (relink A items F apart h k st T c link there r S U d still level), still.guest)
  outcome k level R X Y is (both_recall l S U d still) counted =
      (U, d, refl, subst (λ (Z : Stepped). Linked h items A F (moved_by st h Z).state U d) (sym (is ∙ lifted_recalled st.storage 0 items r (l + k) S d)) (relink A items F apart h k st T c link there r S U d still level), still.guest)
  outcome k level R X Y is (both_fault l cause address a S U d still) counted =
      (U, d, refl, subst (λ (Z : Stepped). Linked h items A F (moved_by st h Z).state U d) (sym (is ∙ lifted_faulted st.storage 0 items r (l + k) cause address a S d)) (relink A items F apart h k st T c link there r S U d still level), still.guest)
  outcome k level R X Y is (refused_further_out e Z low) counted = absurd (by (lifted_barred st.storage 0 items r e))
    where
      at : deep 0 items ≡ k
      at = deep_is 0 items ∙ (let z : 0 + length items ≡ k = omega (arith, level) in z)

      by : LowFault (deep 0 items) (lifted st.storage 0 items r (Barred e)) ⊎ ((lifted st.storage 0 items r (Barred e) ≡ Barred e) × ((e.level < 0) ⊎ (deep 0 items ≤ e.level))) → ⊥
      by (inl f) = low_fault st h k R (subst (LowFault k) (sym is) (subst (λ (l : ℕ). LowFault l (lifted st.storage 0 items r (Barred e))) at f)) counted
      by (inr (same, inl f)) = omega arith
      by (inr (same, inr f)) = omega (arith, at)
  outcome k level R X Y is (both_refused e) counted = by (lifted_barred st.storage 0 items r (deepened k e))
    where
      at : deep 0 items ≡ k
      at = deep_is 0 items ∙ (let z : 0 + length items ≡ k = omega (arith, level) in z)

      by : LowFault (deep 0 items) (lifted st.storage 0 items r (Barred (deepened k e))) ⊎ ((lifted st.storage 0 items r (Barred (deepened k e)) ≡ Barred (deepened k e)) × (((deepened k e).level < 0) ⊎ (deep 0 items ≤ (deepened k e).level))) → SteppedAfter h items A F T (moved_by st h R).state (alone T c)
      by (inl f) = absurd (low_fault st h k R (subst (LowFault k) (sym is) (subst (λ (l : ℕ). LowFault l (lifted st.storage 0 items r (Barred (deepened k e)))) at f)) counted)
      by (inr (same, side)) = (T, c, refl, subst (λ (Z : Stepped). Linked h items A F (moved_by st h Z).state T c) (sym (is ∙ same)) link, λ y w shut small. refl)

  -- the machine at the end of the items makes the step, or it is no step that counts
  comes_down : slice_get st.harts h ≡ Some r → hart_along items h ≡ 0 → begins (syllables items) (running_path st.storage r) ≡ true
      → LowRecall (length items) (host_step_of st.storage h r)
      ⊎ (host_step_of st.storage h r ≡ lifted st.storage 0 items r (step_of (depth_limit - length items) st.storage F (length items) 0 c))
  unfolding host_step_of at_end
  comes_down is zeroth e =
      ends (subst (λ (n : ℕ). LowRecall (deep 0 items) (step_of n st.storage (identity (page_count st.storage)) 0 h r) ⊎ (step_of n st.storage (identity (page_count st.storage)) 0 h r ≡ lifted st.storage 0 items r (at_end (depth_limit - length items) st.storage (identity (page_count st.storage)) 0 items h r))) fuel
      (descended (depth_limit - length items) st.storage items (identity (page_count st.storage)) 0 h r (chained_still A items F apart st.storage link.len link.chain)
      (subst (λ (n : ℕ). begins (syllables items) (running n st.storage (identity (page_count st.storage)) 0 r) ≡ true) (sym fuel) e)))
    where
      fuel : more items (depth_limit - length items) ≡ depth_limit
      fuel = let short : length items ≤ depth_limit = apart.short in more_is items (depth_limit - length items) ∙ (let e : length items + (depth_limit - length items) ≡ depth_limit = omega (arith, short) in e)

      level : deep 0 items ≡ length items
      level = deep_is 0 items ∙ (let e : 0 + length items ≡ length items = omega arith in e)

      regs : regs_along st.storage items r ≡ c
      regs = sym (ap (λ (o : Option Regs). regs_along st.storage items (hart_regs o)) is) ∙ link.regs

      same : at_end (depth_limit - length items) st.storage (identity (page_count st.storage)) 0 items h r ≡ step_of (depth_limit - length items) st.storage F (length items) 0 c
      same = λ i. step_of (depth_limit - length items) st.storage ((along_still A items F apart st.storage link.len link.chain) i) (level i) (zeroth i) (regs i)

      ends : LowRecall (deep 0 items) (step_of depth_limit st.storage (identity (page_count st.storage)) 0 h r) ⊎ (step_of depth_limit st.storage (identity (page_count st.storage)) 0 h r ≡ lifted st.storage 0 items r (at_end (depth_limit - length items) st.storage (identity (page_count st.storage)) 0 items h r))
          → LowRecall (length items) (step_of depth_limit st.storage (identity (page_count st.storage)) 0 h r) ⊎ (step_of depth_limit st.storage (identity (page_count st.storage)) 0 h r ≡ lifted st.storage 0 items r (step_of (depth_limit - length items) st.storage F (length items) 0 c))
      ends (inl low) = inl (subst (λ (k : ℕ). LowRecall k (step_of depth_limit st.storage (identity (page_count st.storage)) 0 h r)) level low)
      ends (inr e) = inr (e ∙ ap (lifted st.storage 0 items r) same)

  counted_by : SimulationLaw → slice_get st.harts h ≡ Some r → hart_along items h ≡ 0 → begins (syllables items) (running_path st.storage r) ≡ true → is_outside (length items) (moved_by st h (host_step_of st.storage h r)).kind ≡ false
      → SteppedAfter h items A F T (moved_by st h (host_step_of st.storage h r)).state (moved_by (alone T c) 0 (host_step_of T 0 c)).state
  counted_by law is zeroth e counted = by (comes_down is zeroth e)
    where
      by : LowRecall (length items) (host_step_of st.storage h r)
          ⊎ (host_step_of st.storage h r ≡ lifted st.storage 0 items r (step_of (depth_limit - length items) st.storage F (length items) 0 c))
          → SteppedAfter h items A F T (moved_by st h (host_step_of st.storage h r)).state (moved_by (alone T c) 0 (host_step_of T 0 c)).state
      by (inl low) = absurd (low_recall st h (length items) (host_step_of st.storage h r) low counted)
      by (inr down) =
          outcome (length items) refl (host_step_of st.storage h r) (step_of (depth_limit - length items) st.storage F (length items) 0 c) (host_step_of T 0 c) down
          (law (length items) F st.storage T 0 c apart.short link.sees) counted

not_true : (b : Bool) → not b ≡ true → b ≡ false
not_true true e = absurd (true_false (sym e))
not_true false e = refl

-- a step that counts
module _ (law : SimulationLaw) (A : List ℕ) (items : List Item) (F : List Slot) (apart : Alone A items F) (h : ℕ) (st : State) (T : List ℕ) (c : Regs) (link : Linked h items A F st T c) (there : h < length st.harts) (zeroth : hart_along items h ≡ 0) where
  of_hart : begins (syllables items) (running_at st.storage (slice_get st.harts h)) ≡ true → is_outside (length (syllables items)) (moved_at st h (slice_get st.harts h)).kind ≡ false
      → SteppedAfter h items A F T (moved_at st h (slice_get st.harts h)).state (state_after (alone T c) (StepOf 0))
  of_hart starts counted =
      subst (λ (o : Option Regs). SteppedAfter h items A F T (moved_at st h o).state (state_after (alone T c) (StepOf 0))) (sym is)
      (counted_by A items F apart h st T c link there r law is zeroth
      (subst (λ (o : Option Regs). begins (syllables items) (running_at st.storage o) ≡ true) is starts)
      (subst (λ (n : ℕ). is_outside n (moved_by st h (host_step_of st.storage h r)).kind ≡ false) (length-map items (λ (x : Item). x.syllable))
      (subst (λ (o : Option Regs). is_outside (length (syllables items)) (moved_at st h o).kind ≡ false) is counted)))
    where
      r : Regs
      r = get_or st.harts h reset_regs

      is : slice_get st.harts h ≡ Some (get_or st.harts h reset_regs)
      is = slice_get-get_or st.harts h reset_regs there

  pub counted_step : (hart : ℕ) → is_counted h (syllables items) st (StepOf hart) ≡ true → SteppedAfter h items A F T (state_after st (StepOf hart)) (state_after (alone T c) (StepOf 0))
  counted_step hart e =
      let first = and_parts (hart == h) (begins (syllables items) (running_at st.storage (slice_get st.harts hart)) && not (is_outside (length (syllables items)) (moved_at st hart (slice_get st.harts hart)).kind)) e in
      let second = and_parts (begins (syllables items) (running_at st.storage (slice_get st.harts hart))) (not (is_outside (length (syllables items)) (moved_at st hart (slice_get st.harts hart)).kind)) first.1 in
      let same : hart ≡ h = eqb-true hart h first.0 in
      subst (λ (n : ℕ). SteppedAfter h items A F T (moved_at st n (slice_get st.harts n)).state (state_after (alone T c) (StepOf 0))) (sym same)
      (of_hart
      (subst (λ (n : ℕ). begins (syllables items) (running_at st.storage (slice_get st.harts n)) ≡ true) same second.0)
      (subst (λ (n : ℕ). is_outside (length (syllables items)) (moved_at st n (slice_get st.harts n)).kind ≡ false) same (not_true (is_outside (length (syllables items)) (moved_at st hart (slice_get st.harts hart)).kind) second.1)))
