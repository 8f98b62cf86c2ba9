-- A step while some monitor isn't away: the first of those makes it.
use Rattle.std.proofs.Common.{◌≡◌, ◌≢◌, ℕ, suc, ◌+◌, ◌<◌, ◌≤◌, ◌⊎◌, inl, inr, Bool, true, false, ◌&&◌, List, [], ◌∷◌, length, Some, None, refl, ap, ◌∙◌, sym, subst, arith}
use Rattle.std.proofs.lemmas.Bool.{eq-eqb}
use Rattle.hv_word.specs.Storage.{page_count, word_at}
use Rattle.hv_cpu.specs.Regs.{Regs}
use Rattle.hv_csr.specs.Interrupts.{pending_of}
use Rattle.hv_store.specs.declared.access.Slot.{Slot}
use Rattle.hv_store.specs.Access.{open_at}
use Rattle.hv_block.specs.Block.{regs_at, put_regs, fits_hart, IsOther}
use Rattle.hv_block.proofs.Blocks.{regs_alike}
use Rattle.hv_block.proofs.Words.{length-put_regs, put_other, regs_back}
use Rattle.hv_map.specs.Item.{Item}
use Rattle.hv_map.specs.Apart.{table_pages}
use Rattle.hv_map.specs.Compose.{compose}
use Rattle.hv_map.specs.Chain.{child_next, run_on, running}
use Rattle.hv_map.specs.Words.{syllables}
use Rattle.hv_nest.specs.Step.{Stepped, Worked, put_back, act_step, step_on, step_of}
use Rattle.hv_nest.specs.Watched.{begins}
use Rattle.hv_nest.proofs.Follows.{follows_none}
use Rattle.hv_nest.proofs.Reasons.{resumed_goes}
use Rattle.hv_nest.proofs.Rows.{row_acts}
use Rattle.hv_whole.specs.Linked.{BlocksDiffer}
use Rattle.hv_whole.proofs.Each.{more, each_block}
use Rattle.hv_towers.specs.Laid.{from_base, child_base}
use Rattle.hv_towers.proofs.Phases.{Phase, Fresh, Loaded, Ready, Away, Back, next_phase, phase_regs, never_pending, always_fits, advance, are_away, InPhases}
use Rattle.hv_towers.proofs.Acts.{left_by, monitor_acts}
use Rattle.hv_towers.proofs.Bases.{base_slot}
use Rattle.hv_towers.proofs.Floors.{Floor, Floors, child_there}
use Rattle.hv_towers.proofs.Spares.{Spares, left_spares, left_regs, phases_same, every_block}

-- what such a step comes to, where the phases are ps after it
pub record Climbed (S : List ℕ) (items : List Item) (ps : List Phase) (X : Stepped) : Type 0 where
  pub storage : List ℕ
  pub regs : Regs
  pub step : X ≡ Worked storage regs
  pub spares : Spares items S storage
  pub phases : InPhases storage regs items ps

-- the step of a machine that goes on in its child
pub goes_down : (n : ℕ) (S : List ℕ) (F : List Slot) (j hart : ℕ) (r : Regs) (x : Item) → pending_of r ≡ None → child_next S F r.next ≡ Some x
    → step_of (suc n) S F j hart r ≡ put_back S j r x.block (step_of n S (compose S F j x.pages x.table x.version) (j + 1) 0 (regs_at S x.block))
unfolding step_of
goes_down n S F j hart r x calm child = ap (step_on (Some (step_of n)) S F j hart r) calm ∙ resumed_goes (step_of n) S F j hart r x child

pub runs_down : (n : ℕ) (S : List ℕ) (F : List Slot) (j : ℕ) (r : Regs) (x : Item) → child_next S F r.next ≡ Some x
    → running (suc n) S F j r ≡ x.syllable ∷ running n S (compose S F j x.pages x.table x.version) (j + 1) (regs_at S x.block)
unfolding running
runs_down n S F j r x child = ap (run_on (running n) S F j) child

pub begins_more : (x : Item) (xs : List Item) (path : List ℕ) → begins (syllables (x ∷ xs)) (x.syllable ∷ path) ≡ begins (syllables xs) path
begins_more x xs path = ap (λ (b : Bool). b && begins (syllables xs) path) (eq-eqb x.syllable x.syllable refl)

-- a monitor inside another has registers that fit, and its next is one of its pages
pub monitor_fits : (S : List ℕ) (b : ℕ) (p : Phase) → regs_at S b ≡ phase_regs p → fits_hart (regs_at S b) ≡ true
monitor_fits S b p e = ap fits_hart e ∙ always_fits p

next_small : (p : Phase) → (phase_regs p).next < 2
next_small Fresh = omega arith
next_small Loaded = omega arith
next_small Ready = omega arith
next_small Away = omega arith
next_small Back = omega arith

pub monitor_next : (S : List ℕ) (b n : ℕ) (p : Phase) → regs_at S b ≡ phase_regs p → 1 < n → word_at S b 64 < n
monitor_next S b n p e h = let same : word_at S b 64 ≡ (phase_regs p).next = ap (λ (r : Regs). r.next) e in omega (arith, same, next_small p, h)

-- the monitor itself makes the step
climbs_here : (m : ℕ) (S : List ℕ) (j base n hart : ℕ) (x : Item) (xs : List Item) (p : Phase) (ps : List Phase)
    → Floor S j base n x → (phase_regs p).next ≡ 0 → InPhases S (regs_at S x.block) xs ps
    → Climbed S (x ∷ xs) (next_phase p ∷ ps) (step_of m S (from_base base n) j hart (phase_regs p))
climbs_here m S j base n hart x xs p ps floor idle rest =
    let size : 2 + table_pages x.pages + x.pages ≤ n = floor.size in
    let zeroth : base + 0 ≡ base = omega arith in
    let first : base + 1 ≡ x.block = sym floor.block in
    record {
      storage = left_by S x.block p;
      regs = phase_regs (next_phase p);
      step = row_acts m S (from_base base n) j hart (phase_regs p) (sym (never_pending p)) idle
          ∙ ap act_step (monitor_acts S (from_base base n) base x.block hart (base_slot base n 0 (omega (arith, size)) ∙ ap (λ (g : ℕ). Some (open_at g)) zeroth) (base_slot base n 1 (omega (arith, size)) ∙ ap (λ (g : ℕ). Some (open_at g)) first) floor.program p idle);
      spares = left_spares S x xs p;
      phases = (
        refl,
        phases_same S (left_by S x.block p) (regs_at S x.block) (regs_at (left_by S x.block p) x.block) xs ps (sym (left_regs S x.block x.block p)) (every_block (λ b. regs_at (left_by S x.block p) b ≡ regs_at S b) (λ b. left_regs S x.block b p) xs) rest,
      );
    }

-- one inside it does
climbs_inside : (S : List ℕ) (j : ℕ) (x y : Item) (ys : List Item) (ps : List Phase) (X : Stepped)
    → x.block < page_count S → BlocksDiffer (x ∷ (y ∷ ys))
    → Climbed S (y ∷ ys) ps X
    → Climbed S (x ∷ (y ∷ ys)) (Away ∷ ps) (put_back S j (phase_regs Away) x.block X)
climbs_inside S j x y ys ps X inside differ c =
    let U : List ℕ = c.storage in
    let within : x.block < page_count U = let size : length U ≡ length S = c.spares.size in omega (arith, inside, size) in
    record {
      storage = put_regs U x.block c.regs;
      regs = phase_regs Away;
      step = ap (put_back S j (phase_regs Away) x.block) c.step;
      spares = record {
        size = length-put_regs U x.block c.regs ∙ c.spares.size;
        same = λ g w h s. put_other U x.block c.regs g w h (other g w s.0) ∙ c.spares.same g w h s.1;
      };
      phases = (
        refl,
        phases_same U (put_regs U x.block c.regs) c.regs (regs_at (put_regs U x.block c.regs) x.block) (y ∷ ys) ps (sym (regs_back U x.block c.regs within))
            (each_block (λ b. x.block ≢ b) (λ b. regs_at (put_regs U x.block c.regs) b ≡ regs_at U b) (λ b ne. regs_alike (put_regs U x.block c.regs) U b b (λ w h. put_other U x.block c.regs b w h (inl (λ e. ne (sym e))))) (y ∷ ys) differ.0)
            c.phases,
      );
    }
  where
    other : (g w : ℕ) → (g ≢ x.block) ⊎ ((65 ≤ w) × (w ≤ 67)) → (g ≢ x.block) ⊎ IsOther w
    other g w (inl ne) = inl ne
    other g w (inr h) = inr (let low : 65 ≤ w = h.0 in (omega arith, λ e. omega (arith, e, low)))

-- the step, and the path that is run before it, which ends before the last machine
pub record Climbing (m : ℕ) (S : List ℕ) (j base n hart : ℕ) (items : List Item) (ps : List Phase) (r : Regs) : Type 0 where
  pub step : Climbed S items ps (step_of (more items m) S (from_base base n) j hart r)
  pub short : begins (syllables items) (running (more items m) S (from_base base n) j r) ≡ false

here : (m : ℕ) (S : List ℕ) (j base n hart : ℕ) (x : Item) (xs : List Item) (p : Phase) (ps : List Phase)
    → Floor S j base n x → (phase_regs p).next ≡ 0 → InPhases S (regs_at S x.block) xs ps
    → Climbing m S j base n hart (x ∷ xs) (next_phase p ∷ ps) (phase_regs p)
here m S j base n hart x xs p ps floor idle rest = record {
  step = climbs_here (more (x ∷ xs) m) S j base n hart x xs p ps floor idle rest;
  short = ap (begins (syllables (x ∷ xs))) (follows_none (more (x ∷ xs) m) S (from_base base n) j (phase_regs p) idle);
}

true_false : true ≡ false → ⊥
true_false e = cc

under : (m : ℕ) (S : List ℕ) (j base n hart : ℕ) (r : Regs) (x y : Item) (ys : List Item) (p : Phase) (ps : List Phase)
    → Floors S j base n (x ∷ (y ∷ ys)) → BlocksDiffer (x ∷ (y ∷ ys)) → InPhases S r (x ∷ (y ∷ ys)) (Away ∷ (p ∷ ps))
    → Climbing m S (j + 1) (child_base base x.pages) x.pages 0 (y ∷ ys) (advance (p ∷ ps)) (regs_at S x.block)
    → Climbing m S j base n hart (x ∷ (y ∷ ys)) (Away ∷ advance (p ∷ ps)) r
unfolding more
under m S j base n hart r x y ys p ps floors differ h inner =
    subst (Climbing m S j base n hart (x ∷ (y ∷ ys)) (Away ∷ advance (p ∷ ps))) (sym h.0) record {
      step = subst (Climbed S (x ∷ (y ∷ ys)) (Away ∷ advance (p ∷ ps))) (sym down) (climbs_inside S j x y ys (advance (p ∷ ps)) (step_of (more (y ∷ ys) m) S (from_base (child_base base x.pages) x.pages) (j + 1) 0 (regs_at S x.block)) floors.0.inside differ inner.step);
      short = ap (begins (syllables (x ∷ (y ∷ ys)))) path ∙ begins_more x (y ∷ ys) (running (more (y ∷ ys) m) S (from_base (child_base base x.pages) x.pages) (j + 1) (regs_at S x.block)) ∙ inner.short;
    }
  where
    child : child_next S (from_base base n) 1 ≡ Some x
    child =
        let size : 2 + table_pages y.pages + y.pages ≤ x.pages = floors.1.0.size in
        child_there S j base n x floors.0 (monitor_fits S x.block p h.1.0) (monitor_next S x.block x.pages p h.1.0 (omega (arith, size)))

    down : step_of (more (x ∷ (y ∷ ys)) m) S (from_base base n) j hart (phase_regs Away) ≡ put_back S j (phase_regs Away) x.block (step_of (more (y ∷ ys) m) S (from_base (child_base base x.pages) x.pages) (j + 1) 0 (regs_at S x.block))
    down =
        goes_down (more (y ∷ ys) m) S (from_base base n) j hart (phase_regs Away) x (never_pending Away) child
        ∙ ap (λ (F : List Slot). put_back S j (phase_regs Away) x.block (step_of (more (y ∷ ys) m) S F (j + 1) 0 (regs_at S x.block))) floors.0.slots

    path : running (more (x ∷ (y ∷ ys)) m) S (from_base base n) j (phase_regs Away) ≡ x.syllable ∷ running (more (y ∷ ys) m) S (from_base (child_base base x.pages) x.pages) (j + 1) (regs_at S x.block)
    path =
        runs_down (more (y ∷ ys) m) S (from_base base n) j (phase_regs Away) x child
        ∙ ap (λ (F : List Slot). x.syllable ∷ running (more (y ∷ ys) m) S F (j + 1) (regs_at S x.block)) floors.0.slots

pub climbs : (m : ℕ) (S : List ℕ) (j base n hart : ℕ) (r : Regs) (items : List Item) (ps : List Phase)
    → Floors S j base n items → BlocksDiffer items → InPhases S r items ps → are_away ps ≡ false
    → Climbing m S j base n hart items (advance ps) r
climbs m S j base n hart r [] [] floors differ h e = absurd (true_false e)
climbs m S j base n hart r [] (p ∷ ps) floors differ h e = absurd h
climbs m S j base n hart r (x ∷ xs) [] floors differ h e = absurd h
climbs m S j base n hart r (x ∷ xs) (Fresh ∷ ps) floors differ h e = subst (Climbing m S j base n hart (x ∷ xs) (Loaded ∷ ps)) (sym h.0) (here m S j base n hart x xs Fresh ps floors.0 refl h.1)
climbs m S j base n hart r (x ∷ xs) (Loaded ∷ ps) floors differ h e = subst (Climbing m S j base n hart (x ∷ xs) (Ready ∷ ps)) (sym h.0) (here m S j base n hart x xs Loaded ps floors.0 refl h.1)
climbs m S j base n hart r (x ∷ xs) (Ready ∷ ps) floors differ h e = subst (Climbing m S j base n hart (x ∷ xs) (Away ∷ ps)) (sym h.0) (here m S j base n hart x xs Ready ps floors.0 refl h.1)
climbs m S j base n hart r (x ∷ xs) (Back ∷ ps) floors differ h e = subst (Climbing m S j base n hart (x ∷ xs) (Ready ∷ ps)) (sym h.0) (here m S j base n hart x xs Back ps floors.0 refl h.1)
climbs m S j base n hart r (x ∷ []) (Away ∷ []) floors differ h e = absurd (true_false e)
climbs m S j base n hart r (x ∷ []) (Away ∷ (p ∷ ps)) floors differ h e = absurd h.1
climbs m S j base n hart r (x ∷ (y ∷ ys)) (Away ∷ []) floors differ h e = absurd h.1
climbs m S j base n hart r (x ∷ (y ∷ ys)) (Away ∷ (p ∷ ps)) floors differ h e =
    under m S j base n hart r x y ys p ps floors differ h
    (climbs m S (j + 1) (child_base base x.pages) x.pages 0 (regs_at S x.block) (y ∷ ys) (p ∷ ps) floors.1 differ.1 h.1 e)
