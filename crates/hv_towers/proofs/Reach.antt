-- A step while all monitors are away: the machine at the end makes it.
use Rattle.std.proofs.Common.{◌≡◌, ◌≢◌, ℕ, ◌+◌, ◌<◌, ◌≤◌, inl, true, false, List, [], ◌∷◌, Some, refl, ap, ◌∙◌, sym, subst, arith}
use Rattle.hv_word.specs.Storage.{page_count, word_at}
use Rattle.hv_cpu.specs.Regs.{Regs}
use Rattle.hv_store.specs.declared.access.Slot.{Slot}
use Rattle.hv_block.specs.Block.{regs_at, put_regs, fits_hart}
use Rattle.hv_block.proofs.Blocks.{regs_alike}
use Rattle.hv_block.proofs.Words.{put_other, regs_back}
use Rattle.hv_map.specs.Item.{Item}
use Rattle.hv_map.specs.Apart.{table_pages}
use Rattle.hv_map.specs.Chain.{child_next, running}
use Rattle.hv_map.specs.Words.{syllables}
use Rattle.hv_nest.specs.Step.{Stepped, put_back, step_of}
use Rattle.hv_nest.specs.Routing.{regs_along, hart_along}
use Rattle.hv_nest.specs.Watched.{begins}
use Rattle.hv_whole.specs.Linked.{EachBlock, BlocksDiffer}
use Rattle.hv_whole.proofs.Each.{more, deep, each_block}
use Rattle.hv_whole.proofs.Descend.{lifted, hart_same}
use Rattle.hv_whole.proofs.Lifts.{kept, puts, length-puts}
use Rattle.hv_towers.specs.Laid.{from_base, child_base}
use Rattle.hv_towers.proofs.Phases.{Phase, Fresh, Loaded, Ready, Away, Back, phase_regs, never_pending, are_away, InPhases}
use Rattle.hv_towers.proofs.Floors.{Floors, top_base, top_pages, child_there}
use Rattle.hv_towers.proofs.Spares.{phases_same}
use Rattle.hv_towers.proofs.Climb.{goes_down, runs_down, begins_more, monitor_fits, monitor_next}

-- the step of the machine at the end
unfoldable pub top_step : ℕ → List ℕ → ℕ → ℕ → ℕ → ℕ → List Item → Regs → Stepped
top_step m S j base n hart items r = step_of m S (from_base (top_base base items) (top_pages n items)) (deep j items) (hart_along items hart) (regs_along S items r)

pub record Reached (m : ℕ) (S : List ℕ) (j base n hart : ℕ) (items : List Item) (r : Regs) : Type 0 where
  pub step : step_of (more items m) S (from_base base n) j hart r ≡ lifted S j items r (top_step m S j base n hart items r)
  pub long : begins (syllables items) (running (more items m) S (from_base base n) j r) ≡ true

-- the registers in a block are a monitor's, or those of the machine at the end, and fit
pub block_fits : (S : List ℕ) (j base n : ℕ) (x : Item) (xs : List Item) (ps : List Phase)
    → Floors S j base n (x ∷ xs) → InPhases S (regs_at S x.block) xs ps
    → fits_hart (regs_along S (x ∷ xs) (regs_at S x.block)) ≡ true → (regs_along S (x ∷ xs) (regs_at S x.block)).next < top_pages n (x ∷ xs)
    → (fits_hart (regs_at S x.block) ≡ true) × (word_at S x.block 64 < x.pages)
unfolding top_pages
block_fits S j base n x [] ps floors h fits next = (fits, next)
block_fits S j base n x (y ∷ ys) [] floors h fits next = absurd h
block_fits S j base n x (y ∷ ys) (p ∷ ps) floors h fits next =
    let size : 2 + table_pages y.pages + y.pages ≤ x.pages = floors.1.0.size in
    (monitor_fits S x.block p h.0, monitor_next S x.block x.pages p h.0 (omega (arith, size)))

further : (m : ℕ) (S : List ℕ) (j base n hart : ℕ) (x : Item) (xs : List Item) (ps : List Phase)
    → Floors S j base n (x ∷ xs) → InPhases S (regs_at S x.block) xs ps
    → fits_hart (regs_along S (x ∷ xs) (phase_regs Away)) ≡ true → (regs_along S (x ∷ xs) (phase_regs Away)).next < top_pages n (x ∷ xs)
    → Reached m S (j + 1) (child_base base x.pages) x.pages 0 xs (regs_at S x.block)
    → Reached m S j base n hart (x ∷ xs) (phase_regs Away)
unfolding more deep lifted top_base top_pages top_step
further m S j base n hart x xs ps floors h fits next inner =
    let f = block_fits S j base n x xs ps floors h fits next in
    let child : child_next S (from_base base n) 1 ≡ Some x = child_there S j base n x floors.0 f.0 f.1 in
    record {
      step = goes_down (more xs m) S (from_base base n) j hart (phase_regs Away) x (never_pending Away) child
          ∙ ap (λ (F : List Slot). put_back S j (phase_regs Away) x.block (step_of (more xs m) S F (j + 1) 0 (regs_at S x.block))) floors.0.slots
          ∙ ap (put_back S j (phase_regs Away) x.block) inner.step
          ∙ ap (λ (k : ℕ). put_back S j (phase_regs Away) x.block (lifted S (j + 1) xs (regs_at S x.block) (step_of m S (from_base (top_base (child_base base x.pages) xs) (top_pages x.pages xs)) (deep (j + 1) xs) k (regs_along S xs (regs_at S x.block))))) (hart_same xs);
      long = ap (begins (syllables (x ∷ xs)))
          (runs_down (more xs m) S (from_base base n) j (phase_regs Away) x child
          ∙ ap (λ (F : List Slot). x.syllable ∷ running (more xs m) S F (j + 1) (regs_at S x.block)) floors.0.slots)
          ∙ begins_more x xs (running (more xs m) S (from_base (child_base base x.pages) x.pages) (j + 1) (regs_at S x.block))
          ∙ inner.long;
    }

false_true : false ≡ true → ⊥
false_true e = cc

pub reaches : (m : ℕ) (S : List ℕ) (j base n hart : ℕ) (r : Regs) (items : List Item) (ps : List Phase)
    → Floors S j base n items → InPhases S r items ps → are_away ps ≡ true
    → fits_hart (regs_along S items r) ≡ true → (regs_along S items r).next < top_pages n items
    → Reached m S j base n hart items r
unfolding more deep lifted top_base top_pages top_step
reaches m S j base n hart r [] ps floors h e fits next = record { step = refl; long = refl }
reaches m S j base n hart r (x ∷ xs) [] floors h e fits next = absurd h
reaches m S j base n hart r (x ∷ xs) (Fresh ∷ ps) floors h e fits next = absurd (false_true e)
reaches m S j base n hart r (x ∷ xs) (Loaded ∷ ps) floors h e fits next = absurd (false_true e)
reaches m S j base n hart r (x ∷ xs) (Ready ∷ ps) floors h e fits next = absurd (false_true e)
reaches m S j base n hart r (x ∷ xs) (Back ∷ ps) floors h e fits next = absurd (false_true e)
reaches m S j base n hart r (x ∷ xs) (Away ∷ ps) floors h e fits next =
    subst (Reached m S j base n hart (x ∷ xs)) (sym h.0)
    (further m S j base n hart x xs ps floors h.1 fits next
    (reaches m S (j + 1) (child_base base x.pages) x.pages 0 (regs_at S x.block) xs ps floors.1 h.1 e fits next))

-- once the registers are put back, the monitors are in the phases that they were in
pub puts_phases : (S : List ℕ) (items : List Item) (T : List ℕ) (c r : Regs) (ps : List Phase) → BlocksDiffer items → EachBlock (λ b. b < page_count T) items
    → InPhases S r items ps → InPhases (puts S items T c) (kept items c r) items ps
unfolding puts kept
puts_phases S [] T c r [] differ inside h = tt
puts_phases S [] T c r (p ∷ ps) differ inside h = h
puts_phases S (x ∷ xs) T c r [] differ inside h = h
puts_phases S (x ∷ xs) T c r (p ∷ ps) differ inside h =
    let U : List ℕ = puts S xs T c in
    let q : Regs = kept xs c (regs_at S x.block) in
    let within : x.block < page_count (puts S xs T c) = omega (arith, inside.0, length-puts S xs T c) in (
      h.0,
      phases_same U (put_regs U x.block q) q (regs_at (put_regs U x.block q) x.block) xs ps (sym (regs_back U x.block q within))
          (each_block (λ b. x.block ≢ b) (λ b. regs_at (put_regs U x.block q) b ≡ regs_at U b) (λ b ne. regs_alike (put_regs U x.block q) U b b (λ w k. put_other U x.block q b w k (inl (λ e. ne (sym e))))) xs differ.0)
          (puts_phases S xs T c (regs_at S x.block) ps differ.1 inside.1 h.1),
    )
