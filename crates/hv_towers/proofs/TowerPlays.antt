-- What a play of a tower comes to, from the start on.
use Rattle.std.proofs.Common.{◌≡◌, ℕ, zero, suc, ◌+◌, ◌*◌, ◌<◌, ◌≤◌, inl, inr, true, List, [], ◌∷◌, ◌++◌, length, replicate, Some, refl, ap, ◌∙◌, sym, subst, arith}
use Rattle.std.proofs.lemmas.List.{length-map, length-replicate}
use Rattle.hv_word.specs.Storage.{page_count}
use Rattle.hv_cpu.specs.Regs.{Regs, FitsHart, reset_regs}
use Rattle.hv_store.specs.declared.access.Slot.{Slot}
use Rattle.hv_store.specs.Access.{identity}
use Rattle.hv_block.specs.Block.{regs_at}
use Rattle.hv_map.specs.Item.{Item}
use Rattle.hv_map.specs.Apart.{is_apart, is_one, blocks_of, tables_along, open_pages, table_pages}
use Rattle.hv_map.specs.Chain.{machines, map_along, pin_of}
use Rattle.hv_limits.specs.Limits.{depth_limit}
use Rattle.hv_map.specs.Words.{Chained, syllables}
use Rattle.hv_map.proofs.Words.{machines_chained}
use Rattle.hv_nest.specs.Move.{last_of}
use Rattle.hv_nest.specs.Bare.{bare_of}
use Rattle.hv_nest.specs.Routing.{regs_along}
use Rattle.hv_nest.specs.Watched.{Tally, foot}
use Rattle.hv_whole.specs.Whole.{AreMasked, Alike}
use Rattle.hv_whole.specs.Linked.{Alone}
use Rattle.hv_whole.proofs.Apartness.{alone as stands_alone}
use Rattle.hv_whole.proofs.Members.{parted}
use Rattle.hv_whole.proofs.WholeRuns.{whole_runs}
use Rattle.hv_run.specs.Record.{no_count}
use Rattle.hv_towers.specs.Laid.{child_base, LaidFrom, Laid}
use Rattle.hv_towers.specs.Tower.{steps, start_of, tally_of_steps, TowerPlayed, TowerPlayLaw}
use Rattle.hv_towers.proofs.Phases.{Fresh, waits, first_wait, InPhases}
use Rattle.hv_towers.proofs.Bases.{base_zero}
use Rattle.hv_towers.proofs.Fits.{Fit}
use Rattle.hv_towers.proofs.Floors.{top_pages}
use Rattle.hv_towers.proofs.Plays.{Plays, quiet, plays}
use Rattle.hv_towers.proofs.Sizes.{machines_few}
use Rattle.hv_towers.proofs.Moments.{Ground, Standing}

kept_reset : FitsHart reset_regs
kept_reset = record {
  aligned = refl;
  mode_fits = omega arith;
  mode_real = λ e. omega (arith, e);
  mstatus = refl;
  mpp = λ e. omega (arith, e);
  mtvec = omega arith;
  mepc = refl;
  medeleg = refl;
  mideleg = refl;
  mie = refl;
  mip = refl;
  stvec = omega arith;
  sepc = refl;
  satp = refl;
}

-- all monitors are fresh at the start
start_phases : (S : List ℕ) (j base n : ℕ) (r : Regs) (items : List Item) → r ≡ reset_regs → LaidFrom S j base n items → InPhases S r items (replicate (length items) Fresh)
start_phases S j base n r [] e laid = tt
start_phases S j base n r (x ∷ xs) e laid = (e, start_phases S (j + 1) (child_base base x.pages) x.pages (regs_at S x.block) xs laid.0.regs laid.1)

-- and so is the machine at the end
start_regs : (S : List ℕ) (j base n : ℕ) (r : Regs) (items : List Item) → r ≡ reset_regs → LaidFrom S j base n items → regs_along S items r ≡ reset_regs
start_regs S j base n r [] e laid = e
start_regs S j base n r (x ∷ xs) e laid = start_regs S (j + 1) (child_base base x.pages) x.pages (regs_at S x.block) xs laid.0.regs laid.1

some_pages : (S : List ℕ) (j base n : ℕ) (items : List Item) → 0 < n → LaidFrom S j base n items → 0 < top_pages n items
unfolding top_pages
some_pages S j base n [] h laid = h
some_pages S j base n (x ∷ xs) h laid = some_pages S (j + 1) (child_base base x.pages) x.pages xs laid.0.some laid.1

all_masked : (n : ℕ) → AreMasked (steps n)
all_masked zero = tt
all_masked (suc n) = (tt, all_masked n)

-- the pages of the machine at the end are all different where all that it stands on is
one_of : (S : List ℕ) (items : List Item) → is_apart S items ≡ true → is_one S items ≡ true
one_of S items d =
    let blocks : List ℕ = blocks_of items in
    let tables : List ℕ = tables_along S (identity (page_count S)) 0 items in
    let opens : List ℕ = open_pages (map_along S items) in
    (parted tables opens (parted blocks (tables ++ opens) d).last).last

-- of a tower with one monitor or more
module _ (D N : ℕ) (S T : List ℕ) (x : Item) (xs : List Item) (laid : Laid D N S T (x ∷ xs)) where
  short : length {A = ℕ} (replicate D 1) ≤ depth_limit
  short = let h : D ≤ depth_limit = laid.short in omega (arith, length-replicate {A = ℕ} D 1, h)

  stand_alone : Alone S (x ∷ xs) (map_along S (x ∷ xs))
  stand_alone = stands_alone S (replicate D 1) (x ∷ xs) short laid.pins laid.apart

  pins_from : machines S (identity (page_count S)) 0 (replicate D 1) ≡ Some (x ∷ xs)
  unfolding pin_of
  pins_from = laid.pins

  on_path : syllables (x ∷ xs) ≡ replicate D 1
  on_path = (machines_chained S (identity (page_count S)) 0 (replicate D 1) (x ∷ xs) pins_from).0

  depth : length (x ∷ xs) ≡ D
  depth = sym (length-map (x ∷ xs) (λ (y : Item). y.syllable)) ∙ ap length on_path ∙ length-replicate {A = ℕ} D 1

  ground : Ground S (x ∷ xs)
  ground = record {
    laid = laid.levels;
    chained = subst (λ (F : List Slot). Chained S F 0 (x ∷ xs)) (base_zero (page_count S)) (machines_chained S (identity (page_count S)) 0 (replicate D 1) (x ∷ xs) pins_from).1;
    few = machines_few S (identity (page_count S)) 0 (replicate D 1) (x ∷ xs) pins_from;
    inside = stand_alone.inside;
    differ = stand_alone.blocks;
    short = stand_alone.short;
  }

  own_reset : regs_along S (x ∷ xs) reset_regs ≡ reset_regs
  own_reset = start_regs S 0 0 (page_count S) reset_regs (x ∷ xs) refl laid.levels

  stands : Standing S (x ∷ xs) S reset_regs (replicate (length (x ∷ xs)) Fresh)
  stands = record {
    size = refl;
    steady = λ g w h z. refl;
    phases = start_phases S 0 0 (page_count S) reset_regs (x ∷ xs) refl laid.levels;
    fit = subst (Fit (top_pages (page_count S) (x ∷ xs))) (sym own_reset) record {
      kept = kept_reset;
      next = some_pages S 0 0 (page_count S) (x ∷ xs) (let h : 2 + table_pages x.pages + x.pages ≤ page_count S = laid.levels.0.size in omega (arith, h)) laid.levels;
    };
  }

  -- k steps from the start on
  from_start : (k : ℕ) → Plays (replicate D 1) (x ∷ xs) (foot S (x ∷ xs)) k (start_of S) (3 * D) 0 no_count
  from_start k =
      subst (λ (w : ℕ). Plays (replicate D 1) (x ∷ xs) (foot S (x ∷ xs)) k (start_of S) w 0 no_count) (first_wait (length (x ∷ xs)) ∙ ap (λ (d : ℕ). 3 * d) depth)
      (subst (λ (p : List ℕ). Plays p (x ∷ xs) (foot S (x ∷ xs)) k (start_of S) (waits (replicate (length (x ∷ xs)) Fresh)) 0 no_count) on_path
      (plays S x xs ground k S reset_regs (replicate (length (x ∷ xs)) Fresh) 0 no_count stands))

  alike : (k m : ℕ) → tally_of_steps D S (x ∷ xs) k ≡ quiet m → Alike 0 (x ∷ xs) (map_along S (x ∷ xs)) (last_of (start_of S) (steps k)) (bare_of T reset_regs [] m)
  alike k m e =
      let whole = whole_runs 0 (replicate D 1) (x ∷ xs) (start_of S) (steps k) (tally_of_steps D S (x ∷ xs) k) (omega arith) (λ z. refl) (all_masked k) short laid.pins laid.apart refl (ap (λ (t : Tally). t.touched) e) in
      subst (Alike 0 (x ∷ xs) (map_along S (x ∷ xs)) (last_of (start_of S) (steps k)))
      (λ i. bare_of (laid.sees i) (own_reset i) ((e i).changes) ((e i).count)) whole

  pub tower_plays : (m : ℕ) → TowerPlayed D S T (x ∷ xs) m
  tower_plays m =
      let all = from_start (3 * D + m) in record {
        one = one_of S (x ∷ xs) laid.apart;
        apart = laid.apart;
        monitors = λ n h. ap (λ (t : Tally). t.count) (from_start n).told ∙ (from_start n).early h;
        untouched = ap (λ (t : Tally). t.touched) all.told;
        unlined = ap (λ (t : Tally). t.changes) all.told;
        runs = elim all.runs [
          | inl deep ↦ inl deep
          | inr total ↦
              let is : all.total ≡ m = omega (arith, total) in
              inr (ap (λ (t : Tally). t.count) all.told ∙ is, alike (3 * D + m) m (all.told ∙ ap quiet is))
        ];
      }

none_on : (S : List ℕ) (D : ℕ) → 1 ≤ D → pin_of S (replicate D 1) ≡ Some [] → ⊥
unfolding pin_of
none_on S D h e =
    let same : syllables [] ≡ replicate D 1 = (machines_chained S (identity (page_count S)) 0 (replicate D 1) [] e).0 in
    let size : 0 ≡ D = ap length same ∙ length-replicate {A = ℕ} D 1 in
    omega (arith, size, h)

pub towers_play : TowerPlayLaw
towers_play D N m S T [] laid = absurd (none_on S D laid.deep laid.pins)
towers_play D N m S T (x ∷ xs) laid = tower_plays D N S T x xs laid m
