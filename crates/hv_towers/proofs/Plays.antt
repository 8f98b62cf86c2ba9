-- A play of a tower, step by step.
use Rattle.std.proofs.Common.{◌≡◌, ℕ, zero, suc, ◌+◌, ◌-◌, ◌<◌, ◌≤◌, ◌⊎◌, inl, inr, Bool, true, false, cond, ◌&&◌, not, List, [], ◌∷◌, length, Some, refl, ap, ◌∙◌, arith}
use Rattle.std.proofs.lemmas.Bool.{eq-eqb, lt-ltb}
use Rattle.std.proofs.lemmas.List.{length-map}
use Rattle.hv_word.specs.Storage.{page_count}
use Rattle.hv_cpu.specs.Regs.{Regs}
use Rattle.hv_store.specs.declared.access.Slot.{Slot}
use Rattle.hv_map.specs.Item.{Item}
use Rattle.hv_map.specs.Chain.{map_along, along, running_path}
use Rattle.hv_map.specs.Words.{syllables}
use Rattle.hv_nest.specs.State.{State}
use Rattle.hv_nest.specs.Step.{Stepped, host_step_of}
use Rattle.hv_nest.specs.Move.{StepOf, moved_by, state_after}
use Rattle.hv_nest.specs.Bare.{alone}
use Rattle.hv_nest.specs.Watched.{begins, is_outside, is_counted, last_block, foot, keeps_foot, lines_of, Tally, beside, tally_after, tally_of}
use Rattle.hv_run.specs.Record.{Count, count_after, count_of, kind_counted}
use Rattle.hv_towers.specs.Laid.{from_base}
use Rattle.hv_towers.specs.Tower.{steps}
use Rattle.hv_towers.proofs.Phases.{Phase, Fresh, Loaded, Ready, Away, Back, advance, are_away, waits, one_less, none_left, InPhases}
use Rattle.hv_towers.proofs.Bases.{base_zero}
use Rattle.hv_towers.proofs.Faults.{any_deep, faults_stay, deep_counted}
use Rattle.hv_towers.proofs.Floors.{top_base, top_pages, top_map}
use Rattle.hv_towers.proofs.Foot.{foot_kept, lines_kept}
use Rattle.hv_towers.proofs.Spares.{Spares}
use Rattle.hv_towers.proofs.Moments.{Ground, Standing, MonitorMove, TopMove, DeepMove, monitor_move, top_move}
use Rattle.hv_towers.proofs.Zones.{floors_now}

-- a watch that told nothing but n steps
abbrev pub quiet : ℕ → Tally
quiet n = record { count = n; changes = []; touched = false }

false_true : false ≡ true → ⊥
false_true e = cc

away_first : (S : List ℕ) (r : Regs) (x : Item) (xs : List Item) (ps : List Phase) → InPhases S r (x ∷ xs) ps → are_away ps ≡ true → (qs : List Phase) × (ps ≡ Away ∷ qs)
away_first S r x xs [] h e = absurd h
away_first S r x xs (Fresh ∷ ps) h e = absurd (false_true e)
away_first S r x xs (Loaded ∷ ps) h e = absurd (false_true e)
away_first S r x xs (Ready ∷ ps) h e = absurd (false_true e)
away_first S r x xs (Away ∷ ps) h e = (ps, refl)
away_first S r x xs (Back ∷ ps) h e = absurd (false_true e)

some_last : (y : Item) (ys : List Item) → (b : ℕ) × (last_block (y ∷ ys) ≡ Some b)
some_last y [] = (y.block, refl)
some_last y (z ∷ zs) = some_last z zs

-- k steps from a state on, of which the monitors make the first w, where the watch had told n, and c was counted
pub record Plays (p : List ℕ) (items : List Item) (ft : List ℕ) (k : ℕ) (st : State) (w n : ℕ) (c : Count) : Type 0 where
  pub total : ℕ
  pub told : tally_of 0 p items ft st (steps k) (quiet n) ≡ quiet total
  pub early : k ≤ w → total ≡ n
  pub runs : (any_deep (count_of st (steps k) c).faults ≡ true) ⊎ (total ≡ n + (k - w))

-- one step more at the beginning
module _ (p : List ℕ) (items : List Item) (ft : List ℕ) (k : ℕ) (st next : State) (is : state_after st (StepOf 0) ≡ next) (c : Count) where
  told_more : (n m total : ℕ) → tally_after 0 p items ft st (StepOf 0) (quiet n) ≡ quiet m → tally_of 0 p items ft next (steps k) (quiet m) ≡ quiet total
      → tally_of 0 p items ft st (steps (suc k)) (quiet n) ≡ quiet total
  unfolding tally_of
  told_more n m total e f = (λ i. tally_of 0 p items ft (is i) (steps k) (e i)) ∙ f

  deep_more : any_deep (count_of next (steps k) (count_after st (StepOf 0) c)).faults ≡ true → any_deep (count_of st (steps (suc k)) c).faults ≡ true
  unfolding count_of
  deep_more e = ap (λ (s : State). any_deep (count_of s (steps k) (count_after st (StepOf 0) c)).faults) is ∙ e

  -- of a monitor
  plays_monitor : (w v n : ℕ) → w ≡ suc v → tally_after 0 p items ft st (StepOf 0) (quiet n) ≡ quiet n → Plays p items ft k next v n (count_after st (StepOf 0) c) → Plays p items ft (suc k) st w n c
  plays_monitor w v n e f rest = record {
    total = rest.total;
    told = told_more n n rest.total f rest.told;
    early = λ h. rest.early (omega (arith, h, e));
    runs = elim rest.runs [ inl d ↦ inl (deep_more d) | inr g ↦ inr (omega (arith, g, e)) ];
  }

  -- of the machine at the end
  plays_top : (w n : ℕ) → w ≡ 0 → tally_after 0 p items ft st (StepOf 0) (quiet n) ≡ quiet (n + 1) → Plays p items ft k next w (n + 1) (count_after st (StepOf 0) c) → Plays p items ft (suc k) st w n c
  plays_top w n e f rest = record {
    total = rest.total;
    told = told_more n (n + 1) rest.total f rest.told;
    early = λ h. absurd (omega (arith, h, e));
    runs = elim rest.runs [ inl d ↦ inl (deep_more d) | inr g ↦ inr (omega (arith, g, e)) ];
  }

  -- of one that is too deep
  plays_deep : (w v n : ℕ) → w ≡ 0 → any_deep (count_after st (StepOf 0) c).faults ≡ true → tally_after 0 p items ft st (StepOf 0) (quiet n) ≡ quiet n → Plays p items ft k next v n (count_after st (StepOf 0) c) → Plays p items ft (suc k) st w n c
  plays_deep w v n e d f rest = record {
    total = rest.total;
    told = told_more n n rest.total f rest.told;
    early = λ h. absurd (omega (arith, h, e));
    runs = inl (deep_more (faults_stay (steps k) next (count_after st (StepOf 0) c) d));
  }

module _ (A : List ℕ) (x : Item) (xs : List Item) (ground : Ground A (x ∷ xs)) where
  pub map_is : map_along A (x ∷ xs) ≡ from_base (top_base 0 (x ∷ xs)) (top_pages (page_count A) (x ∷ xs))
  unfolding map_along
  map_is =
      ap (λ (F : List Slot). along A F 0 (x ∷ xs)) (base_zero (page_count A))
      ∙ top_map A 0 0 (page_count A) (x ∷ xs) (floors_now A A refl 0 0 (page_count A) (x ∷ xs) ground.laid ground.chained ground.few ground.inside (λ g w h z. refl))

  -- what the watch tells of a step that doesn't count, and spares what the machine at the end has
  quiet_beside : (S U : List ℕ) (r q : Regs) (n : ℕ) → Spares (x ∷ xs) S U → beside 0 (x ∷ xs) (foot A (x ∷ xs)) (alone S r) (alone U q) (quiet n) ≡ quiet n
  quiet_beside S U r q n spares =
      let l = some_last x xs in
      let same : lines_of 0 (x ∷ xs) (alone S r) ≡ lines_of 0 (x ∷ xs) (alone U q) = lines_kept A (x ∷ xs) ground.laid (base_zero (page_count A)) map_is ground.differ l.0 l.1 S U spares r q in
      let kept : keeps_foot (foot A (x ∷ xs)) (x ∷ xs) S U ≡ true = foot_kept A (x ∷ xs) ground.laid (base_zero (page_count A)) map_is ground.differ l.0 l.1 S U spares in
      λ i. record {
        count = n;
        changes = cond ((eq-eqb (lines_of 0 (x ∷ xs) (alone S r)) (lines_of 0 (x ∷ xs) (alone U q)) same) i) [] (record { count = n; bits = lines_of 0 (x ∷ xs) (alone U q) } ∷ []);
        touched = not (kept i);
      }

  quiet_after : (S U : List ℕ) (r q : Regs) (n : ℕ) → is_counted 0 (syllables (x ∷ xs)) (alone S r) (StepOf 0) ≡ false → state_after (alone S r) (StepOf 0) ≡ alone U q → Spares (x ∷ xs) S U
      → tally_after 0 (syllables (x ∷ xs)) (x ∷ xs) (foot A (x ∷ xs)) (alone S r) (StepOf 0) (quiet n) ≡ quiet n
  quiet_after S U r q n free is spares =
      ap (λ (t : Bool). cond t (record (quiet n) { count = n + 1 }) (beside 0 (x ∷ xs) (foot A (x ∷ xs)) (alone S r) (state_after (alone S r) (StepOf 0)) (quiet n))) free
      ∙ ap (λ (st : State). beside 0 (x ∷ xs) (foot A (x ∷ xs)) (alone S r) st (quiet n)) is
      ∙ quiet_beside S U r q n spares

  counted_after : (S : List ℕ) (r : Regs) (n : ℕ) → is_counted 0 (syllables (x ∷ xs)) (alone S r) (StepOf 0) ≡ true
      → tally_after 0 (syllables (x ∷ xs)) (x ∷ xs) (foot A (x ∷ xs)) (alone S r) (StepOf 0) (quiet n) ≡ quiet (n + 1)
  counted_after S r n counts = ap (λ (t : Bool). cond t (record (quiet n) { count = n + 1 }) (beside 0 (x ∷ xs) (foot A (x ∷ xs)) (alone S r) (state_after (alone S r) (StepOf 0)) (quiet n))) counts

  long : length (syllables (x ∷ xs)) ≡ length (x ∷ xs)
  long = length-map (x ∷ xs) (λ (y : Item). y.syllable)

  -- whether a step counts
  counts_not : (S : List ℕ) (r : Regs) → begins (syllables (x ∷ xs)) (running_path S r) ≡ false → is_counted 0 (syllables (x ∷ xs)) (alone S r) (StepOf 0) ≡ false
  counts_not S r e = ap (λ (t : Bool). t && not (is_outside (length (syllables (x ∷ xs))) (moved_by (alone S r) 0 (host_step_of S 0 r)).kind)) e

  counts_inside : (S : List ℕ) (r : Regs) → begins (syllables (x ∷ xs)) (running_path S r) ≡ true → is_outside (length (x ∷ xs)) (moved_by (alone S r) 0 (host_step_of S 0 r)).kind ≡ false → is_counted 0 (syllables (x ∷ xs)) (alone S r) (StepOf 0) ≡ true
  counts_inside S r e f =
      ap (λ (t : Bool). t && not (is_outside (length (syllables (x ∷ xs))) (moved_by (alone S r) 0 (host_step_of S 0 r)).kind)) e
      ∙ ap (λ (m : ℕ). not (is_outside m (moved_by (alone S r) 0 (host_step_of S 0 r)).kind)) long
      ∙ ap not f

  counts_outside : (S : List ℕ) (r : Regs) → begins (syllables (x ∷ xs)) (running_path S r) ≡ true → is_outside (length (x ∷ xs)) (moved_by (alone S r) 0 (host_step_of S 0 r)).kind ≡ true → is_counted 0 (syllables (x ∷ xs)) (alone S r) (StepOf 0) ≡ false
  counts_outside S r e f =
      ap (λ (t : Bool). t && not (is_outside (length (syllables (x ∷ xs))) (moved_by (alone S r) 0 (host_step_of S 0 r)).kind)) e
      ∙ ap (λ (m : ℕ). not (is_outside m (moved_by (alone S r) 0 (host_step_of S 0 r)).kind)) long
      ∙ ap not f

  -- all that is so of k steps from a moment on
  abbrev PlaysOn : ℕ → List ℕ → Regs → List Phase → ℕ → Count → Type 0
  PlaysOn k S r ps n c = Plays (syllables (x ∷ xs)) (x ∷ xs) (foot A (x ∷ xs)) k (alone S r) (waits ps) n c

  abbrev AllPlays : ℕ → Type 0
  AllPlays k = (S : List ℕ) (r : Regs) (ps : List Phase) (n : ℕ) (c : Count) → Standing A (x ∷ xs) S r ps → PlaysOn k S r ps n c

  module _ (k : ℕ) (later : AllPlays k) (S : List ℕ) (r : Regs) (ps : List Phase) (n : ℕ) (c : Count) (stand : Standing A (x ∷ xs) S r ps) where
    by_monitor : are_away ps ≡ false → PlaysOn (suc k) S r ps n c
    by_monitor e =
        let m : MonitorMove A (x ∷ xs) S r ps = monitor_move A x xs ground S r ps stand e in
        let is : state_after (alone S r) (StepOf 0) ≡ alone m.storage m.regs = ap (λ (R : Stepped). (moved_by (alone S r) 0 R).state) m.step in
        plays_monitor (syllables (x ∷ xs)) (x ∷ xs) (foot A (x ∷ xs)) k (alone S r) (alone m.storage m.regs) is c (waits ps) (waits (advance ps)) n (one_less ps e)
        (quiet_after S m.storage r m.regs n (counts_not S r m.short) is m.spares)
        (later m.storage m.regs (advance ps) n (count_after (alone S r) (StepOf 0) c) m.standing)

    by_top : are_away ps ≡ true → begins (syllables (x ∷ xs)) (running_path S r) ≡ true → TopMove A (x ∷ xs) S r ps (host_step_of S 0 r) → PlaysOn (suc k) S r ps n c
    by_top e runs m =
        plays_top (syllables (x ∷ xs)) (x ∷ xs) (foot A (x ∷ xs)) k (alone S r) (alone m.storage m.regs) m.state c (waits ps) n (none_left ps e)
        (counted_after S r n (counts_inside S r runs m.counted))
        (later m.storage m.regs ps (n + 1) (count_after (alone S r) (StepOf 0) c) m.standing)

    by_deep : (qs : List Phase) → are_away ps ≡ true → begins (syllables (x ∷ xs)) (running_path S r) ≡ true → DeepMove A (x ∷ xs) S r qs (host_step_of S 0 r) → PlaysOn (suc k) S r ps n c
    by_deep qs e runs m =
        let is : state_after (alone S r) (StepOf 0) ≡ alone m.storage m.regs = ap (λ (R : Stepped). (moved_by (alone S r) 0 R).state) m.step in
        let outside : is_outside (length (x ∷ xs)) (moved_by (alone S r) 0 (host_step_of S 0 r)).kind ≡ true =
        ap (λ (R : Stepped). is_outside (length (x ∷ xs)) (moved_by (alone S r) 0 R).kind) m.step ∙ lt-ltb 0 (length (x ∷ xs)) (let h : 0 < suc (length xs) = omega arith in h)
        in
        plays_deep (syllables (x ∷ xs)) (x ∷ xs) (foot A (x ∷ xs)) k (alone S r) (alone m.storage m.regs) is c (waits ps) (waits qs) n (none_left ps e)
        (ap (λ (R : Stepped). any_deep (kind_counted c 0 (moved_by (alone S r) 0 R).kind).faults) m.step ∙ deep_counted c 0 0 m.address m.access)
        (quiet_after S m.storage r m.regs n (counts_outside S r runs outside) is m.spares)
        (later m.storage m.regs qs n (count_after (alone S r) (StepOf 0) c) m.standing)

    by_end : are_away ps ≡ true → PlaysOn (suc k) S r ps n c
    by_end e =
        let first = away_first S r x xs ps stand.phases e in
        let t = top_move A x xs ground S r ps stand first.0 first.1 e in
        elim t.1 [
          | inl m ↦ by_top e t.0 m
          | inr m ↦ by_deep (Back ∷ first.0) e t.0 m
        ]

    by_any : (t : Bool) → are_away ps ≡ t → PlaysOn (suc k) S r ps n c
    by_any true e = by_end e
    by_any false e = by_monitor e

  pub plays : (k : ℕ) (S : List ℕ) (r : Regs) (ps : List Phase) (n : ℕ) (c : Count) → Standing A (x ∷ xs) S r ps
      → Plays (syllables (x ∷ xs)) (x ∷ xs) (foot A (x ∷ xs)) k (alone S r) (waits ps) n c
  unfolding tally_of
  plays zero S r ps n c stand = record { total = n; told = refl; early = λ h. refl; runs = inr (omega arith) }
  plays (suc k) S r ps n c stand = by_any k (plays k) S r ps n c stand (are_away ps) refl
