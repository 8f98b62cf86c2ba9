-- What is so of a tower at each moment, and one step of the bare machine's hart.
use Rattle.std.proofs.Common.{◌≡◌, ◌≢◌, ℕ, ◌+◌, ◌-◌, ◌<◌, ◌≤◌, ◌⊎◌, inl, inr, Bool, true, false, cond, List, [], ◌∷◌, length, Some, refl, ap, ◌∙◌, sym, subst, arith}
use Rattle.std.proofs.lemmas.Bool.{le-ltb, eq-eqb, ne_eqb}
use Rattle.hv_word.specs.Storage.{page_count, word_at}
use Rattle.hv_cpu.specs.Regs.{Regs}
use Rattle.hv_store.specs.declared.access.Access.{Access}
use Rattle.hv_store.specs.declared.access.Access.TheVariants.{Read}
use Rattle.hv_store.specs.declared.access.Refusal.{Refusal}
use Rattle.hv_store.specs.declared.access.Slot.{Slot}
use Rattle.hv_store.specs.declared.access.Way.TheVariants.{Open, Shut}
use Rattle.hv_store.specs.Access.{identity}
use Rattle.hv_block.proofs.Fits.{hart_fits}
use Rattle.hv_block.specs.Block.{regs_at, with_fault, access_word, IsOther}
use Rattle.hv_map.specs.Item.{Item}
use Rattle.hv_map.specs.Chain.{running, running_path}
use Rattle.hv_limits.specs.Limits.{depth_limit}
use Rattle.hv_map.specs.Compose.{reading}
use Rattle.hv_map.specs.Seen.{seen}
use Rattle.hv_map.specs.Words.{Chained, syllables}
use Rattle.hv_map.proofs.Handed.{reading_slot}
use Rattle.hv_map.proofs.Views.{seen_agrees, length-seen, page_count-seen}
use Rattle.hv_nest.specs.Step.{Stepped, Worked, Recalled, Faulted, Barred, idle, put_back, step_of, host_step_of}
use Rattle.hv_nest.specs.Move.{moved_by}
use Rattle.hv_nest.specs.Bare.{alone}
use Rattle.hv_nest.specs.Received.{IsReceived}
use Rattle.hv_nest.specs.Routing.{regs_along}
use Rattle.hv_nest.specs.Simulation.{Sees, StepLike, refused_further_out, both_work, both_recall, both_fault, both_refused, StillSees}
use Rattle.hv_nest.specs.Watched.{begins, is_outside, last_block}
use Rattle.hv_nest.proofs.Routes.{receiving}
use Rattle.hv_nest.proofs.SimulationLaws.{simulation}
use Rattle.hv_whole.specs.Linked.{EachBlock, BlocksDiffer}
use Rattle.hv_whole.proofs.Each.{each_block, more, more_is, deep, deep_is}
use Rattle.hv_whole.proofs.Descend.{lifted}
use Rattle.hv_whole.proofs.Lifts.{kept, puts, length-puts, puts_other, puts_own, lifted_worked, lifted_recalled, lifted_faulted}
use Rattle.hv_towers.specs.Laid.{from_base, LaidFrom}
use Rattle.hv_towers.proofs.Phases.{Phase, Away, Back, advance, are_away, InPhases}
use Rattle.hv_towers.proofs.Bases.{length-base, base_zero, base_way, same_page, none_before, base_inside}
use Rattle.hv_towers.proofs.Floors.{Floors, top_base, top_pages}
use Rattle.hv_towers.proofs.Spares.{IsSize, Spares, fault_spares, fault_regs, phases_same, every_block, regs_same}
use Rattle.hv_towers.proofs.Climb.{climbs}
use Rattle.hv_towers.proofs.Reach.{top_step, reaches, puts_phases}
use Rattle.hv_towers.proofs.Deep.{PassesDeep, ShutFrom, step_deep}
use Rattle.hv_towers.proofs.Fits.{Fit, StepFits, host_fits}
use Rattle.hv_towers.proofs.Sizes.{EachFew}
use Rattle.hv_towers.proofs.Zones.{Zone, laid_numbered, top_ends, zone_below, zone_blocks, each_spared, floors_now}
use Rattle.hv_towers.proofs.Foot.{last_spared}
use Rattle.hv_whole.proofs.Untouched.{own_last}

-- what is so of the start, of the machines x and xs on the way
pub record Ground (A : List ℕ) (items : List Item) : Type 0 where
  pub laid : LaidFrom A 0 0 (page_count A) items
  pub chained : Chained A (from_base 0 (page_count A)) 0 items
  pub few : EachFew items
  pub inside : EachBlock (λ b. b < page_count A) items
  pub differ : BlocksDiffer items
  pub short : length items ≤ depth_limit

-- what is so at each moment, of the storage S and the hart's registers r
pub record Standing (A : List ℕ) (items : List Item) (S : List ℕ) (r : Regs) (ps : List Phase) : Type 0 where
  pub size : length S ≡ length A
  pub steady : (g w : ℕ) → w < 1024 → Zone 0 items g w → word_at S g w ≡ word_at A g w
  pub phases : InPhases S r items ps
  pub fit : Fit (top_pages (page_count A) items) (regs_along S items r)

-- a step of a monitor
pub record MonitorMove (A : List ℕ) (items : List Item) (S : List ℕ) (r : Regs) (ps : List Phase) : Type 0 where
  pub storage : List ℕ
  pub regs : Regs
  pub step : host_step_of S 0 r ≡ Worked storage regs
  pub short : begins (syllables items) (running_path S r) ≡ false
  pub spares : Spares items S storage
  pub standing : Standing A items storage regs (advance ps)

-- a step of the machine at the end, or of one inside it
pub record TopMove (A : List ℕ) (items : List Item) (S : List ℕ) (r : Regs) (ps : List Phase) (R : Stepped) : Type 0 where
  pub storage : List ℕ
  pub regs : Regs
  pub state : (moved_by (alone S r) 0 R).state ≡ alone storage regs
  pub counted : is_outside (length items) (moved_by (alone S r) 0 R).kind ≡ false
  pub standing : Standing A items storage regs ps

-- one that the bare machine is told of, for a machine that is too deep
pub record DeepMove (A : List ℕ) (items : List Item) (S : List ℕ) (r : Regs) (ps : List Phase) (R : Stepped) : Type 0 where
  pub storage : List ℕ
  pub regs : Regs
  pub address : ℕ
  pub access : Access
  pub step : R ≡ Faulted 0 5 address access storage regs
  pub spares : Spares items S storage
  pub standing : Standing A items storage regs ps

NotBarred : Stepped → Type 0
NotBarred (Worked S r) = Unit {0}
NotBarred (Recalled l S r) = Unit {0}
NotBarred (Faulted l c a b S r) = Unit {0}
NotBarred (Barred e) = ⊥

received_some : (S : List ℕ) (items : List Item) (r : Regs) (X : Stepped) → IsReceived S items r X → NotBarred X
unfolding NotBarred
received_some S items r (Worked T q) h = tt
received_some S items r (Recalled l T q) h = tt
received_some S items r (Faulted l c a b T q) h = tt
received_some S items r (Barred e) h = h

-- what the bare machine is told passes each machine on the way
lifted_out : (S : List ℕ) (j : ℕ) (items : List Item) (r : Regs) (e : Refusal) → e.level ≡ 0 → 0 < j → lifted S j items r (Barred e) ≡ Barred e
unfolding lifted
lifted_out S j [] r e zeroth h = refl
lifted_out S j (x ∷ xs) r e zeroth h =
    ap (put_back S j r x.block) (lifted_out S (j + 1) xs (regs_at S x.block) e zeroth (omega (arith, h)))
    ∙ ap (λ (t : Bool). cond t (Faulted j e.cause e.address e.access (with_fault S x.block e.cause e.address (access_word e.access)) (idle r)) (Barred e))
    (ne_eqb e.level j (λ f. omega (arith, f, zeroth, h)))

told_out : (S : List ℕ) (x : Item) (xs : List Item) (r : Regs) (e : Refusal) → e.level ≡ 0 → lifted S 0 (x ∷ xs) r (Barred e) ≡ Faulted 0 e.cause e.address e.access (with_fault S x.block e.cause e.address (access_word e.access)) (idle r)
unfolding lifted
told_out S x xs r e zeroth =
    ap (put_back S 0 r x.block) (lifted_out S 1 xs (regs_at S x.block) e zeroth (omega arith))
    ∙ ap (λ (t : Bool). cond t (Faulted 0 e.cause e.address e.access (with_fault S x.block e.cause e.address (access_word e.access)) (idle r)) (Barred e)) (eq-eqb e.level 0 zeroth)

module _ (A : List ℕ) (x : Item) (xs : List Item) (ground : Ground A (x ∷ xs)) where
  some_last : (y : Item) (ys : List Item) → (b : ℕ) × (last_block (y ∷ ys) ≡ Some b)
  some_last y [] = (y.block, refl)
  some_last y (z ∷ zs) = some_last z zs

  -- the registers of the machine at the end stay where a step spares their words
  own_spared : (S U : List ℕ) (r q : Regs) → Spares (x ∷ xs) S U → regs_along U (x ∷ xs) q ≡ regs_along S (x ∷ xs) r
  own_spared S U r q spares =
      let l = some_last x xs in
      own_last U (x ∷ xs) l.0 q l.1
      ∙ regs_same S U l.0 (λ w h. spares.same l.0 w (omega (arith, h)) (last_spared (x ∷ xs) l.0 w ground.differ l.1 h))
      ∙ sym (own_last S (x ∷ xs) l.0 r l.1)

  module _ (S : List ℕ) (r : Regs) (ps : List Phase) (stand : Standing A (x ∷ xs) S r ps) where
    same_pages : page_count S ≡ page_count A
    same_pages = let e : length S ≡ length A = stand.size in omega (arith, e)

    spared_stands : (U : List ℕ) (q : Regs) (qs : List Phase) → Spares (x ∷ xs) S U → InPhases U q (x ∷ xs) qs → Standing A (x ∷ xs) U q qs
    spared_stands U q qs spares phases = record {
      size = spares.size ∙ stand.size;
      steady = λ g w h z. spares.same g w h (each_spared (x ∷ xs) g w (zone_blocks 0 (x ∷ xs) g w (laid_numbered A 0 0 (page_count A) (x ∷ xs) ground.laid) z)) ∙ stand.steady g w h z;
      phases = phases;
      fit = subst (Fit (top_pages (page_count A) (x ∷ xs))) (sym (own_spared S U r q spares)) stand.fit;
    }

    floors : Floors S 0 0 (page_count A) (x ∷ xs)
    floors = floors_now A S same_pages 0 0 (page_count A) (x ∷ xs) ground.laid ground.chained ground.few ground.inside stand.steady

    fuel : more (x ∷ xs) (depth_limit - length (x ∷ xs)) ≡ depth_limit
    fuel = let short : length (x ∷ xs) ≤ depth_limit = ground.short in more_is (x ∷ xs) (depth_limit - length (x ∷ xs)) ∙ (let e : length (x ∷ xs) + (depth_limit - length (x ∷ xs)) ≡ depth_limit = omega (arith, short) in e)

    root : identity (page_count S) ≡ from_base 0 (page_count A)
    root = ap identity same_pages ∙ base_zero (page_count A)

    host_is : host_step_of S 0 r ≡ step_of (more (x ∷ xs) (depth_limit - length (x ∷ xs))) S (from_base 0 (page_count A)) 0 0 r
    unfolding host_step_of
    host_is = λ i. step_of ((sym fuel) i) S (root i) 0 0 r

    path_is : running_path S r ≡ running (more (x ∷ xs) (depth_limit - length (x ∷ xs))) S (from_base 0 (page_count A)) 0 r
    path_is = λ i. running ((sym fuel) i) S (root i) 0 r

    pub monitor_move : are_away ps ≡ false → MonitorMove A (x ∷ xs) S r ps
    monitor_move e =
        let c = climbs (depth_limit - length (x ∷ xs)) S 0 0 (page_count A) 0 r (x ∷ xs) ps floors ground.differ stand.phases e in
        record {
          storage = c.step.storage;
          regs = c.step.regs;
          step = host_is ∙ c.step.step;
          short = ap (begins (syllables (x ∷ xs))) path_is ∙ c.short;
          spares = c.step.spares;
          standing = spared_stands c.step.storage c.step.regs (advance ps) c.step.spares c.step.phases;
        }

    -- where all monitors are away
    reading_is : (y g : ℕ) → reading (from_base (top_base 0 (x ∷ xs)) (top_pages (page_count A) (x ∷ xs))) y ≡ Some (Open g) → (top_base 0 (x ∷ xs) + y ≡ g) × (y < top_pages (page_count A) (x ∷ xs))
    reading_is y g e =
        let t = reading_slot (from_base (top_base 0 (x ∷ xs)) (top_pages (page_count A) (x ∷ xs))) y (Open g) e in (
          same_page (top_base 0 (x ∷ xs) + y) g (sym (base_way (top_base 0 (x ∷ xs)) (top_pages (page_count A) (x ∷ xs)) y t.0 Read t.1) ∙ t.2),
          base_inside (top_base 0 (x ∷ xs)) (top_pages (page_count A) (x ∷ xs)) y t.0 t.1,
        )

    sees : Sees (length (x ∷ xs)) (from_base (top_base 0 (x ∷ xs)) (top_pages (page_count A) (x ∷ xs))) S (seen S (from_base (top_base 0 (x ∷ xs)) (top_pages (page_count A) (x ∷ xs))))
    sees = record {
      apart = λ y z g e f. omega (arith, (reading_is y g e).0, (reading_is z g f).0);
      inside = λ y g e. omega (arith, (reading_is y g e).0, (reading_is y g e).1, top_ends A 0 0 (page_count A) (x ∷ xs) ground.laid, same_pages);
      same = λ y s a g is e. base_way (top_base 0 (x ∷ xs)) (top_pages (page_count A) (x ∷ xs)) y s Read is ∙ sym (base_way (top_base 0 (x ∷ xs)) (top_pages (page_count A) (x ∷ xs)) y s a is) ∙ e;
      below = λ y s a l cause p w is e. absurd (let f : Open (top_base 0 (x ∷ xs) + y) ≡ Shut l cause p w = sym (base_way (top_base 0 (x ∷ xs)) (top_pages (page_count A) (x ∷ xs)) y s a is) ∙ e in cc);
      size = length-seen S (from_base (top_base 0 (x ∷ xs)) (top_pages (page_count A) (x ∷ xs)));
      agree = seen_agrees S (from_base (top_base 0 (x ∷ xs)) (top_pages (page_count A) (x ∷ xs)));
    }

    never_shut : ShutFrom (length (x ∷ xs)) (from_base (top_base 0 (x ∷ xs)) (top_pages (page_count A) (x ∷ xs)))
    never_shut y s a l cause p w is e = absurd (let f : Open (top_base 0 (x ∷ xs) + y) ≡ Shut l cause p w = sym (base_way (top_base 0 (x ∷ xs)) (top_pages (page_count A) (x ∷ xs)) y s a is) ∙ e in cc)

    -- the state after a step of the machine at the end
    module _ (T U : List ℕ) (d : Regs) (still : StillSees (length (x ∷ xs)) (from_base (top_base 0 (x ∷ xs)) (top_pages (page_count A) (x ∷ xs))) S (seen S (from_base (top_base 0 (x ∷ xs)) (top_pages (page_count A) (x ∷ xs)))) T U) (fit : Fit (top_pages (page_count A) (x ∷ xs)) d) where
      inside_now : EachBlock (λ b. b < page_count T) (x ∷ xs)
      inside_now = subst (λ (n : ℕ). EachBlock (λ b. b < n) (x ∷ xs)) (let e : length T ≡ length S = still.size in let f : length S ≡ length A = stand.size in omega (arith, e, f)) ground.inside

      top_stands : Standing A (x ∷ xs) (puts S (x ∷ xs) T d) (kept (x ∷ xs) d r) ps
      top_stands = record {
        size = length-puts S (x ∷ xs) T d ∙ still.size ∙ stand.size;
        steady = λ g w h z.
            puts_other S (x ∷ xs) T d g w h
            (each_block (λ b. (g ≢ b) ⊎ IsSize w) (λ b. (g ≢ b) ⊎ IsOther w) (λ b o. other g w b o) (x ∷ xs) (zone_blocks 0 (x ∷ xs) g w (laid_numbered A 0 0 (page_count A) (x ∷ xs) ground.laid) z))
            ∙ still.host g w (none_before (top_base 0 (x ∷ xs)) (top_pages (page_count A) (x ∷ xs)) g (zone_below 0 (x ∷ xs) g w z)) h
            ∙ stand.steady g w h z;
        phases = puts_phases S (x ∷ xs) T d r ps ground.differ inside_now stand.phases;
        fit = subst (Fit (top_pages (page_count A) (x ∷ xs))) (sym (puts_own S (x ∷ xs) T d r ground.differ inside_now)) fit;
      }
        where
          other : (g w b : ℕ) → (g ≢ b) ⊎ IsSize w → (g ≢ b) ⊎ IsOther w
          other g w b (inl ne) = inl ne
          other g w b (inr h) = inr (let low : 65 ≤ w = h.0 in (omega (arith, low), λ e. omega (arith, e, low)))

    -- the state after one that the bare machine is told of
    deep_stands : (qs : List Phase) → ps ≡ Away ∷ qs → (cause address kind : ℕ) → Standing A (x ∷ xs) (with_fault S x.block cause address kind) (idle r) (Back ∷ qs)
    deep_stands qs is cause address kind =
        let V : List ℕ = with_fault S x.block cause address kind in
        let phases : InPhases S r (x ∷ xs) (Away ∷ qs) = subst (InPhases S r (x ∷ xs)) is stand.phases in
        spared_stands V (idle r) (Back ∷ qs) (fault_spares S x xs cause address kind) (
          ap idle phases.0,
          phases_same S V (regs_at S x.block) (regs_at V x.block) xs qs (sym (fault_regs S x.block cause address kind x.block)) (every_block (λ b. regs_at V b ≡ regs_at S b) (fault_regs S x.block cause address kind) xs) phases.1,
        )

    decide : (qs : List Phase) → ps ≡ Away ∷ qs → (R X Y : Stepped) → R ≡ lifted S 0 (x ∷ xs) r X
        → StepLike (length (x ∷ xs)) (StillSees (length (x ∷ xs)) (from_base (top_base 0 (x ∷ xs)) (top_pages (page_count A) (x ∷ xs))) S (seen S (from_base (top_base 0 (x ∷ xs)) (top_pages (page_count A) (x ∷ xs))))) X Y
        → StepFits (top_pages (page_count A) (x ∷ xs)) Y → NotBarred Y → PassesDeep (length (x ∷ xs)) X
        → TopMove A (x ∷ xs) S r ps R ⊎ DeepMove A (x ∷ xs) S r (Back ∷ qs) R
    unfolding NotBarred
    decide qs away R X Y is (both_work T U d still) fit some deep =
        inl (subst (TopMove A (x ∷ xs) S r ps) (sym (is ∙ lifted_worked S 0 (x ∷ xs) r T d)) record {
          storage = puts S (x ∷ xs) T d;
          regs = kept (x ∷ xs) d r;
          state = refl;
          counted = refl;
          standing = top_stands T U d still fit;
        })
    decide qs away R X Y is (both_recall l T U d still) fit some deep =
        inl (subst (TopMove A (x ∷ xs) S r ps) (sym (is ∙ lifted_recalled S 0 (x ∷ xs) r (l + length (x ∷ xs)) T d)) record {
          storage = puts S (x ∷ xs) T d;
          regs = kept (x ∷ xs) d r;
          state = refl;
          counted = le-ltb (l + length (x ∷ xs)) (length (x ∷ xs)) (omega arith);
          standing = top_stands T U d still fit;
        })
    decide qs away R X Y is (both_fault l cause address a T U d still) fit some deep =
        inl (subst (TopMove A (x ∷ xs) S r ps) (sym (is ∙ lifted_faulted S 0 (x ∷ xs) r (l + length (x ∷ xs)) cause address a T d)) record {
          storage = puts S (x ∷ xs) T d;
          regs = kept (x ∷ xs) d r;
          state = refl;
          counted = le-ltb (l + length (x ∷ xs)) (length (x ∷ xs)) (omega arith);
          standing = top_stands T U d still fit;
        })
    decide qs away R X Y is (refused_further_out e Z low) fit some deep = elim deep [
      | inl h ↦ absurd (omega (arith, h, low))
      | inr h ↦ inr record {
        storage = with_fault S x.block e.cause e.address (access_word e.access);
        regs = idle r;
        address = e.address;
        access = e.access;
        step = is ∙ told_out S x xs r e h.0 ∙ ap (λ (cause : ℕ). Faulted 0 cause e.address e.access (with_fault S x.block e.cause e.address (access_word e.access)) (idle r)) h.1;
        spares = fault_spares S x xs e.cause e.address (access_word e.access);
        standing = deep_stands qs away e.cause e.address (access_word e.access);
      }
    ]
    decide qs away R X Y is (both_refused e) fit some deep = absurd some

    pub top_move : (qs : List Phase) → ps ≡ Away ∷ qs → are_away ps ≡ true
        → (begins (syllables (x ∷ xs)) (running_path S r) ≡ true)
        × (TopMove A (x ∷ xs) S r ps (host_step_of S 0 r) ⊎ DeepMove A (x ∷ xs) S r (Back ∷ qs) (host_step_of S 0 r))
    unfolding top_step deep
    top_move qs away all =
        let top : List Slot = from_base (top_base 0 (x ∷ xs)) (top_pages (page_count A) (x ∷ xs)) in
        let T : List ℕ = seen S top in
        let own : Regs = regs_along S (x ∷ xs) r in
        let size : page_count T ≡ top_pages (page_count A) (x ∷ xs) = page_count-seen S top ∙ length-base (top_base 0 (x ∷ xs)) (top_pages (page_count A) (x ∷ xs)) in
        let fit : Fit (page_count T) own = subst (λ (n : ℕ). Fit n own) (sym size) stand.fit in
        let reach = reaches (depth_limit - length (x ∷ xs)) S 0 0 (page_count A) 0 r (x ∷ xs) ps floors stand.phases all (hart_fits own stand.fit.kept) stand.fit.next in
        let level : deep 0 (x ∷ xs) ≡ length (x ∷ xs) = deep_is 0 (x ∷ xs) ∙ (let e : 0 + length (x ∷ xs) ≡ length (x ∷ xs) = omega arith in e) in
        let down : host_step_of S 0 r ≡ lifted S 0 (x ∷ xs) r (step_of (depth_limit - length (x ∷ xs)) S top (length (x ∷ xs)) 0 own) =
        host_is ∙ reach.step ∙ ap (λ (n : ℕ). lifted S 0 (x ∷ xs) r (step_of (depth_limit - length (x ∷ xs)) S top n 0 own)) level
        in
        let received = receiving T 0 own fit.next in (
          ap (begins (syllables (x ∷ xs))) path_is ∙ reach.long,
          decide qs away (host_step_of S 0 r) (step_of (depth_limit - length (x ∷ xs)) S top (length (x ∷ xs)) 0 own) (host_step_of T 0 own) down
              (simulation (length (x ∷ xs)) top S T 0 own ground.short sees)
              (subst (λ (n : ℕ). StepFits n (host_step_of T 0 own)) size (host_fits T 0 own fit))
              (received_some T received.0 own (host_step_of T 0 own) received.2)
              (step_deep (length (x ∷ xs)) (depth_limit - length (x ∷ xs)) S top (length (x ∷ xs)) 0 own (omega arith) never_shut),
        )
