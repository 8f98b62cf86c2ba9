-- The job of a number is built: its lines one after another, and at last the test of its watch.
use Rattle.std.proofs.Common.{◌≡◌, ℕ, zero, suc, ◌+◌, ◌*◌, ◌/◌, ◌%◌, ◌<◌, ◌≤◌, Bool, true, false, cond, List, [], ◌∷◌, ◌++◌, length, map, replicate, codes, Option, Some, None, Result, Ok, refl, ap, ◌∙◌, arith}
use Rattle.std.specs.Prelude.{nat_lt}
use Rattle.std.specs.List.{range_with_len}
use Rattle.std.specs.Result.{is_ok}
use Rattle.std.proofs.lemmas.Bool.{le-leb, le-ltb, lt-ltb}
use Rattle.hv_limits.specs.Limits.{pages_limit}
use Rattle.hv_word.specs.Storage.{page_count}
use Rattle.hv_irq.specs.declared.Event.{Event}
use Rattle.hv_job.specs.declared.job.Placed.{Placed}
use Rattle.hv_map.specs.Apart.{table_pages}
use Rattle.hv_map.specs.Chain.{map_of}
use Rattle.hv_samples.specs.declared.choice.Sample.TheVariants.{Pass}
use Rattle.hv_load.specs.declared.ends.BuildKind.{BuildKind}
use Rattle.hv_load.specs.declared.ends.BuildKind.TheVariants as kind
use Rattle.hv_load.specs.declared.start.Start.{Start}
use Rattle.hv_load.specs.Building.{Building, known, nothing_built}
use Rattle.hv_load.specs.Build.{build_of, built_from, can_watch, done_of, end_of, start_of, towered_of, unless_fault, watch_fault}
use Rattle.hv_load.specs.Directives.{image_of, is_shared, watch_in, watch_of}
use Rattle.hv_load.specs.Generator.{depths, gen_job_of, job_with, kernel_line, kernel_of, schedule_of, tower_line, turn_line, turn_lines, watch_line}
use Rattle.hv_load.specs.Tower.{grown}
use Rattle.hv_load.proofs.Generated.{length-kernel_of}
use Rattle.hv_towers.specs.Laid.{from_base}
use Rattle.hv_towers.proofs.Bases.{length-base}
use Rattle.hv_towers.proofs.Storeys.{end_base, end_size, map_of_is}
use Rattle.hv_towers.proofs.Rising.{Stands, last_size}
use Rattle.hv_towers.proofs.Filling.{Did, done}
use Rattle.hv_generated.specs.Fitting.{GeneratedBuildLaw}
use Rattle.hv_generated.proofs.Given.{allowed, goes_on, not_refused}
use Rattle.hv_generated.proofs.Parts.{Filled, image_written}
use Rattle.hv_generated.proofs.Fitted.{Tower, tower}
use Rattle.hv_lex.specs.Refusing.{◌>>=◌, at_line}

-- one line that is done, and the turns, which change nothing
line_done : (b next : Building) (p : Placed) (lines : List Placed) → done_of b p.line p.what ≡ Ok next → built_from b (p ∷ lines) ≡ built_from next lines
unfolding built_from
line_done b next p lines is = ap (λ (r : Result Building BuildKind). ((at_line p.line r) >>= (λ next. built_from next lines))) is

turns_done : (b : Building) → length b.harts ≡ 1 → (a n : ℕ) (rest : List Placed) → built_from b (map turn_line (range_with_len a n) ++ rest) ≡ built_from b rest
turns_done b one a zero rest = refl
turns_done b one a (suc n) rest =
    line_done b b (turn_line a) (map turn_line (range_with_len (a + 1) n) ++ rest)
    (allowed (nat_lt 0 (length b.harts)) kind.Hart (Ok b) b (lt-ltb 0 (length b.harts) (omega (arith, one))) refl)
    ∙ turns_done b one (a + 1) n rest

-- the map of the top
top_map : (P : ℕ) (ns : List ℕ) (b : Building) → P ≤ pages_limit → (s : Stands P ns b) → map_of b.storage s.top.path ≡ Some (from_base (end_base 0 ns) (end_size P ns))
top_map P ns b few s =
    let pages : page_count b.storage ≡ P = omega (arith, s.size) in
    ap (map_of b.storage) s.path ∙ map_of_is b.storage P ns pages few s.storeys

-- one hart runs the top alone, whether or not it is the bare machine
not_shared : (depth harts : ℕ) → harts ≡ 1 → is_shared (replicate depth 1) harts ≡ false
not_shared zero harts one = le-ltb 1 harts (omega (arith, one))
not_shared (suc depth) harts one = refl

-- the watch of the top, which is the only one and can be
module _ (P : ℕ) (ns : List ℕ) (b : Building) (few : P ≤ pages_limit) (s : Stands P ns b) (room : end_base 0 ns + end_size P ns ≤ P) (none : b.watches ≡ []) (line : ℕ) where
  abbrev watched : Building
  watched = record b { watches = b.watches ++ record { line = line; watch = record { hart = 0; path = s.top.path } } ∷ [] }

  one_hart : length b.harts ≡ 1
  one_hart = ap length s.harts

  watch_done : watch_of b line 0 (codes "top") ≡ Ok watched
  watch_done =
      allowed (nat_lt 0 (length b.harts)) kind.Hart (known (codes "top") b.names >>= watch_in b line 0) watched (lt-ltb 0 (length b.harts) (omega (arith, one_hart)))
      (goes_on (known (codes "top") b.names) (watch_in b line 0) s.top watched s.is_known
      (not_refused (is_shared s.top.path (length b.harts)) kind.Watch (Ok watched) watched
      (ap (λ (p : List ℕ). is_shared p (length b.harts)) s.path ∙ not_shared (length ns) (length b.harts) one_hart)
      refl))

  watchable : can_watch (map_of b.storage s.top.path) ≡ true
  watchable =
      let pages : length (from_base (end_base 0 ns) (end_size P ns)) ≡ end_size P ns = length-base (end_base 0 ns) (end_size P ns) in
      let fits : end_base 0 ns + end_size P ns ≤ P = room in
      let limit : P ≤ pages_limit = few in
      ap can_watch (top_map P ns b few s) ∙ le-leb (length (from_base (end_base 0 ns) (end_size P ns))) pages_limit (omega (arith, pages, fits, limit))

  no_fault : watch_fault b.storage watched.watches ≡ None
  no_fault =
      ap (λ (ws : List _). watch_fault b.storage (ws ++ record { line = line; watch = record { hart = 0; path = s.top.path } } ∷ [])) none
      ∙ ap (λ (c : Bool). let o : Option ℕ = cond c None (Some line) in o) watchable

  -- and then the job is built
  pub last_lines : (turns : List Placed → List Placed) → ((rest : List Placed) → built_from b (turns rest) ≡ built_from b rest) → (p : Placed) → done_of b p.line p.what ≡ watch_of b line 0 (codes "top") → ((built_from b (turns (p ∷ []))) >>= (end_of [])) ≡ Ok (start_of watched)
  unfolding built_from
  last_lines turns pass p is =
      ap (λ (r : Result Building (ℕ × BuildKind)). (r >>= (end_of []))) (pass (p ∷ []) ∙ line_done b watched p [] (is ∙ watch_done))
      ∙ ap (unless_fault watched) no_fault

last_some : (P top depth : ℕ) → 1 ≤ P → 1 ≤ top → 1 ≤ last_size P top depth
unfolding last_size
last_some P top zero large some = large
last_some P top (suc depth) large some = some

-- eight machines around 4 pages have 28
grown_small : (levels : ℕ) → levels < depths → grown levels 4 ≤ 4 + 3 * levels
grown_small zero few = omega arith
grown_small (suc levels) few = one_more (grown levels 4) levels (omega (arith, few)) (grown_small levels (omega (arith, few)))
  where
    one_more : (g l : ℕ) → l ≤ 7 → g ≤ 4 + 3 * l → g + 2 + table_pages g ≤ 4 + 3 * suc l
    one_more g l few small = omega (arith, few, small)

job_built : (depth : ℕ) (kernel : List ℕ) (schedule : List Event) → depth < depths → length kernel ≤ 1024 → (start : Start) × (build_of (job_with depth kernel schedule) ≡ Ok start)
unfolding build_of turn_lines
job_built depth kernel schedule short few =
    filled (image_written t.after t.stands.top (end_base 0 t.ns) (end_size 28 t.ns) (top_map 28 t.ns t.after (omega arith) t.stands) t.pages (codes "top") kernel t.stands.is_known few some (t.free (end_base 0 t.ns) (omega arith) (omega (arith, some, t.room))))
  where
    t : Tower 28 depth 4 (towered_of (nothing_built 28 1) 3 depth 4 Pass)
    t = tower 28 3 depth 4 (omega arith) (omega (arith, short)) (omega arith) (omega (arith, grown_small depth short, short))

    some : 0 < end_size 28 t.ns
    some = let large : 1 ≤ last_size 28 4 depth = last_some 28 4 depth (omega arith) (omega arith) in omega (arith, t.size, large)

    turns : ℕ
    turns = length schedule

    filled : (d : Building) × (image_of t.after (codes "top") record { base = 0; words = kernel } ≡ Ok d) × Filled t.after d (end_base 0 t.ns) → (start : Start) × (build_of (job_with depth kernel schedule) ≡ Ok start)
    filled f =
        let did : Did 28 t.ns t.after f.0 _ _ = done 28 t.ns (omega arith) t.after f.0 t.stands 4 (kernel_line kernel).what refl f.1 in
        let one : length f.0.harts ≡ 1 = ap length did.stands.harts in (
          _,
          ap (λ (r : Result Building (ℕ × BuildKind)). (r >>= (end_of [])))
              (line_done (nothing_built 28 1) t.after (tower_line depth) (kernel_line kernel ∷ turn_lines turns ++ watch_line turns ∷ []) t.is
              ∙ line_done t.after f.0 (kernel_line kernel) (turn_lines turns ++ watch_line turns ∷ []) f.1)
              ∙ last_lines 28 t.ns f.0 (omega arith) did.stands t.room (f.2.watches ∙ t.watches) (518 + turns) (λ rest. turn_lines turns ++ rest) (turns_done f.0 one 0 turns) (watch_line turns) refl,
        )

pub jobs_built : GeneratedBuildLaw
unfolding gen_job_of
jobs_built number =
    ap is_ok
    (job_built (number % depths) (kernel_of (number / depths)) (schedule_of (number % depths)) (omega arith) (omega (arith, length-kernel_of (number / depths)))).1
