-- A tower that was built lies as a tower does, and its top sees what a bare machine with the same lines sees.
use Rattle.std.proofs.Common.{◌≡◌, ℕ, zero, suc, ◌+◌, ◌*◌, ◌/◌, ◌%◌, ◌<◌, ◌≤◌, List, [], ◌∷◌, ◌++◌, length, map, replicate, Option, Some, None, Ok, refl, ap, ◌∙◌, sym, subst, arith, get_or}
use Rattle.std.specs.List.{All}
use Rattle.std.proofs.lemmas.List.{ext_get_or}
use Rattle.hv_limits.specs.Limits.{pages_limit}
use Rattle.hv_word.specs.Storage.{page_count}
use Rattle.hv_cpu.specs.Regs.{reset_regs}
use Rattle.hv_store.specs.Access.{open_at}
use Rattle.hv_map.specs.Chain.{pin_of}
use Rattle.hv_map.specs.Seen.{seen}
use Rattle.hv_map.proofs.Views.{length-seen, word_at-seen}
use Rattle.hv_line.specs.declared.types.Directive.TheVariants as directive
use Rattle.hv_job.specs.declared.job.Job.{Job}
use Rattle.hv_job.specs.declared.job.Placed.{Placed}
use Rattle.hv_samples.specs.declared.choice.Sample.TheVariants.{Pass}
use Rattle.hv_load.specs.declared.ends.BuildKind.{BuildKind}
use Rattle.hv_load.specs.declared.ends.BuildKind.TheVariants as kind
use Rattle.hv_load.specs.declared.start.Start.{Start}
use Rattle.hv_load.specs.Building.{Building, nothing_built}
use Rattle.hv_load.specs.Build.{build_of, built_from, command_fault, end_of, finish_of, start_of, towered_of, unless_fault, unless_refused, watch_asked, watch_fault}
use Rattle.hv_towers.specs.Laid.{from_base, LaidFrom}
use Rattle.hv_towers.specs.Towers.{IsTopLine, TowerBuildLaw, with_tower}
use Rattle.hv_towers.proofs.Bases.{base_slot, length-base}
use Rattle.hv_towers.proofs.Passing.{same_ok, never_ok, line_bound, then_bound}
use Rattle.hv_towers.proofs.Storeys.{Storeys, items_of, end_base, end_size, laid_from, map_is, pinned_are}
use Rattle.hv_towers.proofs.Standing.{apart_are}
use Rattle.hv_towers.proofs.Rising.{Empty, last_size, tower_stands}
use Rattle.hv_towers.proofs.Filling.{Did, Matches, lines_done, match_lines, put_lines, watched_lines, watches_are}
use Rattle.hv_lex.specs.Refusing.{at_line}

-- what the top sees
seen_is : (S T : List ℕ) (N base : ℕ) → Matches N base S T → seen S (from_base base N) ≡ T
seen_is S T N base h =
    let size : length T ≡ 1024 * N = h.size in
    let pages : length (from_base base N) ≡ N = length-base base N in
    let long : length (seen S (from_base base N)) ≡ 1024 * length (from_base base N) = length-seen S (from_base base N) in
    ext_get_or 0 (seen S (from_base base N)) T (omega (arith, long, pages, size)) (λ q lt.
    let below : q < 1024 * N = omega (arith, long, pages, lt) in
    let whole : q ≡ 1024 * (q / 1024) + q % 1024 = omega arith in
    let moved : 1024 * (base + q / 1024) + q % 1024 ≡ 1024 * base + q = further (q / 1024) (q % 1024) q whole in
    ap (λ (k : ℕ). get_or (seen S (from_base base N)) k 0) whole
    ∙ word_at-seen S (from_base base N) (q / 1024) (base + q / 1024) (q % 1024) (open_at (base + q / 1024)) (base_slot base N (q / 1024) (omega (arith, below))) refl (omega arith)
    ∙ ap (λ (k : ℕ). get_or S k 0) moved
    ∙ h.same q below)
  where
    further : (d r q : ℕ) → q ≡ 1024 * d + r → 1024 * (base + d) + r ≡ 1024 * base + q
    further d r q e = omega (arith, e)

-- one of the two jobs, from its first line to its end
record Whole (P depth top : ℕ) (parts : List Placed) (start : Start) : Type 0 where
  ns : List ℕ
  before : List ℕ
  before_size : length before ≡ 1024 * P
  empty : (q : ℕ) → 1024 * end_base 0 ns ≤ q → get_or before q 0 ≡ 0
  store : start.store ≡ put_lines (end_base 0 ns) before parts
  size : length start.store ≡ 1024 * P
  storeys : Storeys start.store 0 P ns
  levels : length ns ≡ depth
  pages : end_size P ns ≡ last_size P top depth
  room : end_base 0 ns + end_size P ns ≤ P
  harts : start.harts ≡ reset_regs ∷ []
  watches : start.plan.watches ≡ watched_lines (length ns) parts

unfaulted : (b : Building) (o : Option ℕ) (start : Start) → unless_fault b o ≡ Ok start → start_of b ≡ start
unfaulted b None start is = same_ok (start_of b) start (unless_fault b None) refl is
unfaulted b (Some line) start is = absurd (never_ok (line, kind.Watch) start is)

unrefused : (b : Building) (o : Option (ℕ × BuildKind)) (start : Start) → unless_refused b o ≡ Ok start → finish_of b ≡ Ok start
unrefused b None start is = is
unrefused b (Some end) start is = absurd (never_ok end start is)

whole : (job : Job) (P depth top line : ℕ) (parts : List Placed) (start : Start) → job.harts ≡ 1 → P ≤ pages_limit → 1 ≤ top → All IsTopLine parts → build_of (with_tower job P depth top line parts) ≡ Ok start → Whole P depth top parts start
unfolding build_of built_from
whole job P depth top line parts start harts few some all is =
    let b : Building = nothing_built P job.harts in
    let first_line : Placed = record { line = line; what = directive.Tower depth top Pass } in
    let lines = then_bound (built_from b (first_line ∷ parts)) (end_of job.commands) start is in
    let first = then_bound (at_line line (towered_of b line depth top Pass)) (λ next. built_from next parts) lines.0 lines.1 in
    let tower : towered_of (nothing_built P job.harts) line depth top Pass ≡ Ok first.0 = line_bound line (towered_of b line depth top Pass) first.0 first.1 in
    let e : Empty P depth top first.0 = tower_stands P line depth top first.0 few some (subst (λ (h : ℕ). towered_of (nothing_built P h) line depth top Pass ≡ Ok first.0) harts tower) in
    let d : Did P e.ns first.0 lines.0 (put_lines (end_base 0 e.ns) first.0.storage parts) (watched_lines (length e.ns) parts) = lines_done P e.ns few parts first.0 lines.0 all e.stands first.2 in
    subst (Whole P depth top parts) (unfaulted lines.0 (watch_fault lines.0.storage lines.0.watches) start (unrefused lines.0 (command_fault lines.0 job.commands) start lines.2))
    record {
      ns = e.ns;
      before = first.0.storage;
      before_size = e.stands.size;
      empty = e.empty;
      store = d.storage;
      size = d.stands.size;
      storeys = d.stands.storeys;
      levels = e.levels;
      pages = e.pages;
      room = e.room;
      harts = d.stands.harts;
      watches = d.watches ∙ ap (λ ws. map watch_asked ws ++ watched_lines (length e.ns) parts) e.watches;
    }

last_deep : (size top depth : ℕ) → 1 ≤ depth → last_size size top depth ≡ top
unfolding last_size
last_deep size top zero deep = absurd (omega arith)
last_deep size top (suc depth) deep = refl

first_base : (ns : List ℕ) → length ns ≡ 0 → end_base 0 ns ≡ 0
unfolding end_base
first_base [] e = refl
first_base (m ∷ ns) e = absurd (omega arith)

pub built : TowerBuildLaw
built job pages depth top line parts start alone harts few deep short some all is is_alone =
    let w : Whole pages depth top parts start = whole job pages depth top line parts start harts few some all is in
    let at_top : end_size pages w.ns ≡ top = w.pages ∙ last_deep pages top depth deep in
    let room : end_base 0 w.ns + end_size pages w.ns ≤ pages = w.room in
    let v : Whole top 0 top parts alone = whole job top 0 top line parts alone harts (omega (arith, at_top, room, few)) some all is_alone in
    let bottom : end_base 0 v.ns ≡ 0 = first_base v.ns v.levels in
    let wide : 1024 * (end_base 0 w.ns + top) ≤ length w.before = omega (arith, at_top, room, w.before_size) in
    let first : Matches top (end_base 0 w.ns) w.before v.before = record {
      room = wide;
      size = v.before_size;
      same = λ q lt. w.empty (1024 * end_base 0 w.ns + q) (omega arith) ∙ sym (v.empty q (omega (arith, bottom)));
    } in
    let last : Matches top (end_base 0 w.ns) (put_lines (end_base 0 w.ns) w.before parts) (put_lines 0 v.before parts) = match_lines top (end_base 0 w.ns) parts w.before v.before first in
    let store : put_lines 0 v.before parts ≡ alone.store = ap (λ (k : ℕ). put_lines k v.before parts) (sym bottom) ∙ sym v.store in
    let match : Matches top (end_base 0 w.ns) start.store alone.store = subst (Matches top (end_base 0 w.ns) start.store) store (subst (λ (S : List ℕ). Matches top (end_base 0 w.ns) S (put_lines 0 v.before parts)) (sym w.store) last) in
    let count : page_count start.store ≡ pages = omega (arith, w.size) in
    record {
      items = items_of 0 w.ns;
      laid = record {
        deep = deep;
        short = short;
        pins = subst (λ (k : ℕ). pin_of start.store (replicate k 1) ≡ Some (items_of 0 w.ns)) w.levels (pinned_are start.store pages w.ns count few w.storeys);
        apart = apart_are start.store pages w.ns count few w.storeys;
        levels = subst (λ (p : ℕ). LaidFrom start.store 0 0 p (items_of 0 w.ns)) (sym count) (laid_from start.store 0 0 pages w.ns few w.storeys);
        sees = ap (seen start.store) (map_is start.store pages w.ns count few w.storeys ∙ ap (from_base (end_base 0 w.ns)) at_top) ∙ seen_is start.store alone.store top (end_base 0 w.ns) match;
        size = match.size;
      };
      harts = w.harts;
      watches = w.watches ∙ ap (λ (k : ℕ). watched_lines k parts) w.levels ∙ watches_are depth parts;
    }
