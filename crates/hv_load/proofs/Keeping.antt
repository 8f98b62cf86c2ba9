-- What each directive keeps of a job while it is built.
use Rattle.std.proofs.Common.{◌≡◌, ℕ, suc, ◌+◌, ◌*◌, ◌/◌, ◌<◌, ◌≤◌, Bool, true, false, cond, ◌||◌, List, [], ◌∷◌, ◌++◌, length, map, set, codes, Option, Some, None, Result, Ok, Err, refl, sym, ap, subst, ◌∙◌, arith, length-append}
use Rattle.std.specs.Prelude.{IfOk, nat_lt, nat_le, is_some}
use Rattle.std.specs.List.{All}
use Rattle.std.proofs.Math.ListN.{length-set}
use Rattle.std.proofs.lemmas.Bool.{ltb-true, ltb-false, leb-true, true≢false}
use Rattle.std.proofs.lemmas.List.Sums.{sum_by-cons}
use Rattle.std.proofs.lemmas.List.{length-map, length-replicate}
use Rattle.std.proofs.lemmas.List.Elements.{All-push, All-replicate, All-set}
use Rattle.hv_apart.specs.Upgrade.{last_item, parent_map, upgrade_refusal, upgraded, upgraded_in}
use Rattle.hv_apart.specs.declared.upgrading.UpgradeEnd.{UpgradeEnd}
use Rattle.hv_apart.proofs.Rewriting.{length-rewritten}
use Rattle.hv_asm.specs.declared.Image.{Image}
use Rattle.hv_cpu.specs.Regs.{reset_regs}
use Rattle.hv_job.specs.IsJob.{IsJob}
use Rattle.hv_job.specs.Limited.{amount_of, share_of}
use Rattle.hv_job.specs.declared.job.Job.{Job}
use Rattle.hv_line.specs.declared.types.Directive.{Directive}
use Rattle.hv_line.specs.declared.types.Directive.TheVariants as directive
use Rattle.hv_job.specs.declared.job.Placed.{Placed}
use Rattle.hv_job.specs.declared.limited.Limited.TheVariants as limited
use Rattle.hv_map.specs.Chain.{map_along, map_of, pin_of, IsThere}
use Rattle.hv_limits.specs.Limits.{depth_limit, pages_limit}
use Rattle.hv_map.specs.Item.{Item}
use Rattle.hv_store.specs.Zeros.{zeros}
use Rattle.std.specs.Option.{option_map, unwrap_or}
use Rattle.hv_load.specs.declared.start.Start.{Start}
use Rattle.hv_load.specs.Ready.{EachWatched, IsReady}
use Rattle.hv_samples.specs.declared.choice.Sample.{Sample}
use Rattle.hv_load.specs.declared.ends.BuildEnd.{BuildEnd}
use Rattle.hv_load.specs.declared.ends.BuildKind.{BuildKind}
use Rattle.hv_load.specs.declared.ends.BuildKind.TheVariants as kind
use Rattle.hv_load.specs.declared.parts.PlacedWatch.{PlacedWatch}
use Rattle.hv_load.specs.declared.parts.Mark.TheVariants as mark
use Rattle.hv_load.specs.Building.{Building, Known, known, known_inside, named, nothing_built}
use Rattle.hv_load.specs.Build.{GivesStart, build_of, built_from, can_watch, command_fault, done_of, end_of, finish_of, part_of, parts_of, start_of, top_of, towered_of, unless_fault, unless_refused, watch_asked, watch_fault, with_top}
use Rattle.hv_line.specs.JobLimits.{job_machines}
use Rattle.hv_load.specs.Directives.{directory_page, dump_in, dump_of, event_of, hart_of, image_in, image_of, is_outside, is_shared, machine_of, made_in, mapped_in, mapped_of, pages_along, started_in, started_of, upgraded_along, upgraded_of, upgraded_unless, watch_in, watch_of, with_directory, with_made, words_in, words_of}
use Rattle.hv_load.specs.Kinds.{upgrade_kind}
use Rattle.hv_load.specs.Making.{block_word, can_take, table_word, with_machine, with_page, with_tables}
use Rattle.hv_load.specs.Pages.{block_page, each_from, free_page_of, marked, outer, page_at, page_of, place_by, reads_in, table_word_of, with_values}
use Rattle.hv_load.specs.Tower.{level_name, tower_of}
use Rattle.hv_load.proofs.Writing.{length-with_page}
use Rattle.hv_lex.specs.Refusing.{◌>>=◌, at_line}

failed : {B E : Type 0} (why : E) (y : B) (r : Result B E) → r ≡ Err why → r ≡ Ok y → ⊥
failed why y r e o = cc

-- what came before something that was given
bound : {A B : Type 0} (r : Result A BuildKind) (f : A → Result B BuildKind) (y : B) → (r >>= f) ≡ Ok y → (x : A) × (r ≡ Ok x) × (f x ≡ Ok y)
bound (Ok x) f y is = (x, refl, is)
bound (Err why) f y is = absurd (failed why y (Err why) refl is)

chosen : {B : Type 0} (c : Bool) (r : Result B BuildKind) (why : BuildKind) (y : B) → cond c r (Err why) ≡ Ok y → (c ≡ true) × (r ≡ Ok y)
chosen true r why y is = (refl, is)
chosen false r why y is = absurd (failed why y (Err why) refl is)

passed : {B : Type 0} (c : Bool) (r : Result B BuildKind) (why : BuildKind) (y : B) → cond c (Err why) r ≡ Ok y → (c ≡ false) × (r ≡ Ok y)
passed true r why y is = absurd (failed why y (Err why) refl is)
passed false r why y is = (refl, is)

given : {B E : Type 0} (x y : B) (r : Result B E) → r ≡ Ok x → r ≡ Ok y → x ≡ y
given x y r e o = cc

-- a watch that may be asked for, where there are so many harts
pub record IsAsked (harts : ℕ) (a : PlacedWatch) : Type 0 where
  pub hart : a.watch.hart < harts
  pub bare : a.watch.path ≡ [] → harts ≤ 1

-- n comes of b by something that asks for so many watches and dumps
pub record KeepsBuilding (b n : Building) (asks shows : ℕ) : Type 0 where
  pub words : length n.storage ≡ length b.storage
  pub harts : length n.harts ≡ length b.harts
  pub idle : All (λ r. r.next ≡ 0) b.harts → All (λ r. r.next ≡ 0) n.harts
  pub asked : All (IsAsked (length b.harts)) b.watches → All (IsAsked (length b.harts)) n.watches
  pub watches : length n.watches ≡ length b.watches + asks
  pub dumps : length n.dumps ≡ length b.dumps + shows

-- only the storage, the marks and the names changed, and no word more came
same : (b n : Building) → length n.storage ≡ length b.storage → n.harts ≡ b.harts → n.watches ≡ b.watches → n.dumps ≡ b.dumps → KeepsBuilding b n 0 0
same b n words harts watches dumps = record {
  words = words;
  harts = ap length harts;
  idle = λ h. subst (All (λ r. r.next ≡ 0)) (sym harts) h;
  asked = λ h. subst (All (IsAsked (length b.harts))) (sym watches) h;
  watches = omega (arith, ap length watches);
  dumps = omega (arith, ap length dumps);
}

-- what is given is what was made
made : {E : Type 0} (b m n : Building) (w d : ℕ) (r : Result Building E) → KeepsBuilding b m w d → r ≡ Ok m → r ≡ Ok n → KeepsBuilding b n w d
made b m n w d r keeps e o = subst (λ (n : Building). KeepsBuilding b n w d) (given m n r e o) keeps

hart_keeps : (b n : Building) (hart pc : ℕ) → hart_of b hart pc ≡ Ok n → KeepsBuilding b n 0 0
hart_keeps b n hart pc is =
    let c = chosen (nat_lt hart (length b.harts)) (Ok (record b { harts = set b.harts hart (record reset_regs { pc = pc }) })) kind.Hart n is in
    made b (record b { harts = set b.harts hart (record reset_regs { pc = pc }) }) n 0 0 _ (record {
      words = refl;
      harts = length-set b.harts hart (record reset_regs { pc = pc });
      idle = λ h. All-set (λ r. r.next ≡ 0) b.harts hart (record reset_regs { pc = pc }) refl h;
      asked = λ h. h;
      watches = omega arith;
      dumps = omega arith;
    }) refl c.1

event_keeps : (b n : Building) (hart : ℕ) → event_of b hart ≡ Ok n → KeepsBuilding b n 0 0
event_keeps b n hart is =
    let c = chosen (nat_lt hart (length b.harts)) (Ok b) kind.Hart n is in made b b n 0 0 _ (same b b refl refl refl refl) refl c.1

length-with_values : (S places values : List ℕ) → length (with_values S places values) ≡ length S
length-with_values S [] values = refl
length-with_values S (p ∷ places) [] = refl
length-with_values S (p ∷ places) (v ∷ values) = length-with_values (set S p v) places values ∙ length-set S p v

length-with_tables : (S : List ℕ) (pages at k : ℕ) (gs : List ℕ) → length (with_tables S pages at k gs) ≡ length S
length-with_tables S pages at k [] = refl
length-with_tables S pages at k (g ∷ gs) =
    length-with_tables (with_page S g (table_word pages at k)) pages at (k + 1) gs ∙ length-with_page S g (table_word pages at k)

length-with_machine : (S : List ℕ) (pages table at : ℕ) (gs : List ℕ) → length (with_machine S pages table at gs) ≡ length S
length-with_machine S pages table at [] = refl
length-with_machine S pages table at (g ∷ gs) =
    length-with_tables (with_page S g (block_word pages table)) pages at 0 gs ∙ length-with_page S g (block_word pages table)

machine_keeps : (b n : Building) (name parent : List ℕ) (block pages table at : ℕ) → machine_of b name parent block pages table at ≡ Ok n → KeepsBuilding b n 0 0
machine_keeps b n name parent block pages table at is =
    let many = passed (nat_le job_machines b.machines) (known parent b.names >>= λ k. made_in b name k block pages table at) kind.Many n is in
    let found = bound (known parent b.names) (λ k. made_in b name k block pages table at) n many.1 in
    inside found.0 found.2
  where
    inside : (k : Known) → made_in b name k block pages table at ≡ Ok n → KeepsBuilding b n 0 0
    inside k is =
        let placed : Result Building BuildKind = pages_along (map_of b.storage k.path) block pages table >>= λ taken. cond (can_take b.marks taken) (Ok (with_made b name k block pages table at taken)) (Err kind.Overlap) in
        let outside : Result Building BuildKind = cond (is_outside k.pages block pages table at) (Err kind.Outside) placed in
        let again : Result Building BuildKind = cond (is_some (named name b.names)) (Err kind.Repeat) outside in
        let deep = passed (nat_le depth_limit (length k.path)) again kind.Depth n is in
        let new = passed (is_some (named name b.names)) outside kind.Repeat n deep.1 in
        let inner = passed (is_outside k.pages block pages table at) placed kind.Outside n new.1 in
        let took = bound (pages_along (map_of b.storage k.path) block pages table) (λ taken. cond (can_take b.marks taken) (Ok (with_made b name k block pages table at taken)) (Err kind.Overlap)) n inner.1 in
        let can = chosen (can_take b.marks took.0) (Ok (with_made b name k block pages table at took.0)) kind.Overlap n took.2 in
        made b (with_made b name k block pages table at took.0) n 0 0 _ (same b (with_made b name k block pages table at took.0) (length-with_machine b.storage pages table at took.0) refl refl refl) refl can.1

abbrev done : Building → Result Building BuildKind
done b = Ok b

-- a word was replaced
word_keeps : (b n : Building) (place value : ℕ) → done (record b { storage = set b.storage place value }) ≡ Ok n → KeepsBuilding b n 0 0
word_keeps b n place value is =
    made b (record b { storage = set b.storage place value }) n 0 0 _ (same b (record b { storage = set b.storage place value }) (length-set b.storage place value) refl refl refl) refl is

mapped_keeps : (b n : Building) (name : List ℕ) (page entry : ℕ) → mapped_of b name page entry ≡ Ok n → KeepsBuilding b n 0 0
mapped_keeps b n name page entry is =
    let found = bound (known_inside name b.names) (λ k. mapped_in b k page entry) n is in inside found.0 found.2
  where
    inside : (k : Known) → mapped_in b k page entry ≡ Ok n → KeepsBuilding b n 0 0
    inside k is =
        let inner = passed (nat_le k.pages page) (table_word_of b.storage k.path page >>= λ place. Ok (record b { storage = set b.storage place entry })) kind.Outside n is in
        let at = bound (table_word_of b.storage k.path page) (λ place. Ok (record b { storage = set b.storage place entry })) n inner.1 in
        word_keeps b n at.0 entry at.2

-- an upgrade changes no number of words
pub length-upgraded : (S : List ℕ) (items : List Item) (dir : ℕ) → length (upgraded S items dir) ≡ length S
length-upgraded S items dir = last (last_item items)
  where
    last : (o : Option Item) → length (unwrap_or (option_map (λ (x : Item). upgraded_in S (parent_map S items) x dir) o) S) ≡ length S
    last None = refl
    last (Some x) = length-rewritten S x dir _ _

upgraded_keeps : (b n : Building) (name : List ℕ) (dir : ℕ) → upgraded_of b name dir ≡ Ok n → KeepsBuilding b n 0 0
upgraded_keeps b n name dir is =
    let found = bound (known_inside name b.names) (λ k. upgraded_along b k dir (pin_of b.storage k.path)) n is in
    along found.0 (pin_of b.storage found.0.path) found.2
  where
    unless : (k : Known) (items : List Item) (o : Option UpgradeEnd) → upgraded_unless b k items dir o ≡ Ok n → KeepsBuilding b n 0 0
    unless k items (Some end) is = absurd (failed (upgrade_kind end) n (Err (upgrade_kind end)) refl is)
    unless k items None is =
        let page = bound (directory_page b k dir) (λ g. Ok (with_directory b items dir g)) n is in
        made b (with_directory b items dir page.0) n 0 0 _ (same b (with_directory b items dir page.0) (length-upgraded b.storage items dir) refl refl refl) refl page.2

    along : (k : Known) (o : Option (List Item)) → upgraded_along b k dir o ≡ Ok n → KeepsBuilding b n 0 0
    along k None is = absurd (failed kind.Absent n (Err kind.Absent) refl is)
    along k (Some items) is =
        let few = passed (nat_lt pages_limit (length (map_along b.storage items))) (upgraded_unless b k items dir (upgrade_refusal b.storage items dir)) kind.Absent n is in
        unless k items (upgrade_refusal b.storage items dir) few.1

started_keeps : (b n : Building) (name : List ℕ) (pc : ℕ) → started_of b name pc ≡ Ok n → KeepsBuilding b n 0 0
started_keeps b n name pc is =
    let found = bound (known_inside name b.names) (λ k. started_in b k pc) n is in
    let at = bound (reads_in (map_of b.storage (outer found.0.path)) (block_page found.0.path)) (λ g. Ok (record b { storage = set b.storage (1024 * g) pc })) n found.2 in
    word_keeps b n (1024 * at.0) pc at.2

words_keeps : (b n : Building) (name : List ℕ) (at : ℕ) (values : List ℕ) → words_of b name at values ≡ Ok n → KeepsBuilding b n 0 0
words_keeps b n name at values is =
    let found = bound (known name b.names) (λ k. words_in b k at values) n is in
    let places = bound (each_from (place_by (page_of b.storage found.0)) (at / 4) (length values)) (λ places. Ok (record b { storage = with_values b.storage places values })) n found.2 in
    made b (record b { storage = with_values b.storage places.0 values }) n 0 0 _ (same b (record b { storage = with_values b.storage places.0 values }) (length-with_values b.storage places.0 values) refl refl refl) refl places.2

image_keeps : (b n : Building) (name : List ℕ) (image : Image) → image_of b name image ≡ Ok n → KeepsBuilding b n 0 0
image_keeps b n name image is =
    let found = bound (known name b.names) (λ k. image_in b k image) n is in
    let after : List ℕ → Building = λ places. record b { storage = with_values b.storage places image.words; marks = marked mark.Image (map page_at places) b.marks } in
    let places = bound (each_from (place_by (free_page_of b.storage b.marks found.0)) (image.base / 4) (length image.words)) (λ places. Ok (after places)) n found.2 in
    made b (after places.0) n 0 0 _ (same b (after places.0) (length-with_values b.storage places.0 image.words) refl refl refl) refl places.2

-- what a watch asks for
bare_alone : (path : List ℕ) (harts : ℕ) → is_shared path harts ≡ false → path ≡ [] → harts ≤ 1
bare_alone [] harts is empty = ltb-false 1 harts is
bare_alone (s ∷ path) harts is empty = absurd (cons_nil s path empty)
  where
    cons_nil : (s : ℕ) (path : List ℕ) → s ∷ path ≡ [] → ⊥
    cons_nil s path is = cc

watch_keeps : (b n : Building) (line hart : ℕ) (name : List ℕ) → watch_of b line hart name ≡ Ok n → KeepsBuilding b n 1 0
watch_keeps b n line hart name is =
    let there = chosen (nat_lt hart (length b.harts)) (known name b.names >>= watch_in b line hart) kind.Hart n is in
    let found = bound (known name b.names) (watch_in b line hart) n there.1 in
    inside found.0 (ltb-true hart (length b.harts) there.0) found.2
  where
    inside : (k : Known) → hart < length b.harts → watch_in b line hart k ≡ Ok n → KeepsBuilding b n 1 0
    inside k lt is =
        let asked : PlacedWatch = record { line = line; watch = record { hart = hart; path = k.path } } in
        let can = passed (is_shared k.path (length b.harts)) (Ok (record b { watches = b.watches ++ asked ∷ [] })) kind.Watch n is in
        made b (record b { watches = b.watches ++ asked ∷ [] }) n 1 0 _ (record {
          words = refl;
          harts = refl;
          idle = λ h. h;
          asked = λ h. All-push (IsAsked (length b.harts)) b.watches asked h (record { hart = lt; bare = bare_alone k.path (length b.harts) can.0 });
          watches = length-append b.watches (asked ∷ []);
          dumps = omega arith;
        }) refl can.1

dump_keeps : (b n : Building) (name : List ℕ) (page : ℕ) → dump_of b name page ≡ Ok n → KeepsBuilding b n 0 1
dump_keeps b n name page is =
    let found = bound (known name b.names) (dump_in b name page) n is in
    made b (record b { dumps = b.dumps ++ record { name = name; path = found.0.path; page = page } ∷ [] }) n 0 1 _ (record {
      words = refl;
      harts = refl;
      idle = λ h. h;
      asked = λ h. h;
      watches = omega arith;
      dumps = length-append b.dumps (record { name = name; path = found.0.path; page = page } ∷ []);
    }) refl found.2

-- one step after another
both : (b m n : Building) (w d v e : ℕ) → KeepsBuilding b m w d → KeepsBuilding m n v e → KeepsBuilding b n (w + v) (d + e)
both b m n w d v e f g = record {
  words = g.words ∙ f.words;
  harts = g.harts ∙ f.harts;
  idle = λ h. g.idle (f.idle h);
  asked = λ h. subst (λ (k : ℕ). All (IsAsked k) n.watches) f.harts (g.asked (subst (λ (k : ℕ). All (IsAsked k) m.watches) (sym f.harts) (f.asked h)));
  watches = omega (arith, f.watches, g.watches);
  dumps = omega (arith, f.dumps, g.dumps);
}

part_keeps : (b n : Building) (what : Directive) → part_of b what ≡ Ok n → KeepsBuilding b n 0 0
part_keeps b n (directive.Machine name parent block pages table at) is = machine_keeps b n name parent block pages table at is
part_keeps b n (directive.Sample name image) is = image_keeps b n name image is
part_keeps b n (directive.Hart hart pc) is = made b b n 0 0 _ (same b b refl refl refl refl) refl is
part_keeps b n (directive.Map name page entry) is = made b b n 0 0 _ (same b b refl refl refl refl) refl is
part_keeps b n (directive.Upgrade name dir) is = made b b n 0 0 _ (same b b refl refl refl refl) refl is
part_keeps b n (directive.Start name pc) is = made b b n 0 0 _ (same b b refl refl refl refl) refl is
part_keeps b n (directive.Image name image) is = made b b n 0 0 _ (same b b refl refl refl refl) refl is
part_keeps b n (directive.Word name at values) is = made b b n 0 0 _ (same b b refl refl refl refl) refl is
part_keeps b n (directive.Tower depth pages which) is = made b b n 0 0 _ (same b b refl refl refl refl) refl is
part_keeps b n (directive.Turn hart) is = made b b n 0 0 _ (same b b refl refl refl refl) refl is
part_keeps b n (directive.Lines hart) is = made b b n 0 0 _ (same b b refl refl refl refl) refl is
part_keeps b n (directive.Watch hart name) is = made b b n 0 0 _ (same b b refl refl refl refl) refl is
part_keeps b n (directive.Dump name page) is = made b b n 0 0 _ (same b b refl refl refl refl) refl is

parts_keep : (b n : Building) (parts : List Placed) → parts_of b parts ≡ Ok n → KeepsBuilding b n 0 0
parts_keep b n [] is = made b b n 0 0 _ (same b b refl refl refl refl) refl is
parts_keep b n (p ∷ parts) is =
    let first = bound (part_of b p.what) (λ next. parts_of next parts) n is in
    both b first.0 n 0 0 0 0 (part_keeps b first.0 p.what first.1) (parts_keep first.0 n parts first.2)

tower_keeps : (b n : Building) (line depth pages : ℕ) (which : Sample) → towered_of b line depth pages which ≡ Ok n → KeepsBuilding b n 0 0
tower_keeps b n line depth pages which is =
    let first = passed (b.towered || is_some (named (codes "top") b.names)) (parts_of b (tower_of depth pages which line) >>= λ next. top_of next depth) kind.Repeat n is in
    let made_parts = bound (parts_of b (tower_of depth pages which line)) (λ next. top_of next depth) n first.1 in
    both b made_parts.0 n 0 0 0 0 (parts_keep b made_parts.0 (tower_of depth pages which line) made_parts.1) (top made_parts.0 made_parts.2)
  where
    top : (m : Building) → top_of m depth ≡ Ok n → KeepsBuilding m n 0 0
    top m is =
        let found = bound (known (level_name depth) m.names) (λ k. Ok (with_top m k)) n is in
        made m (with_top m found.0) n 0 0 _ (same m (with_top m found.0) refl refl refl refl) refl found.2

-- each directive keeps the storage's and the harts' number, and asks for no more than what it is
pub done_keeps : (b n : Building) (line : ℕ) (what : Directive) → done_of b line what ≡ Ok n → KeepsBuilding b n (share_of limited.Watches what) (share_of limited.Dumps what)
done_keeps b n line (directive.Hart hart pc) is = hart_keeps b n hart pc is
done_keeps b n line (directive.Machine name parent block pages table at) is = machine_keeps b n name parent block pages table at is
done_keeps b n line (directive.Map name page entry) is = mapped_keeps b n name page entry is
done_keeps b n line (directive.Upgrade name dir) is = upgraded_keeps b n name dir is
done_keeps b n line (directive.Start name pc) is = started_keeps b n name pc is
done_keeps b n line (directive.Image name image) is = image_keeps b n name image is
done_keeps b n line (directive.Sample name image) is = image_keeps b n name image is
done_keeps b n line (directive.Word name at values) is = words_keeps b n name at values is
done_keeps b n line (directive.Tower depth pages which) is = tower_keeps b n line depth pages which is
done_keeps b n line (directive.Turn hart) is = event_keeps b n hart is
done_keeps b n line (directive.Lines hart) is = event_keeps b n hart is
done_keeps b n line (directive.Watch hart name) is = watch_keeps b n line hart name is
done_keeps b n line (directive.Dump name page) is = dump_keeps b n name page is

-- the same at a line, and of lines one after another
at_line_bound : {A : Type 0} (line : ℕ) (r : Result A BuildKind) (y : A) → at_line line r ≡ Ok y → r ≡ Ok y
at_line_bound line (Ok x) y is = ap (λ (x : _). Ok x) (given x y (at_line line (Ok x)) refl is)
at_line_bound line (Err why) y is = absurd (failed (line, why) y (at_line line (Err why)) refl is)

and_then_bound : {A B : Type 0} (r : Result A (ℕ × BuildKind)) (f : A → Result B (ℕ × BuildKind)) (y : B) → (r >>= f) ≡ Ok y → (x : A) × (r ≡ Ok x) × (f x ≡ Ok y)
and_then_bound (Ok x) f y is = (x, refl, is)
and_then_bound (Err end) f y is = absurd (failed end y (Err end) refl is)

counted : (b n : Building) (p : Placed) (lines : List Placed) → KeepsBuilding b n (share_of limited.Watches p.what + amount_of limited.Watches lines) (share_of limited.Dumps p.what + amount_of limited.Dumps lines) → KeepsBuilding b n (amount_of limited.Watches (p ∷ lines)) (amount_of limited.Dumps (p ∷ lines))
counted b n p lines keeps =
    subst (λ (w : ℕ). KeepsBuilding b n w (amount_of limited.Dumps (p ∷ lines))) (sym (sum_by-cons (λ (placed : Placed). share_of limited.Watches placed.what) p lines))
    (subst (KeepsBuilding b n (share_of limited.Watches p.what + amount_of limited.Watches lines)) (sym (sum_by-cons (λ (placed : Placed). share_of limited.Dumps placed.what) p lines)) keeps)

lines_keep : (b n : Building) (lines : List Placed) → built_from b lines ≡ Ok n → KeepsBuilding b n (amount_of limited.Watches lines) (amount_of limited.Dumps lines)
unfolding built_from
lines_keep b n [] is = made b b n 0 0 _ (same b b refl refl refl refl) refl is
lines_keep b n (p ∷ lines) is =
    let first = and_then_bound (at_line p.line (done_of b p.line p.what)) (λ next. built_from next lines) n is in
    counted b n p lines
    (both b first.0 n (share_of limited.Watches p.what) (share_of limited.Dumps p.what) (amount_of limited.Watches lines) (amount_of limited.Dumps lines) (done_keeps b first.0 p.line p.what (at_line_bound p.line (done_of b p.line p.what) first.0 first.1)) (lines_keep first.0 n lines first.2))

-- a machine that can be watched is there
can_be_there : (S : List ℕ) (o : Option (List Item)) → can_watch (option_map (map_along S) o) ≡ true → IsThere S o
can_be_there S None is = absurd (true≢false (sym is))
can_be_there S (Some items) is = leb-true (length (map_along S items)) pages_limit is

none_or : (c : Bool) (o : Option ℕ) (line : ℕ) → cond c o (Some line) ≡ None → (c ≡ true) × (o ≡ None)
none_or true o line is = (refl, is)
none_or false o line is = absurd (some_none line is)
  where
    some_none : (line : ℕ) → Some line ≡ None → ⊥
    some_none line is = cc

all_watched : (S : List ℕ) (harts : ℕ) (asked : List PlacedWatch) → watch_fault S asked ≡ None → All (IsAsked harts) asked → EachWatched S harts (map watch_asked asked)
all_watched S harts [] is all = tt
all_watched S harts (a ∷ rest) is all =
    let here = none_or (can_watch (map_of S a.watch.path)) (watch_fault S rest) a.line is in
    let first : IsAsked harts a = all 0 a (omega arith) in (
      record {
        hart = first.hart;
        machine = can_be_there S (pin_of S a.watch.path) here.0;
        bare = λ empty. exactly harts a.watch.hart first.hart (first.bare empty);
      },
      all_watched S harts rest here.1 (λ k d lt. all (suc k) d (omega arith)),
    )
  where
    exactly : (harts hart : ℕ) → hart < harts → harts ≤ 1 → harts ≡ 1
    exactly harts hart lt le = omega arith

unfaulted : (b : Building) (o : Option ℕ) (start : Start) → unless_fault b o ≡ Ok start → (o ≡ None) × (start_of b ≡ start)
unfaulted b None start is = (refl, given (start_of b) start (unless_fault b None) refl is)
unfaulted b (Some line) start is = absurd (failed (line, kind.Watch) start (unless_fault b (Some line)) refl is)

unrefused : (b : Building) (o : Option (ℕ × BuildKind)) (start : Start) → unless_refused b o ≡ Ok start → finish_of b ≡ Ok start
unrefused b None start is = is
unrefused b (Some end) start is = absurd (failed end start (unless_refused b (Some end)) refl is)

pub ready : (job : Job) (start : Start) → IsJob job → build_of job ≡ Ok start → IsReady job start
unfolding build_of zeros
ready job start is_job is =
    let lines = and_then_bound (built_from (nothing_built job.pages job.harts) job.lines) (end_of job.commands) start is in
    let b : Building = lines.0 in
    let keeps : KeepsBuilding (nothing_built job.pages job.harts) b (amount_of limited.Watches job.lines) (amount_of limited.Dumps job.lines) = lines_keep (nothing_built job.pages job.harts) b job.lines lines.1 in
    let end = unfaulted b (watch_fault b.storage b.watches) start (unrefused b (command_fault b job.commands) start lines.2) in
    let harts : length b.harts ≡ job.harts = keeps.harts ∙ length-replicate job.harts reset_regs in
    let asked : All (IsAsked (length (nothing_built job.pages job.harts).harts)) b.watches = keeps.asked (λ k d lt. absurd (omega arith)) in
    subst (IsReady job) end.1
    (record {
      words = keeps.words ∙ length-replicate (1024 * job.pages) 0;
      harts = harts;
      idle = keeps.idle (All-replicate (λ r. r.next ≡ 0) job.harts reset_regs refl);
      watches = all_watched b.storage (length b.harts) b.watches end.0 (subst (λ (k : ℕ). All (IsAsked k) b.watches) (sym keeps.harts) asked);
      few = omega (arith, length-map b.watches watch_asked, keeps.watches, is_job.limits limited.Watches);
      dumps = omega (arith, keeps.dumps, is_job.limits limited.Dumps);
    })

-- the same of what is answered
pub ready_if : (job : Job) (r : Result Start BuildEnd) → IsJob job → GivesStart r (build_of job) → IfOk r (IsReady job)
ready_if job (Ok start) is_job is = ready job start is_job is
ready_if job (Err end) is_job is = tt
