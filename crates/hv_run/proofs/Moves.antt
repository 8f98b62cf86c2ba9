-- What a move changes in a play is what it changes in what the play tells.
use Rattle.std.proofs.Common.{◌≡◌, ◌≢◌, ℕ, zero, suc, ◌+◌, ◌-◌, ◌<◌, ◌≤◌, nat_eq, Bool, true, false, not, ◌&&◌, ◌||◌, cond, Option, Some, None, List, [], ◌∷◌, ◌++◌, length, map, take, drop, refl, sym, ap, ◌∙◌, arith}
use Rattle.std.specs.List.{flat_map}
use Rattle.std.specs.Prelude.{slice_get}
use Rattle.std.proofs.lemmas.List.{length_push}
use Rattle.hv_word.specs.Storage.{word_at}
use Rattle.hv_cpu.specs.Lines.{lines, unlined}
use Rattle.hv_map.specs.Item.{Item}
use Rattle.hv_map.specs.Chain.{pin_of}
use Rattle.hv_nest.specs.State.{State}
use Rattle.hv_nest.specs.Move.{Move, state_after, last_of}
use Rattle.hv_nest.specs.Watched.{LineChange, Tally, no_tally, are_same, same_status, keeps_foot, foot, last_block, lines_of, is_counted, beside, tally_after, tally_of}
use Rattle.hv_run.specs.declared.counts.Counts.{Counts}
use Rattle.hv_run.specs.Record.{Count, no_count, count_after, count_of, last_kept, WatchOf, WatchRecord, watch_record, watch_records, count_record, record_of}
use Rattle.hv_limits.specs.Limits.{kept_limit}
use Rattle.hv_apart.specs.Marked.{SetOf}
use Rattle.hv_run.specs.Play.{Happened, Watching, Played, all_so_far, mip_of, status_at, any_marked, counts_for, changes_in, status_differs, touches, record_after, watched_after, counts_after, all_after, played_after}
use Rattle.hv_whole.specs.Whole.{IsMasked, AreMasked}
use Rattle.hv_run.specs.Run.{IsMoveInside, StaysInside}
use Rattle.hv_run.specs.Stands.{IsKept, KeptOf, EachKept, StandsFor}
use Rattle.hv_run.proofs.Lists.{first_pushed}

-- one move more
pub last_more : (st : State) (ms : List Move) (m : Move) → last_of st (ms ++ m ∷ []) ≡ state_after (last_of st ms) m
unfolding last_of
last_more st [] m = refl
last_more st (n ∷ ms) m = last_more (state_after st n) ms m

pub last_none : (st : State) → last_of st [] ≡ st
unfolding last_of
last_none st = refl

-- it can be made where it is one that can be
masked_more : (ms : List Move) (m : Move) → AreMasked ms → IsMasked m → AreMasked (ms ++ m ∷ [])
masked_more [] m all one = (one, tt)
masked_more (n ∷ ms) m all one = (all.0, masked_more ms m all.1 one)

inside_more : (st : State) (ms : List Move) (m : Move) → StaysInside st ms → IsMoveInside (last_of st ms) m → StaysInside st (ms ++ m ∷ [])
unfolding last_of StaysInside
inside_more st [] m all one = (one, tt)
inside_more st (n ∷ ms) m all one = (all.0, inside_more (state_after st n) ms m all.1 one)

pub count_more : (st : State) (ms : List Move) (m : Move) (c : Count) → count_of st (ms ++ m ∷ []) c ≡ count_after (last_of st ms) m (count_of st ms c)
unfolding last_of count_of
count_more st [] m c = refl
count_more st (n ∷ ms) m c = count_more (state_after st n) ms m (count_after st n c)

tally_more : (h : ℕ) (p : List ℕ) (items : List Item) (ft : List ℕ) (st : State) (ms : List Move) (m : Move) (t : Tally) → tally_of h p items ft st (ms ++ m ∷ []) t ≡ tally_after h p items ft (last_of st ms) m (tally_of h p items ft st ms t)
unfolding last_of tally_of
tally_more h p items ft st [] m t = refl
tally_more h p items ft st (n ∷ ms) m t =
    tally_more h p items ft (state_after st n) ms m (tally_after h p items ft st n t)

-- the numbers of a count, with its last faults
abbrev pub numbers : Count → Counts
numbers c = record { steps = c.steps; faults = length c.faults; recalls = c.recalls; kept = last_kept c.faults }

-- What a move did, from one state to the next: the state that it left, whether it counts, if there are watches at all for
-- which it may, which words it changed, and what it adds to the numbers.
pub record Tells (ks : List Watching) (st : State) (move : Move) (next : State) (h : Happened) : Type 0 where
  pub state : state_after st move ≡ next
  pub counts : ks ≢ [] → (w : WatchRecord) → is_counted w.hart w.path st move ≡ counts_for w h
  pub marks : (marks : List ℕ) (ft : List ℕ) → SetOf marks ft → not (are_same ft st.storage next.storage) ≡ any_marked marks (changes_in h)
  pub numbers : (c : Count) → numbers (count_after st move c) ≡ counts_after (numbers c) h

-- the lines of a machine are those of the word that has them
lines_are : (h : ℕ) (items : List Item) (st : State) → lines_of h items st ≡ lines (status_at h (last_block items) st)
lines_are h [] st = elim (slice_get st.harts h) as (λ r. Rattle.hv_nest.specs.Watched.lines_at r ≡ lines (mip_of r)) [ None ↦ refl | Some r ↦ refl ]
lines_are h (x ∷ []) st = refl
lines_are h (x ∷ (y ∷ ys)) st = lines_are h (y ∷ ys) st

not_and : (a b : Bool) → not (a && b) ≡ (not a || not b)
not_and true b = refl
not_and false b = refl

or_is : (a b : Bool) → cond a true b ≡ (a || b)
or_is true b = refl
or_is false b = refl

status_is : (h : ℕ) (block : Option ℕ) (st next : State) (old : ℕ) → old ≡ status_at h block st → not (same_status block st.storage next.storage) ≡ status_differs block old (status_at h block next)
status_is h None st next old e = refl
status_is h (Some g) st next old e = ap (λ (w : ℕ). not (nat_eq (unlined w) (unlined (word_at next.storage g 42)))) (sym e)

-- whether a move that doesn't count touches a watch
touched_is : (w : WatchOf) (items : List Item) (ft : List ℕ) (st next : State) (h : Happened) (k : Watching) → k.so_far.block ≡ last_block items → (not (are_same ft st.storage next.storage) ≡ any_marked k.foot (changes_in h)) → k.status ≡ status_at w.hart (last_block items) st → not (keeps_foot ft items st.storage next.storage) ≡ touches k h (status_at w.hart (last_block items) next)
touched_is w items ft st next h k block marks status =
    not_and (are_same ft st.storage next.storage) (same_status (last_block items) st.storage next.storage)
    ∙ ap (λ (b : Bool). b || not (same_status (last_block items) st.storage next.storage)) marks
    ∙ ap (λ (b : Bool). any_marked k.foot (changes_in h) || b) (status_is w.hart (last_block items) st next k.status status)
    ∙ ap (λ (b : Option ℕ). any_marked k.foot (changes_in h) || status_differs b k.status (status_at w.hart (last_block items) next)) (sym block)

-- the changes of lines
lines_more : (e : Bool) (xs : List LineChange) (x : LineChange) → take kept_limit (cond e xs (xs ++ x ∷ [])) ≡ cond e (take kept_limit xs) (take kept_limit (take kept_limit xs ++ x ∷ []))
lines_more true xs x = refl
lines_more false xs x = sym (first_pushed kept_limit xs x)

total_more : (e : Bool) (xs : List LineChange) (x : LineChange) → length (cond e xs (xs ++ x ∷ [])) ≡ cond e (length xs) (length xs + 1)
total_more true xs x = refl
total_more false xs x = length_push xs x

-- what is told of a watch with these parts
abbrev record_with : WatchOf → State → List Item → Tally → Bool → ℕ → List LineChange → WatchRecord
record_with w start items t touched total changes =
    record (watch_record w start items t) { touched = touched; line_total = total; lines = changes }

abbrev record_beside : WatchOf → State → List Item → Tally → ℕ → ℕ → Bool → WatchRecord
record_beside w start items t a b touching =
    record_with w start items t (t.touched || touching)
    (cond (nat_eq a b) (length t.changes) (length t.changes + 1))
    (cond (nat_eq a b) (take kept_limit t.changes) (take kept_limit (take kept_limit t.changes ++ record { count = t.count; bits = b } ∷ [])))

beside_recorded : (w : WatchOf) (start st next : State) (items : List Item) (ft : List ℕ) (t : Tally) → watch_record w start items (beside w.hart items ft st next t) ≡ record_beside w start items t (lines_of w.hart items st) (lines_of w.hart items next) (not (keeps_foot ft items st.storage next.storage))
beside_recorded w start st next items ft t =
    let a = lines_of w.hart items st in
    let b = lines_of w.hart items next in
    let x : LineChange = record { count = t.count; bits = b } in
    let touching = not (keeps_foot ft items st.storage next.storage) in
    let e = nat_eq a b in
    let changes = cond e t.changes (t.changes ++ x ∷ []) in
    ap (λ (u : Bool). record_with w start items t u (length changes) (take kept_limit changes)) (or_is t.touched touching)
    ∙ ap (λ (n : ℕ). record_with w start items t (t.touched || touching) n (take kept_limit changes)) (total_more e t.changes x)
    ∙ ap (λ (xs : List LineChange). record_with w start items t (t.touched || touching) (cond e (length t.changes) (length t.changes + 1)) xs) (lines_more e t.changes x)

record_next : (c touching : Bool) (old new : ℕ) (w : WatchOf) (start st next : State) (items : List Item) (ft : List ℕ) (t : Tally) → lines_of w.hart items st ≡ lines old → lines_of w.hart items next ≡ lines new → not (keeps_foot ft items st.storage next.storage) ≡ touching → record_after c touching old new (watch_record w start items t) ≡ watch_record w start items (cond c (record t { count = t.count + 1 }) (beside w.hart items ft st next t))
record_next true touching old new w start st next items ft t before after is = refl
record_next false touching old new w start st next items ft t before after is =
    sym (beside_recorded w start st next items ft t
    ∙ ap (λ (a : ℕ). record_beside w start items t a (lines_of w.hart items next) (not (keeps_foot ft items st.storage next.storage))) before
    ∙ ap (λ (b : ℕ). record_beside w start items t (lines old) b (not (keeps_foot ft items st.storage next.storage))) after
    ∙ ap (record_beside w start items t (lines old) (lines new)) is)

-- one watch is told a move
watch_recorded : (ks : List Watching) → ks ≢ [] → (w : WatchOf) (start st next : State) (items : List Item) (t : Tally) (move : Move) (h : Happened) (k : Watching) → Tells ks st move next h → k.so_far ≡ watch_record w start items t → IsKept start st w items k → (watched_after h next k).so_far ≡ watch_record w start items (tally_after w.hart w.path items (foot start.storage items) st move t)
watch_recorded ks some w start st next items t move h k tells told kept =
    let new = status_at w.hart (last_block items) next in
    let ft = foot start.storage items in
    let W = watch_record w start items t in
    let block : k.so_far.block ≡ last_block items = ap (λ (v : WatchRecord). v.block) told in
    let marks = tells.marks k.foot ft kept.foot in
    let is = touched_is w items ft st next h k block marks kept.status in
    let before : lines_of w.hart items st ≡ lines k.status = lines_are w.hart items st ∙ ap lines (sym kept.status) in
    ap (λ (v : WatchRecord). record_after (counts_for v h) (touches k h (status_at v.hart v.block next)) k.status (status_at v.hart v.block next) v) told
    ∙ ap (λ (c : Bool). record_after c (touches k h new) k.status new W) (sym (tells.counts some W))
    ∙ record_next (is_counted w.hart w.path st move) (touches k h new) k.status new w start st next items ft t before (lines_are w.hart items next) is
    ∙ ap (λ (x : State). watch_record w start items (cond (is_counted w.hart w.path st move) (record t { count = t.count + 1 }) (beside w.hart items ft st x t))) (sym tells.state)

watch_kept : (w : WatchOf) (start st next : State) (items : List Item) (t : Tally) (h : Happened) (k : Watching) → k.so_far ≡ watch_record w start items t → IsKept start st w items k → IsKept start next w items (watched_after h next k)
watch_kept w start st next items t h k told kept = record {
  foot = kept.foot;
  status = ap (λ (v : WatchRecord). status_at v.hart v.block next) told;
}

-- what is told of all watches
abbrev pub all_records : State → List Move → List WatchOf → List WatchRecord
all_records start ms ws = flat_map (λ (w : WatchOf). watch_records w start ms (pin_of start.storage w.path)) ws

abbrev OneMore : State → List Move → Move → State → Happened → WatchOf → Option (List Item) → Watching → List WatchRecord → List WatchRecord → Type 0
OneMore start ms move next h w o k rest more =
    ((watched_after h next k).so_far ∷ [] ≡ watch_records w start (ms ++ move ∷ []) o)
    × KeptOf start next w o (watched_after h next k)
    × (rest ≡ more)

one_more : (ks : List Watching) → ks ≢ [] → (start : State) (ms : List Move) (move : Move) (next : State) (h : Happened) (w : WatchOf) (o : Option (List Item)) (k : Watching) (rest more : List WatchRecord) → Tells ks (last_of start ms) move next h → KeptOf start (last_of start ms) w o k → k.so_far ∷ rest ≡ watch_records w start ms o ++ more → OneMore start ms move next h w o k rest more
one_more ks some start ms move next h w None k rest more tells kept e = absurd kept
one_more ks some start ms move next h w (Some items) k rest more tells kept e =
    let ft = foot start.storage items in
    let t = tally_of w.hart w.path items ft start ms no_tally in
    let told : k.so_far ≡ watch_record w start items t = cc in
    let later : rest ≡ more = cc in (
      ap (λ (x : WatchRecord). x ∷ []) (watch_recorded ks some w start (last_of start ms) next items t move h k tells told kept
          ∙ ap (watch_record w start items) (sym (tally_more w.hart w.path items ft start ms move no_tally))),
      watch_kept w start (last_of start ms) next items t h k told kept,
      later,
    )

with_one : (k : Watching) (ks : List Watching) → k ∷ ks ≢ []
with_one k ks e = cc

each_more : (all : List Watching) (start : State) (ms : List Move) (move : Move) (next : State) (h : Happened) (ws : List WatchOf) (ks : List Watching) → (ks ≢ [] → all ≢ []) → Tells all (last_of start ms) move next h → EachKept start (last_of start ms) ws ks → all_so_far ks ≡ all_records start ms ws → (all_so_far (all_after h next ks) ≡ all_records start (ms ++ move ∷ []) ws) × EachKept start next ws (all_after h next ks)
each_more all start ms move next h [] [] among tells kept e = (refl, tt)
each_more all start ms move next h [] (k ∷ ks) among tells kept e = absurd kept
each_more all start ms move next h (w ∷ ws) [] among tells kept e = absurd kept
each_more all start ms move next h (w ∷ ws) (k ∷ ks) among tells kept e =
    let some : all ≢ [] = among (with_one k ks) in
    let o = pin_of start.storage w.path in
    let head : OneMore start ms move next h w o k (all_so_far ks) (all_records start ms ws) = one_more all some start ms move next h w o k (all_so_far ks) (all_records start ms ws) tells kept.0 e in
    let tail = each_more all start ms move next h ws ks (λ more. some) tells kept.1 head.2 in (
      ap (λ (xs : List WatchRecord). xs ++ all_so_far (all_after h next ks)) head.0
          ∙ ap (λ (ys : List WatchRecord). watch_records w start (ms ++ move ∷ []) o ++ ys) tail.0,
      (head.1, tail.1),
    )

-- what is told with these numbers
abbrev numbers_record : Counts → List WatchRecord → Rattle.hv_run.specs.Record.PlayRecord
numbers_record c rows = record { steps = c.steps; faults = c.faults; recalls = c.recalls; kept = c.kept; watches = rows }

record_is : (start : State) (ms : List Move) (ws : List WatchOf) → record_of start ms ws ≡ numbers_record (numbers (count_of start ms no_count)) (all_records start ms ws)
unfolding record_of
record_is start ms ws = refl

-- A play that stands for some moves stands for them and one more, after it was told that one.
pub stands_more : (p : Played) (start st : State) (ms : List Move) (ws : List WatchOf) (move : Move) (next : State) (h : Happened) → IsMasked move → IsMoveInside st move → Tells p.watching st move next h → StandsFor p start ms ws → st ≡ last_of start ms → StandsFor (played_after h next p) start (ms ++ move ∷ []) ws × (next ≡ last_of start (ms ++ move ∷ []))
stands_more p start st ms ws move next h mask inside tells stands is =
    let here : Tells p.watching (last_of start ms) move next h = Rattle.std.proofs.Common.subst (λ (x : State). Tells p.watching x move next h) is tells in
    let now : next ≡ last_of start (ms ++ move ∷ []) = sym here.state ∙ sym (last_more start ms move) in
    let told = stands.records ∙ record_is start ms ws in
    let C = count_of start ms no_count in
    let counts : p.counts ≡ numbers C = ap (λ (t : Rattle.hv_run.specs.Record.PlayRecord). record { steps = t.steps; faults = t.faults; recalls = t.recalls; kept = t.kept }) told in
    let rows : all_so_far p.watching ≡ all_records start ms ws = ap (λ (t : Rattle.hv_run.specs.Record.PlayRecord). t.watches) told in
    let each = each_more p.watching start ms move next h ws p.watching (λ some. some) here stands.kept rows in
    let counted : counts_after p.counts h ≡ numbers (count_of start (ms ++ move ∷ []) no_count) =
    ap (λ (c : Counts). counts_after c h) counts ∙ sym (here.numbers C) ∙ ap numbers (sym (count_more start ms move no_count)) in (
      record {
        watched = stands.watched;
        sized = stands.sized;
        masked = masked_more ms move stands.masked mask;
        inside = inside_more start ms move stands.inside (Rattle.std.proofs.Common.subst (λ (x : State). IsMoveInside x move) is inside);
        records =
            ap (λ (c : Counts). numbers_record c (all_so_far (all_after h next p.watching))) counted
            ∙ ap (numbers_record (numbers (count_of start (ms ++ move ∷ []) no_count))) each.0
            ∙ sym (record_is start (ms ++ move ∷ []) ws);
        kept = Rattle.std.proofs.Common.subst (λ (x : State). EachKept start x ws (all_after h next p.watching)) now each.1;
      },
      now,
    )
