-- What a move adds to the numbers of a watch.
use Rattle.std.proofs.Common.{◌≡◌, ℕ, ◌+◌, ◌<◌, ◌≤◌, nat_eq, Bool, true, false, cond, List, length, get_or, map, take, drop, ◌++◌, ◌∷◌, [], sym, ap, subst, ◌∙◌, arith}
use Rattle.std.proofs.Math.ListN.{set}
use Rattle.std.proofs.lemmas.List.{length-map, get_or-map, take_at, take_more_set, take_more, drop-set-lt, get_or-drop, map_push}
use Rattle.std.proofs.lemmas.Grind.{drop_more_same}
use Rattle.hv_cpu.specs.Lines.{lines}
use Rattle.hv_nest.specs.State.{State}
use Rattle.hv_run.specs.Record.{WatchRecord}
use Rattle.hv_run.specs.Play.{Happened, Watching, record_after, watched_after, all_after, TellsWithin}

total_within : (e : Bool) (m n : ℕ) → m ≤ n → cond e m (m + 1) ≤ n + 1
total_within true m n le = omega arith
total_within false m n le = omega arith

record_within : (counts touching : Bool) (old new n : ℕ) (w : WatchRecord) → w.count ≤ n → w.line_total ≤ n → ((record_after counts touching old new w).count ≤ n + 1) × ((record_after counts touching old new w).line_total ≤ n + 1)
record_within true touching old new n w count total = (omega arith, omega arith)
record_within false touching old new n w count total =
    (omega arith, total_within (nat_eq (lines old) (lines new)) w.line_total n total)

pub all_within : (n : ℕ) (h : Happened) (st : State) (ws : List Watching) → TellsWithin n ws → TellsWithin (n + 1) (all_after h st ws)
all_within n h st ws within k d lt =
    let inside : k < length ws = omega (arith, length-map ws (watched_after h st)) in
    let at : get_or (map (watched_after h st) ws) k d ≡ watched_after h st (get_or ws k d) = get_or-map (watched_after h st) ws k d d inside in
    subst (λ (w : Watching). (w.so_far.count ≤ n + 1) × (w.so_far.line_total ≤ n + 1)) (sym at)
    (record_within _ _ _ _ n (get_or ws k d).so_far (within k d inside).0 (within k d inside).1)

-- a part that was written back into the whole
written_back : (n : ℕ) (xs ys : List Watching) → length xs ≡ n → take n (xs ++ drop (length xs) ys) ≡ xs
written_back n xs ys e = take_at xs (drop (length xs) ys) n e

-- the same where each of the whole was told a move
pub told_back : (n : ℕ) (h : Happened) (st : State) (xs ys old : List Watching) → xs ≡ all_after h st ys → ys ≡ old → n ≡ length old → take n (xs ++ drop (length xs) old) ≡ all_after h st old
told_back n h st xs ys old told is len =
    let now : xs ≡ all_after h st old = told ∙ ap (all_after h st) is in
    let long : length xs ≡ n = omega (arith, ap length now, length-map old (watched_after h st)) in
    written_back n xs old long ∙ now

-- one more watch is told a move
pub same_at : (xs old : List Watching) (i : ℕ) (d : Watching) → drop i xs ≡ drop i old → get_or xs i d ≡ get_or old i d
same_at xs old i d e =
    ap (λ (k : ℕ). get_or xs k d) (omega arith)
    ∙ sym (get_or-drop i xs 0 d)
    ∙ ap (λ ys. get_or ys 0 d) e
    ∙ get_or-drop i old 0 d
    ∙ ap (λ (k : ℕ). get_or old k d) (omega arith)

pub watches_more : (h : Happened) (st : State) (xs old : List Watching) (i : ℕ) (d x : Watching) → i < length xs → length old ≡ length xs → take i xs ≡ all_after h st (take i old) → drop i xs ≡ drop i old → x ≡ watched_after h st (get_or xs i d) → take (i + 1) (set xs i x) ≡ all_after h st (take (i + 1) old)
watches_more h st xs old i d x lt len told rest is =
    take_more_set xs i x lt
    ∙ ap (λ (ys : List Watching). ys ++ x ∷ []) told
    ∙ ap (λ (y : Watching). all_after h st (take i old) ++ y ∷ []) (is ∙ ap (watched_after h st) (same_at xs old i d rest))
    ∙ sym (map_push (watched_after h st) (take i old) (get_or old i d))
    ∙ ap (all_after h st) (sym (take_more old i d (omega arith)))

pub rest_more : (xs old : List Watching) (i : ℕ) (x : Watching) → drop i xs ≡ drop i old → drop (i + 1) (set xs i x) ≡ drop (i + 1) old
rest_more xs old i x rest = drop-set-lt (i + 1) xs i x (omega arith) ∙ drop_more_same xs old i rest
