-- A play that has made no move.
use Rattle.std.proofs.Common.{◌≡◌, ℕ, zero, suc, ◌+◌, ◌<◌, ◌≤◌, Option, Some, None, List, [], ◌∷◌, ◌++◌, length, get_or, take, refl, sym, ap, subst, ◌∙◌, arith}
use Rattle.std.proofs.lemmas.List.{take_more, map_push}
use Rattle.hv_map.specs.Item.{Item}
use Rattle.hv_map.specs.Chain.{pin_of}
use Rattle.hv_map.specs.declared.path.Watch.{Watch}
use Rattle.hv_nest.specs.State.{State}
use Rattle.hv_nest.specs.Move.{last_of}
use Rattle.hv_nest.specs.Watched.{tally_of}
use Rattle.hv_run.specs.declared.counts.Counts.{Counts}
use Rattle.hv_run.specs.Record.{count_of, WatchOf, WatchRecord, watch_records, record_of}
use Rattle.hv_run.specs.Play.{Watching, Played, all_so_far, CountsWithin, TellsWithin}
use Rattle.hv_run.specs.Run.{StaysInside}
use Rattle.hv_run.specs.Stands.{watch_of, watches_of, EachWatch, CanWatch, IsSized, KeptOf, EachKept, NewAt, IsNew, EachNew, StandsFor}
use Rattle.hv_run.proofs.Moves.{all_records}

pub each_at : (P : WatchOf → Type 0) (ws : List Watch) (i : ℕ) (d : Watch) → EachWatch P (watches_of ws) → i < length ws → P (watch_of (get_or ws i d))
each_at P [] i d each lt = absurd (omega arith)
each_at P (w ∷ ws) zero d each lt = each.0
each_at P (w ∷ ws) (suc i) d each lt = each_at P ws i d each.1 (omega arith)

new_push : (start : State) (ws : List WatchOf) (ks : List Watching) (w : WatchOf) (k : Watching) → EachNew start ws ks → IsNew start w k → EachNew start (ws ++ w ∷ []) (ks ++ k ∷ [])
new_push start [] [] w k each new = (new, tt)
new_push start [] (l ∷ ks) w k each new = absurd each
new_push start (v ∷ ws) [] w k each new = absurd each
new_push start (v ∷ ws) (l ∷ ks) w k each new = (each.0, new_push start ws ks w k each.1 new)

pub new_more : (start : State) (ws : List Watch) (i : ℕ) (w : Watch) (ks ls : List Watching) (k : Watching) → i < length ws → w ≡ get_or ws i w → EachNew start (watches_of (take i ws)) ks → IsNew start (watch_of w) k → ls ≡ ks ++ k ∷ [] → EachNew start (watches_of (take (i + 1) ws)) ls
new_more start ws i w ks ls k lt at each new is =
    let more : watches_of (take (i + 1) ws) ≡ watches_of (take i ws) ++ watch_of w ∷ [] =
    ap watches_of (take_more ws i w lt)
    ∙ map_push watch_of (take i ws) (get_or ws i w)
    ∙ ap (λ (v : Watch). watches_of (take i ws) ++ watch_of v ∷ []) (sym at) in
    subst (λ (xs : List WatchOf). EachNew start xs ls) (sym more)
    (subst (EachNew start (watches_of (take i ws) ++ watch_of w ∷ [])) (sym is)
    (new_push start (watches_of (take i ws)) ks (watch_of w) k each new))

none_recorded : (start : State) (w : WatchOf) (o : Option (List Item)) (k : Watching) → NewAt start w o k → (k.so_far ∷ [] ≡ watch_records w start [] o) × KeptOf start (last_of start []) w o k × ((k.so_far.count ≡ 0) × (k.so_far.line_total ≡ 0))
unfolding last_of tally_of
none_recorded start w None k new = absurd new
none_recorded start w (Some items) k new = (
  ap (λ (x : WatchRecord). x ∷ []) new.0,
  new.1,
  (ap (λ (x : WatchRecord). x.count) new.0, ap (λ (x : WatchRecord). x.line_total) new.0),
)

all_none : (start : State) (ws : List WatchOf) (ks : List Watching) → EachNew start ws ks → (all_so_far ks ≡ all_records start [] ws) × EachKept start (last_of start []) ws ks
all_none start [] [] each = (refl, tt)
all_none start [] (k ∷ ks) each = absurd each
all_none start (w ∷ ws) [] each = absurd each
all_none start (w ∷ ws) (k ∷ ks) each =
    let head = none_recorded start w (pin_of start.storage w.path) k each.0 in
    let tail = all_none start ws ks each.1 in (
      ap (λ (xs : List WatchRecord). xs ++ all_so_far ks) head.0 ∙ ap (λ (ys : List WatchRecord). watch_records w start [] (pin_of start.storage w.path) ++ ys) tail.0,
      (head.1, tail.1),
    )

-- each watch that was made is one of a path and a storage as they are
sized_at : (start : State) (w : WatchOf) (o : Option (List Item)) (k : Watching) → NewAt start w o k → IsSized start w
sized_at start w None k new = absurd new
sized_at start w (Some items) k new = new.2

all_sized : (start : State) (ws : List WatchOf) (ks : List Watching) → EachNew start ws ks → EachWatch (IsSized start) ws
all_sized start [] ks each = tt
all_sized start (w ∷ ws) [] each = absurd each
all_sized start (w ∷ ws) (k ∷ ks) each =
    (sized_at start w (pin_of start.storage w.path) k each.0, all_sized start ws ks each.1)

-- no number of them is above 0
pub new_within : (start : State) (ws : List WatchOf) (ks : List Watching) → EachNew start ws ks → TellsWithin 0 ks
new_within start ws [] each i d lt = absurd (omega arith)
new_within start [] (k ∷ ks) each i d lt = absurd each
new_within start (w ∷ ws) (k ∷ ks) each zero d lt =
    let e = none_recorded start w (pin_of start.storage w.path) k each.0 in (omega (arith, e.2.0), omega (arith, e.2.1))
new_within start (w ∷ ws) (k ∷ ks) each (suc i) d lt = new_within start ws ks each.1 i d (omega arith)

pub new_length : (start : State) (ws : List Watch) (ks : List Watching) → EachNew start (watches_of ws) ks → length ks ≡ length ws
new_length start [] [] each = refl
new_length start [] (k ∷ ks) each = absurd each
new_length start (w ∷ ws) [] each = absurd each
new_length start (w ∷ ws) (k ∷ ks) each = let e = new_length start ws ks each.1 in omega (arith, e)

nothing_recorded : (start : State) (ws : List WatchOf) (rows : List WatchRecord) → rows ≡ all_records start [] ws → record { steps = 0; faults = 0; recalls = 0; kept = []; watches = rows } ≡ record_of start [] ws
unfolding record_of count_of
nothing_recorded start ws rows e = ap (λ (rows : List WatchRecord). record { steps = 0; faults = 0; recalls = 0; kept = []; watches = rows }) e

none_inside : (start : State) → StaysInside start []
unfolding StaysInside
none_inside start = tt

pub stands_new : (start : State) (p : Played) (ws : List WatchOf) → CanWatch start ws → p.counts ≡ record { steps = 0; faults = 0; recalls = 0; kept = [] } → EachNew start ws p.watching → StandsFor p start [] ws
stands_new start p ws can counts each =
    let none = all_none start ws p.watching each in
    record {
      watched = can;
      sized = all_sized start ws p.watching each;
      masked = tt;
      inside = none_inside start;
      records =
          ap (λ (c : Counts). record { steps = c.steps; faults = c.faults; recalls = c.recalls; kept = c.kept; watches = all_so_far p.watching }) counts
          ∙ nothing_recorded start ws (all_so_far p.watching) none.0;
      kept = none.1;
    }

none_within : (c : Counts) → c ≡ record { steps = 0; faults = 0; recalls = 0; kept = [] } → CountsWithin 0 c
none_within c e =
    let s : c.steps ≡ 0 = ap (λ (x : Counts). x.steps) e in
    let f : c.faults ≡ 0 = ap (λ (x : Counts). x.faults) e in
    let r : c.recalls ≡ 0 = ap (λ (x : Counts). x.recalls) e in
    (omega arith, omega arith, omega arith)

pub new_sound : (start : State) (ws : List Watch) (c : Counts) (ks : List Watching) (rows : List WatchRecord) (cap : ℕ) → c ≡ record { steps = 0; faults = 0; recalls = 0; kept = [] } → EachNew start (watches_of ws) ks → rows ≡ [] → cap ≡ length ws → CountsWithin 0 c × TellsWithin 0 ks × (rows ≡ []) × (length ks ≤ cap)
new_sound start ws c ks rows cap counts each none room =
    (none_within c counts, new_within start (watches_of ws) ks each, none, omega (arith, new_length start ws ks each))
