-- Two machines that are as one bare machine are equal.
use Rattle.std.proofs.Common.{◌≡◌, ℕ, zero, suc, ◌≤◌, Option, Some, None, List, [], ◌∷◌, ◌++◌, length, take, refl, sym, ap, ap₂, ◌∙◌, subst, arith, slice_get}
use Rattle.std.proofs.lemmas.List.{take_all}
use Rattle.std.proofs.lemmas.Option.{same_Some}
use Rattle.std.specs.List.{flat_map}
use Rattle.hv_cpu.specs.Regs.{Regs}
use Rattle.hv_limits.specs.Limits.{kept_limit}
use Rattle.hv_map.specs.Item.{Item}
use Rattle.hv_map.specs.Chain.{IsThere, map_along, pin_of}
use Rattle.hv_map.specs.Seen.{seen}
use Rattle.hv_nest.specs.State.{State}
use Rattle.hv_nest.specs.Move.{Move, last_of}
use Rattle.hv_nest.specs.Bare.{bare_of}
use Rattle.hv_nest.specs.Watched.{LineChange, Tally, last_block}
use Rattle.hv_whole.specs.Whole.{own}
use Rattle.hv_run.specs.Record.{WatchOf, WatchRecord, record_of, tally_over, watch_record, watch_records}
use Rattle.hv_run.specs.Run.{state_at}
use Rattle.hv_run.specs.Stands.{CanWatch, EachWatch, IsSized, IsWatchable}
use Rattle.hv_run.specs.Promises.{HasRegisters, IsAsBare, tally_at, twin_at}
use Rattle.hv_run.proofs.Guests.{guests}
use Rattle.hv_isolate.specs.Equal.{AreEqual, EqualRowsLaw, EqualStartsLaw}

head_is : (r q : Regs) → r ∷ [] ≡ q ∷ [] → r ≡ q
head_is r q e = ap (λ (rs : List Regs). first rs) e
  where
    first : List Regs → Regs
    first [] = r
    first (x ∷ xs) = x

-- as one bare machine
both_bare : (start : State) (w : WatchOf) (items : List Item) (st other : State) (v : WatchOf) (others : List Item) (now bare : State)
    → IsAsBare start w items st bare
    → IsAsBare other v others now bare
    → AreEqual start w items st other v others now
both_bare start w items st other v others now bare a b =
    let same : b.regs ≡ a.regs = head_is b.regs a.regs (sym b.hart ∙ a.hart) in
    record {
      regs = a.regs;
      one = a.registers;
      two = subst (λ (r : Regs). HasRegisters v.hart (last_block others) now r) same b.registers;
      size = omega (arith, a.size, b.size);
      pages = λ page x y k s t is opens at opened low. a.pages page x k s is opens low ∙ sym (b.pages page y k t at opened low);
    }

pub equal_starts : EqualStartsLaw
equal_starts start moves w items other more v others k n one two equal first second untouched quiet counts changes =
    let bare : State = twin_at start moves w items k in
    let same : twin_at other more v others n ≡ bare =
    ap₂ (λ (T : List ℕ) (r : Regs). bare_of T r (tally_at other more v others n).changes (tally_at other more v others n).count) (sym equal.storages) (sym equal.registers)
    ∙ ap₂ (λ (ls : List LineChange) (m : ℕ). bare_of (seen start.storage (map_along start.storage items)) (own w.hart items start) ls m) (sym changes) (sym counts)
    in
    both_bare start w items (state_at start moves k) other v others (state_at other more n) bare
    ((guests start moves (w ∷ []) (one.watched, tt) (one.sized, tt) one.masked).0 items k one.there one.apart first untouched)
    (subst (λ (b : State). IsAsBare other v others (state_at other more n) b) same
    ((guests other more (v ∷ []) (two.watched, tt) (two.sized, tt) two.masked).0 others n two.there two.apart second quiet))

-- the watch of a row, and the row
each_at : (P : WatchOf → Type 0) (ws : List WatchOf) (i : ℕ) (w : WatchOf) → EachWatch P ws → slice_get ws i ≡ Some w → P w
each_at P [] i w each e = absurd (let f : None ≡ Some w = e in cc)
each_at P (x ∷ ws) zero w each e = subst P (same_Some x w e) each.0
each_at P (x ∷ ws) (suc i) w each e = each_at P ws i w each.1 e

row_at : (start : State) (moves : List Move) (ws : List WatchOf) (i : ℕ) (w : WatchOf) (row : WatchRecord) (items : List Item)
    → CanWatch start ws
    → slice_get ws i ≡ Some w
    → pin_of start.storage w.path ≡ Some items
    → slice_get (flat_map (λ (x : WatchOf). watch_records x start moves (pin_of start.storage x.path)) ws) i ≡ Some row
    → row ≡ watch_record w start items (tally_over start moves w items)
row_at start moves [] i w row items can e there told = absurd (let f : None ≡ Some w = e in cc)
row_at start moves (x ∷ ws) zero w row items can e there told =
    let found : pin_of start.storage x.path ≡ Some items = ap (λ (y : WatchOf). pin_of start.storage y.path) (same_Some x w e) ∙ there in
    let rest : List WatchRecord = flat_map (λ (y : WatchOf). watch_records y start moves (pin_of start.storage y.path)) ws in
    sym
    (same_Some (watch_record w start items (tally_over start moves w items)) row
    (ap (λ (y : WatchOf). Some (watch_record y start items (tally_over start moves y items))) (sym (same_Some x w e))
    ∙ ap (λ (o : Option (List Item)). slice_get (watch_records x start moves o ++ rest) 0) (sym found)
    ∙ told))
row_at start moves (x ∷ ws) (suc i) w row items can e there told =
    row_at start moves ws i w row items can.1 e there (sym (by (pin_of start.storage x.path) can.0.machine) ∙ told)
  where
    rest : List WatchRecord
    rest = flat_map (λ (y : WatchOf). watch_records y start moves (pin_of start.storage y.path)) ws

    by : (o : Option (List Item)) → IsThere start.storage o
        → slice_get (watch_records x start moves o ++ flat_map (λ (y : WatchOf). watch_records y start moves (pin_of start.storage y.path)) ws) (suc i)
        ≡ slice_get (flat_map (λ (y : WatchOf). watch_records y start moves (pin_of start.storage y.path)) ws) i
    by None h = absurd h
    by (Some xs) h = refl

pub equal_rows : EqualRowsLaw
unfolding record_of
equal_rows start moves watches w row items other more observers v line others one two there found equal first second counts lines =
    let t : Tally = tally_over start moves w items in
    let u : Tally = tally_over other more v others in
    let told : row ≡ watch_record w start items t = row_at start moves watches one.index w row items one.can one.watch there one.told in
    let tells : line ≡ watch_record v other others u = row_at other more observers two.index v line others two.can two.watch found two.told in
    let all : take (length moves) moves ≡ moves = take_all (length moves) moves (omega arith) in
    let every : take (length more) more ≡ more = take_all (length more) more (omega arith) in
    let here : tally_at start moves w items (length moves) ≡ t = ap (λ (ms : List Move). tally_over start ms w items) all in
    let now : tally_at other more v others (length more) ≡ u = ap (λ (ms : List Move). tally_over other ms v others) every in
    let short : length t.changes ≤ kept_limit = subst (λ (r : WatchRecord). r.line_total ≤ kept_limit) told first.kept in
    let brief : length u.changes ≤ kept_limit = subst (λ (r : WatchRecord). r.line_total ≤ kept_limit) tells second.kept in
    let changes : t.changes ≡ u.changes =
    sym (take_all kept_limit t.changes short)
    ∙ sym (ap (λ (r : WatchRecord). r.lines) told)
    ∙ lines
    ∙ ap (λ (r : WatchRecord). r.lines) tells
    ∙ take_all kept_limit u.changes brief
    in
    let count : t.count ≡ u.count = sym (ap (λ (r : WatchRecord). r.count) told) ∙ counts ∙ ap (λ (r : WatchRecord). r.count) tells in
    subst (λ (ms : List Move). AreEqual start w items (last_of start ms) other v others (last_of other more)) all
    (subst (λ (ms : List Move). AreEqual start w items (state_at start moves (length moves)) other v others (last_of other ms)) every
    (equal_starts start moves w items other more v others (length moves) (length more)
    record {
      watched = each_at (IsWatchable start) watches one.index w one.can one.watch;
      sized = each_at (IsSized start) watches one.index w one.sized one.watch;
      masked = one.masked;
      there = there;
      apart = sym (ap (λ (r : WatchRecord). r.apart) told) ∙ first.apart;
    }
    record {
      watched = each_at (IsWatchable other) observers two.index v two.can two.watch;
      sized = each_at (IsSized other) observers two.index v two.sized two.watch;
      masked = two.masked;
      there = found;
      apart = sym (ap (λ (r : WatchRecord). r.apart) tells) ∙ second.apart;
    }
    equal (omega arith) (omega arith)
    (ap (λ (x : Tally). x.touched) here ∙ sym (ap (λ (r : WatchRecord). r.touched) told) ∙ first.untouched)
    (ap (λ (x : Tally). x.touched) now ∙ sym (ap (λ (r : WatchRecord). r.touched) tells) ∙ second.untouched)
    (ap (λ (x : Tally). x.count) here ∙ count ∙ sym (ap (λ (x : Tally). x.count) now))
    (ap (λ (x : Tally). x.changes) here ∙ changes ∙ sym (ap (λ (x : Tally). x.changes) now))))
