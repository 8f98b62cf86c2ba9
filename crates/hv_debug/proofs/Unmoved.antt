-- A change of lines changes nothing that a breakpoint sees: neither the machine that a hart runs nor a program counter.
use Rattle.std.proofs.Common.{◌≡◌, ℕ, zero, suc, ◌&&◌, ◌||◌, Bool, nat_eq, Option, Some, None, List, [], ◌∷◌, ◌++◌, refl, ap, ap₂, sym, ◌∙◌}
use Rattle.std.specs.Prelude.{bytes_eq, slice_get, slice_set}
use Rattle.std.proofs.lemmas.Option.{same_Some}
use Rattle.hv_word.specs.Storage.{word_at}
use Rattle.hv_cpu.specs.Lines.{lined_of}
use Rattle.hv_cpu.specs.Regs.{Regs}
use Rattle.hv_map.specs.Chain.{child_next, pin_of, run_on, running}
use Rattle.hv_map.specs.Item.{Item}
use Rattle.hv_nest.specs.Move.{Move, StepOf, LinesOf, last_of, lined_at, lined_state, running_at, state_after}
use Rattle.hv_nest.specs.State.{State}
use Rattle.hv_nest.specs.Watched.{last_block}
use Rattle.hv_store.specs.declared.access.Slot.{Slot}
use Rattle.hv_debug.specs.declared.stop.Break.{Break}
use Rattle.hv_debug.specs.Playing.{Reached, counter_in, counter_of, has_counter, is_at, is_stopped, lines_before, stops}

-- what a breakpoint sees of a hart
abbrev seen : Option Regs → Option (ℕ × ℕ)
seen None = None
seen (Some r) = Some (r.pc, r.next)

set_seen : (xs : List Regs) (h : ℕ) (r q : Regs) (k : ℕ) → slice_get xs h ≡ Some r → seen (Some q) ≡ seen (Some r) → seen (slice_get (slice_set xs h q) k) ≡ seen (slice_get xs k)
set_seen [] h r q k is e = refl
set_seen (x ∷ xs) zero r q zero is e = e ∙ sym (ap seen is)
set_seen (x ∷ xs) zero r q (suc k) is e = refl
set_seen (x ∷ xs) (suc h) r q zero is e = refl
set_seen (x ∷ xs) (suc h) r q (suc k) is e = set_seen xs h r q k is e

lined_seen : (st : State) (h m k : ℕ) → seen (slice_get (lined_state st h m).harts k) ≡ seen (slice_get st.harts k)
lined_seen st h m k = at (slice_get st.harts h) refl
  where
    at : (o : Option Regs) → slice_get st.harts h ≡ o → seen (slice_get (lined_at st h m o).harts k) ≡ seen (slice_get st.harts k)
    at None is = refl
    at (Some r) is = set_seen st.harts h r (lined_of r m) k is refl

lined_storage : (st : State) (h m : ℕ) → (lined_state st h m).storage ≡ st.storage
lined_storage st h m = at (slice_get st.harts h)
  where
    at : (o : Option Regs) → (lined_at st h m o).storage ≡ st.storage
    at None = refl
    at (Some r) = refl

running_by_next : (n : ℕ) (S : List ℕ) (F : List Slot) (j : ℕ) (r q : Regs) → r.next ≡ q.next → running n S F j r ≡ running n S F j q
unfolding running
running_by_next zero S F j r q e = refl
running_by_next (suc n) S F j r q e = ap (λ (s : ℕ). run_on (running n) S F j (child_next S F s)) e

running_seen : (S : List ℕ) (o p : Option Regs) → seen o ≡ seen p → running_at S o ≡ running_at S p
running_seen S None None e = refl
running_seen S None (Some q) e = cc
running_seen S (Some r) None e = cc
running_seen S (Some r) (Some q) e = let both = same_Some (r.pc, r.next) (q.pc, q.next) e in running_by_next _ S _ _ r q (ap (λ (x : ℕ × ℕ). x.1) both)

counter_seen : (o p : Option Regs) → seen o ≡ seen p → counter_of o ≡ counter_of p
counter_seen None None e = refl
counter_seen None (Some q) e = cc
counter_seen (Some r) None e = cc
counter_seen (Some r) (Some q) e = let both = same_Some (r.pc, r.next) (q.pc, q.next) e in ap (λ (x : ℕ × ℕ). x.0) both

-- the storage and what is seen of a hart are the same
record Same (u st : State) (hart : ℕ) : Type 0 where
  storage : u.storage ≡ st.storage
  shown : seen (slice_get u.harts hart) ≡ seen (slice_get st.harts hart)

at_same : (u st : State) (hart : ℕ) (b : Break) → Same u st hart → is_at u hart b ≡ is_at st hart b
at_same u st hart b same =
    ap₂ (λ (path : List ℕ) (x : Bool). bytes_eq b.path path && x)
    (ap (λ (S : List ℕ). running_at S (slice_get u.harts hart)) same.storage ∙ running_seen st.storage (slice_get u.harts hart) (slice_get st.harts hart) same.shown)
    (ap (λ (S : List ℕ). has_counter u hart b.at (pin_of S b.path)) same.storage ∙ has (pin_of st.storage b.path))
  where
    counter : (block : Option ℕ) → counter_in u hart block ≡ counter_in st hart block
    counter None = counter_seen (slice_get u.harts hart) (slice_get st.harts hart) same.shown
    counter (Some g) = ap (λ (S : List ℕ). word_at S g 0) same.storage

    has : (o : Option (List Item)) → has_counter u hart b.at o ≡ has_counter st hart b.at o
    has None = refl
    has (Some items) = ap (λ (pc : ℕ). nat_eq pc b.at) (counter (last_block items))

stopped_same : (u st : State) (breaks : List Break) (hart : ℕ) → Same u st hart → is_stopped u breaks hart ≡ is_stopped st breaks hart
stopped_same u st [] hart same = refl
stopped_same u st (b ∷ bs) hart same = ap₂ (λ (x y : Bool). x || y) (at_same u st hart b same) (stopped_same u st bs hart same)

lines_same : (st : State) (ms : List Move) (breaks : List Break) (hart : ℕ) → is_stopped (last_of st (lines_before ms)) breaks hart ≡ is_stopped st breaks hart
unfolding last_of
lines_same st [] breaks hart = refl
lines_same st (StepOf h ∷ ms) breaks hart = refl
lines_same st (LinesOf h m ∷ ms) breaks hart =
    lines_same (lined_state st h m) ms breaks hart
    ∙ stopped_same (lined_state st h m) st breaks hart record { storage = lined_storage st h m; shown = lined_seen st h m hart }

last-append : (st : State) (xs ys : List Move) → last_of st (xs ++ ys) ≡ last_of (last_of st xs) ys
unfolding last_of
last-append st [] ys = refl
last-append st (x ∷ xs) ys = last-append (state_after st x) xs ys

-- whether a breakpoint stops before the next step can be told before the changes of lines that come before it
pub stops_now : (start : State) (breaks : List Break) (r : Reached) (hart : ℕ) → stops start breaks r hart ≡ is_stopped (last_of start r.played) breaks hart
stops_now start breaks r hart =
    ap (λ (st : State). is_stopped st breaks hart) (last-append start r.played (lines_before r.rest))
    ∙ lines_same (last_of start r.played) r.rest breaks hart
