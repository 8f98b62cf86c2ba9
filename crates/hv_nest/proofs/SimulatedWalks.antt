-- A page walk in the bare storage, and in the storage that the machine sees.
use Rattle.std.proofs.Common.{◌≡◌, ℕ, ◌<◌, ◌≤◌, inl, inr, Bool, true, false, cond, ◌&&◌, List, Option, Some, None, Result, subst, arith, slice_get, length, get_or}
use Rattle.std.specs.Prelude.{◌/◌, ◌%◌, ◌==◌, nat_lt}
use Rattle.std.proofs.lemmas.Bool.{cases_order}
use Rattle.std.proofs.lemmas.Option.{slice_get-get_or, slice_get_past}
use Rattle.hv_word.specs.Words.{field_of}
use Rattle.hv_cpu.specs.Regs.{Regs}
use Rattle.hv_store.specs.declared.access.Access.{Access}
use Rattle.hv_store.specs.declared.access.Access.TheVariants.{Read}
use Rattle.hv_store.specs.declared.access.Refusal.{Refusal}
use Rattle.hv_store.specs.declared.access.Slot.{Slot}
use Rattle.hv_store.specs.Access.{get, open_at}
use Rattle.hv_sv32.specs.Entry.{is_faulty, is_leaf, is_plain, page_of, grants}
use Rattle.hv_sv32.specs.Stop.{Walked, Found, TrapWith, RefusedBy}
use Rattle.hv_sv32.specs.Walk.{page_fault_of, access_fault_of, barred, outside, located, at_second, from_second, through_second, large_page, at_first, from_first, through_first, is_bare, walk_of}
use Rattle.hv_map.specs.Carried.{SlotLike, MapLike}
use Rattle.hv_nest.specs.Simulation.{Simulation, deepened}
use Rattle.hv_nest.proofs.SimulatedAsks.{AnswerLike, answer_further_out, both_answer, both_refuse, AskLike, both_outside, both_inside, got_like}

-- the walk is refused by an ancestor, or finds the same place, or ends in the same trap or the same refusal told further in
pub data WalkLike (k : ℕ) : Walked → Walked → Type 0 where
  walk_further_out : (e : Refusal) (W : Walked) → e.level < k → WalkLike k (RefusedBy e) W
  both_find : (page offset : ℕ) → offset < 4096 → WalkLike k (Found page offset) (Found page offset)
  both_trap : (cause tval : ℕ) → WalkLike k (TrapWith cause tval) (TrapWith cause tval)
  walk_refused : (e : Refusal) → WalkLike k (RefusedBy (deepened k e)) (RefusedBy e)

-- maps that are alike have as many slots
none_some : (k : ℕ) (F : List Slot) (s : Slot) (o p : Option Slot) → o ≡ None → p ≡ Some s → SlotLike k F o p → ⊥
none_some k F s o p e f like = subst (λ (x : Option Slot). SlotLike k F None x) f (subst (λ (x : Option Slot). SlotLike k F x p) e like)

some_none : (k : ℕ) (F : List Slot) (s : Slot) (o p : Option Slot) → o ≡ Some s → p ≡ None → SlotLike k F o p → ⊥
some_none k F s o p e f like = subst (λ (x : Option Slot). SlotLike k F (Some s) x) f (subst (λ (x : Option Slot). SlotLike k F x p) e like)

pub same_length : (k : ℕ) (F H G : List Slot) → MapLike k F H G → length H ≡ length G
same_length k F H G like = elim (cases_order (length H) (length G)) [
  | inl e ↦ e
  | inr (inl h) ↦
      let here : length H ≤ length H = omega arith in
      absurd (none_some k F (get_or G (length H) (open_at 0)) (slice_get H (length H)) (slice_get G (length H)) (slice_get_past H (length H) here) (slice_get-get_or G (length H) (open_at 0) h) (like (length H)))
  | inr (inr h) ↦
      let here : length G ≤ length G = omega arith in
      absurd (some_none k F (get_or H (length G) (open_at 0)) (slice_get H (length G)) (slice_get G (length G)) (slice_get-get_or H (length G) (open_at 0) h) (slice_get_past G (length G) here) (like (length G)))
]

module _ (k : ℕ) (F : List Slot) (R : List ℕ → List ℕ → Type 0) (sim : Simulation k F R) (S T : List ℕ) (related : R S T) (H G : List Slot) (like : MapLike k F H G) where
  placed_like : (page address : ℕ) (a : Access) → WalkLike k (located H page address a) (located G page address a)
  placed_like page address a =
      subst (λ (n : ℕ). WalkLike k (located H page address a) (cond (nat_lt page n) (Found page (address % 4096)) (outside address a))) (same_length k F H G like) (by (nat_lt page (length H)))
    where
      by : (b : Bool) → WalkLike k (cond b (Found page (address % 4096)) (outside address a)) (cond b (Found page (address % 4096)) (outside address a))
      by true = both_find page (address % 4096) (omega arith)
      by false = both_trap (access_fault_of a) address

  second_like : (r : Regs) (address : ℕ) (a : Access) (e : ℕ) → WalkLike k (at_second H r address a e) (at_second G r address a e)
  second_like r address a e = by (is_faulty e) (is_leaf e && grants r a e)
    where
      by : (b d : Bool) → WalkLike k (cond b (barred address a) (cond d (located H (page_of e) address a) (barred address a))) (cond b (barred address a) (cond d (located G (page_of e) address a) (barred address a)))
      by true d = both_trap (page_fault_of a) address
      by false true = placed_like (page_of e) address a
      by false false = both_trap (page_fault_of a) address

  from_second_like : (r : Regs) (address : ℕ) (a : Access) (o p : Option (Result ℕ Refusal)) → AskLike k (λ (u v : ℕ). u ≡ v) o p → WalkLike k (from_second H r address a o) (from_second G r address a p)
  from_second_like r address a o p both_outside = both_trap (access_fault_of a) address
  from_second_like r address a o p (both_inside x y answer) = by x y answer
    where
      by : (x y : Result ℕ Refusal) → AnswerLike k (λ (u v : ℕ). u ≡ v) x y → WalkLike k (from_second H r address a (Some x)) (from_second G r address a (Some y))
      by x y (answer_further_out e z low) = walk_further_out e (from_second G r address a (Some z)) low
      by x y (both_answer u v e) =
          subst (λ (w : ℕ). WalkLike k (at_second H r address a u) (at_second G r address a w)) e (second_like r address a u)
      by x y (both_refuse e) = walk_refused e

  through_second_like : (r : Regs) (table address : ℕ) (a : Access) → WalkLike k (through_second S H r table address a) (through_second T G r table address a)
  through_second_like r table address a =
      from_second_like r address a (get S H table (field_of address 12 10) Read) (get T G table (field_of address 12 10) Read)
      (got_like k F R sim S T related H G like table (field_of address 12 10) Read (omega arith))

  first_like : (r : Regs) (address : ℕ) (a : Access) (e : ℕ) → WalkLike k (at_first S H r address a e) (at_first T G r address a e)
  first_like r address a e = by (is_faulty e) (is_leaf e) ((field_of e 10 10 == 0) && grants r a e) (is_plain e)
    where
      by : (b d m p : Bool)
          → WalkLike k
          (cond b (barred address a) (cond d (cond m (located H (large_page e address) address a) (barred address a)) (cond p (through_second S H r (page_of e) address a) (barred address a))))
          (cond b (barred address a) (cond d (cond m (located G (large_page e address) address a) (barred address a)) (cond p (through_second T G r (page_of e) address a) (barred address a))))
      by true d m p = both_trap (page_fault_of a) address
      by false true true p = placed_like (large_page e address) address a
      by false true false p = both_trap (page_fault_of a) address
      by false false m true = through_second_like r (page_of e) address a
      by false false m false = both_trap (page_fault_of a) address

  from_first_like : (r : Regs) (address : ℕ) (a : Access) (o p : Option (Result ℕ Refusal)) → AskLike k (λ (u v : ℕ). u ≡ v) o p → WalkLike k (from_first S H r address a o) (from_first T G r address a p)
  from_first_like r address a o p both_outside = both_trap (access_fault_of a) address
  from_first_like r address a o p (both_inside x y answer) = by x y answer
    where
      by : (x y : Result ℕ Refusal) → AnswerLike k (λ (u v : ℕ). u ≡ v) x y → WalkLike k (from_first S H r address a (Some x)) (from_first T G r address a (Some y))
      by x y (answer_further_out e z low) = walk_further_out e (from_first T G r address a (Some z)) low
      by x y (both_answer u v e) =
          subst (λ (w : ℕ). WalkLike k (at_first S H r address a u) (at_first T G r address a w)) e (first_like r address a u)
      by x y (both_refuse e) = walk_refused e

  pub walk_like : (r : Regs) (address : ℕ) (a : Access) → WalkLike k (walk_of S H r address a) (walk_of T G r address a)
  walk_like r address a = by (is_bare r a)
    where
      by : (b : Bool) → WalkLike k (cond b (located H (address / 4096) address a) (through_first S H r address a)) (cond b (located G (address / 4096) address a) (through_first T G r address a))
      by true = placed_like (address / 4096) address a
      by false =
          from_first_like r address a (get S H (field_of r.satp 0 22) (field_of address 22 10) Read) (get T G (field_of r.satp 0 22) (field_of address 22 10) Read)
          (got_like k F R sim S T related H G like (field_of r.satp 0 22) (field_of address 22 10) Read (omega arith))
