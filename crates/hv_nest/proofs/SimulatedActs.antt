-- One instruction in the bare storage, and in the storage that the machine sees.
use Rattle.std.proofs.Common.{◌≡◌, ℕ, ◌<◌, Bool, true, false, cond, List, Option, Some, None, Result, Ok, subst, arith}
use Rattle.std.specs.Prelude.{◌/◌, ◌%◌, ◌==◌}
use Rattle.hv_word.specs.Words.{lane_of}
use Rattle.hv_cpu.specs.Regs.{Regs}
use Rattle.hv_isa.specs.declared.Instr.{Instr}
use Rattle.hv_isa.specs.Table.{decode_of}
use Rattle.hv_csr.specs.Traps.{take_trap_of}
use Rattle.hv_store.specs.declared.access.Access.TheVariants.{Read, Write, Fetch}
use Rattle.hv_store.specs.declared.access.Refusal.{Refusal}
use Rattle.hv_store.specs.declared.access.Slot.{Slot}
use Rattle.hv_store.specs.Access.{get, set, cleared}
use Rattle.hv_sv32.specs.Stop.{Walked}
use Rattle.hv_sv32.specs.Walk.{walk_of}
use Rattle.hv_exec.specs.Answer.{Answer, Next, Trap, Load, Store, Enter, advanced, given}
use Rattle.hv_exec.specs.Do.{do_of}
use Rattle.hv_exec.specs.Memory.{lane_at, extended}
use Rattle.hv_exec.specs.Act.{Acted, Done, Refused, trapped, loaded, load_at, stored, store_at, entered, enter_at, carried_out, decoded, fetched, fetch_at, act_of}
use Rattle.hv_map.specs.Carried.{MapLike}
use Rattle.hv_nest.specs.Simulation.{Simulation, deepened}
use Rattle.hv_nest.proofs.SimulatedAsks.{AnswerLike, answer_further_out, both_answer, both_refuse, AskLike, both_outside, both_inside, got_like, put_like, cleared_like}
use Rattle.hv_nest.proofs.SimulatedWalks.{WalkLike, walk_further_out, both_find, both_trap, walk_refused, walk_like}

-- the instruction is refused by an ancestor, or both are done, or both are refused, with levels raised by k
pub data ActLike (k : ℕ) (R : List ℕ → List ℕ → Type 0) : Acted → Acted → Type 0 where
  act_further_out : (e : Refusal) (A : Acted) → e.level < k → ActLike k R (Refused e) A
  both_done : (S T : List ℕ) (r : Regs) → R S T → ActLike k R (Done S r) (Done T r)
  act_refused : (e : Refusal) → ActLike k R (Refused (deepened k e)) (Refused e)

module _ (k : ℕ) (F : List Slot) (R : List ℕ → List ℕ → Type 0) (sim : Simulation k F R) (S T : List ℕ) (related : R S T) where
  trapped_like : (r : Regs) (cause tval : ℕ) → ActLike k R (trapped S r cause tval) (trapped T r cause tval)
  trapped_like r cause tval = both_done S T (take_trap_of r cause false tval) related

  loaded_like : (r : Regs) (address : ℕ) (width : _) (signed : Bool) (rd offset : ℕ) (o p : Option (Result ℕ Refusal)) → AskLike k (λ (u v : ℕ). u ≡ v) o p → ActLike k R (loaded S r address width signed rd offset o) (loaded T r address width signed rd offset p)
  loaded_like r address width signed rd offset o p both_outside = trapped_like r 5 address
  loaded_like r address width signed rd offset o p (both_inside x y answer) = by x y answer
    where
      by : (x y : Result ℕ Refusal) → AnswerLike k (λ (u v : ℕ). u ≡ v) x y → ActLike k R (loaded S r address width signed rd offset (Some x)) (loaded T r address width signed rd offset (Some y))
      by x y (answer_further_out e z low) = act_further_out e (loaded T r address width signed rd offset (Some z)) low
      by x y (both_answer u v e) =
          subst (λ (w : ℕ). ActLike k R (loaded S r address width signed rd offset (Some (Ok u))) (loaded T r address width signed rd offset (Some (Ok w)))) e
          (both_done S T (given r rd (extended width signed (lane_of u (lane_at width offset)))) related)
      by x y (both_refuse e) = act_refused e

  stored_like : (r : Regs) (address : ℕ) (o p : Option (Result (List ℕ) Refusal)) → AskLike k R o p → ActLike k R (stored S r address o) (stored T r address p)
  stored_like r address o p both_outside = trapped_like r 7 address
  stored_like r address o p (both_inside x y answer) = by x y answer
    where
      by : (x y : Result (List ℕ) Refusal) → AnswerLike k R x y → ActLike k R (stored S r address (Some x)) (stored T r address (Some y))
      by x y (answer_further_out e z low) = act_further_out e (stored T r address (Some z)) low
      by x y (both_answer A B h) = both_done A B (advanced r) h
      by x y (both_refuse e) = act_refused e

  entered_like : (r : Regs) (value page : ℕ) (o p : Option (Result (List ℕ) Refusal)) → AskLike k R o p → ActLike k R (entered S r value page o) (entered T r value page p)
  entered_like r value page o p both_outside = trapped_like r 7 value
  entered_like r value page o p (both_inside x y answer) = by x y answer
    where
      by : (x y : Result (List ℕ) Refusal) → AnswerLike k R x y → ActLike k R (entered S r value page (Some x)) (entered T r value page (Some y))
      by x y (answer_further_out e z low) = act_further_out e (entered T r value page (Some z)) low
      by x y (both_answer A B h) = both_done A B (advanced (record r { next = page })) h
      by x y (both_refuse e) = act_refused e

  module _ (H G : List Slot) (like : MapLike k F H G) where
    load_like : (r : Regs) (address : ℕ) (width : _) (signed : Bool) (rd : ℕ) (V W : Walked) → WalkLike k V W → ActLike k R (load_at S H r address width signed rd V) (load_at T G r address width signed rd W)
    load_like r address width signed rd V W (walk_further_out e X low) = act_further_out e (load_at T G r address width signed rd X) low
    load_like r address width signed rd V W (both_find page offset lt) =
        let word : offset / 4 < 1024 = omega arith in
        loaded_like r address width signed rd offset (get S H page (offset / 4) Read) (get T G page (offset / 4) Read)
        (got_like k F R sim S T related H G like page (offset / 4) Read word)
    load_like r address width signed rd V W (both_trap cause tval) = trapped_like r cause tval
    load_like r address width signed rd V W (walk_refused e) = act_refused e

    store_like : (r : Regs) (address : ℕ) (width : _) (v : ℕ) (V W : Walked) → WalkLike k V W → ActLike k R (store_at S H r address width v V) (store_at T G r address width v W)
    store_like r address width v V W (walk_further_out e X low) = act_further_out e (store_at T G r address width v X) low
    store_like r address width v V W (both_find page offset lt) =
        let word : offset / 4 < 1024 = omega arith in
        stored_like r address (set S H page (offset / 4) (lane_at width offset) v) (set T G page (offset / 4) (lane_at width offset) v)
        (put_like k F R sim S T related H G like page (offset / 4) (lane_at width offset) v word)
    store_like r address width v V W (both_trap cause tval) = trapped_like r cause tval
    store_like r address width v V W (walk_refused e) = act_refused e

    enter_like : (r : Regs) (value : ℕ) → ActLike k R (enter_at S H r value) (enter_at T G r value)
    enter_like r value = by (value % 4096 == 0) (value / 4096 == 0)
      where
        by : (b d : Bool)
            → ActLike k R
            (cond b (cond d (trapped S r 7 value) (entered S r value (value / 4096) (cleared S H (value / 4096)))) (trapped S r 6 value))
            (cond b (cond d (trapped T r 7 value) (entered T r value (value / 4096) (cleared T G (value / 4096)))) (trapped T r 6 value))
        by true true = trapped_like r 7 value
        by true false =
            entered_like r value (value / 4096) (cleared S H (value / 4096)) (cleared T G (value / 4096))
            (cleared_like k F R sim S T related H G like (value / 4096))
        by false d = trapped_like r 6 value

    carried_like : (r : Regs) (x : Answer) → ActLike k R (carried_out S H r x) (carried_out T G r x)
    unfolding carried_out
    carried_like r (Next q) = both_done S T q related
    carried_like r (Trap cause tval) = trapped_like r cause tval
    carried_like r (Load address width signed rd) =
        load_like r address width signed rd (walk_of S H r address Read) (walk_of T G r address Read) (walk_like k F R sim S T related H G like r address Read)
    carried_like r (Store address width v) =
        store_like r address width v (walk_of S H r address Write) (walk_of T G r address Write) (walk_like k F R sim S T related H G like r address Write)
    carried_like r (Enter value) = enter_like r value

    decoded_like : (hart : ℕ) (r : Regs) (w : ℕ) (o : Option Instr) → ActLike k R (decoded S H hart r w o) (decoded T G hart r w o)
    unfolding decoded
    decoded_like hart r w None = trapped_like r 2 w
    decoded_like hart r w (Some i) = carried_like r (do_of i w r hart)

    fetched_like : (hart : ℕ) (r : Regs) (o p : Option (Result ℕ Refusal)) → AskLike k (λ (u v : ℕ). u ≡ v) o p → ActLike k R (fetched S H hart r o) (fetched T G hart r p)
    fetched_like hart r o p both_outside = trapped_like r 1 r.pc
    fetched_like hart r o p (both_inside x y answer) = by x y answer
      where
        by : (x y : Result ℕ Refusal) → AnswerLike k (λ (u v : ℕ). u ≡ v) x y → ActLike k R (fetched S H hart r (Some x)) (fetched T G hart r (Some y))
        by x y (answer_further_out e z low) = act_further_out e (fetched T G hart r (Some z)) low
        by x y (both_answer u v e) =
            subst (λ (w : ℕ). ActLike k R (decoded S H hart r u (decode_of u)) (decoded T G hart r w (decode_of w))) e
            (decoded_like hart r u (decode_of u))
        by x y (both_refuse e) = act_refused e

    fetch_like : (hart : ℕ) (r : Regs) (V W : Walked) → WalkLike k V W → ActLike k R (fetch_at S H hart r V) (fetch_at T G hart r W)
    unfolding fetch_at
    fetch_like hart r V W (walk_further_out e X low) = act_further_out e (fetch_at T G hart r X) low
    fetch_like hart r V W (both_find page offset lt) =
        let word : offset / 4 < 1024 = omega arith in
        fetched_like hart r (get S H page (offset / 4) Fetch) (get T G page (offset / 4) Fetch)
        (got_like k F R sim S T related H G like page (offset / 4) Fetch word)
    fetch_like hart r V W (both_trap cause tval) = trapped_like r cause tval
    fetch_like hart r V W (walk_refused e) = act_refused e

    pub act_like : (hart : ℕ) (r : Regs) → ActLike k R (act_of S H hart r) (act_of T G hart r)
    unfolding act_of
    act_like hart r = fetch_like hart r (walk_of S H r r.pc Fetch) (walk_of T G r r.pc Fetch) (walk_like k F R sim S T related H G like r r.pc Fetch)
