-- No move changes how many words the storage has, nor how many harts there are.
use Rattle.std.proofs.Common.{◌≡◌, ℕ, zero, suc, ◌+◌, Bool, true, false, cond, ◌*◌, List, length, Option, Some, None, Result, Ok, Err, length-set, refl, ◌∙◌, slice_get}
use Rattle.std.specs.Prelude.{◌==◌, ◌/◌, ◌%◌}
use Rattle.hv_word.specs.declared.Lane.{Lane}
use Rattle.hv_word.specs.Words.{lane_with}
use Rattle.hv_word.specs.Storage.{page_count, word_at, with_word}
use Rattle.hv_isa.specs.declared.Instr.{Instr}
use Rattle.hv_isa.specs.Table.{decode_of}
use Rattle.hv_cpu.specs.Regs.{Regs}
use Rattle.hv_cpu.specs.Lines.{lined_of}
use Rattle.hv_csr.specs.Traps.{take_trap_of}
use Rattle.hv_csr.specs.Interrupts.{pending_of}
use Rattle.hv_store.specs.declared.access.Access.TheVariants.{Read, Write, Fetch}
use Rattle.hv_store.specs.declared.access.Refusal.{Refusal}
use Rattle.hv_store.specs.declared.access.Slot.{Slot}
use Rattle.hv_store.specs.declared.access.Way.{Way}
use Rattle.hv_store.specs.declared.access.Way.TheVariants.{Open, Shut}
use Rattle.hv_store.specs.Access.{identity, get, put_at, set, write_through, clear_through, cleared_at, cleared}
use Rattle.hv_sv32.specs.Stop.{Walked, Found, TrapWith, RefusedBy}
use Rattle.hv_sv32.specs.Walk.{walk_of}
use Rattle.hv_exec.specs.Answer.{Answer, Next, Trap, Load, Store, Enter}
use Rattle.hv_exec.specs.Do.{do_of}
use Rattle.hv_exec.specs.Memory.{lane_at}
use Rattle.hv_exec.specs.Act.{Acted, Done, Refused, trapped, loaded, load_at, stored, store_at, entered, enter_page, enter_at, carried_out, decoded, fetched, fetch_at, act_of}
use Rattle.hv_block.specs.Block.{Contents, block_of, with_fault, access_word}
use Rattle.hv_block.proofs.Words.{length-put_regs}
use Rattle.hv_limits.specs.Limits.{depth_limit}
use Rattle.hv_map.specs.Compose.{compose}
use Rattle.hv_nest.specs.Step.{Stepped, Worked, Recalled, Faulted, Barred, Machine, idle, interrupt_of, act_step, tell_of, put_back, malformed, child_step, child_step_through, child_step_at, next_step, step_on, step_of, host_step_of}
use Rattle.hv_nest.specs.State.{State}
use Rattle.hv_nest.specs.Move.{Move, StepOf, LinesOf, moved_by, moved_at, lined_at, state_after}

-- one instruction
abbrev ActsLong : List ℕ → Acted → Type 0
ActsLong S (Done T q) = length T ≡ length S
ActsLong S (Refused e) = Unit {0}

abbrev StoresLong : List ℕ → Option (Result (List ℕ) Refusal) → Type 0
StoresLong S None = Unit {0}
StoresLong S (Some (Err e)) = Unit {0}
StoresLong S (Some (Ok T)) = length T ≡ length S

put_long : (S : List ℕ) (o : Option Slot) (k : ℕ) (lane : Lane) (v : ℕ) → StoresLong S (put_at S o k lane v)
put_long S None k lane v = tt
put_long S (Some s) k lane v = through s.write
  where
    through : (way : Way) → StoresLong S (Some (write_through S way k lane v))
    through (Open g) = length-set S (1024 * g + k) (lane_with (word_at S g k) lane v)
    through (Shut l c p w) = tt

clear_long : (S : List ℕ) (o : Option Slot) → StoresLong S (cleared_at S o)
clear_long S None = tt
clear_long S (Some s) = through s.write
  where
    through : (way : Way) → StoresLong S (Some (clear_through S way))
    through (Open g) =
        length-set (with_word (with_word S g 72 0) g 73 0) (1024 * g + 74) 0
        ∙ length-set (with_word S g 72 0) (1024 * g + 73) 0
        ∙ length-set S (1024 * g + 72) 0
    through (Shut l c p w) = tt

stored_long : (S : List ℕ) (r : Regs) (address : ℕ) (o : Option (Result (List ℕ) Refusal)) → StoresLong S o → ActsLong S (stored S r address o)
stored_long S r address None h = refl
stored_long S r address (Some (Err e)) h = tt
stored_long S r address (Some (Ok T)) h = h

entered_long : (S : List ℕ) (r : Regs) (value page : ℕ) (o : Option (Result (List ℕ) Refusal)) → StoresLong S o → ActsLong S (entered S r value page o)
entered_long S r value page None h = refl
entered_long S r value page (Some (Err e)) h = tt
entered_long S r value page (Some (Ok T)) h = h

-- where a word was found, or not
found_long : (S : List ℕ) (f : Walked → Acted) → ((page offset : ℕ) → ActsLong S (f (Found page offset))) → ((cause tval : ℕ) → ActsLong S (f (TrapWith cause tval))) → ((e : Refusal) → ActsLong S (f (RefusedBy e))) → (w : Walked) → ActsLong S (f w)
found_long S f found trap refused (Found page offset) = found page offset
found_long S f found trap refused (TrapWith cause tval) = trap cause tval
found_long S f found trap refused (RefusedBy e) = refused e

-- where it was read, or not
read_long : (S : List ℕ) (f : Option (Result ℕ Refusal) → Acted) → ActsLong S (f None) → ((v : ℕ) → ActsLong S (f (Some (Ok v)))) → ((e : Refusal) → ActsLong S (f (Some (Err e)))) → (o : Option (Result ℕ Refusal)) → ActsLong S (f o)
read_long S f none some refused None = none
read_long S f none some refused (Some (Ok v)) = some v
read_long S f none some refused (Some (Err e)) = refused e

module _ (S : List ℕ) (F : List Slot) (hart : ℕ) (r : Regs) where
  enter_long : (value : ℕ) → ActsLong S (enter_at S F r value)
  enter_long value = aligned (value % 4096 == 0)
    where
      some : (t : Bool) → ActsLong S (cond t (trapped S r 7 value) (entered S r value (value / 4096) (cleared S F (value / 4096))))
      some true = refl
      some false = entered_long S r value (value / 4096) (cleared S F (value / 4096)) (clear_long S (slice_get F (value / 4096)))

      aligned : (t : Bool) → ActsLong S (cond t (enter_page S F r value (value / 4096)) (trapped S r 6 value))
      aligned true = some (value / 4096 == 0)
      aligned false = refl

  carried_long : (a : Answer) → ActsLong S (carried_out S F r a)
  unfolding carried_out
  carried_long (Next q) = refl
  carried_long (Trap cause tval) = refl
  carried_long (Load address width signed rd) =
      found_long S (load_at S F r address width signed rd)
      (λ page offset. read_long S (loaded S r address width signed rd offset) refl (λ v. refl) (λ e. tt) (get S F page (offset / 4) Read))
      (λ cause tval. refl)
      (λ e. tt)
      (walk_of S F r address Read)
  carried_long (Store address width v) =
      found_long S (store_at S F r address width v)
      (λ page offset. stored_long S r address (set S F page (offset / 4) (lane_at width offset) v) (put_long S (slice_get F page) (offset / 4) (lane_at width offset) v))
      (λ cause tval. refl)
      (λ e. tt)
      (walk_of S F r address Write)
  carried_long (Enter value) = enter_long value

  decoded_long : (w : ℕ) (o : Option Instr) → ActsLong S (decoded S F hart r w o)
  unfolding decoded
  decoded_long w None = refl
  decoded_long w (Some i) = carried_long (do_of i w r hart)

  fetched_long : (o : Option (Result ℕ Refusal)) → ActsLong S (fetched S F hart r o)
  fetched_long None = refl
  fetched_long (Some (Err e)) = tt
  fetched_long (Some (Ok w)) = decoded_long w (decode_of w)

  fetch_long : (found : Walked) → ActsLong S (fetch_at S F hart r found)
  unfolding fetch_at
  fetch_long (Found page offset) = fetched_long (get S F page (offset / 4) Fetch)
  fetch_long (TrapWith cause tval) = refl
  fetch_long (RefusedBy e) = tt

  act_long : ActsLong S (act_of S F hart r)
  unfolding act_of
  act_long = fetch_long (walk_of S F r r.pc Fetch)

-- one step
pub StepsLong : List ℕ → Stepped → Type 0
StepsLong S (Worked T q) = length T ≡ length S
StepsLong S (Recalled l T q) = length T ≡ length S
StepsLong S (Faulted l c p a T q) = length T ≡ length S
StepsLong S (Barred e) = Unit {0}

worked_long : (S : List ℕ) (A : Acted) → ActsLong S A → StepsLong S (act_step A)
unfolding StepsLong
worked_long S (Done T q) h = h
worked_long S (Refused e) h = tt

interrupted_long : (S : List ℕ) (j : ℕ) (r : Regs) (k : ℕ) → StepsLong S (interrupt_of S j r k)
unfolding StepsLong
interrupted_long S j r k = by (r.next == 0)
  where
    by : (t : Bool) → StepsLong S (cond t (Worked S (take_trap_of r k true 0)) (Recalled j S (idle r)))
    by true = refl
    by false = refl

told_long : (S : List ℕ) (j : ℕ) (r : Regs) (g : ℕ) (e : Refusal) → StepsLong S (tell_of S j r g e)
unfolding StepsLong
told_long S j r g e = by (e.level == j)
  where
    by : (t : Bool) → StepsLong S (cond t (Faulted j e.cause e.address e.access (with_fault S g e.cause e.address (access_word e.access)) (idle r)) (Barred e))
    by true =
        length-set (with_word (with_word S g 72 e.cause) g 73 e.address) (1024 * g + 74) (access_word e.access)
        ∙ length-set (with_word S g 72 e.cause) (1024 * g + 73) e.address
        ∙ length-set S (1024 * g + 72) e.cause
    by false = tt

back_long : (S : List ℕ) (j : ℕ) (r : Regs) (g : ℕ) (X : Stepped) → StepsLong S X → StepsLong S (put_back S j r g X)
unfolding StepsLong
back_long S j r g (Worked T q) h = length-put_regs T g q ∙ h
back_long S j r g (Recalled l T q) h = length-put_regs T g q ∙ h
back_long S j r g (Faulted l c p a T q) h = length-put_regs T g q ∙ h
back_long S j r g (Barred e) h = told_long S j r g e

-- a machine whose steps change no length
abbrev IsLong : Machine → Type 0
IsLong deeper = (S : List ℕ) (F : List Slot) (j hart : ℕ) (r : Regs) → StepsLong S (deeper S F j hart r)

module _ (deeper : Machine) (long : IsLong deeper) (S : List ℕ) (F : List Slot) (j : ℕ) (r : Regs) where
  child_long : (g : ℕ) (o : Option Contents) → StepsLong S (child_step deeper S F j r g o)
  child_long g None = told_long S j r g (malformed j r.next)
  child_long g (Some contents) =
      back_long S j r g (deeper S (compose S F j contents.pages contents.table contents.version) (j + 1) 0 contents.regs)
      (long S (compose S F j contents.pages contents.table contents.version) (j + 1) 0 contents.regs)

  through_long : (way : Way) → StepsLong S (child_step_through deeper S F j r way)
  unfolding StepsLong
  through_long (Open g) = child_long g (block_of S g)
  through_long (Shut l c p w) = tt

  at_long : (o : Option Slot) → StepsLong S (child_step_at deeper S F j r o)
  unfolding StepsLong
  at_long None = tt
  at_long (Some slot) = through_long slot.write

step_on_long : (m : Option Machine) (S : List ℕ) (F : List Slot) (j hart : ℕ) (r : Regs) → StepsLong S (next_step m S F j r) → (p : Option ℕ) → StepsLong S (step_on m S F j hart r p)
step_on_long m S F j hart r h (Some k) = interrupted_long S j r k
step_on_long m S F j hart r h None = by (r.next == 0)
  where
    by : (t : Bool) → StepsLong S (cond t (act_step (act_of S F hart r)) (next_step m S F j r))
    by true = worked_long S (act_of S F hart r) (act_long S F hart r)
    by false = h

pub step_long : (n : ℕ) (S : List ℕ) (F : List Slot) (j hart : ℕ) (r : Regs) → StepsLong S (step_of n S F j hart r)
unfolding step_of StepsLong
step_long zero S F j hart r = step_on_long None S F j hart r tt (pending_of r)
step_long (suc n) S F j hart r =
    step_on_long (Some (step_of n)) S F j hart r (at_long (step_of n) (step_long n) S F j r (slice_get F r.next)) (pending_of r)

-- one move
pub record MovesLong (st next : State) : Type 0 where
  pub storage : length next.storage ≡ length st.storage
  pub harts : length next.harts ≡ length st.harts

moved_long : (st : State) (hart : ℕ) (X : Stepped) → StepsLong st.storage X → MovesLong st (moved_by st hart X).state
unfolding StepsLong
moved_long st hart (Worked T q) h = record { storage = h; harts = length-set st.harts hart q }
moved_long st hart (Recalled l T q) h = record { storage = h; harts = length-set st.harts hart q }
moved_long st hart (Faulted l c p a T q) h = record { storage = h; harts = length-set st.harts hart q }
moved_long st hart (Barred e) h = record { storage = refl; harts = refl }

hart_long : (st : State) (hart : ℕ) (o : Option Regs) → MovesLong st (moved_at st hart o).state
unfolding host_step_of
hart_long st hart None = record { storage = refl; harts = refl }
hart_long st hart (Some r) =
    moved_long st hart (step_of depth_limit st.storage (identity (page_count st.storage)) 0 hart r) (step_long depth_limit st.storage (identity (page_count st.storage)) 0 hart r)

lines_long : (st : State) (hart mask : ℕ) (o : Option Regs) → MovesLong st (lined_at st hart mask o)
lines_long st hart mask None = record { storage = refl; harts = refl }
lines_long st hart mask (Some r) = record { storage = refl; harts = length-set st.harts hart (lined_of r mask) }

pub move_long : (st : State) (move : Move) → MovesLong st (state_after st move)
move_long st (StepOf hart) = hart_long st hart (slice_get st.harts hart)
move_long st (LinesOf hart mask) = lines_long st hart mask (slice_get st.harts hart)
