-- One instruction of a machine, or its trap. Each ask of the machine's storage has a function of its own, by what it
-- answers; a refused ask refuses the whole.
use Rattle.std.specs.Prelude.{ℕ, ◌/◌, ◌%◌, ◌==◌, if◌then◌else◌, Bool, false, List, Option, Some, None, Result, Ok, Err}
use Rattle.hv_word.specs.Words.{lane_of}
use Rattle.hv_cpu.specs.Regs.{Regs}
use Rattle.hv_isa.specs.declared.Instr.{Instr}
use Rattle.hv_isa.specs.Table.{decode_of}
use Rattle.hv_csr.specs.Traps.{take_trap_of}
use Rattle.hv_store.specs.declared.access.Access.TheVariants.{Read, Write, Fetch}
use Rattle.hv_store.specs.declared.access.Refusal.{Refusal}
use Rattle.hv_store.specs.declared.access.Slot.{Slot}
use Rattle.hv_store.specs.Access.{get, set, cleared}
use Rattle.hv_sv32.specs.Stop.{Walked, Found, TrapWith, RefusedBy}
use Rattle.hv_sv32.specs.Walk.{walk_of}
use Rattle.hv_exec.specs.declared.answer.Width.{Width}
use Rattle.hv_exec.specs.Answer.{Answer, Next, Trap, Load, Store, Enter, advanced, given}
use Rattle.hv_exec.specs.Do.{do_of}
use Rattle.hv_exec.specs.Memory.{lane_at, extended}

-- the storage and the registers after it, or a map's refusal, which leaves both
pub data Acted : Type 0 where
  Done : (S : List ℕ) (r : Regs) → Acted
  Refused : (refusal : Refusal) → Acted

-- an exception of the instruction (Privileged Architecture, sections 3.1.15 and 3.1.16)
abbrev pub trapped : List ℕ → Regs → ℕ → ℕ → Acted
trapped S r cause tval = Done S (take_trap_of r cause false tval)

-- A load gets the word at its offset. There is such a page where the address was translated; if there were none, it
-- would be an access fault.
abbrev pub loaded : List ℕ → Regs → ℕ → Width → Bool → ℕ → ℕ → Option (Result ℕ Refusal) → Acted
loaded S r address width signed rd offset None = trapped S r 5 address
loaded S r address width signed rd offset (Some (Err e)) = Refused e
loaded S r address width signed rd offset (Some (Ok v)) =
    Done S (given r rd (extended width signed (lane_of v (lane_at width offset))))

-- a load, by where its address was found
abbrev pub load_at : List ℕ → List Slot → Regs → ℕ → Width → Bool → ℕ → Walked → Acted
load_at S F r address width signed rd (Found page offset) =
    loaded S r address width signed rd offset (get S F page (offset / 4) Read)
load_at S F r address width signed rd (TrapWith cause tval) = trapped S r cause tval
load_at S F r address width signed rd (RefusedBy e) = Refused e

-- a store leaves the storage with the lane at its offset replaced
abbrev pub stored : List ℕ → Regs → ℕ → Option (Result (List ℕ) Refusal) → Acted
stored S r address None = trapped S r 7 address
stored S r address (Some (Err e)) = Refused e
stored S r address (Some (Ok T)) = Done T (advanced r)

-- a store, by where its address was found
abbrev pub store_at : List ℕ → List Slot → Regs → ℕ → Width → ℕ → Walked → Acted
store_at S F r address width v (Found page offset) =
    stored S r address (set S F page (offset / 4) (lane_at width offset) v)
store_at S F r address width v (TrapWith cause tval) = trapped S r cause tval
store_at S F r address width v (RefusedBy e) = Refused e

-- The machine whose block is in page `page` is to run from the next step on, with no fault told in its block. A page
-- that isn't there is an access fault of a store. The page is named as this machine numbers its pages.
abbrev pub entered : List ℕ → Regs → ℕ → ℕ → Option (Result (List ℕ) Refusal) → Acted
entered S r value page None = trapped S r 7 value
entered S r value page (Some (Err e)) = Refused e
entered S r value page (Some (Ok T)) = Done T (advanced (record r { next = page }))

-- page 0 has no block
abbrev pub enter_page : List ℕ → List Slot → Regs → ℕ → ℕ → Acted
enter_page S F r value page = if page == 0 then trapped S r 7 value else entered S r value page (cleared S F page)

-- an address inside a page is a misaligned address of a store
abbrev pub enter_at : List ℕ → List Slot → Regs → ℕ → Acted
enter_at S F r value =
    if value % 4096 == 0 then enter_page S F r value (value / 4096) else trapped S r 6 value

-- an answer, carried out
unfoldable pub carried_out : List ℕ → List Slot → Regs → Answer → Acted
carried_out S F r (Next q) = Done S q
carried_out S F r (Trap cause tval) = trapped S r cause tval
carried_out S F r (Load address width signed rd) =
    load_at S F r address width signed rd (walk_of S F r address Read)
carried_out S F r (Store address width v) = store_at S F r address width v (walk_of S F r address Write)
carried_out S F r (Enter value) = enter_at S F r value

-- a word that is no instruction's is an illegal instruction
unfoldable pub decoded : List ℕ → List Slot → ℕ → Regs → ℕ → Option Instr → Acted
decoded S F hart r w None = trapped S r 2 w
decoded S F hart r w (Some i) = carried_out S F r (do_of i w r hart)

-- an instruction, by what its fetch gave; outside the machine's pages it is an access fault
abbrev pub fetched : List ℕ → List Slot → ℕ → Regs → Option (Result ℕ Refusal) → Acted
fetched S F hart r None = trapped S r 1 r.pc
fetched S F hart r (Some (Err e)) = Refused e
fetched S F hart r (Some (Ok w)) = decoded S F hart r w (decode_of w)

-- an instruction, by where the program counter was found
unfoldable pub fetch_at : List ℕ → List Slot → ℕ → Regs → Walked → Acted
fetch_at S F hart r (Found page offset) = fetched S F hart r (get S F page (offset / 4) Fetch)
fetch_at S F hart r (TrapWith cause tval) = trapped S r cause tval
fetch_at S F hart r (RefusedBy e) = Refused e

-- One instruction of the machine with the map F over the storage S, and the registers r of hart `hart`.
unfoldable pub act_of : List ℕ → List Slot → ℕ → Regs → Acted
act_of S F hart r = fetch_at S F hart r (walk_of S F r r.pc Fetch)

-- what a call answered, with the storage and the registers that it left
abbrev pub acted : {A : Type 0} → Result A Refusal → List ℕ → Regs → Acted
acted (Ok _) S r = Done S r
acted (Err e) S r = Refused e
