-- What a play promises: a watched machine that stands apart can't tell that it runs inside others, as long as none of
-- these touches it; and each fault is told to the machine whose map refused first.
use Rattle.std.specs.Prelude.{◌≡◌, ℕ, ◌+◌, ◌*◌, ◌≤◌, true, false, Bool, IfSome, IsTrue, IsFalse, List, [], ◌∷◌, ◌++◌}
use Rattle.std.specs.Prelude.{length, take, Option, Some, None, slice_get}
use Rattle.hv_cpu.specs.Regs.{Regs}
use Rattle.hv_store.specs.declared.access.Refusal.{Refusal}
use Rattle.hv_block.specs.Block.{regs_at}
use Rattle.hv_map.specs.Item.{Item}
use Rattle.hv_map.specs.Chain.{map_along, pin_of, running_path}
use Rattle.hv_map.specs.Apart.{is_apart}
use Rattle.hv_map.specs.Carried.{Agree}
use Rattle.hv_map.specs.Seen.{seen}
use Rattle.hv_nest.specs.declared.outcome.StepKind.{StepKind}
use Rattle.hv_nest.specs.declared.outcome.StepKind.TheVariants.{Worked as WorkedKind, Recall, Fault}
use Rattle.hv_nest.specs.State.{State}
use Rattle.hv_nest.specs.Move.{Move, StepOf, moved_of, last_of}
use Rattle.hv_nest.specs.Routing.{regs_along, hart_along, is_calm, IsRouted}
use Rattle.hv_nest.specs.Watched.{Tally, last_block}
use Rattle.hv_nest.specs.Bare.{bare_of}
use Rattle.hv_whole.specs.Whole.{own, AreMasked}
use Rattle.hv_run.specs.Record.{FaultRecord, WatchOf, all_faults, tally_over}
use Rattle.hv_run.specs.Play.{Played}
use Rattle.hv_run.specs.Run.{state_at, steps_in, StaysInside}
use Rattle.hv_run.specs.Stands.{EachWatch, CanWatch, IsSized, StandsFor}

-- what the watch tells up to moment k, where the items are the machines on its path at the start
abbrev pub tally_at : State → List Move → WatchOf → List Item → ℕ → Tally
tally_at start moves w items k = tally_over start (take k moves) w items

-- whether another machine has changed by then what the watched one stands on
abbrev pub is_touched_by : State → List Move → WatchOf → List Item → ℕ → Bool
is_touched_by start moves w items k = (tally_at start moves w items k).touched

-- a bare machine of one hart that began with the storage that the watched one saw at the start, and with its registers,
-- and that made the steps and got the changes of its interrupt lines which are told of these moves
abbrev pub twin_after : State → WatchOf → List Item → Tally → State
twin_after start w items t =
    bare_of (seen start.storage (map_along start.storage items)) (own w.hart items start) t.changes t.count

-- the same after the first k moves
abbrev pub twin_at : State → List Move → WatchOf → List Item → ℕ → State
twin_at start moves w items k = twin_after start w items (tally_at start moves w items k)

-- the words of registers of the block in bare page g are the registers c; where there is no block, those of hart h are
abbrev pub HasRegisters : ℕ → Option ℕ → State → Regs → Type 0
HasRegisters h None st c = slice_get st.harts h ≡ Some c
HasRegisters h (Some g) st c = regs_at st.storage g ≡ c

-- In the state st the watched machine has the registers of the one hart of the bare machine `bare`, in the bare page
-- where its block stood at the start; and each page that it could read at the start has the words of the bare machine's
-- page. If it is the bare machine itself, all is the same.
pub record IsAsBare (start : State) (w : WatchOf) (items : List Item) (st bare : State) : Type 0 where
  pub regs : Regs
  pub hart : bare.harts ≡ regs ∷ []
  pub registers : HasRegisters w.hart (last_block items) st regs
  pub size : length bare.storage ≡ 1024 * length (map_along start.storage items)
  pub pages : Agree (map_along start.storage items) st.storage bare.storage
  pub whole : items ≡ [] → st ≡ bare

-- A watched machine that stands apart at the start is, at each moment up to which none has touched it, as the bare
-- machine is that runs alone.
abbrev pub IsBareRun : State → List Move → WatchOf → Type 0
IsBareRun start moves w =
    (items : List Item) (k : ℕ)
    → pin_of start.storage w.path ≡ Some items
    → is_apart start.storage items ≡ true
    → k ≤ length moves
    → is_touched_by start moves w items k ≡ false
    → IsAsBare start w items (state_at start moves k) (twin_at start moves w items k)

-- that holds of each watch
abbrev pub AreBareRuns : State → List Move → List WatchOf → Type 0
AreBareRuns start moves watches = EachWatch (IsBareRun start moves) watches

-- Guests can't tell, whatever the start and the moves. (The watches are of machines that are there, and a change of
-- lines changes lines alone.)
abbrev pub GuestsLaw : Type 0
GuestsLaw =
    (start : State) (moves : List Move) (watches : List WatchOf)
    → CanWatch start watches
    → EachWatch (IsSized start) watches
    → AreMasked moves
    → AreBareRuns start moves watches

-- Whatever start and moves a play stands for that is in this state, its watched machines can't tell, with these moves
-- more.
abbrev pub AreBareRunsWith : Played → State → List Move → Type 0
AreBareRunsWith p here more =
    (start : State) (moves : List Move) (watches : List WatchOf)
    → StandsFor p start moves watches
    → here ≡ last_of start moves
    → AreBareRuns start (moves ++ more) watches

-- the fault that a step came to
abbrev pub fault_in : StepKind → Option Refusal
fault_in WorkedKind = None
fault_in (Recall l) = None
fault_in (Fault l c address a) = Some record { level = l; cause = c; address = address; access = a }

-- The machines on the running path of a hart with the registers r are there. The fault of its step is routed where none
-- of them has a pending interrupt, and else there is no fault.
pub record IsRoutedFrom (S : List ℕ) (hart : ℕ) (r : Regs) (fault : Option Refusal) : Type 0 where
  pub items : List Item
  pub there : pin_of S (running_path S r) ≡ Some items
  pub calm : IsTrue (is_calm S items r)
      → IsRouted S (running_path S r) (map_along S items) (hart_along items hart) (regs_along S items r) fault
  pub busy : IsFalse (is_calm S items r) → fault ≡ None

-- the same of the step of a hart in a state
abbrev pub IsRoutedIn : State → ℕ → Option Refusal → Type 0
IsRoutedIn st hart fault = IfSome (slice_get st.harts hart) (λ r. IsRoutedFrom st.storage hart r fault)

-- the fault as it is told
abbrev pub fault_kind : FaultRecord → StepKind
fault_kind f = Fault f.receiver f.cause f.address f.access

-- A fault that is told of the moves is that of one of their steps, by its number and its hart, and it is routed as the
-- state before that step says.
pub record IsRoutedFault (start : State) (moves : List Move) (f : FaultRecord) : Type 0 where
  pub place : ℕ
  pub move : slice_get moves place ≡ Some (StepOf f.hart)
  pub number : f.step ≡ steps_in (take place moves) + 1
  pub kind : (moved_of (state_at start moves place) f.hart).kind ≡ fault_kind f
  pub routed : IsRoutedIn (state_at start moves place) f.hart (fault_in (fault_kind f))

-- P holds of each fault
abbrev pub EachFault : (FaultRecord → Type 0) → List FaultRecord → Type 0
EachFault P [] = Unit {0}
EachFault P (f ∷ fs) = P f × EachFault P fs

-- each of some faults is so routed
abbrev pub AreRouted : State → List Move → List FaultRecord → Type 0
AreRouted start moves faults = EachFault (IsRoutedFault start moves) faults

-- the same of each fault of the moves from a start
abbrev pub FaultsAreRouted : State → List Move → Type 0
FaultsAreRouted start moves = AreRouted start moves (all_faults start moves)

-- Faults reach the first refusing level, whatever the start and the moves. (Every hart is there, and what it runs is a
-- page of the storage.)
abbrev pub FaultsLaw : Type 0
FaultsLaw =
    (start : State) (moves : List Move)
    → StaysInside start moves
    → FaultsAreRouted start moves
