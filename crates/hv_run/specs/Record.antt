-- What is told of a play: over a list of moves from a start, for a list of watches.
use Rattle.std.specs.Prelude.{ℕ, ◌+◌, ◌-◌, Bool, List, [], ◌∷◌, ◌++◌, length, take, drop, replicate, Option, Some, None}
use Rattle.std.specs.List.{flat_map}
use Rattle.hv_limits.specs.Limits.{kept_limit}
use Rattle.hv_store.specs.declared.access.Access.{Access}
use Rattle.hv_irq.specs.declared.Event.{Event}
use Rattle.hv_irq.specs.declared.Event.TheVariants.{Turn, Lines}
use Rattle.hv_map.specs.Item.{Item}
use Rattle.hv_map.specs.Chain.{pin_of}
use Rattle.hv_map.specs.Apart.{is_one, is_apart}
use Rattle.hv_nest.specs.declared.outcome.StepKind.{StepKind}
use Rattle.hv_nest.specs.declared.outcome.StepKind.TheVariants.{Worked as WorkedKind, Recall, Fault}
use Rattle.hv_nest.specs.State.{State}
use Rattle.hv_nest.specs.Move.{Move, StepOf, LinesOf, moved_of, state_after}
use Rattle.hv_nest.specs.Watched.{LineChange, Tally, no_tally, tally_of, foot, last_block}

-- the moves of an event: a turn is as many steps
abbrev pub moves_of : Event → List Move
moves_of (Turn hart count) = replicate count (StepOf hart)
moves_of (Lines hart mask) = LinesOf hart mask ∷ []

-- the moves of all events, in order
abbrev pub schedule : List Event → List Move
schedule events = flat_map moves_of events

-- a fault: the number of its step, from 1 on, the hart that made it, the level that received it, and what it was told
pub record FaultRecord : Type 0 where
  pub step : ℕ
  pub hart : ℕ
  pub receiver : ℕ
  pub cause : ℕ
  pub address : ℕ
  pub access : Access

-- such a fault
abbrev pub fault_record : ℕ → ℕ → ℕ → ℕ → ℕ → Access → FaultRecord
fault_record step hart l cause address a =
    record { step = step; hart = hart; receiver = l; cause = cause; address = address; access = a }

-- the steps so far, their faults in order, and how many of them were recalls
pub record Count : Type 0 where
  pub steps : ℕ
  pub faults : List FaultRecord
  pub recalls : ℕ

-- before any move
abbrev pub no_count : Count
no_count = record { steps = 0; faults = []; recalls = 0 }

-- after a step of this kind
abbrev pub kind_counted : Count → ℕ → StepKind → Count
kind_counted c hart WorkedKind = record c { steps = c.steps + 1 }
kind_counted c hart (Recall l) = record c { steps = c.steps + 1; recalls = c.recalls + 1 }
kind_counted c hart (Fault l cause address a) = record c {
  steps = c.steps + 1;
  faults = c.faults ++ fault_record (c.steps + 1) hart l cause address a ∷ [];
}

-- after a move, from the state st
abbrev pub count_after : State → Move → Count → Count
count_after st (StepOf hart) c = kind_counted c hart (moved_of st hart).kind
count_after st (LinesOf hart mask) c = c

-- after some moves
unfoldable pub count_of : State → List Move → Count → Count
count_of st [] c = c
count_of st (move ∷ moves) c = count_of (state_after st move) moves (count_after st move c)

-- all faults of the moves from a start, in order
abbrev pub all_faults : State → List Move → List FaultRecord
all_faults start moves = (count_of start moves no_count).faults

-- the last of a list, as many as are kept
abbrev pub last_kept : {X : Type 0} → List X → List X
last_kept xs = drop (length xs - kept_limit) xs

-- a hart and a machine's path, to be watched
pub record WatchOf : Type 0 where
  pub hart : ℕ
  pub path : List ℕ

-- what is told of a watch
pub record WatchRecord : Type 0 where
  pub hart : ℕ
  pub path : List ℕ
  pub block : Option ℕ
  pub one : Bool
  pub apart : Bool
  pub touched : Bool
  pub count : ℕ
  pub line_total : ℕ
  pub lines : List LineChange

-- what is told of a watch by its tally
abbrev pub watch_record : WatchOf → State → List Item → Tally → WatchRecord
watch_record w start items t = record {
  hart = w.hart;
  path = w.path;
  block = last_block items;
  one = is_one start.storage items;
  apart = is_apart start.storage items;
  touched = t.touched;
  count = t.count;
  line_total = length t.changes;
  lines = take kept_limit t.changes;
}

-- the tally of a watch over all moves from the start, where these are the machines on its path
abbrev pub tally_over : State → List Move → WatchOf → List Item → Tally
tally_over start moves w items = tally_of w.hart w.path items (foot start.storage items) start moves no_tally

-- where the machine is there at the start, which it is for each watch
abbrev pub watch_records : WatchOf → State → List Move → Option (List Item) → List WatchRecord
watch_records w start moves None = []
watch_records w start moves (Some items) =
    watch_record w start items (tally_over start moves w items) ∷ []

-- all that is told of a play
pub record PlayRecord : Type 0 where
  pub steps : ℕ
  pub faults : ℕ
  pub recalls : ℕ
  pub kept : List FaultRecord
  pub watches : List WatchRecord

-- what is told of a play by its count and its watches
abbrev pub count_record : Count → List WatchRecord → PlayRecord
count_record c watches = record {
  steps = c.steps;
  faults = length c.faults;
  recalls = c.recalls;
  kept = last_kept c.faults;
  watches = watches;
}

-- what is told of the moves from a start, for the watches
unfoldable pub record_of : State → List Move → List WatchOf → PlayRecord
record_of start moves watches =
    count_record (count_of start moves no_count)
    (flat_map (λ (w : WatchOf). watch_records w start moves (pin_of start.storage w.path)) watches)
