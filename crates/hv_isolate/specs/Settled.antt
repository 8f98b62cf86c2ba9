-- When the maps of some machines stay as they were at the start of a play, and which steps can touch a machine then.
use Rattle.std.specs.Prelude.{◌≡◌, ℕ, ◌+◌, ◌≤◌, true, false, List, length, Some, slice_get}
use Rattle.hv_limits.specs.Limits.{pages_limit}
use Rattle.hv_word.specs.Storage.{page_count}
use Rattle.hv_store.specs.Access.{identity}
use Rattle.hv_map.specs.Item.{Item}
use Rattle.hv_map.specs.Chain.{map_along, pin_of}
use Rattle.hv_nest.specs.State.{State}
use Rattle.hv_nest.specs.Move.{Move, StepOf, running_of}
use Rattle.hv_nest.specs.Watched.{are_same, chain_foot, foot, is_counted, keeps_foot}
use Rattle.hv_run.specs.Record.{WatchOf, tally_over}
use Rattle.hv_run.specs.Run.{state_at}
use Rattle.hv_isolate.specs.May.{is_may}

-- the places of the words that the map along the items is read from: words 65 to 67 of the blocks, and the directory
-- and table words that can be read
abbrev pub table_words : List ℕ → List Item → List ℕ
table_words S items = chain_foot S (identity (page_count S)) 0 items

-- one of the paths
pub record IsListed (paths : List (List ℕ)) (path : List ℕ) : Type 0 where
  pub index : ℕ
  pub there : slice_get paths index ≡ Some path

-- A play is settled for some paths where each of these that leads to a machine at the start leads to one with no more
-- pages than a storage can have; each step is made for a machine that is on one of these paths, and was there at the
-- start; and no step changes a word that the map of a machine on one of these paths was read from at the start.
pub record IsSettled (start : State) (moves : List Move) (paths : List (List ℕ)) : Type 0 where
  pub sized :
      (path : List ℕ) (items : List Item)
      → IsListed paths path
      → pin_of start.storage path ≡ Some items
      → length (map_along start.storage items) ≤ pages_limit
  pub running :
      (k hart : ℕ)
      → slice_get moves k ≡ Some (StepOf hart)
      → IsListed paths (running_of (state_at start moves k) hart)
  pub pinned :
      (k hart : ℕ)
      → slice_get moves k ≡ Some (StepOf hart)
      → (items : List Item) × (pin_of start.storage (running_of (state_at start moves k) hart) ≡ Some items)
  pub tables :
      (k hart : ℕ) (path : List ℕ) (items : List Item)
      → slice_get moves k ≡ Some (StepOf hart)
      → IsListed paths path
      → pin_of start.storage path ≡ Some items
      → are_same
      (table_words start.storage items)
      (state_at start moves k).storage
      (state_at start moves (k + 1)).storage
      ≡ true

-- The move is a step of a hart that runs a machine which was there at the start, and might then change what the machine
-- at the end of the items stands on.
pub record IsByMay (start : State) (items : List Item) (now : State) (move : Move) : Type 0 where
  pub hart : ℕ
  pub step : move ≡ StepOf hart
  pub runners : List Item
  pub there : pin_of start.storage (running_of now hart) ≡ Some runners
  pub may : is_may start.storage runners items ≡ true

-- In a settled play each move that changes what a machine stands on, whose path needn't be listed, is such a step.
abbrev pub TouchersLaw : Type 0
TouchersLaw =
    (start : State) (moves : List Move) (paths : List (List ℕ)) (path : List ℕ) (items : List Item)
    (k : ℕ) (move : Move)
    → IsSettled start moves paths
    → pin_of start.storage path ≡ Some items
    → slice_get moves k ≡ Some move
    → keeps_foot
    (foot start.storage items)
    items
    (state_at start moves k).storage
    (state_at start moves (k + 1)).storage
    ≡ false
    → IsByMay start items (state_at start moves k) move

-- one of the moves, which doesn't count for the watch, and is such a step
pub record HasToucher (start : State) (moves : List Move) (w : WatchOf) (items : List Item) : Type 0 where
  pub place : ℕ
  pub move : Move
  pub there : slice_get moves place ≡ Some move
  pub other : is_counted w.hart w.path (state_at start moves place) move ≡ false
  pub by_may : IsByMay start items (state_at start moves place) move

-- In a settled play a watch that tells a touch, whose path needn't be listed, was touched by such a step.
abbrev pub TouchedLaw : Type 0
TouchedLaw =
    (start : State) (moves : List Move) (paths : List (List ℕ)) (w : WatchOf) (items : List Item)
    → IsSettled start moves paths
    → pin_of start.storage w.path ≡ Some items
    → (tally_over start moves w items).touched ≡ true
    → HasToucher start moves w items
