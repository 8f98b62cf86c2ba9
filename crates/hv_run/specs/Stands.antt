-- What a play stands for.
use Rattle.std.specs.Prelude.{◌≡◌, ◌*◌, ◌<◌, ◌≤◌, List, [], ◌∷◌, ◌++◌, length, map, Option, Some, None}
use Rattle.hv_word.specs.Storage.{page_count}
use Rattle.hv_map.specs.Item.{Item}
use Rattle.hv_map.specs.Chain.{IsThere, pin_of}
use Rattle.hv_limits.specs.Limits.{depth_limit}
use Rattle.hv_map.specs.declared.path.Watch.{Watch}
use Rattle.hv_nest.specs.State.{State}
use Rattle.hv_nest.specs.Move.{Move, last_of}
use Rattle.hv_nest.specs.Watched.{no_tally, foot, last_block}
use Rattle.hv_whole.specs.Whole.{AreMasked}
use Rattle.hv_run.specs.Run.{StaysInside}
use Rattle.hv_run.specs.Record.{WatchOf, watch_record, record_of}
use Rattle.hv_apart.specs.Marked.{SetOf}
use Rattle.hv_run.specs.Play.{Watching, Played, play_record, status_at}

-- a watch as code has it
abbrev pub watch_of : Watch → WatchOf
watch_of w = record { hart = w.hart; path = w.path }

-- the same of some watches
abbrev pub watches_of : List Watch → List WatchOf
watches_of ws = map watch_of ws

-- P holds of each watch
abbrev pub EachWatch : (WatchOf → Type 0) → List WatchOf → Type 0
EachWatch P [] = Unit {0}
EachWatch P (w ∷ ws) = P w × EachWatch P ws

-- What may be watched from a start on: a machine that is there, with no more pages than a storage can have, and a hart
-- that is there; the bare machine only where it has one hart.
pub record IsWatchable (start : State) (w : WatchOf) : Type 0 where
  pub hart : w.hart < length start.harts
  pub machine : IsThere start.storage (pin_of start.storage w.path)
  pub bare : w.path ≡ [] → length start.harts ≡ 1

-- each of the watches is such a one
abbrev pub CanWatch : State → List WatchOf → Type 0
CanWatch start watches = EachWatch (IsWatchable start) watches

-- what each path and each storage has: the path is no longer than machines can be deep, and the storage has whole pages
pub record IsSized (start : State) (w : WatchOf) : Type 0 where
  pub path : length w.path ≤ depth_limit
  pub storage : length start.storage ≡ 1024 * page_count start.storage

-- The set that is kept of a watch is that of its foot's places at the start, and its word with the lines is the one
-- that the state has now, in the bare page where its block stood at the start.
pub record IsKept (start now : State) (w : WatchOf) (items : List Item) (kept : Watching) : Type 0 where
  pub foot : SetOf kept.foot (foot start.storage items)
  pub status : kept.status ≡ status_at w.hart (last_block items) now

-- the same with the machines on the watch's path, which are there
abbrev pub KeptOf : State → State → WatchOf → Option (List Item) → Watching → Type 0
KeptOf start now w None kept = ⊥
KeptOf start now w (Some items) kept = IsKept start now w items kept

-- the same of each watch
abbrev pub EachKept : State → State → List WatchOf → List Watching → Type 0
EachKept start now [] [] = Unit {0}
EachKept start now [] (k ∷ ks) = ⊥
EachKept start now (w ∷ ws) [] = ⊥
EachKept start now (w ∷ ws) (k ∷ ks) = KeptOf start now w (pin_of start.storage w.path) k × EachKept start now ws ks

-- a watch of a play that has made no move
abbrev pub NewAt : State → WatchOf → Option (List Item) → Watching → Type 0
NewAt start w None kept = ⊥
NewAt start w (Some items) kept =
    (kept.so_far ≡ watch_record w start items no_tally) × IsKept start start w items kept × IsSized start w

-- the same with the machines on its path
abbrev pub IsNew : State → WatchOf → Watching → Type 0
IsNew start w kept = NewAt start w (pin_of start.storage w.path) kept

-- the same of each watch
abbrev pub EachNew : State → List WatchOf → List Watching → Type 0
EachNew start [] [] = Unit {0}
EachNew start [] (k ∷ ks) = ⊥
EachNew start (w ∷ ws) [] = ⊥
EachNew start (w ∷ ws) (k ∷ ks) = IsNew start w k × EachNew start ws ks

-- A play stands for a start, the moves that it made from there, and its watches: these may be watched from that start,
-- what it tells is what is told of the moves, and it keeps of each watch what belongs to the start and to the last
-- state. The moves are such as can be made: changes of lines name no other bits, and no hart runs a machine beyond the
-- storage.
pub record StandsFor (play : Played) (start : State) (moves : List Move) (watches : List WatchOf) : Type 0 where
  pub watched : CanWatch start watches
  pub sized : EachWatch (IsSized start) watches
  pub masked : AreMasked moves
  pub inside : StaysInside start moves
  pub records : play_record play ≡ record_of start moves watches
  pub kept : EachKept start (last_of start moves) watches play.watching

-- From a play p over a state to a play q over another by these moves: whatever start and moves p stands for, if they
-- lead to its state, q stands for them with these moves, and these lead to its state.
abbrev pub Follows : Played → State → Played → State → List Move → Type 0
Follows p here q there more =
    (start : State) (moves : List Move) (watches : List WatchOf)
    → StandsFor p start moves watches
    → here ≡ last_of start moves
    → StandsFor q start (moves ++ more) watches × (there ≡ last_of start (moves ++ more))
