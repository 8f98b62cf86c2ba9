-- Two plays, each with a watched machine that stands apart and isn't touched. Where the two machines see the same and
-- have the same registers at the starts, they are the same wherever as much was counted and told of both.
use Rattle.std.specs.Prelude.{◌≡◌, ℕ, ◌<◌, ◌≤◌, true, false, List, length, Some, slice_get}
use Rattle.hv_word.specs.Storage.{word_at}
use Rattle.hv_cpu.specs.Regs.{Regs}
use Rattle.hv_limits.specs.Limits.{kept_limit}
use Rattle.hv_store.specs.declared.access.Slot.{Slot}
use Rattle.hv_store.specs.declared.access.Way.TheVariants.{Open}
use Rattle.hv_map.specs.Item.{Item}
use Rattle.hv_map.specs.Chain.{map_along, pin_of}
use Rattle.hv_map.specs.Apart.{is_apart}
use Rattle.hv_map.specs.Seen.{seen}
use Rattle.hv_nest.specs.State.{State}
use Rattle.hv_nest.specs.Move.{Move, last_of}
use Rattle.hv_nest.specs.Watched.{last_block}
use Rattle.hv_whole.specs.Whole.{AreMasked, own}
use Rattle.hv_run.specs.Record.{WatchOf, WatchRecord, record_of}
use Rattle.hv_run.specs.Run.{state_at}
use Rattle.hv_run.specs.Stands.{CanWatch, EachWatch, IsSized, IsWatchable}
use Rattle.hv_run.specs.Promises.{HasRegisters, is_touched_by, tally_at}

-- A play from a start, with a watch of a machine that is there and stands apart; the items are the machines on its
-- path.
pub record IsApartRun (start : State) (moves : List Move) (w : WatchOf) (items : List Item) : Type 0 where
  pub watched : IsWatchable start w
  pub sized : IsSized start w
  pub masked : AreMasked moves
  pub there : pin_of start.storage w.path ≡ Some items
  pub apart : is_apart start.storage items ≡ true

-- The watched machines of two starts see the same and have the same registers.
pub record StartEqual (start : State) (w : WatchOf) (items : List Item) (other : State) (v : WatchOf)
    (others : List Item) : Type 0 where
  pub storages :
      seen start.storage (map_along start.storage items) ≡ seen other.storage (map_along other.storage others)
  pub registers : own w.hart items start ≡ own v.hart others other

-- In the state st the watched machine of the one start has the registers, in the bare page where its block stood at
-- the start, that the watched machine of the other start has in the state `now`. Both have as many pages, and each page
-- that both could read at the starts has the same words.
pub record AreEqual (start : State) (w : WatchOf) (items : List Item) (st other : State) (v : WatchOf)
    (others : List Item) (now : State) : Type 0 where
  pub regs : Regs
  pub one : HasRegisters w.hart (last_block items) st regs
  pub two : HasRegisters v.hart (last_block others) now regs
  pub size : length (map_along start.storage items) ≡ length (map_along other.storage others)
  pub pages :
      (page x y k : ℕ) (s t : Slot)
      → slice_get (map_along start.storage items) page ≡ Some s
      → s.read ≡ Open x
      → slice_get (map_along other.storage others) page ≡ Some t
      → t.read ≡ Open y
      → k < 1024
      → word_at st.storage x k ≡ word_at now.storage y k

-- At two moments, one of each play, up to which no other machine has touched the watched ones, these are equal if as
-- many steps were counted for both, with the same changes of their lines.
abbrev pub EqualStartsLaw : Type 0
EqualStartsLaw =
    (start : State) (moves : List Move) (w : WatchOf) (items : List Item)
    (other : State) (more : List Move) (v : WatchOf) (others : List Item)
    (k n : ℕ)
    → IsApartRun start moves w items
    → IsApartRun other more v others
    → StartEqual start w items other v others
    → k ≤ length moves
    → n ≤ length more
    → is_touched_by start moves w items k ≡ false
    → is_touched_by other more v others n ≡ false
    → (tally_at start moves w items k).count ≡ (tally_at other more v others n).count
    → (tally_at start moves w items k).changes ≡ (tally_at other more v others n).changes
    → AreEqual start w items (state_at start moves k) other v others (state_at other more n)

-- a row of the record of some moves, for the watch w
pub record IsRowOf (start : State) (moves : List Move) (watches : List WatchOf) (w : WatchOf) (row : WatchRecord)
    : Type 0 where
  pub can : CanWatch start watches
  pub sized : EachWatch (IsSized start) watches
  pub masked : AreMasked moves
  pub index : ℕ
  pub watch : slice_get watches index ≡ Some w
  pub told : slice_get (record_of start moves watches).watches index ≡ Some row

-- a machine stood apart, nothing touched it, and all changes of its lines are told
pub record IsQuiet (row : WatchRecord) : Type 0 where
  pub apart : row.apart ≡ true
  pub untouched : row.touched ≡ false
  pub kept : row.line_total ≤ kept_limit

-- Two rows that tell as many steps and the same changes of lines, where all of these are told, tell of machines that
-- are equal at the ends of the plays, if they were at the starts.
abbrev pub EqualRowsLaw : Type 0
EqualRowsLaw =
    (start : State) (moves : List Move) (watches : List WatchOf) (w : WatchOf) (row : WatchRecord) (items : List Item)
    (other : State) (more : List Move) (observers : List WatchOf) (v : WatchOf) (line : WatchRecord)
    (others : List Item)
    → IsRowOf start moves watches w row
    → IsRowOf other more observers v line
    → pin_of start.storage w.path ≡ Some items
    → pin_of other.storage v.path ≡ Some others
    → StartEqual start w items other v others
    → IsQuiet row
    → IsQuiet line
    → row.count ≡ line.count
    → row.lines ≡ line.lines
    → AreEqual start w items (last_of start moves) other v others (last_of other more)
