-- What the program prints of a watched machine beside the bare machine that runs alone.
use Rattle.std.specs.Prelude.{◌≡◌, ℕ, ◌<◌, ◌≤◌, true, false, List, ◌++◌, length, Some, None, codes}
use Rattle.hv_map.specs.Item.{Item}
use Rattle.hv_map.specs.Chain.{pin_of}
use Rattle.hv_map.specs.Apart.{is_one, is_apart}
use Rattle.hv_nest.specs.State.{State}
use Rattle.hv_nest.specs.Move.{Move, last_of}
use Rattle.hv_nest.specs.Watched.{Tally, last_block}
use Rattle.hv_report.specs.Report.{machine_words, watch_line, watch_text}
use Rattle.hv_report.specs.Check.{checked_watch}
use Rattle.hv_run.specs.Promises.{twin_after}
use Rattle.hv_run.specs.Record.{WatchOf, tally_over, watch_record}
use Rattle.hv_limits.specs.Limits.{kept_limit}
use Rattle.hv_text.specs.Text.{line}
use Rattle.hv_run.specs.Stands.{EachWatch}

-- what `check` writes of a watch, and what the report writes of it
abbrev pub text_alone : State → WatchOf → List Item → Tally → List ℕ
text_alone start w items t = checked_watch start (watch_record w start items t)

-- what the report writes of it
abbrev pub text_reported : (start last : State) → WatchOf → List Item → Tally → List ℕ
text_reported start last w items t = watch_text last (watch_record w start items t)

-- what `check` writes of a watch beside which no bare machine was run
abbrev pub text_without_twin : State → WatchOf → List Item → Tally → List ℕ
text_without_twin start w items t = watch_line (watch_record w start items t) ++ line (codes "twin none")

-- The words that the report has of the watched machine are those of the bare machine that began with what it saw, and
-- ran alone with all changes of lines. Where all of these are kept, `check` writes the same text of the watch as the
-- report has; where they are more, it says that no bare machine was run.
pub record IsShownBy (start last : State) (w : WatchOf) (items : List Item) (t : Tally) : Type 0 where
  pub run : machine_words last w.hart (last_block items) ≡ machine_words (twin_after start w items t) 0 None
  pub check : length t.changes ≤ kept_limit → text_alone start w items t ≡ text_reported start last w items t
  pub none : kept_limit < length t.changes → text_alone start w items t ≡ text_without_twin start w items t

-- so it is for a watched machine whose pages were one-to-one and lay apart at the start, if no other machine touched it
abbrev pub IsShown : State → List Move → WatchOf → Type 0
IsShown start moves w =
    (items : List Item)
    → pin_of start.storage w.path ≡ Some items
    → is_one start.storage items ≡ true
    → is_apart start.storage items ≡ true
    → (tally_over start moves w items).touched ≡ false
    → IsShownBy start (last_of start moves) w items (tally_over start moves w items)

-- that holds of each watch
abbrev pub AreShown : State → List Move → List WatchOf → Type 0
AreShown start moves watches = EachWatch (IsShown start moves) watches
