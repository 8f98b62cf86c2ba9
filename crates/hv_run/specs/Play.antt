-- What a play keeps while it goes on, and what a move changes in it.
use Rattle.std.specs.Prelude.{◌≡◌, ℕ, ◌+◌, ◌≤◌, All, Bool, true, false, not, ◌&&◌, ◌||◌, ◌==◌, if◌then◌else◌, List, []}
use Rattle.std.specs.Prelude.{◌∷◌, ◌++◌, length, map, take, Option, Some, None, slice_get}
use Rattle.hv_word.specs.Storage.{word_at}
use Rattle.hv_cpu.specs.Regs.{Regs}
use Rattle.hv_cpu.specs.Lines.{lines, unlined}
use Rattle.hv_nest.specs.declared.changed.ChangedRow.{ChangedRow}
use Rattle.hv_nest.specs.declared.outcome.StepKind.{StepKind}
use Rattle.hv_nest.specs.declared.outcome.StepKind.TheVariants.{Worked as WorkedKind, Recall, Fault}
use Rattle.hv_nest.specs.State.{State}
use Rattle.hv_nest.specs.Watched.{LineChange, begins, is_outside}
use Rattle.hv_run.specs.declared.counts.Counts.{Counts}
use Rattle.hv_run.specs.declared.making.Together.{Together}
use Rattle.hv_run.specs.Record.{WatchRecord, PlayRecord, fault_record, last_kept}
use Rattle.hv_limits.specs.Limits.{kept_limit}
use Rattle.hv_apart.specs.Marked.{is_marked}

-- What a move did: a step of a hart, with the path of the machine that the hart ran before it, told where there are
-- watches, its kind and the words that it changed; or a change of a hart's lines, which changes no word of the storage.
pub data Happened : Type 0 where
  Stepped : (hart : ℕ) (running : List ℕ) (kind : StepKind) (changed : List ChangedRow) → Happened
  Lined : Happened

-- a watch: what is told of it so far, the set of its foot's places, and its present word with the interrupt lines
pub record Watching : Type 0 where
  pub so_far : WatchRecord
  pub foot : List ℕ
  pub status : ℕ

-- a play: how many moves it made, its numbers and last faults, and its watches
pub record Played : Type 0 where
  pub calls : ℕ
  pub counts : Counts
  pub watching : List Watching

-- what is told so far of each watch
abbrev pub all_so_far : List Watching → List WatchRecord
all_so_far ws = map (λ (w : Watching). w.so_far) ws

-- what is told of a play
abbrev pub play_record : Played → PlayRecord
play_record p = record {
  steps = p.counts.steps;
  faults = p.counts.faults;
  recalls = p.counts.recalls;
  kept = p.counts.kept;
  watches = all_so_far p.watching;
}

-- The word that has the interrupt lines of a machine: word 42 of the bare page that is given, or mip of the hart.
abbrev pub mip_of : Option Regs → ℕ
mip_of None = 0
mip_of (Some r) = r.mip

-- the same word in a state
abbrev pub status_at : ℕ → Option ℕ → State → ℕ
status_at h None st = mip_of (slice_get st.harts h)
status_at h (Some g) st = word_at st.storage g 42

-- whether one of these words is in the set
abbrev pub any_marked : List ℕ → List ChangedRow → Bool
any_marked foot [] = false
any_marked foot (row ∷ rows) = is_marked foot row.at || any_marked foot rows

-- whether a step of a hart counts for a watch
abbrev pub counts_step : WatchRecord → (hart : ℕ) → (running : List ℕ) → StepKind → Bool
counts_step w hart running kind =
    (hart == w.hart) && (begins w.path running && not (is_outside (length w.path) kind))

-- of each watch, in order, whether its path begins the running one
abbrev pub inside_of : (running : List ℕ) → List Watching → List Bool
inside_of running ws = map (λ (w : Watching). begins w.so_far.path running) ws

-- whether a move counts for a watch
abbrev pub counts_for : WatchRecord → Happened → Bool
counts_for w (Stepped hart running kind changed) = counts_step w hart running kind
counts_for w Lined = false

-- the changed words of a step; a change of lines tells none
abbrev pub changes_in : Happened → List ChangedRow
changes_in (Stepped hart running kind changed) = changed
changes_in Lined = []

-- whether the word with the lines changed in another bit than the lines; a hart's word doesn't matter
abbrev pub status_differs : Option ℕ → ℕ → ℕ → Bool
status_differs None old new = false
status_differs (Some g) old new = not (unlined old == unlined new)

-- whether it touches the watch, if it doesn't count
abbrev pub touches : Watching → Happened → ℕ → Bool
touches w happened new = any_marked w.foot (changes_in happened) || status_differs w.so_far.block w.status new

-- one more change of the lines, if they are others; as many are kept as are told
abbrev pub more_changes : List LineChange → ℕ → ℕ → ℕ → List LineChange
more_changes changes count old new =
    if lines old == lines new then changes
    else take kept_limit (changes ++ record { count = count; bits = lines new } ∷ [])

-- what is told of a watch after a move: whether it counts, whether it touches, and the word with the lines before and
-- after
abbrev pub record_after : Bool → Bool → ℕ → ℕ → WatchRecord → WatchRecord
record_after true touching old new w = record w { count = w.count + 1 }
record_after false touching old new w = record w {
  touched = w.touched || touching;
  line_total = (if lines old == lines new then w.line_total else w.line_total + 1);
  lines = more_changes w.lines w.count old new;
}

-- a watch after a move that doesn't count
abbrev pub watching_beside : Bool → ℕ → Watching → Watching
watching_beside touching new w = record {
  so_far = record_after false touching w.status new w.so_far;
  foot = w.foot;
  status = new;
}

-- a watch after a move, with the word that has the lines then
abbrev pub watching_after : Happened → ℕ → Watching → Watching
watching_after happened new w = record {
  so_far = record_after (counts_for w.so_far happened) (touches w happened new) w.status new w.so_far;
  foot = w.foot;
  status = new;
}

-- the same with the state that the move left
abbrev pub watched_after : Happened → State → Watching → Watching
watched_after happened next w = watching_after happened (status_at w.so_far.hart w.so_far.block next) w

-- the numbers and the last faults after a step
abbrev pub kind_after : Counts → ℕ → StepKind → Counts
kind_after c hart WorkedKind = record c { steps = c.steps + 1 }
kind_after c hart (Recall l) = record c { steps = c.steps + 1; recalls = c.recalls + 1 }
kind_after c hart (Fault l cause address a) = record c {
  steps = c.steps + 1;
  faults = c.faults + 1;
  kept = last_kept (c.kept ++ fault_record (c.steps + 1) hart l cause address a ∷ []);
}

-- the same after a move
abbrev pub counts_after : Counts → Happened → Counts
counts_after c (Stepped hart running kind changed) = kind_after c hart kind
counts_after c Lined = c

-- the watches after a move, which left the bare machine in this state
abbrev pub all_after : Happened → State → List Watching → List Watching
all_after happened next ws = map (watched_after happened next) ws

-- a play after a move
abbrev pub played_after : Happened → State → Played → Played
played_after happened next p = record {
  calls = p.calls + 1;
  counts = counts_after p.counts happened;
  watching = all_after happened next p.watching;
}

-- the watch is of the bare machine, by this hart, so each step of the hart counts
pub record IsBareBy (hart : ℕ) (w : Watching) : Type 0 where
  pub same : w.so_far.hart ≡ hart
  pub path : length w.so_far.path ≡ 0

-- the same of each watch
abbrev pub AreBareBy : ℕ → List Watching → Type 0
AreBareBy hart [] = Unit {0}
AreBareBy hart (w ∷ ws) = IsBareBy hart w × AreBareBy hart ws

-- what is told of a watch after n steps more that counted
abbrev pub with_count : ℕ → WatchRecord → WatchRecord
with_count n w = record w { count = w.count + n }

-- a watch after n steps that counted, which left this state
abbrev pub counted_after : ℕ → State → Watching → Watching
counted_after n next w = record {
  so_far = with_count n w.so_far;
  foot = w.foot;
  status = (if n == 0 then w.status else status_at w.so_far.hart w.so_far.block next);
}

-- the same of all watches
abbrev pub all_counted : ℕ → State → List Watching → List Watching
all_counted n next ws = map (counted_after n next) ws

-- a play after n steps that counted for each watch, with the numbers and the state that they left
abbrev pub counted_played : ℕ → Counts → State → Played → Played
counted_played n counts next p = record {
  calls = p.calls + n;
  counts = counts;
  watching = all_counted n next p.watching;
}

-- the watch is of a machine on this path, by this hart, so each step of the hart that works counts
pub record IsInsideBy (hart : ℕ) (running : List ℕ) (w : Watching) : Type 0 where
  pub same : w.so_far.hart ≡ hart
  pub path : begins w.so_far.path running ≡ true

-- the same of each watch
abbrev pub AreInsideBy : ℕ → List ℕ → List Watching → Type 0
AreInsideBy hart running [] = Unit {0}
AreInsideBy hart running (w ∷ ws) = IsInsideBy hart running w × AreInsideBy hart running ws

-- the steps that are told together count for each watch: all of them, or those that work
pub record CountTogether (together : Together) (hart : ℕ) (running : List ℕ) (ws : List Watching) : Type 0 where
  pub all : together.all ≡ true → AreBareBy hart ws
  pub working : together.all ≡ false → together.working ≡ true → AreInsideBy hart running ws

-- how many steps were made: those that worked, and one more, if there was one that was refused
abbrev pub made_count : ℕ → Bool → ℕ
made_count worked false = worked
made_count worked true = worked + 1

-- a watch after steps that worked, and after the move h, if there was one more
abbrev pub made_after : Happened → ℕ → Bool → State → Watching → Watching
made_after h worked false next w = counted_after worked next w
made_after h worked true next w = watched_after h next (counted_after worked next w)

-- the same of all watches
abbrev pub all_made : Happened → ℕ → Bool → State → List Watching → List Watching
all_made h worked refused next ws = map (made_after h worked refused next) ws

-- a play after the same, with the numbers and the state that were left
abbrev pub made_played : Happened → ℕ → Bool → Counts → State → Played → Played
made_played h worked refused counts next p = record {
  calls = p.calls + made_count worked refused;
  counts = counts;
  watching = all_made h worked refused next p.watching;
}

-- no number passes that of the moves
abbrev pub CountsWithin : ℕ → Counts → Type 0
CountsWithin n c = (c.steps ≤ n) × (c.faults ≤ n) × (c.recalls ≤ n)

-- of no watch more is told than n moves can give
abbrev pub TellsWithin : ℕ → List Watching → Type 0
TellsWithin n ws = All (λ (w : Watching). (w.so_far.count ≤ n) × (w.so_far.line_total ≤ n)) ws
