-- What the rows of a trace must be: each is the change of lines or the step that follows from the rows before it, and
-- tells all that changed.
use Rattle.std.specs.Prelude.{◌≡◌, ◌≢◌, ℕ, ◌+◌, ◌-◌, ◌<◌, ◌≤◌, ◌==◌, if◌then◌else◌, List, [], ◌∷◌, length, take}
use Rattle.std.specs.Prelude.{Option, Some, None, slice_get, slice_index, slice_set}
use Rattle.hv_cpu.specs.Regs.{spelled}
use Rattle.hv_cpu.specs.Lines.{lined_of, lines}
use Rattle.hv_exec.specs.Act.{Done}
use Rattle.hv_nest.specs.Watched.{LineChange}
use Rattle.hv_capsule.specs.Parked.{Parked}
use Rattle.hv_trace.specs.Flat.{flat_step_of}
use Rattle.hv_trace.specs.declared.checking.Verdict.{Verdict}
use Rattle.hv_trace.specs.declared.checking.Verdict.TheVariants.{Yes, No}
use Rattle.hv_trace.specs.declared.row.TraceRow.{TraceRow}
use Rattle.hv_trace.specs.declared.row.TraceRow.TheVariants.{Lines, Step}

-- each place from this one on where two lists differ, with the number of the second one
unfoldable pub changes_from : ℕ → List ℕ → List ℕ → List (ℕ × ℕ)
changes_from place [] ys = []
changes_from place (x ∷ xs) [] = []
changes_from place (x ∷ xs) (y ∷ ys) =
    if x == y then changes_from (place + 1) xs ys else (place, y) ∷ changes_from (place + 1) xs ys

-- the storage T is S but for this one word, which is another there; or it is S
abbrev pub IsWritten : List ℕ → List ℕ → Option (ℕ × ℕ) → Type 0
IsWritten S T None = T ≡ S
IsWritten S T (Some change) =
    (change.0 < length S) × (slice_index S change.0 ≢ change.1) × (T ≡ slice_set S change.0 change.1)

-- each of two facts follows from the other
abbrev pub IsBoth : Type 0 → Type 0 → Type 0
IsBoth A B = (A → B) × (B → A)

-- the machine n follows from m by a change of its lines, which changes something
pub record FollowsByLines (m : Parked) (mask : ℕ) (n : Parked) : Type 0 where
  pub storage : n.storage ≡ m.storage
  pub regs : n.regs ≡ lined_of m.regs mask
  pub other : lines m.regs.mip ≢ mask

-- The machine n follows from m by a step, after which it runs no machine of its own; the row has the pc before the step,
-- and the words that it changed and no others.
pub record FollowsByStep (m : Parked) (pc : ℕ) (changes : List (ℕ × ℕ)) (mem : Option (ℕ × ℕ)) (n : Parked) : Type 0 where
  pub step : flat_step_of m.storage m.regs ≡ Done n.storage n.regs
  pub next : n.regs.next ≡ 0
  pub before : pc ≡ m.regs.pc
  pub told : changes ≡ changes_from 0 (spelled m.regs) (spelled n.regs)
  pub written : IsWritten m.storage n.storage mem

-- the machine n follows from m by a row
abbrev pub Follows : Parked → TraceRow → Parked → Type 0
Follows m (Lines mask) n = FollowsByLines m mask n
Follows m (Step pc len regs mem) n = FollowsByStep m pc (take len regs) mem n

-- nothing follows from m by the row
abbrev pub IsWrong : Parked → TraceRow → Type 0
IsWrong m row = (n : Parked) → Follows m row n → ⊥

-- the machine n follows from m by some rows, one after another
abbrev pub Leads : Parked → List TraceRow → Parked → Type 0
Leads m [] n = n ≡ m
Leads m (row ∷ rows) n = (next : Parked) × Follows m row next × Leads next rows n

-- how many of the rows are steps
unfoldable pub steps_in : List TraceRow → ℕ
steps_in [] = 0
steps_in (Lines mask ∷ rows) = steps_in rows
steps_in (Step pc len regs mem ∷ rows) = 1 + steps_in rows

-- what it means that a row, counted from 1, is the first that is wrong
abbrev pub IsFirstWrong : Parked → List TraceRow → ℕ → Type 0
IsFirstWrong m rows number =
    (before : Parked) × (row : TraceRow) × (1 ≤ number) × Leads m (take (number - 1) rows) before
    × (slice_get rows (number - 1) ≡ Some row) × IsWrong before row

-- the changes of lines that rows tell, each with how many steps were made before it, where i were made before the rows
unfoldable pub changes_told : ℕ → List TraceRow → List LineChange
changes_told i [] = []
changes_told i (Lines mask ∷ rows) = record { count = i; bits = mask } ∷ changes_told i rows
changes_told i (Step pc len regs mem ∷ rows) = changes_told (i + 1) rows

-- what holds of the steps of a trace that is right, and of the row of one that isn't
abbrev pub IfYes : Verdict → (ℕ → Type 0) → Type 0
IfYes (Yes steps) P = P steps
IfYes (No row) P = Unit {0}

abbrev pub IfNo : Verdict → (ℕ → Type 0) → Type 0
IfNo (Yes steps) P = Unit {0}
IfNo (No row) P = P row
