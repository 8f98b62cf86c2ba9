-- The rows of a trace, and what always holds of them.
use Rattle.std.specs.Prelude.{◌≡◌, ℕ, ◌+◌, ◌^◌, ◌<◌, ◌≤◌, List, [], ◌∷◌, take, drop, Option, Some, None}
use Rattle.std.specs.Int.RustNames.{bit_and}
use Rattle.std.specs.List.{AllByRecursion}
use Rattle.hv_limits.specs.Limits.{lines_mask}
use Rattle.hv_capsule.specs.Parked.{Parked}
use Rattle.hv_trace.specs.declared.row.TraceRow.{TraceRow}
use Rattle.hv_trace.specs.declared.row.TraceRow.TheVariants.{Lines, Step}

-- the places rise from this one on, and are places of the 50 words
abbrev pub IsRisingFrom : ℕ → List (ℕ × ℕ) → Type 0
IsRisingFrom least [] = Unit {0}
IsRisingFrom least (change ∷ changes) = (least ≤ change.0) × (change.0 < 50) × IsRisingFrom (change.0 + 1) changes

-- a pair that stands for no change
abbrev pub IsUnused : ℕ × ℕ → Type 0
IsUnused pair = pair ≡ (0, 0)

-- the changed word is one of the storage's words
abbrev pub IsInside : ℕ → Option (ℕ × ℕ) → Type 0
IsInside words None = Unit {0}
IsInside words (Some change) = change.0 < words

-- what holds of a step's changes, over a storage of so many words
pub record AreChanges (words len : ℕ) (regs : List (ℕ × ℕ)) (mem : Option (ℕ × ℕ)) : Type 0 where
  pub few : len ≤ 8
  pub rising : IsRisingFrom 0 (take len regs)
  pub unused : AllByRecursion IsUnused (drop len regs)
  pub inside : IsInside words mem

-- what holds of a row, over a storage of so many words
abbrev pub IsRow : ℕ → TraceRow → Type 0
IsRow words (Lines mask) = bit_and mask lines_mask ≡ mask
IsRow words (Step pc len regs mem) = AreChanges words len regs mem

-- the same of each row
abbrev pub AreRows : ℕ → List TraceRow → Type 0
AreRows words rows = AllByRecursion (IsRow words) rows

-- both numbers of a change are words
abbrev pub IsOfWords : ℕ × ℕ → Type 0
IsOfWords change = (change.0 < 2 ^ 32) × (change.1 < 2 ^ 32)

abbrev pub IsOfWordsIn : Option (ℕ × ℕ) → Type 0
IsOfWordsIn None = Unit {0}
IsOfWordsIn (Some change) = IsOfWords change

-- the row tells of at most as many changed words as it has room for
abbrev pub HasRoom : TraceRow → Type 0
HasRoom (Lines mask) = Unit {0}
HasRoom (Step pc len regs mem) = len ≤ 8

-- a machine at its start, and what it then did
pub record Traced : Type 0 where
  pub start : Parked
  pub rows : List TraceRow
