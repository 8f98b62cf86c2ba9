-- What an object outside was made with, and its count of faults.
use Rattle.std.specs.Prelude.{◌≡◌, ℕ, ◌+◌, ◌-◌, ◌^◌, ◌≤◌, min, List, [], length, ⊤}
use Rattle.std.specs.Prelude.{Option, None, Some, Result, MatchResult, OnErr}

-- what a sink in memory was made with: the bytes that it has room for, and the numbers of the calls that fail
pub record Making : Type 0 where
  pub room : ℕ
  pub fails : List ℕ

-- a number one higher, which stands still at the end of 64 bits
abbrev pub one_more : ℕ → ℕ
one_more n = min (n + 1) (2 ^ 64 - 1)

-- a count of faults rose: it is greater than before, or it stands at the end of its type
abbrev pub Rose : ℕ → ℕ → Type 0
Rose before now = one_more before ≤ now

-- a count never falls, and where the call failed it rose
abbrev pub HasCause : {T E : Type 0} → ℕ → ℕ → Result T E → Type 0
HasCause before now r = (before ≤ now) × OnErr r (Rose before now)

-- a count that rises by one at each failure, and at nothing else
abbrev pub CountsFailure : {T E : Type 0} → ℕ → ℕ → Result T E → Type 0
CountsFailure before now r = MatchResult r (λ _. now ≡ before) (λ _. now ≡ one_more before)

-- where both are told, and no call was to fail by its number: the room is full
abbrev pub IsFull : Option Making → Option (List ℕ) → Type 0
IsFull None held = ⊤
IsFull (Some m) None = ⊤
IsFull (Some m) (Some bytes) = m.fails ≡ [] → m.room ≤ length bytes
