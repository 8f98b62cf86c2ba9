-- Reading to the end, and writing whole.
use Rattle.std.specs.Prelude.{◌≡◌, ℕ, ◌+◌, ◌<◌, ◌≤◌, List, [], length, take, ⊤, Option, None, Some, Result, Ok, Err}
use Rattle.std.specs.Io.KnownBytes.{Appends, Consumes}
use Rattle.hv_io.specs.Faults.{Making}
use Rattle.hv_limits.specs.Limits.{input_limit}
use Rattle.hv_io.specs.declared.whole.ReadEnd.{ReadEnd}
use Rattle.hv_io.specs.declared.whole.ReadEnd.TheVariants.{ReadFault, TooLong, Memory}

-- when reading ends so, where `fault` says that the count rose, and `long` that the source had more than the limit
abbrev pub IsDue : ReadEnd → Type 0 → Type 0 → Type 0
IsDue ReadFault fault long = fault
IsDue (TooLong limit) fault long = (limit ≡ input_limit) × long
IsDue Memory fault long = ⊤

-- how many bytes were given where reading answers this: one more than the limit exactly where it was too long
abbrev pub IsCountAt : {T : Type 0} → Result T ReadEnd → ℕ → Type 0
IsCountAt (Ok bytes) count = count ≤ input_limit
IsCountAt (Err ReadFault) count = count ≤ input_limit
IsCountAt (Err (TooLong limit)) count = count ≡ input_limit + 1
IsCountAt (Err Memory) count = count ≤ input_limit

-- the source gave some bytes, whose number is such
abbrev pub Gives : Option (List ℕ) → Option (List ℕ) → (ℕ → Type 0) → Type 0
Gives old new IsSuch = (bytes : List ℕ) × Consumes old new bytes × IsSuch (length bytes)

-- the source gave no more bytes than this
abbrev pub TakesAtMost : ℕ → Option (List ℕ) → Option (List ℕ) → Type 0
TakesAtMost most old new = Gives old new (λ count. count ≤ most)

-- the bytes held grew by the front of the piece, and not by all of it
abbrev pub AppendsFront : Option (List ℕ) → Option (List ℕ) → List ℕ → Type 0
AppendsFront old new piece = (count : ℕ) × (count < length piece) × Appends old new (take count piece)

-- where both are told, and no call was to fail by its number: there is no room for so many more bytes
abbrev pub LacksRoom : Option Making → Option (List ℕ) → ℕ → Type 0
LacksRoom None held more = ⊤
LacksRoom (Some m) None more = ⊤
LacksRoom (Some m) (Some bytes) more = m.fails ≡ [] → m.room < length bytes + more
