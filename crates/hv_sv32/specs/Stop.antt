-- What a walk comes to, and how an answer of the code says it.
use Rattle.std.specs.Prelude.{◌≡◌, ℕ, ◌/◌, ◌%◌, ◌^◌, ◌<◌, List, length, Option, Some, None, Result, Ok, Err, IfOk}
use Rattle.std.specs.Prelude.{IfErr}
use Rattle.hv_store.specs.declared.access.Refusal.{Refusal}
use Rattle.hv_store.specs.declared.access.Slot.{Slot}
use Rattle.hv_sv32.specs.declared.Stop.{Stop}
use Rattle.hv_sv32.specs.declared.Stop.TheVariants.{Trap, Refused}

-- a page of the machine and the offset of a byte in it, or a trap, or the refusal of an outer map
pub data Walked : Type 0 where
  Found : (page offset : ℕ) → Walked
  TrapWith : (cause tval : ℕ) → Walked
  RefusedBy : Refusal → Walked

-- an address is 4096 times its page, and its offset
abbrev pub walked : Result ℕ Stop → Walked
walked (Ok place) = Found (place / 4096) (place % 4096)
walked (Err (Trap cause tval)) = TrapWith cause tval
walked (Err (Refused refusal)) = RefusedBy refusal

-- no place is come to
abbrev pub IsStopped : Walked → Type 0
IsStopped (Found page offset) = ⊥
IsStopped (TrapWith cause tval) = Unit {0}
IsStopped (RefusedBy refusal) = Unit {0}

-- the place is the one that is come to, and there is none exactly where none is
abbrev pub IsFound : Option ℕ → Walked → Type 0
IsFound (Some place) given = given ≡ Found (place / 4096) (place % 4096)
IsFound None given = IsStopped given

-- an address is in a page of the machine with the map F, and has at most 34 bits
abbrev pub IsInside : List Slot → ℕ → Type 0
IsInside F place = (place / 4096 < length F) × (place < 2 ^ 34)

-- a trap's cause is one of the numbers 0 to 15
abbrev pub IsCause : Stop → Type 0
IsCause (Trap cause tval) = cause < 16
IsCause (Refused refusal) = Unit {0}

-- a refusal comes from a map whose level is below this
abbrev pub RefusesBelow : ℕ → Stop → Type 0
RefusesBelow depth (Trap cause tval) = Unit {0}
RefusesBelow depth (Refused refusal) = refusal.level < depth

-- An answer fits the machine with the map F: an address lies in a page of it and has at most 34 bits, a cause is one of
-- the numbers 0 to 15, and a refusal's level is below the machine's.
pub record FitsMachine (F : List Slot) (depth : ℕ) (answer : Result ℕ Stop) : Type 0 where
  pub inside : IfOk answer (λ place. place / 4096 < length F)
  pub short : IfOk answer (λ place. place < 2 ^ 34)
  pub cause : IfErr answer IsCause
  pub level : IfErr answer (RefusesBelow depth)
