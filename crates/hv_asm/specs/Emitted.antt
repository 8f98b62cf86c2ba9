-- What a function answers that appends words.
use Rattle.std.specs.Prelude.{◌≡◌, ℕ, List, ◌++◌, Result, Ok, Err}
use Rattle.hv_asm.specs.declared.AsmKind.{AsmKind}
use Rattle.hv_asm.specs.declared.emits.EmitEnd.{EmitEnd}
use Rattle.hv_asm.specs.declared.emits.EmitEnd.TheVariants.{Fault, Memory}

-- words in front of others
abbrev pub with_front : List ℕ → Result (List ℕ) AsmKind → Result (List ℕ) AsmKind
with_front front (Ok words) = Ok (front ++ words)
with_front front (Err kind) = Err kind

-- the words were appended, or their fault is the answer, unless memory is wanting
abbrev pub Appends : {A : Type 0} → Result A EmitEnd → Result (List ℕ) AsmKind → (old new : List ℕ) → Type 0
Appends (Ok _) words old new = with_front old words ≡ Ok new
Appends (Err (Fault kind)) words old new = words ≡ Err kind
Appends (Err Memory) words old new = Unit {0}
