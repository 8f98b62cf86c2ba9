-- What a first look at the lines of a text finds, beside their labels.
use Rattle.std.specs.Prelude.{ℕ, ◌≡◌, ◌+◌, Bool, true, false, ⊤, List, [], ◌∷◌, Option}
use Rattle.hv_asm.specs.Assembly.{repeats}
use Rattle.hv_asm.specs.Operands.{Nothing, read_of}
use Rattle.hv_asm.specs.declared.labels.Place.{Place}

-- no label of these lines was defined on an earlier line; the first of them has this number
unfoldable pub NoneRepeats : (List ℕ → Option Place) → (number : ℕ) → List (List ℕ) → Type 0
NoneRepeats find number [] = ⊤
NoneRepeats find number (line ∷ lines) =
    (repeats find number (read_of line).label ≡ false) × NoneRepeats find (number + 1) lines

-- a line whose flag is set does nothing; where the flags end, nothing is said
unfoldable pub AreIdle : List Bool → List (List ℕ) → Type 0
AreIdle [] lines = ⊤
AreIdle (flag ∷ flags) [] = ⊤
AreIdle (flag ∷ flags) (line ∷ lines) = (flag ≡ true → (read_of line).deed ≡ Nothing) × AreIdle flags lines
