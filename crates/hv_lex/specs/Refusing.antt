-- Results that may be refusals: how one goes on from them, and the line at which a refusal is told.
use Rattle.std.specs.Prelude.{ℕ, Result, Ok, Err}

infixl 10 ◌>>=◌
-- what f makes of a value, or the refusal in its place
abbrev pub ◌>>=◌ : {A B E : Type 0} → Result A E → (A → Result B E) → Result B E
(Ok x) >>= f = f x
(Err e) >>= f = Err e

-- the same, where a refusal is told with its line
abbrev pub at_line : {A E : Type 0} → ℕ → Result A E → Result A (ℕ × E)
at_line line (Ok x) = Ok x
at_line line (Err e) = Err (line, e)
