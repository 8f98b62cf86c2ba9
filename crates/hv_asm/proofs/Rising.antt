-- A line has no more tokens than bytes.
use Rattle.std.proofs.Common.{ℕ, ◌+◌, ◌≤◌, List, [], ◌∷◌, length, arith}
use Rattle.hv_lex.specs.Tokens.{Rise}
use Rattle.hv_lex.specs.declared.Token.{Token}

rise_length : (from : ℕ) (ts : List Token) (to : ℕ) → Rise from ts to → length ts + from ≤ to
rise_length from [] to rise = omega arith
rise_length from (t ∷ ts) to rise = let h : length ts + t.end ≤ to = rise_length t.end ts to rise.2 in omega arith

pub rise_count : (ts : List Token) (to n : ℕ) → Rise 0 ts to → n ≤ length ts → n ≤ to
rise_count ts to n rise le = let h : length ts + 0 ≤ to = rise_length 0 ts to rise in omega arith
