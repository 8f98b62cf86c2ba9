-- No row has more than two words.
use Rattle.std.proofs.Common.{◌≡◌, ◌≤◌, ℕ, List, [], ◌∷◌, length, map, string_bytes, Err, arith}
use Rattle.std.proofs.Math.Bool.{and-false}
use Rattle.std.proofs.lemmas.List.{length-map}
use Rattle.hv_words.specs.Table.{command_of, usage}
use Rattle.hv_words.proofs.read_words.Goals as goal

command_of-many : (words : List (List ℕ)) → 3 ≤ length words → Err usage ≡ command_of words
command_of-many [] many = absurd (omega arith)
command_of-many (word ∷ []) many = absurd (omega arith)
command_of-many (word ∷ (option ∷ [])) many = absurd (omega arith)
command_of-many (word ∷ (option ∷ (further ∷ words))) many = simp and-false

-- src/lib.rt:23:1
pub returns-in_default-2 : goal.returns-in_default-2
returns-in_default-2 c = command_of-many (map string_bytes c.args.words.now) (simp length-map (omega arith))
