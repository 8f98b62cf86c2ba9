-- Pieces of text, as bytes.
use Rattle.std.specs.Prelude.{ℕ, List, [], ◌∷◌, ◌++◌}
use Rattle.std.specs.List.{flat_map}
use Rattle.std.specs.Int.{w32, to_be_bytes}
use Rattle.hex.specs.Hex.{encode_lower}

-- a line: a text, and the line feed that ends it
abbrev pub line : List ℕ → List ℕ
line text = text ++ 10 ∷ []

-- a word of 32 bits as eight hexadecimal digits in lower case, the highest first
unfoldable pub hex8 : ℕ → List ℕ
hex8 word = encode_lower (to_be_bytes w32 word)

-- each word as eight digits behind a space
unfoldable pub words_text : List ℕ → List ℕ
words_text words = flat_map (λ word. 32 ∷ hex8 word) words
