-- The tokens of a line of assembly. A line falls into pieces in one way, and each piece is a token, is nothing, or is
-- refused.
use Rattle.std.specs.Prelude.{◌≡◌, ◌<◌, ◌≤◌, ℕ, ℤ, pos, ◌+◌, ◌==◌, ◌&&◌, ◌||◌, nat_le, Bool, true, false}
use Rattle.std.specs.Prelude.{if◌then◌else◌, List, [], ◌∷◌, ◌++◌, length, Option, Some, None, Result, Ok, Err}
use Rattle.std.proofs.Math.IntN.{neg_ℤ}
use Rattle.std.specs.Option.{option_map}
use Rattle.hv_lex.specs.Numbers.{number_of}
use Rattle.hv_lex.specs.declared.Token.{Token}
use Rattle.hv_lex.specs.declared.Kind.{Kind}
use Rattle.hv_lex.specs.declared.Kind.TheVariants.{Name, Number, Comma, Colon, Open, Close}
use Rattle.hv_lex.specs.declared.LexEnd.{LexEnd}
use Rattle.hv_lex.specs.declared.LexEnd.TheVariants.{BadByte, BadNumber}

-- 0 to 9
unfoldable pub is_digit : ℕ → Bool
is_digit c = nat_le 48 c && nat_le c 57

-- what words are made of: digits, letters of either case, `_` and `.`
unfoldable pub is_letter : ℕ → Bool
is_letter c = is_digit c || (nat_le 97 c && nat_le c 122) || (nat_le 65 c && nat_le c 90) || c == 95 || c == 46

-- what may stand in a comment: the printable bytes of ASCII, and the tab
unfoldable pub is_plain : ℕ → Bool
is_plain c = c == 9 || (nat_le 32 c && nat_le c 126)

-- a piece of a line
pub data Piece : Type 0 where
  -- a longest run of letters
  Word : (text : List ℕ) → Piece
  -- a minus right before a word that begins with a digit, and that word
  Minus : (text : List ℕ) → Piece
  -- `#`, and the rest of the line
  Comment : (text : List ℕ) → Piece
  -- a byte alone
  Sign : (byte : ℕ) → Piece

-- the pieces with a letter in front of them: it makes the word longer with which they begin, or is one
unfoldable pub lengthened : ℕ → List Piece → List Piece
lengthened c [] = Word (c ∷ []) ∷ []
lengthened c (Word text ∷ pieces) = Word (c ∷ text) ∷ pieces
lengthened c (Minus text ∷ pieces) = Word (c ∷ []) ∷ Minus text ∷ pieces
lengthened c (Comment text ∷ pieces) = Word (c ∷ []) ∷ Comment text ∷ pieces
lengthened c (Sign byte ∷ pieces) = Word (c ∷ []) ∷ Sign byte ∷ pieces

-- a text begins with a digit
unfoldable pub begins_number : List ℕ → Bool
begins_number [] = false
begins_number (c ∷ cs) = is_digit c

-- the pieces with a minus in front of them, byte 45
unfoldable pub signed : List Piece → List Piece
signed [] = Sign 45 ∷ []
signed (Word text ∷ pieces) = if begins_number text then Minus text ∷ pieces else Sign 45 ∷ Word text ∷ pieces
signed (Minus text ∷ pieces) = Sign 45 ∷ Minus text ∷ pieces
signed (Comment text ∷ pieces) = Sign 45 ∷ Comment text ∷ pieces
signed (Sign byte ∷ pieces) = Sign 45 ∷ Sign byte ∷ pieces

-- the pieces of a text
unfoldable pub pieces_of : List ℕ → List Piece
pieces_of [] = []
pieces_of (c ∷ cs) =
    if is_letter c then lengthened c (pieces_of cs)
    else if c == 35 then Comment cs ∷ []
    else if c == 45 then signed (pieces_of cs)
    else Sign c ∷ pieces_of cs

-- how many bytes a piece has
unfoldable pub size_of : Piece → ℕ
size_of (Word text) = length text
size_of (Minus text) = 1 + length text
size_of (Comment text) = 1 + length text
size_of (Sign byte) = 1

-- one token
abbrev pub token : ℕ → ℕ → Kind → List Token
token start end kind = record { start = start; end = end; kind = kind } ∷ []

-- a number with its sign
abbrev pub value_of : (minus : Bool) → ℕ → ℤ
value_of false n = pos n
value_of true n = neg_ℤ (pos n)

-- the token of a number at this place, or its refusal where the word is no number
unfoldable pub number_token : ℕ → ℕ → Option ℤ → Result (List Token) LexEnd
number_token start end None = Err (BadNumber start)
number_token start end (Some value) = Ok (token start end (Number value))

-- the first byte of a comment that may not stand in one, if one may not
unfoldable pub comment_from : ℕ → List ℕ → Result (List Token) LexEnd
comment_from at [] = Ok []
comment_from at (c ∷ cs) = if is_plain c then comment_from (at + 1) cs else Err (BadByte at)

-- a byte alone: a blank or a tab is nothing
unfoldable pub sign_token : ℕ → ℕ → Result (List Token) LexEnd
sign_token at c =
    if c == 32 || c == 9 then Ok []
    else if c == 44 then Ok (token at (at + 1) Comma)
    else if c == 58 then Ok (token at (at + 1) Colon)
    else if c == 40 then Ok (token at (at + 1) Open)
    else if c == 41 then Ok (token at (at + 1) Close)
    else Err (BadByte at)

-- the token that a piece is at this place, if it is one, or its refusal
unfoldable pub token_of : ℕ → Piece → Result (List Token) LexEnd
token_of at (Word text) =
    if begins_number text then number_token at (at + length text) (option_map (value_of false) (number_of text))
    else Ok (token at (at + length text) Name)
token_of at (Minus text) = number_token at (at + (1 + length text)) (option_map (value_of true) (number_of text))
token_of at (Comment text) = comment_from (at + 1) text
token_of at (Sign byte) = sign_token at byte

-- tokens in front of others
unfoldable pub with_front : List Token → Result (List Token) LexEnd → Result (List Token) LexEnd
with_front front (Ok tokens) = Ok (front ++ tokens)
with_front front (Err end) = Err end

-- those behind some tokens, unless these are refused
unfoldable pub followed : Result (List Token) LexEnd → Result (List Token) LexEnd → Result (List Token) LexEnd
followed (Ok front) behind = with_front front behind
followed (Err end) behind = Err end

-- the tokens of pieces, the first of which is at this place, or the first refusal
unfoldable pub tokens_at : ℕ → List Piece → Result (List Token) LexEnd
tokens_at at [] = Ok []
tokens_at at (piece ∷ pieces) = followed (token_of at piece) (tokens_at (at + size_of piece) pieces)

-- the tokens of a text at this place in the line
unfoldable pub lexed_at : ℕ → List ℕ → Result (List Token) LexEnd
lexed_at at text = tokens_at at (pieces_of text)

-- the tokens of a line, or its first refusal
abbrev pub tokens_of : List ℕ → Result (List Token) LexEnd
tokens_of line = lexed_at 0 line

-- each token begins where the one before it ends or behind it, the first at `from` or behind it, and has a byte or
-- more; all end at `to` or before it
abbrev pub Rise : ℕ → List Token → ℕ → Type 0
Rise from [] to = from ≤ to
Rise from (t ∷ ts) to = (from ≤ t.start) × (t.start < t.end) × Rise t.end ts to

-- a token that stands at this place, in so many bytes
abbrev pub StandsAt : ℕ → ℕ → Option Token → Type 0
StandsAt at size None = Unit {0}
StandsAt at size (Some t) = (t.start ≡ at) × (at < t.end) × (t.end ≤ at + size)
