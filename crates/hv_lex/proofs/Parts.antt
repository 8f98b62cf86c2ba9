-- The tokens of a line that is written in parts, and the lines of a text that is one line.
use Rattle.std.proofs.Common.{◌≡◌, ℕ, ◌+◌, nat_eq, pos, neg_ℤ, Bool, true, false, cond, not, ◌&&◌, Some, List, [], ◌∷◌, ◌++◌, length, take, drop, map, Ok, refl, sym, ap, ◌∙◌, arith, append-nil}
use Rattle.std.specs.Option.{option_map}
use Rattle.std.proofs.lemmas.Bool.{and_parts, false_from_ne_true, eqb-true, false≢true}
use Rattle.std.proofs.lemmas.List.{drop-take}
use Rattle.std.proofs.Math.Seq.{take-append_seam, drop-append_seam, drop-drop}
use Rattle.hv_lex.specs.declared.Kind.{Kind}
use Rattle.hv_lex.specs.declared.Kind.TheVariants.{Name, Number, Comma, Open, Close}
use Rattle.hv_lex.specs.declared.Token.{Token}
use Rattle.hv_lex.specs.Lines.{lines_of, cut_of, returned, onto}
use Rattle.hv_lex.specs.Numbers.{number_of}
use Rattle.hv_lex.specs.Tokens.{Word, Minus, Sign, is_letter, is_digit, lengthened, begins_number, pieces_of, size_of, token_of, tokens_at, lexed_at, followed, with_front, sign_token, number_token, value_of, token}
use Rattle.hv_lex.proofs.Cutting.{pieces_letter, after_other, minus_word, name_is, number_is, negative_is}

-- a text of letters
abbrev pub Letters : List ℕ → Type 0
Letters [] = Unit {0}
Letters (c ∷ cs) = (is_letter c ≡ true) × Letters cs

-- no letter stands at the front
abbrev pub Ends : List ℕ → Type 0
Ends [] = Unit {0}
Ends (c ∷ cs) = is_letter c ≡ false

-- no byte ends a line
abbrev pub Unbroken : List ℕ → Type 0
Unbroken [] = Unit {0}
Unbroken (c ∷ cs) = (nat_eq c 10 ≡ false) × (nat_eq c 13 ≡ false) × Unbroken cs

-- a text is one token of this kind, wherever it stands
pub record Reads (text : List ℕ) (kind : Kind) : Type 0 where
  pub cut : (at : ℕ) (rest : List ℕ) → Ends rest → lexed_at at (text ++ rest) ≡ with_front (token at (at + length text) kind) (lexed_at (at + length text) rest)
  pub unbroken : Unbroken text

-- a byte is one token of this kind, or nothing
pub record Marks (byte : ℕ) (front : ℕ → List Token) : Type 0 where
  pub cut : (at : ℕ) (rest : List ℕ) → lexed_at at (byte ∷ rest) ≡ with_front (front at) (lexed_at (at + 1) rest)
  pub ends : is_letter byte ≡ false
  pub unbroken : Unbroken (byte ∷ [])

word_piece : (c : ℕ) (w rest : List ℕ) → Letters (c ∷ w) → Ends rest → pieces_of ((c ∷ w) ++ rest) ≡ Word (c ∷ w) ∷ pieces_of rest
unfolding lengthened pieces_of
word_piece c [] [] letters ends = pieces_letter c [] letters.0
word_piece c [] (d ∷ ds) letters ends = pieces_letter c (d ∷ ds) letters.0 ∙ after_other c d ds ends
word_piece c (d ∷ w) rest letters ends =
    pieces_letter c ((d ∷ w) ++ rest) letters.0 ∙ ap (lengthened c) (word_piece d w rest letters.1 ends)

word_token : (at c : ℕ) (w rest : List ℕ) (kind : Kind) → Letters (c ∷ w) → Ends rest → token_of at (Word (c ∷ w)) ≡ Ok (token at (at + length (c ∷ w)) kind) → lexed_at at ((c ∷ w) ++ rest) ≡ with_front (token at (at + length (c ∷ w)) kind) (lexed_at (at + length (c ∷ w)) rest)
unfolding lexed_at tokens_at size_of followed
word_token at c w rest kind letters ends is =
    ap (tokens_at at) (word_piece c w rest letters ends)
    ∙ ap (λ r. followed r (tokens_at (at + length (c ∷ w)) (pieces_of rest))) is

letter_not : (c d : ℕ) → is_letter c ≡ true → is_letter d ≡ false → nat_eq c d ≡ false
letter_not c d letter other =
    false_from_ne_true _ (λ e. false≢true (sym other ∙ ap is_letter (sym (eqb-true c d e)) ∙ letter))

feed_ends : (is_letter 10 ≡ false) × (is_letter 13 ≡ false)
unfolding is_letter is_digit
feed_ends = (refl, refl)

pub letters_unbroken : (w : List ℕ) → Letters w → Unbroken w
letters_unbroken [] letters = tt
letters_unbroken (c ∷ cs) letters =
    (letter_not c 10 letters.0 feed_ends.0, letter_not c 13 letters.0 feed_ends.1, letters_unbroken cs letters.1)

pub name_reads : (c : ℕ) (w : List ℕ) → is_digit c ≡ false → Letters (c ∷ w) → Reads (c ∷ w) Name
unfolding begins_number
name_reads c w other letters = record {
  cut = λ at rest ends. word_token at c w rest Name letters ends (name_is at (c ∷ w) other);
  unbroken = letters_unbroken (c ∷ w) letters;
}

pub number_reads : (c n : ℕ) (w : List ℕ) → is_digit c ≡ true → Letters (c ∷ w) → number_of (c ∷ w) ≡ Some n → Reads (c ∷ w) (Number (pos n))
unfolding begins_number number_token
number_reads c n w digit letters is = record {
  cut = λ at rest ends. word_token at c w rest (Number (pos n)) letters ends (number_is at (c ∷ w) digit ∙ ap (λ o. number_token at (at + length (c ∷ w)) (option_map (value_of false) o)) is);
  unbroken = letters_unbroken (c ∷ w) letters;
}

minus_token : (at c n : ℕ) (w rest : List ℕ) → is_digit c ≡ true → Letters (c ∷ w) → number_of (c ∷ w) ≡ Some n → Ends rest → lexed_at at ((45 ∷ c ∷ w) ++ rest) ≡ with_front (token at (at + (1 + length (c ∷ w))) (Number (neg_ℤ (pos n)))) (lexed_at (at + (1 + length (c ∷ w))) rest)
unfolding lexed_at tokens_at size_of followed number_token begins_number
minus_token at c n w rest digit letters is ends =
    ap (tokens_at at)
    (minus_word at 0 ((c ∷ w) ++ rest) (c ∷ w) (pieces_of rest) (word_piece c w rest letters ends)
    ∙ ap (λ b. cond b (Minus (c ∷ w) ∷ pieces_of rest) (Sign 45 ∷ Word (c ∷ w) ∷ pieces_of rest)) digit)
    ∙ ap (λ r. followed r (tokens_at (at + (1 + length (c ∷ w))) (pieces_of rest)))
    (negative_is at (c ∷ w) ∙ ap (λ o. number_token at (at + (1 + length (c ∷ w))) (option_map (value_of true) o)) is)

pub negative_reads : (c n : ℕ) (w : List ℕ) → is_digit c ≡ true → Letters (c ∷ w) → number_of (c ∷ w) ≡ Some n → Reads (45 ∷ c ∷ w) (Number (neg_ℤ (pos n)))
negative_reads c n w digit letters is = record {
  cut = λ at rest ends.
      let e : 1 + length (c ∷ w) ≡ length (45 ∷ c ∷ w) = omega arith in
      minus_token at c n w rest digit letters is ends
      ∙ ap (λ k. with_front (token at (at + k) (Number (neg_ℤ (pos n)))) (lexed_at (at + k) rest)) e;
  unbroken = (refl, refl, letters_unbroken (c ∷ w) letters);
}

pub blank_marks : Marks 32 (λ at. [])
unfolding lexed_at tokens_at pieces_of size_of token_of sign_token followed is_letter is_digit
blank_marks = record { cut = λ at rest. refl; ends = refl; unbroken = (refl, refl, tt) }

pub comma_marks : Marks 44 (λ at. token at (at + 1) Comma)
unfolding lexed_at tokens_at pieces_of size_of token_of sign_token followed is_letter is_digit
comma_marks = record { cut = λ at rest. refl; ends = refl; unbroken = (refl, refl, tt) }

pub open_marks : Marks 40 (λ at. token at (at + 1) Open)
unfolding lexed_at tokens_at pieces_of size_of token_of sign_token followed is_letter is_digit
open_marks = record { cut = λ at rest. refl; ends = refl; unbroken = (refl, refl, tt) }

pub close_marks : Marks 41 (λ at. token at (at + 1) Close)
unfolding lexed_at tokens_at pieces_of size_of token_of sign_token followed is_letter is_digit
close_marks = record { cut = λ at rest. refl; ends = refl; unbroken = (refl, refl, tt) }

-- a part of a line: a name or a number, or a byte between them
pub data Part : Type 0 where
  Said : (text : List ℕ) (kind : Kind) → Part
  Blank : Part
  CommaPart : Part
  OpenPart : Part
  ClosePart : Part

abbrev pub text_in : Part → List ℕ
text_in (Said text kind) = text
text_in Blank = 32 ∷ []
text_in CommaPart = 44 ∷ []
text_in OpenPart = 40 ∷ []
text_in ClosePart = 41 ∷ []

-- the parts one behind another
abbrev pub written : List Part → List ℕ
written [] = []
written (p ∷ []) = text_in p
written (p ∷ q ∷ ps) = text_in p ++ written (q ∷ ps)

-- their tokens, the first from this place on
abbrev pub part_tokens : ℕ → List Part → List Token
part_tokens at [] = []
part_tokens at (Said text kind ∷ ps) = record { start = at; end = at + length text; kind = kind } ∷ part_tokens (at + length text) ps
part_tokens at (Blank ∷ ps) = part_tokens (at + 1) ps
part_tokens at (CommaPart ∷ ps) = record { start = at; end = at + 1; kind = Comma } ∷ part_tokens (at + 1) ps
part_tokens at (OpenPart ∷ ps) = record { start = at; end = at + 1; kind = Open } ∷ part_tokens (at + 1) ps
part_tokens at (ClosePart ∷ ps) = record { start = at; end = at + 1; kind = Close } ∷ part_tokens (at + 1) ps

-- no name or number stands at the front
abbrev pub Apart : List Part → Type 0
Apart [] = Unit {0}
Apart (Said text kind ∷ ps) = ⊥
Apart (Blank ∷ ps) = Unit {0}
Apart (CommaPart ∷ ps) = Unit {0}
Apart (OpenPart ∷ ps) = Unit {0}
Apart (ClosePart ∷ ps) = Unit {0}

-- each name and number is one token, and no two of them stand side by side
abbrev pub AreParts : List Part → Type 0
AreParts [] = Unit {0}
AreParts (Said text kind ∷ ps) = Reads text kind × Apart ps × AreParts ps
AreParts (Blank ∷ ps) = AreParts ps
AreParts (CommaPart ∷ ps) = AreParts ps
AreParts (OpenPart ∷ ps) = AreParts ps
AreParts (ClosePart ∷ ps) = AreParts ps

written_more : (p : Part) (ps : List Part) → written (p ∷ ps) ≡ text_in p ++ written ps
written_more p [] = sym (append-nil (text_in p))
written_more p (q ∷ ps) = refl

apart_ends : (ps : List Part) → Apart ps → Ends (written ps)
apart_ends [] apart = tt
apart_ends (Said text kind ∷ ps) apart = absurd apart
apart_ends (Blank ∷ []) apart = blank_marks.ends
apart_ends (Blank ∷ q ∷ ps) apart = blank_marks.ends
apart_ends (CommaPart ∷ []) apart = comma_marks.ends
apart_ends (CommaPart ∷ q ∷ ps) apart = comma_marks.ends
apart_ends (OpenPart ∷ []) apart = open_marks.ends
apart_ends (OpenPart ∷ q ∷ ps) apart = open_marks.ends
apart_ends (ClosePart ∷ []) apart = close_marks.ends
apart_ends (ClosePart ∷ q ∷ ps) apart = close_marks.ends

-- a line in parts has their tokens
pub line_tokens : (at : ℕ) (ps : List Part) → AreParts ps → lexed_at at (written ps) ≡ Ok (part_tokens at ps)
unfolding lexed_at tokens_at pieces_of with_front
line_tokens at [] line = refl
line_tokens at (Said text kind ∷ ps) line =
    ap (lexed_at at) (written_more (Said text kind) ps)
    ∙ line.0.cut at (written ps) (apart_ends ps line.1)
    ∙ ap (with_front (token at (at + length text) kind)) (line_tokens (at + length text) ps line.2)
line_tokens at (Blank ∷ ps) line =
    ap (lexed_at at) (written_more Blank ps) ∙ blank_marks.cut at (written ps) ∙ ap (with_front []) (line_tokens (at + 1) ps line)
line_tokens at (CommaPart ∷ ps) line =
    ap (lexed_at at) (written_more CommaPart ps) ∙ comma_marks.cut at (written ps)
    ∙ ap (with_front (token at (at + 1) Comma)) (line_tokens (at + 1) ps line)
line_tokens at (OpenPart ∷ ps) line =
    ap (lexed_at at) (written_more OpenPart ps) ∙ open_marks.cut at (written ps)
    ∙ ap (with_front (token at (at + 1) Open)) (line_tokens (at + 1) ps line)
line_tokens at (ClosePart ∷ ps) line =
    ap (lexed_at at) (written_more ClosePart ps) ∙ close_marks.cut at (written ps)
    ∙ ap (with_front (token at (at + 1) Close)) (line_tokens (at + 1) ps line)

-- each name and number is what the line has at its token
abbrev pub Shows : List ℕ → ℕ → List Part → Type 0
Shows line at [] = Unit {0}
Shows line at (Said text kind ∷ ps) = (drop at (take (at + length text) line) ≡ text) × Shows line (at + length text) ps
Shows line at (Blank ∷ ps) = Shows line (at + 1) ps
Shows line at (CommaPart ∷ ps) = Shows line (at + 1) ps
Shows line at (OpenPart ∷ ps) = Shows line (at + 1) ps
Shows line at (ClosePart ∷ ps) = Shows line (at + 1) ps

behind : (line text rest : List ℕ) (at : ℕ) → drop at line ≡ text ++ rest → drop (at + length text) line ≡ rest
behind line text rest at is = sym (drop-drop (length text) at line) ∙ ap (drop (length text)) is ∙ drop-append_seam text rest

shows_from : (line : List ℕ) (at : ℕ) (ps : List Part) → drop at line ≡ written ps → Shows line at ps
shows_from line at [] is = tt
shows_from line at (Said text kind ∷ ps) is =
    let cut : drop at line ≡ text ++ written ps = is ∙ written_more (Said text kind) ps in (
      drop-take at (length text) line ∙ ap (take (length text)) cut ∙ take-append_seam text (written ps),
      shows_from line (at + length text) ps (behind line text (written ps) at cut),
    )
shows_from line at (Blank ∷ ps) is = shows_from line (at + 1) ps (behind line (32 ∷ []) (written ps) at (is ∙ written_more Blank ps))
shows_from line at (CommaPart ∷ ps) is = shows_from line (at + 1) ps (behind line (44 ∷ []) (written ps) at (is ∙ written_more CommaPart ps))
shows_from line at (OpenPart ∷ ps) is = shows_from line (at + 1) ps (behind line (40 ∷ []) (written ps) at (is ∙ written_more OpenPart ps))
shows_from line at (ClosePart ∷ ps) is = shows_from line (at + 1) ps (behind line (41 ∷ []) (written ps) at (is ∙ written_more ClosePart ps))

pub line_shows : (ps : List Part) → Shows (written ps) 0 ps
line_shows ps = shows_from (written ps) 0 ps refl

unbroken_both : (xs ys : List ℕ) → Unbroken xs → Unbroken ys → Unbroken (xs ++ ys)
unbroken_both [] ys front back = back
unbroken_both (x ∷ xs) ys front back = (front.0, front.1, unbroken_both xs ys front.2 back)

pub line_unbroken : (ps : List Part) → AreParts ps → Unbroken (written ps)
line_unbroken [] line = tt
line_unbroken (Said text kind ∷ []) line = line.0.unbroken
line_unbroken (Said text kind ∷ q ∷ ps) line = unbroken_both text (written (q ∷ ps)) line.0.unbroken (line_unbroken (q ∷ ps) line.2)
line_unbroken (Blank ∷ []) line = blank_marks.unbroken
line_unbroken (Blank ∷ q ∷ ps) line = (refl, refl, line_unbroken (q ∷ ps) line)
line_unbroken (CommaPart ∷ []) line = comma_marks.unbroken
line_unbroken (CommaPart ∷ q ∷ ps) line = (refl, refl, line_unbroken (q ∷ ps) line)
line_unbroken (OpenPart ∷ []) line = open_marks.unbroken
line_unbroken (OpenPart ∷ q ∷ ps) line = (refl, refl, line_unbroken (q ∷ ps) line)
line_unbroken (ClosePart ∷ []) line = close_marks.unbroken
line_unbroken (ClosePart ∷ q ∷ ps) line = (refl, refl, line_unbroken (q ∷ ps) line)

cut_one : (c : ℕ) (cs : List ℕ) → Unbroken (c ∷ cs) → cut_of (c ∷ cs) ≡ (c ∷ cs) ∷ []
unfolding cut_of
cut_one c [] whole = ap (λ b. cond b ([] ∷ []) ((c ∷ []) ∷ [])) whole.0
cut_one c (d ∷ ds) whole =
    ap (λ b. cond b ([] ∷ cut_of (d ∷ ds)) (onto c (cut_of (d ∷ ds)))) whole.0 ∙ ap (onto c) (cut_one d ds whole.2)

returned_same : (c : ℕ) (cs : List ℕ) → Unbroken (c ∷ cs) → returned (c ∷ cs) ≡ c ∷ cs
unfolding returned
returned_same c [] whole = ap (λ b. cond b [] (c ∷ [])) whole.1
returned_same c (d ∷ ds) whole = ap (λ ds. c ∷ ds) (returned_same d ds whole.2)

-- a text that no byte breaks is one line
pub one_line : (c : ℕ) (cs : List ℕ) → Unbroken (c ∷ cs) → lines_of (c ∷ cs) ≡ (c ∷ cs) ∷ []
unfolding lines_of
one_line c cs whole = ap (map returned) (cut_one c cs whole) ∙ ap (λ line. line ∷ []) (returned_same c cs whole)

-- a text that can be a name
abbrev pub all_letters : List ℕ → Bool
all_letters [] = true
all_letters (c ∷ cs) = is_letter c && all_letters cs

abbrev pub is_name : List ℕ → Bool
is_name [] = false
is_name (c ∷ cs) = not (is_digit c) && all_letters (c ∷ cs)

all_are : (cs : List ℕ) → all_letters cs ≡ true → Letters cs
all_are [] all = tt
all_are (c ∷ cs) all = let parts = and_parts (is_letter c) (all_letters cs) all in (parts.0, all_are cs parts.1)

not_true : (b : Bool) → not b ≡ true → b ≡ false
not_true true e = cc
not_true false e = refl

pub name_said : (w : List ℕ) → is_name w ≡ true → Reads w Name
name_said [] is = cc
name_said (c ∷ cs) is =
    let parts = and_parts (not (is_digit c)) (all_letters (c ∷ cs)) is in
    name_reads c cs (not_true (is_digit c) parts.0) (all_are (c ∷ cs) parts.1)
