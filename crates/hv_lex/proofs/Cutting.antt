-- The first piece of a text, from how many letters stand at its front.
use Rattle.std.proofs.Common.{◌≡◌, ◌≢◌, ℕ, zero, suc, ◌+◌, ◌<◌, ◌≤◌, nat_eq, true, false, cond, Option, Some, None, List, [], ◌∷◌, ◌++◌, length, get_or, take, drop, Ok, Err, Result, refl, sym, ap, ◌∙◌, arith, drop-cons, add-one, one-add, append_assoc, append-nil}
use Rattle.std.specs.Option.{option_map, option_to_list}
use Rattle.std.proofs.lemmas.Bool.{ne_eqb}
use Rattle.std.proofs.lemmas.List.{drop_all, nil_from_length}
use Rattle.std.proofs.Math.ListN.{length-take}
use Rattle.hv_lex.specs.declared.Kind.TheVariants.{Name}
use Rattle.hv_lex.specs.declared.LexEnd.TheVariants.{BadByte, BadNumber, Memory}
use Rattle.hv_lex.specs.Lexed.{Refuses}
use Rattle.hv_lex.specs.Numbers.{number_of}
use Rattle.hv_lex.specs.Tokens.{Piece, Rise, StandsAt, Word, Minus, Comment, Sign, is_letter, is_digit, lengthened, signed, begins_number, pieces_of, size_of, token_of, tokens_at, lexed_at, followed, with_front, is_plain, comment_from, sign_token, number_token, value_of, token}
use Rattle.hv_lex.specs.declared.Token.{Token}
use Rattle.hv_lex.specs.declared.LexEnd.{LexEnd}

-- what is no letter begins no word
after_signed : (c : ℕ) (ps : List Piece) → lengthened c (signed ps) ≡ Word (c ∷ []) ∷ signed ps
unfolding lengthened signed
after_signed c [] = refl
after_signed c (Word text ∷ ps) =
    elim (begins_number text) as (λ b. lengthened c (cond b (Minus text ∷ ps) (Sign 45 ∷ Word text ∷ ps)) ≡ Word (c ∷ []) ∷ cond b (Minus text ∷ ps) (Sign 45 ∷ Word text ∷ ps))
    [ true ↦ refl | false ↦ refl ]
after_signed c (Minus text ∷ ps) = refl
after_signed c (Comment text ∷ ps) = refl
after_signed c (Sign byte ∷ ps) = refl

signed_twice : (ps : List Piece) → signed (signed ps) ≡ Sign 45 ∷ signed ps
unfolding signed
signed_twice [] = refl
signed_twice (Word text ∷ ps) =
    elim (begins_number text) as (λ b. signed (cond b (Minus text ∷ ps) (Sign 45 ∷ Word text ∷ ps)) ≡ Sign 45 ∷ cond b (Minus text ∷ ps) (Sign 45 ∷ Word text ∷ ps))
    [ true ↦ refl | false ↦ refl ]
signed_twice (Minus text ∷ ps) = refl
signed_twice (Comment text ∷ ps) = refl
signed_twice (Sign byte ∷ ps) = refl

minus_nothing : signed (pieces_of []) ≡ Sign 45 ∷ pieces_of []
unfolding signed pieces_of
minus_nothing = refl

pieces_other : (d : ℕ) (ds : List ℕ) → is_letter d ≡ false → pieces_of (d ∷ ds) ≡ cond (nat_eq d 35) (Comment ds ∷ []) (cond (nat_eq d 45) (signed (pieces_of ds)) (Sign d ∷ pieces_of ds))
unfolding pieces_of
pieces_other d ds other = ap (λ b. cond b (lengthened d (pieces_of ds)) (cond (nat_eq d 35) (Comment ds ∷ []) (cond (nat_eq d 45) (signed (pieces_of ds)) (Sign d ∷ pieces_of ds)))) other

pub after_other : (c d : ℕ) (ds : List ℕ) → is_letter d ≡ false → lengthened c (pieces_of (d ∷ ds)) ≡ Word (c ∷ []) ∷ pieces_of (d ∷ ds)
unfolding lengthened
after_other c d ds other =
    rw (pieces_other d ds other) (
    elim (nat_eq d 35) as (λ b. lengthened c (cond b (Comment ds ∷ []) (cond (nat_eq d 45) (signed (pieces_of ds)) (Sign d ∷ pieces_of ds))) ≡ Word (c ∷ []) ∷ cond b (Comment ds ∷ []) (cond (nat_eq d 45) (signed (pieces_of ds)) (Sign d ∷ pieces_of ds))) [
      | true ↦ refl
      | false ↦
          elim (nat_eq d 45) as (λ b. lengthened c (cond b (signed (pieces_of ds)) (Sign d ∷ pieces_of ds)) ≡ Word (c ∷ []) ∷ cond b (signed (pieces_of ds)) (Sign d ∷ pieces_of ds))
          [ true ↦ after_signed c (pieces_of ds) | false ↦ refl ]
    ])

pub pieces_letter : (c : ℕ) (cs : List ℕ) → is_letter c ≡ true → pieces_of (c ∷ cs) ≡ lengthened c (pieces_of cs)
unfolding pieces_of
pieces_letter c cs letter = ap (λ b. cond b (lengthened c (pieces_of cs)) (cond (nat_eq c 35) (Comment cs ∷ []) (cond (nat_eq c 45) (signed (pieces_of cs)) (Sign c ∷ pieces_of cs)))) letter

-- letters at the front, as many as there are, are a word
word_cut : (s : List ℕ) (n : ℕ) → suc n ≤ length s → ((k : ℕ) → k < suc n → is_letter (get_or s k 0) ≡ true) → (suc n < length s → is_letter (get_or s (suc n) 0) ≡ false) → pieces_of s ≡ Word (take (suc n) s) ∷ pieces_of (drop (suc n) s)
unfolding lengthened pieces_of
word_cut [] n within letters ends = absurd (omega arith)
word_cut (c ∷ []) zero within letters ends = pieces_letter c [] (letters zero (omega arith))
word_cut (c ∷ d ∷ ds) zero within letters ends = pieces_letter c (d ∷ ds) (letters zero (omega arith)) ∙ after_other c d ds (ends (omega arith))
word_cut (c ∷ cs) (suc n) within letters ends =
    pieces_letter c cs (letters zero (omega arith))
    ∙ ap (lengthened c) (word_cut cs n (omega arith) (λ k h. letters (suc k) (omega arith)) (λ h. ends (omega arith)))

word_front : (n : ℕ) (s : List ℕ) → 0 < n → n ≤ length s → ((k : ℕ) → k < n → is_letter (get_or s k 0) ≡ true) → (n < length s → is_letter (get_or s n 0) ≡ false) → pieces_of s ≡ Word (take n s) ∷ pieces_of (drop n s)
word_front zero s some within letters ends = absurd (omega arith)
word_front (suc n) s some within letters ends = word_cut s n within letters ends

pub lexed_word : (at n : ℕ) (s : List ℕ) → 0 < n → n ≤ length s → ((k : ℕ) → k < n → is_letter (get_or s k 0) ≡ true) → (n < length s → is_letter (get_or s n 0) ≡ false) → lexed_at at s ≡ followed (token_of at (Word (take n s))) (lexed_at (at + n) (drop n s))
unfolding lexed_at tokens_at size_of
lexed_word at n s some within letters ends =
    let e : length (take n s) ≡ n = omega (arith, length-take n s) in
    ap (tokens_at at) (word_front n s some within letters ends)
    ∙ ap (λ k. followed (token_of at (Word (take n s))) (tokens_at (at + k) (pieces_of (drop n s)))) e

-- the tokens of the first piece, and those behind it
pub lexed_ok : (at : ℕ) (s : List ℕ) (r behind : Result (List Token) LexEnd) (front : List Token) → lexed_at at s ≡ followed r behind → r ≡ Ok front → lexed_at at s ≡ with_front front behind
unfolding followed
lexed_ok at s r behind front cut is = cut ∙ ap (λ r. followed r behind) is

pub lexed_err : (at : ℕ) (s : List ℕ) (r behind : Result (List Token) LexEnd) (end : LexEnd) → lexed_at at s ≡ followed r behind → r ≡ Err end → lexed_at at s ≡ Err end
unfolding followed
lexed_err at s r behind end cut is = cut ∙ ap (λ r. followed r behind) is

-- a byte alone
pub lexed_sign : (at c : ℕ) (t : List ℕ) → is_letter c ≡ false → c ≢ 35 → c ≢ 45 → lexed_at at (c ∷ t) ≡ followed (sign_token at c) (lexed_at (at + 1) t)
unfolding lexed_at tokens_at size_of token_of
lexed_sign at c t other no_comment no_minus =
    ap (tokens_at at)
    (pieces_other c t other
    ∙ ap (λ b. cond b (Comment t ∷ []) (cond (nat_eq c 45) (signed (pieces_of t)) (Sign c ∷ pieces_of t))) (ne_eqb c 35 no_comment)
    ∙ ap (λ b. cond b (signed (pieces_of t)) (Sign c ∷ pieces_of t)) (ne_eqb c 45 no_minus))

-- a comment
comment_only : (at : ℕ) (r : Result (List Token) LexEnd) → followed r (Ok []) ≡ followed r (lexed_at at [])
unfolding lexed_at tokens_at pieces_of
comment_only at r = refl

pub lexed_comment : (at n : ℕ) (t : List ℕ) → n ≡ length t → lexed_at at (35 ∷ t) ≡ followed (comment_from (at + 1) t) (lexed_at (at + (1 + n)) (drop (1 + n) (35 ∷ t)))
unfolding lexed_at tokens_at pieces_of token_of is_letter is_digit
lexed_comment at n t all =
    comment_only (at + (1 + n)) (comment_from (at + 1) t)
    ∙ ap (λ s. followed (comment_from (at + 1) t) (lexed_at (at + (1 + n)) s)) (sym (drop_all (1 + n) (35 ∷ t) (omega arith)))

pub comment_bad : (at i : ℕ) (s : List ℕ) → i < length s → is_plain (get_or s i 0) ≡ false → comment_from (at + i) (drop i s) ≡ comment_from at s → comment_from at s ≡ Err (BadByte (at + i))
unfolding comment_from
comment_bad at i s lt bad rest =
    sym rest ∙ ap (comment_from (at + i)) (drop-cons s i 0 lt)
    ∙ ap (λ b. cond b (comment_from (at + i + 1) (drop (suc i) s)) (Err (BadByte (at + i)))) bad

pub comment_more : (at i : ℕ) (s : List ℕ) → i < length s → is_plain (get_or s i 0) ≡ true → comment_from (at + i) (drop i s) ≡ comment_from at s → comment_from (at + (i + 1)) (drop (i + 1) s) ≡ comment_from at s
unfolding comment_from
comment_more at i s lt good rest =
    let e : at + (i + 1) ≡ at + i + 1 = omega arith in
    rw (e, add-one i) (
    sym (ap (λ b. cond b (comment_from (at + i + 1) (drop (suc i) s)) (Err (BadByte (at + i)))) good)
    ∙ sym (ap (comment_from (at + i)) (drop-cons s i 0 lt)) ∙ rest)

pub comment_end : (at i : ℕ) (s : List ℕ) → length s ≤ i → comment_from (at + i) (drop i s) ≡ comment_from at s → comment_from at s ≡ Ok []
unfolding comment_from
comment_end at i s end rest = sym rest ∙ ap (comment_from (at + i)) (drop_all i s end)

-- a minus and the word behind it
begins_some : (n : ℕ) (t : List ℕ) → begins_number (take n t) ≡ true → 0 < n
unfolding begins_number
begins_some zero t b = cc
begins_some (suc n) t b = omega arith

pub minus_word : (at n : ℕ) (t w : List ℕ) (ps : List Piece) → pieces_of t ≡ Word w ∷ ps → pieces_of (45 ∷ t) ≡ cond (begins_number w) (Minus w ∷ ps) (Sign 45 ∷ Word w ∷ ps)
unfolding pieces_of signed is_letter is_digit
minus_word at n t w ps cut = ap signed cut

pub lexed_minus : (at n : ℕ) (t : List ℕ) → n ≤ length t → ((k : ℕ) → k < n → is_letter (get_or t k 0) ≡ true) → (n < length t → is_letter (get_or t n 0) ≡ false) → begins_number (take n t) ≡ true → lexed_at at (45 ∷ t) ≡ followed (token_of at (Minus (take n t))) (lexed_at (at + (1 + n)) (drop (1 + n) (45 ∷ t)))
unfolding lexed_at tokens_at size_of
lexed_minus at n t within letters ends number =
    let some : 0 < n = begins_some n t number in
    let e : length (take n t) ≡ n = omega (arith, length-take n t) in
    ap (tokens_at at)
    (minus_word at n t (take n t) (pieces_of (drop n t)) (word_front n t some within letters ends)
    ∙ ap (λ b. cond b (Minus (take n t) ∷ pieces_of (drop n t)) (Sign 45 ∷ Word (take n t) ∷ pieces_of (drop n t))) number)
    ∙ ap (λ k. followed (token_of at (Minus (take n t))) (tokens_at (at + (1 + k)) (pieces_of (drop n t)))) e
    ∙ ap (λ s. followed (token_of at (Minus (take n t))) (tokens_at (at + (1 + n)) (pieces_of s))) (rw one-add refl)

-- a minus that no number follows
minus_other : (d : ℕ) (ds : List ℕ) → is_letter d ≡ false → signed (pieces_of (d ∷ ds)) ≡ Sign 45 ∷ pieces_of (d ∷ ds)
unfolding signed
minus_other d ds other =
    rw (pieces_other d ds other) (
    elim (nat_eq d 35) as (λ b. signed (cond b (Comment ds ∷ []) (cond (nat_eq d 45) (signed (pieces_of ds)) (Sign d ∷ pieces_of ds))) ≡ Sign 45 ∷ cond b (Comment ds ∷ []) (cond (nat_eq d 45) (signed (pieces_of ds)) (Sign d ∷ pieces_of ds))) [
      | true ↦ refl
      | false ↦
          elim (nat_eq d 45) as (λ b. signed (cond b (signed (pieces_of ds)) (Sign d ∷ pieces_of ds)) ≡ Sign 45 ∷ cond b (signed (pieces_of ds)) (Sign d ∷ pieces_of ds))
          [ true ↦ signed_twice (pieces_of ds) | false ↦ refl ]
    ])

minus_front : (n : ℕ) (t : List ℕ) → n ≤ length t → ((k : ℕ) → k < n → is_letter (get_or t k 0) ≡ true) → (n < length t → is_letter (get_or t n 0) ≡ false) → begins_number (take n t) ≡ false → signed (pieces_of t) ≡ Sign 45 ∷ pieces_of t
unfolding signed
minus_front zero [] within letters ends none = minus_nothing
minus_front zero (d ∷ ds) within letters ends none = minus_other d ds (ends (omega arith))
minus_front (suc n) t within letters ends none =
    rw (word_cut t n within letters ends)
    (ap (λ b. cond b (Minus (take (suc n) t) ∷ pieces_of (drop (suc n) t)) (Sign 45 ∷ Word (take (suc n) t) ∷ pieces_of (drop (suc n) t))) none)

minus_pieces : (t : List ℕ) → pieces_of (45 ∷ t) ≡ signed (pieces_of t)
unfolding pieces_of is_letter is_digit
minus_pieces t = refl

minus_refused : (at : ℕ) (ps : List Piece) → tokens_at at (Sign 45 ∷ ps) ≡ Err (BadByte at)
unfolding tokens_at token_of sign_token followed
minus_refused at ps = refl

pub lexed_minus_bad : (at n : ℕ) (t : List ℕ) → n ≤ length t → ((k : ℕ) → k < n → is_letter (get_or t k 0) ≡ true) → (n < length t → is_letter (get_or t n 0) ≡ false) → begins_number (take n t) ≡ false → lexed_at at (45 ∷ t) ≡ Err (BadByte at)
unfolding lexed_at
lexed_minus_bad at n t within letters ends none =
    ap (tokens_at at) (minus_pieces t ∙ minus_front n t within letters ends none) ∙ minus_refused at (pieces_of t)

-- the token of a word
pub name_is : (at : ℕ) (w : List ℕ) → begins_number w ≡ false → token_of at (Word w) ≡ Ok (token at (at + length w) Name)
unfolding token_of
name_is at w none = ap (λ b. cond b (number_token at (at + length w) (option_map (value_of false) (number_of w))) (Ok (token at (at + length w) Name))) none

pub number_is : (at : ℕ) (w : List ℕ) → begins_number w ≡ true → token_of at (Word w) ≡ number_token at (at + length w) (option_map (value_of false) (number_of w))
unfolding token_of
number_is at w some = ap (λ b. cond b (number_token at (at + length w) (option_map (value_of false) (number_of w))) (Ok (token at (at + length w) Name))) some

pub negative_is : (at : ℕ) (w : List ℕ) → token_of at (Minus w) ≡ number_token at (at + (1 + length w)) (option_map (value_of true) (number_of w))
unfolding token_of
negative_is at w = refl

-- tokens in front of those in front
pub fronts : (xs ys zs : List Token) (r all : Result (List Token) LexEnd) → zs ≡ xs ++ ys → with_front xs (with_front ys r) ≡ all → with_front zs r ≡ all
unfolding with_front
fronts xs ys zs (Ok ts) all is rest = ap (λ l. Ok (l ++ ts)) is ∙ ap (λ (l : List Token). let r : Result (List Token) LexEnd = Ok l in r) (append_assoc xs ys ts) ∙ rest
fronts xs ys zs (Err e) all is rest = rest

pub none_in_front : (r : Result (List Token) LexEnd) → with_front [] r ≡ r
unfolding with_front
none_in_front (Ok ts) = refl
none_in_front (Err e) = refl

pub refuses : (e : LexEnd) (line : Result (List Token) LexEnd) → line ≡ Err e → Refuses e line
refuses (BadByte at) line is = is
refuses (BadNumber at) line is = is
refuses Memory line is = tt

-- the first piece of what is left is refused
pub told_refused : (at : ℕ) (ts : List Token) (rest : List ℕ) (all : Result (List Token) LexEnd) (e : LexEnd) → with_front ts (lexed_at at rest) ≡ all → lexed_at at rest ≡ Err e → all ≡ Err e
unfolding with_front
told_refused at ts rest all e told is = sym told ∙ ap (with_front ts) is

-- or it is read
pub told_more : (at n : ℕ) (ts us new : List Token) (rest behind : List ℕ) (all : Result (List Token) LexEnd) → with_front ts (lexed_at at rest) ≡ all → lexed_at at rest ≡ with_front us (lexed_at (at + n) (drop n rest)) → new ≡ ts ++ us → behind ≡ drop n rest → with_front new (lexed_at (at + n) behind) ≡ all
told_more at n ts us new rest behind all told is grown left =
    ap (λ s. with_front new (lexed_at (at + n) s)) left
    ∙ fronts ts us new (lexed_at (at + n) (drop n rest)) all grown (ap (with_front ts) (sym is) ∙ told)

pub told_all : (at : ℕ) (ts : List Token) (rest : List ℕ) (all : Result (List Token) LexEnd) → length rest ≡ 0 → with_front ts (lexed_at at rest) ≡ all → all ≡ Ok ts
unfolding with_front lexed_at tokens_at pieces_of
told_all at ts rest all none told =
    sym told ∙ ap (λ s. with_front ts (lexed_at at s)) (nil_from_length rest none) ∙ ap (λ (l : List Token). let r : Result (List Token) LexEnd = Ok l in r) (append-nil ts)

pub rise_none : (ts : List Token) (at : ℕ) → ts ≡ [] → Rise 0 ts at
rise_none [] at is = omega arith
rise_none (t ∷ ts) at is = cc

pub rise_end : (from : ℕ) (ts : List Token) (at to : ℕ) → Rise from ts at → at ≤ to → Rise from ts to
rise_end from [] at to rise le = omega arith
rise_end from (t ∷ ts) at to rise le = (rise.0, rise.1, rise_end t.end ts at to rise.2 le)

rise_one : (from : ℕ) (ts : List Token) (at size : ℕ) (t : Token) → Rise from ts at → StandsAt at size (Some t) → Rise from (ts ++ t ∷ []) (at + size)
rise_one from [] at size t rise stands = (omega arith, omega arith, omega arith)
rise_one from (u ∷ ts) at size t rise stands = (rise.0, rise.1, rise_one u.end ts at size t rise.2 stands)

rise_found : (ts : List Token) (at size : ℕ) (found : Option Token) → Rise 0 ts at → StandsAt at size found → Rise 0 (ts ++ option_to_list found) (at + size)
rise_found ts at size None rise stands = rw (append-nil) (rise_end 0 ts at (at + size) rise (omega arith))
rise_found ts at size (Some t) rise stands = rise_one 0 ts at size t rise stands

pub rise_more : (ts new : List Token) (at size : ℕ) (found : Option Token) → Rise 0 ts at → StandsAt at size found → new ≡ ts ++ option_to_list found → Rise 0 new (at + size)
rise_more ts new at size found rise stands is = rw is (rise_found ts at size found rise stands)

some_letters : (n : ℕ) (s : List ℕ) → 0 < length s → is_letter (get_or s 0 0) ≡ true → (n < length s → is_letter (get_or s n 0) ≡ false) → 0 < n
some_letters zero s some letter ends = let e : is_letter (get_or s 0 0) ≡ false = ends some in cc
some_letters (suc n) s some letter ends = omega arith

-- n letters stand at the front of a text, which are w
module _ (at n : ℕ) (s w : List ℕ) (within : n ≤ length s) (letters : (k : ℕ) → k < n → is_letter (get_or s k 0) ≡ true) (ends : n < length s → is_letter (get_or s n 0) ≡ false) (front : w ≡ take n s) where
  front_size : length w ≡ n
  front_size = ap length front ∙ omega (arith, length-take n s)

  word_is : 0 < length s → is_letter (get_or s 0 0) ≡ true → (r : Result (List Token) LexEnd) → token_of at (Word w) ≡ r → lexed_at at s ≡ followed r (lexed_at (at + n) (drop n s))
  word_is some letter r is =
      lexed_word at n s (some_letters n s some letter ends) within letters ends
      ∙ ap (λ w. followed (token_of at (Word w)) (lexed_at (at + n) (drop n s))) (sym front)
      ∙ ap (λ r. followed r (lexed_at (at + n) (drop n s))) is

  pub word_name : 0 < length s → is_letter (get_or s 0 0) ≡ true → begins_number w ≡ false → lexed_at at s ≡ with_front (token at (at + n) Name) (lexed_at (at + n) (drop n s))
  unfolding followed
  word_name some letter name = word_is some letter _ (name_is at w name ∙ ap (λ k. Ok (token at (at + k) Name)) front_size)

  pub word_number : 0 < length s → is_letter (get_or s 0 0) ≡ true → begins_number w ≡ true → (r : Result (List Token) LexEnd) → number_token at (at + n) (option_map (value_of false) (number_of w)) ≡ r → lexed_at at s ≡ followed r (lexed_at (at + n) (drop n s))
  word_number some letter number r is =
      word_is some letter r (number_is at w number ∙ ap (λ k. number_token at (at + k) (option_map (value_of false) (number_of w))) front_size ∙ is)

  pub minus_number : begins_number w ≡ true → (r : Result (List Token) LexEnd) → number_token at (at + (1 + n)) (option_map (value_of true) (number_of w)) ≡ r → lexed_at at (45 ∷ s) ≡ followed r (lexed_at (at + (1 + n)) (drop (1 + n) (45 ∷ s)))
  minus_number number r is =
      lexed_minus at n s within letters ends (ap begins_number (sym front) ∙ number)
      ∙ ap (λ w. followed (token_of at (Minus w)) (lexed_at (at + (1 + n)) (drop (1 + n) (45 ∷ s)))) (sym front)
      ∙ ap (λ r. followed r (lexed_at (at + (1 + n)) (drop (1 + n) (45 ∷ s))))
      (negative_is at w ∙ ap (λ k. number_token at (at + (1 + k)) (option_map (value_of true) (number_of w))) front_size ∙ is)

  pub minus_alone : begins_number w ≡ false → lexed_at at (45 ∷ s) ≡ Err (BadByte at)
  minus_alone none = lexed_minus_bad at n s within letters ends (ap begins_number (sym front) ∙ none)
