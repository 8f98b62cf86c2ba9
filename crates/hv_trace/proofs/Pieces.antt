-- The words and numbers of a row's text: how they are read from the front, and that no two begin alike.
use Rattle.std.proofs.Common.{◌≡◌, ◌≢◌, ℕ, zero, suc, ◌^◌, ◌<◌, List, [], ◌∷◌, ◌++◌, length, slice_index, take, drop, Some, Result, Ok, Err, refl, sym, ap, subst, ◌∙◌, append_assoc, arith, decimal}
use Rattle.std.specs.Prelude.{MatchResult}
use Rattle.std.specs.Int.{w32, to_be_bytes, from_be_bytes}
use Rattle.std.specs.Str.Parse.{AllDigits, digits_value}
use Rattle.std.proofs.lemmas.Fmt.{decimal_is_IsNumeral, decimal_injective}
use Rattle.std.proofs.lemmas.List.{take_at, drop_at, length-append}
use Rattle.std.proofs.lemmas.Str.Parse.{digit_at}
use Rattle.std.proofs.lemmas.Nat.{from_be_bytes-to_be_bytes_4}
use Rattle.hex.specs.Hex.{IsBytes, decode_sized, lower_digits}
use Rattle.hex.specs.declared.error.FromHexError.{FromHexError}
use Rattle.hex.proofs.HexLemmas.{length-encode_with, decode_sized-encode_lower}
use Rattle.hv_lex.specs.Numbers.{number_of}
use Rattle.hv_lex.proofs.Spelled.{decimal_number}
use Rattle.hv_text.specs.Text.{hex8}
use Rattle.hv_trace.specs.Rows.{IsOfWords}
use Rattle.hv_trace.specs.Text.{IsChange, change_text, number_text, pair_text, stored_text}

-- ---- words of eight digits

pub length-hex8 : (w : ℕ) → length (hex8 w) ≡ 8
unfolding hex8
length-hex8 w = length-encode_with lower_digits (to_be_bytes w32 w)

bytes_of_word : (w : ℕ) → IsBytes (to_be_bytes w32 w)
bytes_of_word w zero = omega arith
bytes_of_word w (suc zero) = omega arith
bytes_of_word w (suc (suc zero)) = omega arith
bytes_of_word w (suc (suc (suc zero))) = omega arith
bytes_of_word w (suc (suc (suc (suc i)))) = omega arith

-- the digits of a word are decoded to its bytes
hex8_decoded : (w : ℕ) → decode_sized (hex8 w) 4 ≡ Ok (to_be_bytes w32 w)
unfolding hex8
hex8_decoded w = decode_sized-encode_lower (to_be_bytes w32 w) 4 refl (bytes_of_word w)

pub short : (text behind : List ℕ) (w : ℕ) → length text < 8 → text ≡ hex8 w ++ behind → ⊥
short text behind w lt e = omega (arith, ap length e, length-append (hex8 w) behind, length-hex8 w)

pub front_is : (text front rest behind : List ℕ) (w : ℕ) → length front ≡ 8 → front ++ rest ≡ text
    → text ≡ hex8 w ++ behind → (front ≡ hex8 w) × (rest ≡ behind)
front_is text front rest behind w len parts e =
    let same : front ++ rest ≡ hex8 w ++ behind = parts ∙ e in (
      sym (take_at front rest 8 len) ∙ ap (take 8) same ∙ take_at (hex8 w) behind 8 (length-hex8 w),
      sym (drop_at front rest 8 len) ∙ ap (drop 8) same ∙ drop_at (hex8 w) behind 8 (length-hex8 w),
    )

-- what the decoder answers at the digits of a word
pub decoded : (front out : List ℕ) (r : Result Unit FromHexError) (w : ℕ) → front ≡ hex8 w
    → MatchResult (decode_sized front 4) (λ bytes. (r ≡ Ok tt) × (out ≡ bytes)) (λ e. r ≡ Err e)
    → (r ≡ Ok tt) × (out ≡ to_be_bytes w32 w)
decoded front out r w e m =
    subst (λ (d : Result (List ℕ) FromHexError). MatchResult d (λ bytes. (r ≡ Ok tt) × (out ≡ bytes)) (λ e. r ≡ Err e))
    (ap (λ (text : List ℕ). decode_sized text 4) e ∙ hex8_decoded w) m

pub word_again : (w : ℕ) → w < 2 ^ 32 → from_be_bytes w32 (to_be_bytes w32 w) ≡ w
word_again w lt = from_be_bytes-to_be_bytes_4 w lt

abbrev ok_bytes : List ℕ → Result (List ℕ) FromHexError
ok_bytes bytes = Ok bytes

same_bytes : (x y : List ℕ) → ok_bytes x ≡ ok_bytes y → x ≡ y
same_bytes x y e = cc

pub one_word : (a b : ℕ) (x y : List ℕ) → a < 2 ^ 32 → b < 2 ^ 32 → hex8 a ++ x ≡ hex8 b ++ y → (a ≡ b) × (x ≡ y)
one_word a b x y p q e =
    let parts = front_is (hex8 a ++ x) (hex8 a) x y b (length-hex8 a) refl e in
    let out = same_bytes (to_be_bytes w32 a) (to_be_bytes w32 b)
    (sym (hex8_decoded a) ∙ ap (λ (text : List ℕ). decode_sized text 4) parts.0 ∙ hex8_decoded b) in
    (sym (word_again a p) ∙ ap (from_be_bytes w32) out ∙ word_again b q, parts.1)

-- ---- numbers before a colon

-- no item is a colon
abbrev pub NoColon : List ℕ → Type 0
NoColon [] = Unit {0}
NoColon (c ∷ cs) = (c ≢ 58) × NoColon cs

pub no_colon_at : (cs : List ℕ) → ((k : ℕ) → k < length cs → slice_index cs k ≢ 58) → NoColon cs
no_colon_at [] h = tt
no_colon_at (c ∷ cs) h = (h 0 (omega arith), no_colon_at cs (λ k lt. h (suc k) (omega arith)))

digits_no_colon : (cs : List ℕ) → AllDigits 10 cs → NoColon cs
digits_no_colon cs all =
    no_colon_at cs (λ k lt is. let digit = digit_at cs k all lt in absurd (omega (arith, digit, is)))

pub decimal_no_colon : (n : ℕ) → n < 2 ^ 32 → NoColon (decimal n)
decimal_no_colon n lt = digits_no_colon (decimal n) (decimal_is_IsNumeral n (omega arith)).0.1

-- the first colon of a text is at one place
pub one_colon : (a b x y : List ℕ) → NoColon a → NoColon b → a ++ 58 ∷ x ≡ b ++ 58 ∷ y → (a ≡ b) × (x ≡ y)
one_colon [] [] x y p q e = (refl, cc)
one_colon [] (c ∷ cs) x y p q e = absurd (q.0 cc)
one_colon (c ∷ cs) [] x y p q e = absurd (p.0 cc)
one_colon (c ∷ cs) (d ∷ ds) x y p q e =
    let head : c ≡ d = cc in
    let rest : cs ++ 58 ∷ x ≡ ds ++ 58 ∷ y = cc in
    let more = one_colon cs ds x y p.1 q.1 rest in
    ((let same : cs ≡ ds = more.0 in cc), more.1)

-- a text with a colon behind a front has one
pub colon_there : (a x : List ℕ) → NoColon (a ++ 58 ∷ x) → ⊥
colon_there [] x h = h.0 refl
colon_there (c ∷ cs) x h = colon_there cs x h.1

number_from : (cs : List ℕ) (n : ℕ) → 0 < length cs → AllDigits 10 cs → digits_value 10 cs ≡ n → n < 2 ^ 32 → number_of cs ≡ Some n
number_from [] n some all is small = absurd (omega arith)
number_from (c ∷ cs) n some all is small = decimal_number c n cs all is small

-- a decimal number is read again
pub number_again : (n : ℕ) → n < 2 ^ 32 → number_of (decimal n) ≡ Some n
number_again n small =
    let is = decimal_is_IsNumeral n (omega arith) in
    number_from (decimal n) n is.0.0 is.0.1 is.1 small

pub one_number : (a b : ℕ) (x y : List ℕ) → a < 2 ^ 32 → b < 2 ^ 32
    → (decimal a ++ 58 ∷ []) ++ x ≡ (decimal b ++ 58 ∷ []) ++ y → (a ≡ b) × (x ≡ y)
one_number a b x y p q e =
    let same : decimal a ++ 58 ∷ x ≡ decimal b ++ 58 ∷ y =
    sym (append_assoc (decimal a) (58 ∷ []) x) ∙ e ∙ append_assoc (decimal b) (58 ∷ []) y in
    let parts = one_colon (decimal a) (decimal b) x y (decimal_no_colon a p) (decimal_no_colon b q) same in
    (decimal_injective a b (omega arith) (omega arith) parts.0, parts.1)

-- what is before the first colon is the number there
pub before_colon : (text front rest behind : List ℕ) (n : ℕ) → ((k : ℕ) → k < length front → slice_index front k ≢ 58)
    → text ≡ front ++ 58 ∷ rest → n < 2 ^ 32 → text ≡ number_text n ++ behind → (front ≡ decimal n) × (rest ≡ behind)
before_colon text front rest behind n none cut small e =
    one_colon front (decimal n) rest behind (no_colon_at front none) (decimal_no_colon n small)
    (sym cut ∙ e ∙ append_assoc (decimal n) (58 ∷ []) behind)

-- ---- pairs and changes

pub same_pair : (a b : ℕ × ℕ) → a.0 ≡ b.0 → a.1 ≡ b.1 → a ≡ b
same_pair a b e f = ap (λ (x : ℕ). (x, a.1)) e ∙ ap (λ (y : ℕ). (b.0, y)) f

pub one_pair : (a b : ℕ × ℕ) (x y : List ℕ) → IsOfWords a → IsOfWords b → pair_text a ++ x ≡ pair_text b ++ y
    → (a ≡ b) × (x ≡ y)
one_pair a b x y p q e =
    let number = one_number a.0 b.0 (hex8 a.1 ++ x) (hex8 b.1 ++ y) p.0 q.0
    (sym (append_assoc (number_text a.0) (hex8 a.1) x) ∙ e ∙ append_assoc (number_text b.0) (hex8 b.1) y) in
    let word = one_word a.1 b.1 x y p.1 q.1 number.1 in
    (same_pair a b number.0 word.0, word.1)

-- what is behind the number of a pair
pub behind_number : (text rest behind : List ℕ) (n : ℕ) (a : ℕ × ℕ) → n < 2 ^ 32 → text ≡ number_text n ++ rest
    → IsOfWords a → text ≡ pair_text a ++ behind → rest ≡ hex8 a.1 ++ behind
behind_number text rest behind n a small cut words e =
    (one_number n a.0 rest (hex8 a.1 ++ behind) small words.0
    (sym cut ∙ e ∙ append_assoc (number_text a.0) (hex8 a.1) behind)).1

pub change_words : (a : ℕ × ℕ) → IsChange a → IsOfWords a
change_words a h = (omega (arith, h.0), h.1)

pub one_change : (a b : ℕ × ℕ) (x y : List ℕ) → IsOfWords a → IsOfWords b → change_text a ++ x ≡ change_text b ++ y
    → (a ≡ b) × (x ≡ y)
one_change a b x y p q e = one_pair a b x y p q (let t : pair_text a ++ x ≡ pair_text b ++ y = cc in t)

-- the pair that is read is the one that is spelled there
pub pair_there : (text rest behind : List ℕ) (a b : ℕ × ℕ) → IsOfWords a → text ≡ pair_text a ++ rest
    → IsOfWords b → text ≡ pair_text b ++ behind → (a ≡ b) × (rest ≡ behind)
pair_there text rest behind a b p cut q e = one_pair a b rest behind p q (sym cut ∙ e)

-- what is behind the pair of a changed word of the storage
pub stored_there : (text rest behind : List ℕ) (a b : ℕ × ℕ) → IsOfWords a → text ≡ pair_text a ++ rest
    → IsOfWords b → text ≡ stored_text b ++ behind → (a ≡ b) × (rest ≡ 10 ∷ behind)
stored_there text rest behind a b p cut q e =
    pair_there text rest (10 ∷ behind) a b p cut q (e ∙ append_assoc (pair_text b) (10 ∷ []) behind)

-- what is behind the pair of a changed word of the registers
pub change_there : (text inner rest behind : List ℕ) (a b : ℕ × ℕ) → text ≡ 32 ∷ inner → IsOfWords a
    → inner ≡ pair_text a ++ rest → IsOfWords b → text ≡ change_text b ++ behind → (a ≡ b) × (rest ≡ behind)
change_there text inner rest behind a b first p cut q e =
    let same : inner ≡ pair_text b ++ behind = cc in
    pair_there inner rest behind a b p cut q same
