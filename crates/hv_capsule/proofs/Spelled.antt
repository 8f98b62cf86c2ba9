-- The words and numbers of a parked machine's text: how they are read from the front, and that no two begin alike.
use Rattle.std.proofs.Common.{◌≡◌, ◌≢◌, ℕ, zero, suc, ◌+◌, ◌-◌, ◌^◌, ◌<◌, ◌≤◌, List, [], ◌∷◌, ◌++◌, length, slice_index, set, take, drop, Some, Result, Ok, Err, refl, sym, ap, subst, ◌∙◌, append_assoc, arith, decimal}
use Rattle.std.specs.Prelude.{MatchResult}
use Rattle.std.specs.Int.{w32, to_le_bytes, from_le_bytes}
use Rattle.std.specs.List.{AllByRecursion}
use Rattle.std.specs.Str.Parse.{AllDigits, digits_value}
use Rattle.std.proofs.lemmas.Fmt.{decimal_is_IsNumeral, decimal_injective}
use Rattle.std.proofs.lemmas.List.{take_at, drop_at, length-append, append-nil, take_more_set, length-drop}
use Rattle.std.proofs.lemmas.Str.Parse.{digit_at}
use Rattle.std.proofs.lemmas.Nat.{from_le_bytes-to_le_bytes_4}
use Rattle.hex.specs.Hex.{IsBytes, decode_sized, lower_digits}
use Rattle.hex.specs.declared.error.FromHexError.{FromHexError}
use Rattle.hex.proofs.HexLemmas.{length-encode_with, decode_sized-encode_lower}
use Rattle.hv_lex.specs.Numbers.{number_of}
use Rattle.hv_lex.proofs.Spelled.{decimal_number}
use Rattle.hv_capsule.specs.Lines.{IsWord}
use Rattle.hv_capsule.specs.Text.{word_digits, words_digits}

-- ---- words of eight digits

pub length-digits : (w : ℕ) → length (word_digits w) ≡ 8
unfolding word_digits
length-digits w = length-encode_with lower_digits (to_le_bytes w32 w)

bytes_of_word : (w : ℕ) → IsBytes (to_le_bytes w32 w)
bytes_of_word w zero = omega arith
bytes_of_word w (suc zero) = omega arith
bytes_of_word w (suc (suc zero)) = omega arith
bytes_of_word w (suc (suc (suc zero))) = omega arith
bytes_of_word w (suc (suc (suc (suc i)))) = omega arith

-- the digits of a word are decoded to its bytes
digits_decoded : (w : ℕ) → decode_sized (word_digits w) 4 ≡ Ok (to_le_bytes w32 w)
unfolding word_digits
digits_decoded w = decode_sized-encode_lower (to_le_bytes w32 w) 4 refl (bytes_of_word w)

pub short : (text behind : List ℕ) (w : ℕ) → length text < 8 → text ≡ word_digits w ++ behind → ⊥
short text behind w lt e = omega (arith, ap length e, length-append (word_digits w) behind, length-digits w)

pub front_is : (text front rest behind : List ℕ) (w : ℕ) → length front ≡ 8 → front ++ rest ≡ text
    → text ≡ word_digits w ++ behind → (front ≡ word_digits w) × (rest ≡ behind)
front_is text front rest behind w len parts e =
    let same : front ++ rest ≡ word_digits w ++ behind = parts ∙ e in (
      sym (take_at front rest 8 len) ∙ ap (take 8) same ∙ take_at (word_digits w) behind 8 (length-digits w),
      sym (drop_at front rest 8 len) ∙ ap (drop 8) same ∙ drop_at (word_digits w) behind 8 (length-digits w),
    )

-- what the decoder answers at the digits of a word
pub decoded : (front out : List ℕ) (r : Result Unit FromHexError) (w : ℕ) → front ≡ word_digits w
    → MatchResult (decode_sized front 4) (λ bytes. (r ≡ Ok tt) × (out ≡ bytes)) (λ e. r ≡ Err e)
    → (r ≡ Ok tt) × (out ≡ to_le_bytes w32 w)
decoded front out r w e m =
    subst (λ (d : Result (List ℕ) FromHexError). MatchResult d (λ bytes. (r ≡ Ok tt) × (out ≡ bytes)) (λ e. r ≡ Err e))
    (ap (λ (text : List ℕ). decode_sized text 4) e ∙ digits_decoded w) m

pub word_again : (w : ℕ) → w < 2 ^ 32 → from_le_bytes w32 (to_le_bytes w32 w) ≡ w
word_again w lt = from_le_bytes-to_le_bytes_4 w lt

abbrev ok_bytes : List ℕ → Result (List ℕ) FromHexError
ok_bytes bytes = Ok bytes

same_bytes : (x y : List ℕ) → ok_bytes x ≡ ok_bytes y → x ≡ y
same_bytes x y e = cc

pub one_word : (a b : ℕ) (x y : List ℕ) → IsWord a → IsWord b → word_digits a ++ x ≡ word_digits b ++ y → (a ≡ b) × (x ≡ y)
one_word a b x y p q e =
    let parts = front_is (word_digits a ++ x) (word_digits a) x y b (length-digits a) refl e in
    let out = same_bytes (to_le_bytes w32 a) (to_le_bytes w32 b)
    (sym (digits_decoded a) ∙ ap (λ (text : List ℕ). decode_sized text 4) parts.0 ∙ digits_decoded b) in
    (sym (word_again a p) ∙ ap (from_le_bytes w32) out ∙ word_again b q, parts.1)

-- ---- several words

-- of words that are fewer than those of the text, a word is behind them
pub word_behind : (vs ws x y : List ℕ) → AllByRecursion IsWord ws → length vs < length ws
    → words_digits vs ++ x ≡ words_digits ws ++ y
    → (w : ℕ) × (more : List ℕ) × IsWord w × (x ≡ word_digits w ++ more)
word_behind vs [] x y all lt e = absurd (omega (arith, lt))
word_behind [] (w ∷ ws) x y all lt e = (w, words_digits ws ++ y, all.0, e ∙ append_assoc (word_digits w) (words_digits ws) y)
word_behind (a ∷ vs) (w ∷ ws) x y all lt e =
    let same : word_digits a ++ (words_digits vs ++ x) ≡ word_digits w ++ (words_digits ws ++ y) =
    sym (append_assoc (word_digits a) (words_digits vs) x) ∙ e ∙ append_assoc (word_digits w) (words_digits ws) y in
    let parts = front_is (word_digits a ++ (words_digits vs ++ x)) (word_digits a) (words_digits vs ++ x) (words_digits ws ++ y) w
    (length-digits a) refl same in
    word_behind vs ws x y all.1 (omega (arith, lt)) parts.1

pub one_words : (vs bs x y : List ℕ) → length vs ≡ length bs → AllByRecursion IsWord vs → AllByRecursion IsWord bs
    → words_digits vs ++ x ≡ words_digits bs ++ y → (vs ≡ bs) × (x ≡ y)
one_words [] [] x y len p q e = (refl, e)
one_words [] (b ∷ bs) x y len p q e = absurd (omega (arith, len))
one_words (a ∷ vs) [] x y len p q e = absurd (omega (arith, len))
one_words (a ∷ vs) (b ∷ bs) x y len p q e =
    let word = one_word a b (words_digits vs ++ x) (words_digits bs ++ y) p.0 q.0
    (sym (append_assoc (word_digits a) (words_digits vs) x) ∙ e ∙ append_assoc (word_digits b) (words_digits bs) y) in
    let rest = one_words vs bs x y (omega (arith, len)) p.1 q.1 word.1 in
    (ap (λ (z : ℕ). z ∷ vs) word.0 ∙ ap (λ (zs : List ℕ). b ∷ zs) rest.0, rest.1)

-- one word more that is read
words_snoc : (ws : List ℕ) (w : ℕ) → words_digits (ws ++ w ∷ []) ≡ words_digits ws ++ word_digits w
words_snoc [] w = append-nil (word_digits w)
words_snoc (v ∷ vs) w =
    ap (λ (text : List ℕ). word_digits v ++ text) (words_snoc vs w)
    ∙ sym (append_assoc (word_digits v) (words_digits vs) (word_digits w))

pub word_more : (out text rest behind : List ℕ) (i w : ℕ) → i < length out → text ≡ words_digits (take i out) ++ rest
    → rest ≡ word_digits w ++ behind → text ≡ words_digits (take (i + 1) (set out i w)) ++ behind
word_more out text rest behind i w lt p q =
    p ∙ ap (λ (z : List ℕ). words_digits (take i out) ++ z) q
    ∙ sym (append_assoc (words_digits (take i out)) (word_digits w) behind)
    ∙ ap (λ (z : List ℕ). z ++ behind) (sym (ap words_digits (take_more_set out i w lt) ∙ words_snoc (take i out) w))

each_snoc : (ws : List ℕ) (w : ℕ) → AllByRecursion IsWord ws → IsWord w → AllByRecursion IsWord (ws ++ w ∷ [])
each_snoc [] w all is = (is, tt)
each_snoc (v ∷ vs) w all is = (all.0, each_snoc vs w all.1 is)

pub each_more : (out : List ℕ) (i w : ℕ) → i < length out → AllByRecursion IsWord (take i out) → IsWord w
    → AllByRecursion IsWord (take (i + 1) (set out i w))
each_more out i w lt all is =
    subst (λ (vs : List ℕ). AllByRecursion IsWord vs) (sym (take_more_set out i w lt)) (each_snoc (take i out) w all is)

-- ---- numbers before a byte that is no digit

-- no item is this one
abbrev pub HasNone : ℕ → List ℕ → Type 0
HasNone stop [] = Unit {0}
HasNone stop (c ∷ cs) = (c ≢ stop) × HasNone stop cs

pub none_at : (stop : ℕ) (cs : List ℕ) → ((k : ℕ) → k < length cs → slice_index cs k ≢ stop) → HasNone stop cs
none_at stop [] h = tt
none_at stop (c ∷ cs) h = (h 0 (omega arith), none_at stop cs (λ k lt. h (suc k) (omega arith)))

digits_have_none : (stop : ℕ) (cs : List ℕ) → stop < 48 → AllDigits 10 cs → HasNone stop cs
digits_have_none stop cs low all =
    none_at stop cs (λ k lt is. let digit = digit_at cs k all lt in absurd (omega (arith, digit, is, low)))

pub decimal_has_none : (stop n : ℕ) → stop < 48 → IsWord n → HasNone stop (decimal n)
decimal_has_none stop n low lt = digits_have_none stop (decimal n) low (decimal_is_IsNumeral n (omega arith)).0.1

-- the first such byte of a text is at one place
pub one_stop : (stop : ℕ) (a b x y : List ℕ) → HasNone stop a → HasNone stop b → a ++ stop ∷ x ≡ b ++ stop ∷ y → (a ≡ b) × (x ≡ y)
one_stop stop [] [] x y p q e = (refl, cc)
one_stop stop [] (c ∷ cs) x y p q e = absurd (q.0 cc)
one_stop stop (c ∷ cs) [] x y p q e = absurd (p.0 cc)
one_stop stop (c ∷ cs) (d ∷ ds) x y p q e =
    let head : c ≡ d = cc in
    let rest : cs ++ stop ∷ x ≡ ds ++ stop ∷ y = cc in
    let more = one_stop stop cs ds x y p.1 q.1 rest in
    ((let same : cs ≡ ds = more.0 in cc), more.1)

-- a text with such a byte behind a front has one
stop_there : (stop : ℕ) (a x : List ℕ) → HasNone stop (a ++ stop ∷ x) → ⊥
stop_there stop [] x h = h.0 refl
stop_there stop (c ∷ cs) x h = stop_there stop cs x h.1

pub no_stop : (stop : ℕ) (text a x : List ℕ) → ((k : ℕ) → k < length text → slice_index text k ≢ stop)
    → text ≡ a ++ stop ∷ x → ⊥
no_stop stop text a x h e = stop_there stop a x (subst (λ (t : List ℕ). HasNone stop t) e (none_at stop text h))

number_from : (cs : List ℕ) (n : ℕ) → 0 < length cs → AllDigits 10 cs → digits_value 10 cs ≡ n → n < 2 ^ 32 → number_of cs ≡ Some n
number_from [] n some all is small = absurd (omega arith)
number_from (c ∷ cs) n some all is small = decimal_number c n cs all is small

-- a decimal number is read again
pub number_again : (n : ℕ) → IsWord n → number_of (decimal n) ≡ Some n
number_again n small =
    let is = decimal_is_IsNumeral n (omega arith) in
    number_from (decimal n) n is.0.0 is.0.1 is.1 small

pub one_number : (stop a b : ℕ) (x y : List ℕ) → stop < 48 → IsWord a → IsWord b
    → decimal a ++ stop ∷ x ≡ decimal b ++ stop ∷ y → (a ≡ b) × (x ≡ y)
one_number stop a b x y low p q e =
    let parts = one_stop stop (decimal a) (decimal b) x y (decimal_has_none stop a low p) (decimal_has_none stop b low q) e in
    (decimal_injective a b (omega arith) (omega arith) parts.0, parts.1)

-- what is before the first such byte is the number there
pub before_stop : (stop : ℕ) (text front rest behind : List ℕ) (n : ℕ) → stop < 48
    → ((k : ℕ) → k < length front → slice_index front k ≢ stop)
    → text ≡ front ++ stop ∷ rest → IsWord n → text ≡ decimal n ++ stop ∷ behind → (front ≡ decimal n) × (rest ≡ behind)
before_stop stop text front rest behind n low none cut small e =
    one_stop stop front (decimal n) rest behind (none_at stop front none) (decimal_has_none stop n low small) (sym cut ∙ e)

-- ---- a front that is taken away

whole : (n : ℕ) (xs : List ℕ) → length xs ≤ n → take n xs ≡ xs
whole zero [] h = refl
whole (suc n) [] h = refl
whole zero (x ∷ xs) h = absurd (omega (arith, h))
whole (suc n) (x ∷ xs) h = ap (λ (ys : List ℕ). x ∷ ys) (whole n xs (omega (arith, h)))

pub behind_front : (text front : List ℕ) → take (length text - length front) (drop (length front) text) ≡ drop (length front) text
behind_front text front =
    whole (length text - length front) (drop (length front) text) (omega (arith, length-drop (length front) text))
