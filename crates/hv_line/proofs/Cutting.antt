-- Cutting a line at its first word.
use Rattle.std.proofs.Common.{◌≡◌, ℕ, zero, suc, ◌+◌, ◌<◌, ◌≤◌, nat_eq, Bool, true, false, not, ◌||◌, List, [], ◌∷◌, length, get_or, take, drop, refl, sym, ap, ◌∙◌, arith, length-drop, ◌≢◌}
use Rattle.std.proofs.lemmas.List.{length-take-le, get_or-drop}
use Rattle.hv_lex.specs.Lines.{onto}
use Rattle.hv_line.specs.Lines.{is_blank, is_word_byte, begins_word, words_of}

parts : (b e : Bool) → not (b || e) ≡ true → (b ≡ false) × (e ≡ false)
parts true e h = (cc, cc)
parts false true h = (refl, cc)
parts false false h = (refl, refl)

other : (b e : Bool) → b ≡ false → not (b || e) ≡ false → e ≡ true
other true e blank h = cc
other false true blank h = refl
other false false blank h = cc

word_byte : (c : ℕ) → is_word_byte c ≡ true → (is_blank c ≡ false) × (nat_eq c 35 ≡ false)
unfolding is_word_byte
word_byte c h = parts (is_blank c) (nat_eq c 35) h

no_word_byte : (c : ℕ) → is_blank c ≡ false → is_word_byte c ≡ false → nat_eq c 35 ≡ true
unfolding is_word_byte
no_word_byte c blank h = other (is_blank c) (nat_eq c 35) blank h

at_blank : (c : ℕ) (cs : List ℕ) → is_blank c ≡ true → words_of (c ∷ cs) ≡ words_of cs
unfolding words_of
at_blank c cs blank = simp blank

at_comment : (c : ℕ) (cs : List ℕ) → is_blank c ≡ false → nat_eq c 35 ≡ true → words_of (c ∷ cs) ≡ []
unfolding words_of
at_comment c cs blank hash = simp (blank, hash)

at_last : (c : ℕ) (cs : List ℕ) → is_blank c ≡ false → nat_eq c 35 ≡ false → begins_word cs ≡ false → words_of (c ∷ cs) ≡ (c ∷ []) ∷ words_of cs
unfolding words_of
at_last c cs blank hash last = simp (blank, hash, last)

at_inner : (c : ℕ) (cs : List ℕ) → is_blank c ≡ false → nat_eq c 35 ≡ false → begins_word cs ≡ true → words_of (c ∷ cs) ≡ onto c (words_of cs)
unfolding words_of
at_inner c cs blank hash inner = simp (blank, hash, inner)

begins_not : (cs : List ℕ) → (0 < length cs → is_word_byte (get_or cs 0 0) ≡ false) → begins_word cs ≡ false
unfolding begins_word
begins_not [] ends = refl
begins_not (c ∷ cs) ends = ends (omega arith)

begins : (c : ℕ) (cs : List ℕ) → is_word_byte c ≡ true → begins_word (c ∷ cs) ≡ true
unfolding begins_word
begins c cs h = h

-- blanks at the front are in no word
skipped : (n : ℕ) (s : List ℕ) → n ≤ length s → ((k : ℕ) → k < n → is_blank (get_or s k 0) ≡ true) → words_of (drop n s) ≡ words_of s
skipped zero s within before = refl
skipped (suc n) [] within before = absurd (omega arith)
skipped (suc n) (c ∷ cs) within before =
    skipped n cs (omega arith) (λ k h. before (suc k) (omega arith)) ∙ sym (at_blank c cs (before zero (omega arith)))

-- a longest run of bytes of a word is the first word
taken : (n : ℕ) (s : List ℕ) → 0 < n → n ≤ length s → ((k : ℕ) → k < n → is_word_byte (get_or s k 0) ≡ true) → (n < length s → is_word_byte (get_or s n 0) ≡ false) → words_of s ≡ take n s ∷ words_of (drop n s)
taken zero s some within before ends = absurd (omega arith)
taken (suc n) [] some within before ends = absurd (omega arith)
taken (suc zero) (c ∷ cs) some within before ends =
    let p = word_byte c (before zero (omega arith)) in
    at_last c cs p.0 p.1 (begins_not cs (λ h. ends (omega arith)))
taken (suc (suc n)) (c ∷ []) some within before ends = absurd (omega arith)
taken (suc (suc n)) (c ∷ d ∷ ds) some within before ends =
    let p = word_byte c (before zero (omega arith)) in
    at_inner c (d ∷ ds) p.0 p.1 (begins d ds (before 1 (omega arith)))
    ∙ ap (onto c) (taken (suc n) (d ∷ ds) (omega arith) (omega arith) (λ k h. before (suc k) (omega arith)) (λ h. ends (omega arith)))

nothing : (s : List ℕ) → (0 < length s → is_blank (get_or s 0 0) ≡ false) → (0 < length s → is_word_byte (get_or s 0 0) ≡ false) → words_of s ≡ []
unfolding words_of
nothing [] blank word = refl
nothing (c ∷ cs) blank word = at_comment c cs (blank (omega arith)) (no_word_byte c (blank (omega arith)) (word (omega arith)))

rest_of : (s t : List ℕ) (n : ℕ) → n ≤ length s → ((k : ℕ) → k < n → is_blank (get_or s k 0) ≡ true) → t ≡ drop n s → words_of s ≡ words_of t
rest_of s t n within before back = sym (skipped n s within before) ∙ ap words_of (sym back)

pub cut_none : (s t w : List ℕ) (n m : ℕ)
    → n ≤ length s → ((k : ℕ) → k < n → is_blank (get_or s k 0) ≡ true) → (n < length s → is_blank (get_or s n 0) ≡ false) → t ≡ drop n s
    → m ≤ length t → (m < length t → is_word_byte (get_or t m 0) ≡ false) → w ≡ take m t → length w ≡ 0
    → words_of s ≡ []
cut_none s t w n m within before ends back inside last front none =
    let z : m ≡ 0 = omega (arith, ap length front, length-take-le m t inside) in
    let here : get_or t 0 0 ≡ get_or s n 0 = let same : n + 0 ≡ n = omega arith in ap (λ x. get_or x 0 0) back ∙ get_or-drop n s 0 0 ∙ ap (λ k. get_or s k 0) same in
    rest_of s t n within before back
    ∙ nothing t (λ h. ap is_blank here ∙ ends (omega (arith, ap length back, length-drop n s)))
    (λ h. rw z at (last (omega arith)))

pub cut_some : (s t w r : List ℕ) (n m : ℕ)
    → n ≤ length s → ((k : ℕ) → k < n → is_blank (get_or s k 0) ≡ true) → t ≡ drop n s
    → m ≤ length t → ((k : ℕ) → k < m → is_word_byte (get_or t k 0) ≡ true) → (m < length t → is_word_byte (get_or t m 0) ≡ false)
    → w ≡ take m t → r ≡ drop m t → length w ≢ 0
    → words_of s ≡ w ∷ words_of r
cut_some s t w r n m within before back inside all last front behind some =
    rest_of s t n within before back
    ∙ rw (front, behind) (taken m t (omega (arith, ap length front, length-take-le m t inside)) inside all last)
