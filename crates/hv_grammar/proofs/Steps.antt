-- The way of lines through the places, one line after another, up to the end or to the line that is refused.
use Rattle.std.proofs.Common.{◌≡◌, ◌≢◌, ℕ, suc, ◌+◌, ◌≤◌, ◌&&◌, Bool, true, false, not, cond, codes, List, [], ◌∷◌, length, take, Option, Some, None, Result, Ok, Err, refl, ap, ◌∙◌, arith}
use Rattle.std.specs.Str.{bytes_eq}
use Rattle.std.proofs.lemmas.Bool.{ltb-false}
use Rattle.std.proofs.lemmas.List.{nil_from_length}
use Rattle.hv_job.specs.JobOf.{is_debug, is_end}
use Rattle.hv_line.specs.Lines.{has_words, is_only, version_of, words_of}
use Rattle.hv_line.specs.declared.kinds.JobKind.{JobKind}
use Rattle.hv_line.specs.declared.version.JobVersion.{JobVersion}
use Rattle.hv_line.specs.declared.version.JobVersion.TheVariants.{One, Two}
use Rattle.hv_grammar.specs.Said.{Said}
use Rattle.hv_grammar.specs.Texts.{Goes, GoesOn, IsAllowed, IsOver, Place, version_word}
use Rattle.hv_grammar.proofs.Tests.{both, same_text, text_same}

-- the lines in front of line n go somewhere; the first of them has this number
pub record Stops (here : Place) (number : ℕ) (lines : List (List ℕ)) (n : ℕ) : Type 0 where
  pub k : ℕ
  pub is : n ≡ number + k
  pub within : k ≤ length lines
  pub says : List Said
  pub place : Place
  pub goes_on : GoesOn here (take k lines) says place

-- all lines go to the end of the text, and this holds of what they say
pub record Whole (here : Place) (lines : List (List ℕ)) (M : List Said → Type 0) : Type 0 where
  pub says : List Said
  pub place : Place
  pub goes_on : GoesOn here lines says place
  pub over : IsOver place
  pub holds : M says

-- all lines go to the end of the text, or those in front of the refused one go somewhere
abbrev pub Good : {A : Type 0} → Place → ℕ → List (List ℕ) → (A → List Said → Type 0) → Result A (ℕ × JobKind) → Type 0
Good here number lines M (Ok x) = Whole here lines (M x)
Good here number lines M (Err refusal) = Stops here number lines refusal.0

-- refused at once
pub stops : (here : Place) (number : ℕ) (lines : List (List ℕ)) → Stops here number lines number
stops here number lines = record { k = 0; is = omega arith; within = omega arith; says = []; place = here; goes_on = refl }

stops_later : (here next : Place) (number n : ℕ) (line : List ℕ) (lines : List (List ℕ)) (said : Said) → Goes here line said next → Stops next (number + 1) lines n → Stops here number (line ∷ lines) n
stops_later here next number n line lines said goes stop =
    let is : n ≡ number + 1 + stop.k = stop.is in
    let within : stop.k ≤ length lines = stop.within in
    record {
      k = suc stop.k;
      is = omega (arith, is);
      within = omega (arith, within);
      says = said ∷ stop.says;
      place = stop.place;
      goes_on = (next, goes, stop.goes_on);
    }

-- one line more
pub step : {A : Type 0} (here next : Place) (number : ℕ) (line : List ℕ) (lines : List (List ℕ)) (said : Said) (M N : A → List Said → Type 0) → Goes here line said next → ((x : A) (says : List Said) → N x says → M x (said ∷ says)) → (r : Result A (ℕ × JobKind)) → Good next (number + 1) lines N r → Good here number (line ∷ lines) M r
step here next number line lines said M N goes f (Ok x) whole = record {
  says = said ∷ whole.says;
  place = whole.place;
  goes_on = (next, goes, whole.goes_on);
  over = whole.over;
  holds = f x whole.says whole.holds;
}
step here next number line lines said M N goes f (Err refusal) stop = stops_later here next number refusal.0 line lines said goes stop

-- by a test, and by a result
pub by_test : {A : Type 0} (M : A → Type 0) (b : Bool) (x y : A) → (b ≡ true → M x) → (b ≡ false → M y) → M (cond b x y)
by_test M true x y f g = f refl
by_test M false x y f g = g refl

pub unless : {A : Type 0} (M : A → Type 0) (b : Bool) (x y : A) → (b ≡ false → M x) → (b ≡ true → M y) → M (cond (not b) x y)
unless M true x y f g = g refl
unless M false x y f g = f refl

pub by_result : {A E : Type 0} (M : Result A E → Type 0) (r : Result A E) → ((x : A) → r ≡ Ok x → M (Ok x)) → ((e : E) → r ≡ Err e → M (Err e)) → M r
by_result M (Ok x) f g = f x refl
by_result M (Err e) f g = g e refl

-- what the tests of a line say
pub no_words : (line : List ℕ) → has_words line ≡ false → words_of line ≡ []
no_words line none =
    let n : length (words_of line) ≤ 0 = ltb-false 0 (length (words_of line)) none in
    nil_from_length (words_of line) (omega (arith, n))

pub only_says : (text : List ℕ) (words : List (List ℕ)) → is_only text words ≡ true → words ≡ text ∷ []
unfolding is_only
only_says text [] is = cc
only_says text (word ∷ []) is = ap (λ w. w ∷ []) (same_text word text is)
only_says text (word ∷ next ∷ words) is = cc

pub only_is : (text : List ℕ) (words : List (List ℕ)) → words ≡ text ∷ [] → is_only text words ≡ true
unfolding is_only
only_is text words is = ap (is_only text) is ∙ text_same text text refl

pub end_says : (line : List ℕ) → is_end line ≡ true → words_of line ≡ codes "end" ∷ []
unfolding is_end
end_says line is = only_says (codes "end") (words_of line) is

pub goes_says : (line : List ℕ) → is_end line ≡ false → words_of line ≢ codes "end" ∷ []
unfolding is_end
goes_says line is same = let e : is_only (codes "end") (words_of line) ≡ true = only_is (codes "end") (words_of line) same in cc

pub debug_says : (line : List ℕ) → is_debug line ≡ true → (words_of line ≡ codes "debug" ∷ []) × IsAllowed line
unfolding is_debug
debug_says line is = let b = both _ _ is in (only_says (codes "debug") (words_of line) b.0, b.1)

-- the words of a header
two_says : (job number : List ℕ) (version : JobVersion) (b c : Bool) → (b ≡ true → (job ≡ codes "job") × (number ≡ codes "1")) → (c ≡ true → (job ≡ codes "job") × (number ≡ codes "2")) → (let o : Option JobVersion = cond b (Some One) (cond c (Some Two) None) in o) ≡ Some version → (job ≡ codes "job") × (number ≡ version_word version)
two_says job number version true c one two is =
    let e : One ≡ version = cc in let w = one refl in (w.0, w.1 ∙ ap version_word e)
two_says job number version false true one two is =
    let e : Two ≡ version = cc in let w = two refl in (w.0, w.1 ∙ ap version_word e)
two_says job number version false false one two is = cc

same_texts : (job number text : List ℕ) → (bytes_eq job (codes "job") && bytes_eq number text) ≡ true → (job ≡ codes "job") × (number ≡ text)
same_texts job number text is = let b = both _ _ is in (same_text job (codes "job") b.0, same_text number text b.1)

pub header_says : (words : List (List ℕ)) (version : JobVersion) → version_of words ≡ Some version → words ≡ codes "job" ∷ version_word version ∷ []
unfolding version_of
header_says [] version is = cc
header_says (job ∷ []) version is = cc
header_says (job ∷ number ∷ []) version is =
    let w = two_says job number version (bytes_eq job (codes "job") && bytes_eq number (codes "1")) (bytes_eq job (codes "job") && bytes_eq number (codes "2")) (same_texts job number (codes "1")) (same_texts job number (codes "2")) is in
    ap (λ w. w ∷ number ∷ []) w.0 ∙ ap (λ w. codes "job" ∷ w ∷ []) w.1
header_says (job ∷ number ∷ word ∷ words) version is = cc

pub header_is : (words : List (List ℕ)) (version : JobVersion) → words ≡ codes "job" ∷ version_word version ∷ [] → version_of words ≡ Some version
unfolding version_of
header_is words One is = ap version_of is
header_is words Two is = ap version_of is
