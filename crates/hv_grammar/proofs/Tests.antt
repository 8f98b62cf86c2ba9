-- What the tests of a word say, both ways.
use Rattle.std.proofs.Common.{◌≡◌, ◌⊎◌, ℕ, suc, ◌-◌, ◌%◌, ◌^◌, ◌<◌, ◌≤◌, ◌&&◌, Bool, true, false, cond, bit_and, codes, List, [], ◌∷◌, length, map, Option, Some, None, Result, Ok, Err, inl, inr, refl, sym, ap, ◌∙◌, subst, arith}
use Rattle.std.specs.Str.{bytes_eq}
use Rattle.std.proofs.lemmas.Bool.{le-leb, leb-true, eq-eqb, eqb-true}
use Rattle.std.proofs.lemmas.Slice.Eq.{bytes_eq-Decides}
use Rattle.hv_lex.specs.Numbers.{number_of}
use Rattle.hv_samples.specs.declared.choice.Sample.{Sample}
use Rattle.hv_samples.specs.declared.choice.Sample.TheVariants.{Pass, Slicer, Forward, Pager}
use Rattle.hv_limits.specs.Limits.{lines_mask}
use Rattle.hv_line.specs.JobLimits.{harts_in}
use Rattle.hv_line.specs.Statements.{access, address, any_sample, between, fixed, hart, inner, later_page, mask, named, number, numbers, or_no_name, or_no_number, page, wide_access}
use Rattle.hv_line.specs.Names.{is_name, name_of}
use Rattle.hv_line.specs.declared.kinds.JobKind.{JobKind}
use Rattle.hv_line.specs.declared.kinds.JobKind.TheVariants as fault
use Rattle.hv_line.specs.declared.version.JobVersion.{JobVersion}
use Rattle.hv_line.specs.declared.version.JobVersion.TheVariants.{One, Two}
use Rattle.hv_line.proofs.Ranging.{then_ok}
use Rattle.hv_grammar.specs.Forms.{AreWords, Spelt, Word, sample_word}
use Rattle.hv_lex.specs.Refusing.{◌>>=◌}

-- a test that is passed, and then the next
pub then_is : {A B : Type 0} (r : Result A JobKind) (f : A → Result B JobKind) (v : A) (x : Result B JobKind) → r ≡ Ok v → f v ≡ x → (r >>= f) ≡ x
then_is r f v x is next = ap (λ (r : Result _ JobKind). r >>= f) is ∙ next

pub passing : {A B : Type 0} (M : Result B JobKind → Type 0) (r : Result A JobKind) (f : A → Result B JobKind) (v : A) → r ≡ Ok v → M (f v) → M (r >>= f)
passing M r f v is m = subst M (sym (then_is r f v (f v) is refl)) m

pub both : (a b : Bool) → (a && b) ≡ true → (a ≡ true) × (b ≡ true)
both true b e = (refl, e)
both false b e = cc

pub both_is : (a b : Bool) → a ≡ true → b ≡ true → (a && b) ≡ true
both_is true b e f = f
both_is false b e f = e

chosen : {A : Type 0} (b : Bool) (n m : A) (kind : JobKind) → (let r : Result A JobKind = cond b (Ok n) (Err kind) in r) ≡ Ok m → (b ≡ true) × (n ≡ m)
chosen true n m kind is = let e : n ≡ m = cc in (refl, e)
chosen false n m kind is = cc

taken : {A : Type 0} (b : Bool) (n : A) (kind : JobKind) → b ≡ true → (let r : Result A JobKind = cond b (Ok n) (Err kind) in r) ≡ Ok n
taken true n kind is = refl
taken false n kind is = cc

-- a number
some_says : (o : Option ℕ) (n : ℕ) → or_no_number o ≡ Ok n → o ≡ Some n
some_says (Some m) n is = let e : m ≡ n = cc in ap Some e
some_says None n is = cc

pub number_says : (word : List ℕ) (n : ℕ) → number word ≡ Ok n → number_of word ≡ Some n
unfolding number
number_says word n is = some_says (number_of word) n is

pub number_is : (word : List ℕ) (n : ℕ) → number_of word ≡ Some n → number word ≡ Ok n
unfolding number
number_is word n is = ap or_no_number is

-- a number from low to high
pub between_says : (low high : ℕ) (word : List ℕ) (n : ℕ) → between low high word ≡ Ok n → (number_of word ≡ Some n) × (low ≤ n) × (n ≤ high)
unfolding between
between_says low high word n is =
    let s = then_ok (number word) _ n is in
    let t = chosen _ _ _ _ s.2 in
    let b = both _ _ t.0 in
    (number_says word s.0 s.1 ∙ ap Some t.1, subst (λ n. low ≤ n) t.1 (leb-true low s.0 b.0), subst (λ n. n ≤ high) t.1 (leb-true s.0 high b.1))

pub between_is : (low high : ℕ) (word : List ℕ) (n : ℕ) → number_of word ≡ Some n → low ≤ n → n ≤ high → between low high word ≡ Ok n
unfolding between
between_is low high word n is l h =
    then_is (number word) _ n (Ok n) (number_is word n is) (taken _ n fault.Range (both_is _ _ (le-leb low n l) (le-leb n high h)))

below_harts : (version : JobVersion) (n : ℕ) → n ≤ harts_in version - 1 → n < harts_in version
below_harts One n h = omega (arith, h)
below_harts Two n h = omega (arith, h)

pub hart_says : (version : JobVersion) (word : List ℕ) (n : ℕ) → hart version word ≡ Ok n → (number_of word ≡ Some n) × (n < harts_in version)
hart_says version word n is = let b = between_says 0 (harts_in version - 1) word n is in (b.0, below_harts version n b.2)

pub hart_is : (version : JobVersion) (word : List ℕ) (n : ℕ) → number_of word ≡ Some n → n < harts_in version → hart version word ≡ Ok n
hart_is version word n is h = let le : n ≤ harts_in version - 1 = omega (arith, h) in between_is 0 (harts_in version - 1) word n is (omega arith) le

pub page_says : (word : List ℕ) (n : ℕ) → page word ≡ Ok n → (number_of word ≡ Some n) × (n < 2 ^ 20)
page_says word n is = let b = between_says 0 (2 ^ 20 - 1) word n is in let h : n ≤ 2 ^ 20 - 1 = b.2 in (b.0, omega (arith, h))

pub page_is : (word : List ℕ) (n : ℕ) → number_of word ≡ Some n → n < 2 ^ 20 → page word ≡ Ok n
page_is word n is h = between_is 0 (2 ^ 20 - 1) word n is (omega arith) (omega (arith, h))

pub later_says : (word : List ℕ) (n : ℕ) → later_page word ≡ Ok n → (number_of word ≡ Some n) × (1 ≤ n) × (n < 2 ^ 20)
later_says word n is =
    let b = between_says 1 (2 ^ 20 - 1) word n is in let h : n ≤ 2 ^ 20 - 1 = b.2 in (b.0, b.1, omega (arith, h))

pub later_is : (word : List ℕ) (n : ℕ) → number_of word ≡ Some n → 1 ≤ n → n < 2 ^ 20 → later_page word ≡ Ok n
later_is word n is l h = between_is 1 (2 ^ 20 - 1) word n is l (omega (arith, h))

-- an address of a word
pub address_says : (word : List ℕ) (n : ℕ) → address word ≡ Ok n → (number_of word ≡ Some n) × (n % 4 ≡ 0)
unfolding address
address_says word n is =
    let s = then_ok (number word) _ n is in
    let t = chosen _ _ _ _ s.2 in
    (number_says word s.0 s.1 ∙ ap Some t.1, subst (λ n. n % 4 ≡ 0) t.1 (eqb-true (s.0 % 4) 0 t.0))

pub address_is : (word : List ℕ) (n : ℕ) → number_of word ≡ Some n → n % 4 ≡ 0 → address word ≡ Ok n
unfolding address
address_is word n is e = then_is (number word) _ n (Ok n) (number_is word n is) (taken _ n fault.Range (eq-eqb (n % 4) 0 e))

-- a mask of lines
pub mask_says : (word : List ℕ) (n : ℕ) → mask word ≡ Ok n → (number_of word ≡ Some n) × (bit_and n lines_mask ≡ n)
unfolding mask
mask_says word n is =
    let s = then_ok (number word) _ n is in
    let t = chosen _ _ _ _ s.2 in
    (number_says word s.0 s.1 ∙ ap Some t.1, subst (λ n. bit_and n lines_mask ≡ n) t.1 (eqb-true (bit_and s.0 lines_mask) s.0 t.0))

pub mask_is : (word : List ℕ) (n : ℕ) → number_of word ≡ Some n → bit_and n lines_mask ≡ n → mask word ≡ Ok n
unfolding mask
mask_is word n is e = then_is (number word) _ n (Ok n) (number_is word n is) (taken _ n fault.Range (eq-eqb (bit_and n lines_mask) n e))

-- a name
name_says : (b : Bool) (word name : List ℕ) → or_no_name (cond b (Some word) None) ≡ Ok name → (word ≡ name) × (b ≡ true)
name_says true word name is = let e : word ≡ name = cc in (e, refl)
name_says false word name is = cc

pub named_says : (word name : List ℕ) → named word ≡ Ok name → (word ≡ name) × (is_name word ≡ true)
unfolding named name_of
named_says word name is = name_says (is_name word) word name is

pub named_is : (word name : List ℕ) → word ≡ name → is_name word ≡ true → named word ≡ Ok name
unfolding named name_of
named_is word name same is = ap (λ b. or_no_name (cond b (Some word) None)) is ∙ ap Ok same

-- a text
pub same_text : (word text : List ℕ) → bytes_eq word text ≡ true → word ≡ text
same_text word text is = (bytes_eq-Decides word text).0 is

pub text_same : (word text : List ℕ) → word ≡ text → bytes_eq word text ≡ true
text_same word text is = (bytes_eq-Decides word text).1 is

pub fixed_says : (text word : List ℕ) (done : Unit {0}) → fixed text word ≡ Ok done → word ≡ text
unfolding fixed
fixed_says text word done is = same_text word text (chosen (bytes_eq word text) tt done fault.Words is).0

pub fixed_is : (text word : List ℕ) → word ≡ text → fixed text word ≡ Ok tt
unfolding fixed
fixed_is text word is = taken (bytes_eq word text) tt fault.Words (text_same word text is)

-- the first of two texts, or the second one
pub first_or : {A : Type 0} (G : Type 0) (word text : List ℕ) (x y : Result A JobKind) (v : A) → (word ≡ text → x ≡ Ok v → G) → (y ≡ Ok v → G) → cond (bytes_eq word text) x y ≡ Ok v → G
first_or {A = A} G word text x y v f g is = go (bytes_eq word text) refl is
  where
    go : (b : Bool) → bytes_eq word text ≡ b → cond b x y ≡ Ok v → G
    go true same is = f (same_text word text same) is
    go false same is = g is

-- the bits of an entry
abbrev pub IsWide : List ℕ → ℕ → Type 0
IsWide word bits = ((word ≡ codes "rx") × (bits ≡ 5)) ⊎ ((word ≡ codes "rwx") × (bits ≡ 7))

wide_says : (version : JobVersion) (word : List ℕ) (bits : ℕ) → wide_access version word ≡ Ok bits → (version ≡ Two) × IsWide word bits
unfolding wide_access
wide_says One word bits is = cc
wide_says Two word bits is =
    first_or _ word (codes "rx") (Ok 5) _ bits (λ w e. let b : bits ≡ 5 = cc in (refl, inl (w, b))) (
    first_or _ word (codes "rwx") (Ok 7) (Err fault.Words) bits (λ w e. let b : bits ≡ 7 = cc in (refl, inr (w, b))) (λ e. cc)) is

pub access_says : (version : JobVersion) (word : List ℕ) (bits : ℕ) → access version word ≡ Ok bits → ((word ≡ codes "ro") × (bits ≡ 1)) ⊎ (((word ≡ codes "rw") × (bits ≡ 3)) ⊎ ((version ≡ Two) × IsWide word bits))
unfolding access
access_says version word bits is =
    first_or _ word (codes "ro") (Ok 1) _ bits (λ w e. let b : bits ≡ 1 = cc in inl (w, b)) (
    first_or _ word (codes "rw") (Ok 3) (wide_access version word) bits (λ w e. let b : bits ≡ 3 = cc in inr (inl (w, b))) (λ e. inr (inr (wide_says version word bits e)))) is

pub access_read : (version : JobVersion) (word : List ℕ) → word ≡ codes "ro" → access version word ≡ Ok 1
unfolding access
access_read version word is = ap (access version) is

pub access_write : (version : JobVersion) (word : List ℕ) → word ≡ codes "rw" → access version word ≡ Ok 3
unfolding access
access_write version word is = ap (access version) is

pub access_fetch : (word : List ℕ) → word ≡ codes "rx" → access Two word ≡ Ok 5
unfolding access wide_access
access_fetch word is = ap (access Two) is

pub access_all : (word : List ℕ) → word ≡ codes "rwx" → access Two word ≡ Ok 7
unfolding access wide_access
access_all word is = ap (access Two) is

-- samples
pub inner_says : (word : List ℕ) (which : Sample) → inner word ≡ Ok which → (word ≡ sample_word which) × ((which ≡ Pass) ⊎ (which ≡ Forward))
unfolding inner
inner_says word which is =
    first_or _ word (codes "pass") (Ok Pass) _ which (λ w e. let b : Pass ≡ which = cc in (w ∙ ap sample_word b, inl (sym b))) (
    first_or _ word (codes "forward") (Ok Forward) (Err fault.Words) which (λ w e. let b : Forward ≡ which = cc in (w ∙ ap sample_word b, inr (sym b))) (λ e. cc)) is

pub inner_is : (word : List ℕ) (which : Sample) → word ≡ sample_word which → (which ≡ Pass) ⊎ (which ≡ Forward) → inner word ≡ Ok which
unfolding inner
inner_is word Pass is one = ap inner is
inner_is word Forward is one = ap inner is
inner_is word Slicer is (inl e) = cc
inner_is word Slicer is (inr e) = cc
inner_is word Pager is (inl e) = cc
inner_is word Pager is (inr e) = cc

pub any_says : (word : List ℕ) (which : Sample) → any_sample word ≡ Ok which → word ≡ sample_word which
unfolding any_sample
any_says word which is =
    first_or _ word (codes "slicer") (Ok Slicer) _ which (λ w e. let b : Slicer ≡ which = cc in w ∙ ap sample_word b) (
    first_or _ word (codes "pager") (Ok Pager) (inner word) which (λ w e. let b : Pager ≡ which = cc in w ∙ ap sample_word b) (λ e. (inner_says word which e).0)) is

pub any_is : (word : List ℕ) (which : Sample) → word ≡ sample_word which → any_sample word ≡ Ok which
unfolding any_sample inner
any_is word Pass is = ap any_sample is
any_is word Forward is = ap any_sample is
any_is word Slicer is = ap any_sample is
any_is word Pager is = ap any_sample is

-- numbers
pub numbers_say : (words : List (List ℕ)) (ns : List ℕ) → numbers words ≡ Ok ns → AreWords (map Spelt ns) words
unfolding numbers
numbers_say [] ns is = let e : [] ≡ ns = cc in subst (λ ns. AreWords (map Spelt ns) []) e tt
numbers_say (word ∷ words) ns is =
    let s = then_ok (number word) _ ns is in
    let t = then_ok (numbers words) _ ns s.2 in
    let e : s.0 ∷ t.0 ≡ ns = cc in
    subst (λ ns. AreWords (map Spelt ns) (word ∷ words)) e (number_says word s.0 s.1, numbers_say words t.0 t.1)

pub numbers_are : (words : List (List ℕ)) (ns : List ℕ) → AreWords (map Spelt ns) words → numbers words ≡ Ok ns
unfolding numbers
numbers_are [] [] are = refl
numbers_are (word ∷ words) (n ∷ ns) are =
    then_is (number word) _ n (Ok (n ∷ ns)) (number_is word n are.0) (then_is (numbers words) _ ns (Ok (n ∷ ns)) (numbers_are words ns are.1) refl)
numbers_are [] (n ∷ ns) are = absurd are
numbers_are (word ∷ words) [] are = absurd are

-- as many words as a form has
pub are_length : (spec : List Word) (words : List (List ℕ)) → AreWords spec words → length words ≡ length spec
are_length [] [] are = refl
are_length (is ∷ rest) (word ∷ words) are = ap suc (are_length rest words are.1)
are_length [] (word ∷ words) are = absurd are
are_length (is ∷ rest) [] are = absurd are
