-- Which of the changes between two lists of numbers are still to be told.
use Rattle.std.proofs.Common.{◌≡◌, ◌≢◌, ℕ, ◌+◌, ◌<◌, ◌≤◌, Bool, cond, List, [], ◌∷◌, drop, length, get_or, refl, sym, ap, ◌∙◌}
use Rattle.std.specs.Prelude.{◌==◌}
use Rattle.std.proofs.lemmas.Bool.{ne_eqb, eq-eqb}
use Rattle.std.proofs.lemmas.List.{drop_more, drop_all}
use Rattle.hv_trace.specs.Check.{changes_from}

-- those from a place on
abbrev pub rest : List ℕ → List ℕ → ℕ → List (ℕ × ℕ)
rest xs ys i = changes_from i (drop i xs) (drop i ys)

unfolded : (i x y : ℕ) (xs ys : List ℕ) → changes_from i (x ∷ xs) (y ∷ ys) ≡ cond (x == y) (changes_from (i + 1) xs ys) ((i, y) ∷ changes_from (i + 1) xs ys)
unfolding changes_from
unfolded i x y xs ys = refl

rest_parts : (xs ys : List ℕ) (i : ℕ) → i < length xs → i < length ys → rest xs ys i ≡ cond (get_or xs i 0 == get_or ys i 0) (rest xs ys (i + 1)) ((i, get_or ys i 0) ∷ rest xs ys (i + 1))
rest_parts xs ys i h k =
    ap (λ (l : List ℕ). changes_from i l (drop i ys)) (drop_more xs i 0 h)
    ∙ ap (changes_from i (get_or xs i 0 ∷ drop (i + 1) xs)) (drop_more ys i 0 k)
    ∙ unfolded i (get_or xs i 0) (get_or ys i 0) (drop (i + 1) xs) (drop (i + 1) ys)

rest_same : (xs ys : List ℕ) (i : ℕ) → i < length xs → i < length ys → get_or xs i 0 ≡ get_or ys i 0 → rest xs ys i ≡ rest xs ys (i + 1)
rest_same xs ys i h k e =
    rest_parts xs ys i h k
    ∙ ap (λ (b : Bool). cond b (rest xs ys (i + 1)) ((i, get_or ys i 0) ∷ rest xs ys (i + 1))) (eq-eqb (get_or xs i 0) (get_or ys i 0) e)

rest_other : (xs ys : List ℕ) (i : ℕ) → i < length xs → i < length ys → get_or xs i 0 ≢ get_or ys i 0 → rest xs ys i ≡ (i, get_or ys i 0) ∷ rest xs ys (i + 1)
rest_other xs ys i h k e =
    rest_parts xs ys i h k
    ∙ ap (λ (b : Bool). cond b (rest xs ys (i + 1)) ((i, get_or ys i 0) ∷ rest xs ys (i + 1))) (ne_eqb (get_or xs i 0) (get_or ys i 0) e)

none : (i : ℕ) (ys : List ℕ) → changes_from i [] ys ≡ []
unfolding changes_from
none i ys = refl

rest_end : (xs ys : List ℕ) (i : ℕ) → length xs ≤ i → rest xs ys i ≡ []
rest_end xs ys i h = ap (λ (l : List ℕ). changes_from i l (drop i ys)) (drop_all i xs h) ∙ none i (drop i ys)

-- the changes are right exactly if those that aren't compared yet are those from this place on
pub record Agrees (xs ys : List ℕ) (changes : List (ℕ × ℕ)) (told place : ℕ) : Type 0 where
  pub ahead : drop told changes ≡ rest xs ys place → changes ≡ changes_from 0 xs ys
  pub back : changes ≡ changes_from 0 xs ys → drop told changes ≡ rest xs ys place

pub agrees_start : (xs ys : List ℕ) (changes : List (ℕ × ℕ)) → Agrees xs ys changes 0 0
agrees_start xs ys changes = record { ahead = λ e. e; back = λ e. e }

pub agrees_same : (xs ys : List ℕ) (changes : List (ℕ × ℕ)) (told place : ℕ) → place < length xs → place < length ys → get_or xs place 0 ≡ get_or ys place 0 → Agrees xs ys changes told place → Agrees xs ys changes told (place + 1)
agrees_same xs ys changes told place h k e a = record {
  ahead = λ r. a.ahead (r ∙ sym (rest_same xs ys place h k e));
  back = λ r. a.back r ∙ rest_same xs ys place h k e;
}

tail_same : {A : Type 0} (x y : A) (xs ys : List A) → x ∷ xs ≡ y ∷ ys → xs ≡ ys
tail_same x y xs ys e = cc

head_same : {A : Type 0} (x y : A) (xs ys : List A) → x ∷ xs ≡ y ∷ ys → x ≡ y
head_same x y xs ys e = cc

no_cons : {A : Type 0} (x : A) (xs : List A) → x ∷ xs ≡ [] → ⊥
no_cons x xs e = cc

pub agrees_other : (xs ys : List ℕ) (changes : List (ℕ × ℕ)) (told place : ℕ) → place < length xs → place < length ys → get_or xs place 0 ≢ get_or ys place 0 → told < length changes → get_or changes told (0, 0) ≡ (place, get_or ys place 0) → Agrees xs ys changes told place → Agrees xs ys changes (told + 1) (place + 1)
agrees_other xs ys changes told place h k ne inside is a =
    let more : drop told changes ≡ (place, get_or ys place 0) ∷ drop (told + 1) changes =
    drop_more changes told (0, 0) inside ∙ ap (λ (p : ℕ × ℕ). p ∷ drop (told + 1) changes) is in
    record {
      ahead = λ r. a.ahead (more ∙ ap (λ (l : List (ℕ × ℕ)). (place, get_or ys place 0) ∷ l) r ∙ sym (rest_other xs ys place h k ne));
      back = λ r. tail_same (place, get_or ys place 0) (place, get_or ys place 0) (drop (told + 1) changes) (rest xs ys (place + 1))
          (sym more ∙ a.back r ∙ rest_other xs ys place h k ne);
    }

pub agrees_few : (xs ys : List ℕ) (changes : List (ℕ × ℕ)) (told place : ℕ) → place < length xs → place < length ys → get_or xs place 0 ≢ get_or ys place 0 → length changes ≤ told → Agrees xs ys changes told place → changes ≢ changes_from 0 xs ys
agrees_few xs ys changes told place h k ne out a = λ r.
    no_cons (place, get_or ys place 0) (rest xs ys (place + 1))
    (sym (rest_other xs ys place h k ne) ∙ sym (a.back r) ∙ drop_all told changes out)

pub agrees_wrong : (xs ys : List ℕ) (changes : List (ℕ × ℕ)) (told place : ℕ) → place < length xs → place < length ys → get_or xs place 0 ≢ get_or ys place 0 → told < length changes → get_or changes told (0, 0) ≢ (place, get_or ys place 0) → Agrees xs ys changes told place → changes ≢ changes_from 0 xs ys
agrees_wrong xs ys changes told place h k ne inside other a = λ r.
    other (head_same (get_or changes told (0, 0)) (place, get_or ys place 0) (drop (told + 1) changes) (rest xs ys (place + 1))
    (sym (drop_more changes told (0, 0) inside) ∙ a.back r ∙ rest_other xs ys place h k ne))

pub agrees_done : (xs ys : List ℕ) (changes : List (ℕ × ℕ)) (told place : ℕ) → length xs ≤ place → length changes ≤ told → Agrees xs ys changes told place → changes ≡ changes_from 0 xs ys
agrees_done xs ys changes told place end all a = a.ahead (drop_all told changes all ∙ sym (rest_end xs ys place end))

pub agrees_left : (xs ys : List ℕ) (changes : List (ℕ × ℕ)) (told place : ℕ) → length xs ≤ place → told < length changes → Agrees xs ys changes told place → changes ≢ changes_from 0 xs ys
agrees_left xs ys changes told place end inside a = λ r.
    no_cons (get_or changes told (0, 0)) (drop (told + 1) changes)
    (sym (drop_more changes told (0, 0) inside) ∙ a.back r ∙ rest_end xs ys place end)

pub ruleset agreeing = (agrees_start, agrees_same, agrees_other, agrees_few, agrees_wrong, agrees_done, agrees_left)
