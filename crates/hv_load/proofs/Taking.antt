-- Bare pages that are given one after another are given all at once: each is free as it is looked at exactly where all are
-- free and different.
use Rattle.std.proofs.Common.{◌≡◌, ℕ, ◌+◌, ◌<◌, ◌≤◌, Bool, true, false, not, ◌&&◌, ◌||◌, eqb, cond, List, [], ◌∷◌, length, drop, get_or, set, Result, Ok, Err, refl, sym, ap, ◌∙◌, ⊎_elim, rules}
use Rattle.std.proofs.lemmas.List.{drop_all, get_or_default, get_or-set_same, get_or-set_other}
use Rattle.std.proofs.lemmas.Bool.Decides.{eqb_tells}
use Rattle.hv_word.specs.Words.{has}
use Rattle.hv_map.specs.Apart.{are_distinct}
use Rattle.hv_load.specs.declared.ends.BuildKind.{BuildKind}
use Rattle.hv_load.specs.declared.ends.BuildKind.TheVariants as kind
use Rattle.hv_load.specs.declared.parts.Mark.{Mark}
use Rattle.hv_load.specs.declared.parts.Mark.TheVariants.{Control}
use Rattle.hv_load.specs.Pages.{free_at, is_free, marked}
use Rattle.hv_load.specs.Making.{all_free, can_take}
use Rattle.hv_load.specs.Taking.{taken_in}
use Rattle.hv_load.proofs.Lists.{left_at}

free_after : (marks : List Mark) (g h : ℕ) → g < length marks → free_at (set marks g Control) h ≡ (not (eqb g h) && free_at marks h)
free_after marks g h lt =
    ⊎_elim
    (λ (s : (eqb g h ≡ true) × (g ≡ h)).
    ap (λ (k : ℕ). free_at (set marks g Control) k) (sym s.1)
    ∙ ap is_free (get_or-set_same marks g Control Control lt)
    ∙ ap (λ (b : Bool). not b && free_at marks h) (sym s.0))
    (λ (d : (eqb g h ≡ false) × (g ≡ h → ⊥)).
    ap is_free (get_or-set_other marks g h Control Control (λ e. d.1 (sym e)))
    ∙ ap (λ (b : Bool). not b && free_at marks h) (sym d.0))
    (eqb_tells g h)

shuffled : (e f h a : Bool) → ((not e && f) && (not h && a)) ≡ (not (e || h) && (f && a))
shuffled true f h a = refl
shuffled false true h a = refl
shuffled false false true a = refl
shuffled false false false a = refl

all_after : (marks : List Mark) (g : ℕ) (hs : List ℕ) → g < length marks → all_free (set marks g Control) hs ≡ (not (has g hs) && all_free marks hs)
all_after marks g [] lt = refl
all_after marks g (h ∷ hs) lt =
    ap (λ (b : Bool). b && all_free (set marks g Control) hs) (free_after marks g h lt)
    ∙ ap (λ (b : Bool). (not (eqb g h) && free_at marks h) && b) (all_after marks g hs lt)
    ∙ shuffled (eqb g h) (free_at marks h) (has g hs) (all_free marks hs)

regrouped : (f a n d : Bool) → f ≡ true → ((f && a) && (n && d)) ≡ ((n && a) && d)
regrouped true true true d is = refl
regrouped true true false d is = refl
regrouped true false true d is = refl
regrouped true false false d is = refl
regrouped false a n d is = absurd (search rules)

can_after : (marks : List Mark) (g : ℕ) (gs : List ℕ) → g < length marks → free_at marks g ≡ true → can_take marks (g ∷ gs) ≡ can_take (set marks g Control) gs
unfolding are_distinct
can_after marks g gs lt free =
    regrouped (free_at marks g) (all_free marks gs) (not (has g gs)) (are_distinct gs) free
    ∙ ap (λ (b : Bool). b && are_distinct gs) (sym (all_after marks g gs lt))

given : Bool → List Mark → Result (List Mark) BuildKind
given b marks = cond b (Ok marks) (Err kind.Overlap)

pub taken_more : (marks : List Mark) (pages : List ℕ) (i g : ℕ) → i < length pages → g ≡ get_or pages i g → g < length marks → free_at marks g ≡ true → taken_in marks (drop i pages) ≡ taken_in (set marks g Control) (drop (i + 1) pages)
unfolding given
taken_more marks pages i g h is lt free =
    ap (taken_in marks) (left_at pages i g h is)
    ∙ ap (λ (b : Bool). given b (marked Control (drop (i + 1) pages) (set marks g Control))) (can_after marks g (drop (i + 1) pages) lt free)

pub taken_stop : (marks : List Mark) (pages : List ℕ) (i g : ℕ) → i < length pages → g ≡ get_or pages i g → free_at marks g ≡ false → taken_in marks (drop i pages) ≡ Err kind.Overlap
unfolding given
taken_stop marks pages i g h is taken =
    ap (taken_in marks) (left_at pages i g h is)
    ∙ ap
    (λ (b : Bool). given ((b && all_free marks (drop (i + 1) pages)) && are_distinct (g ∷ drop (i + 1) pages)) (marked Control (drop (i + 1) pages) (set marks g Control)))
    taken

-- the same as a loop goes on
pub took_more : (marks : List Mark) (pages : List ℕ) (i : ℕ) (all : Result (List Mark) BuildKind) → i < length pages → get_or pages i 0 < length marks → free_at marks (get_or pages i 0) ≡ true → taken_in marks (drop i pages) ≡ all → taken_in (set marks (get_or pages i 0) Control) (drop (i + 1) pages) ≡ all
took_more marks pages i all h lt free told =
    sym (taken_more marks pages i (get_or pages i 0) h (get_or_default pages i 0 (get_or pages i 0) h) lt free) ∙ told

-- a mark that was read is free
pub free_read : (marks : List Mark) (g : ℕ) (m : Mark) → g < length marks → m ≡ get_or marks g m → is_free m ≡ true → free_at marks g ≡ true
free_read marks g m lt read free = ap is_free (get_or_default marks g Control m lt ∙ sym read) ∙ free

pub taken_end : (marks : List Mark) (pages : List ℕ) (i : ℕ) → length pages ≤ i → taken_in marks (drop i pages) ≡ Ok marks
unfolding are_distinct
taken_end marks pages i h = ap (taken_in marks) (drop_all i pages h)

pub ruleset taking = (taken_more, taken_stop, taken_end)
