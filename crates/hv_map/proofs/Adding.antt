-- What a list has after pages were added.
use Rattle.std.proofs.Common.{◌≡◌, ℕ, inl, inr, Bool, true, false, ◌||◌, cond, ◌==◌, List, [], ◌∷◌, ◌++◌, length, refl, ap, ◌∙◌, sym}
use Rattle.std.proofs.lemmas.Bool.Decides.{eqb_tells}
use Rattle.std.proofs.lemmas.List.Folds.{list_any-append}
use Rattle.hv_word.specs.Words.{has}
use Rattle.hv_map.specs.Held.{Lists}
use Rattle.hv_map.specs.Gathered.{Listed, listed_limit, with_page, with_pages}

same_number : (g : ℕ) → (g == g) ≡ true
same_number g = elim (eqb_tells g g) [ inl e ↦ e.0 | inr e ↦ absurd (e.1 refl) ]

or_true : (a : Bool) → (a || true) ≡ true
or_true true = refl
or_true false = refl

-- a page that is pushed is there, and those before it
has_before : (h g : ℕ) (ps : List ℕ) → has h ps ≡ true → has h (ps ++ g ∷ []) ≡ true
has_before h g ps e = list_any-append (λ (b : ℕ). h == b) ps (g ∷ []) ∙ ap (λ (b : Bool). b || has h (g ∷ [])) e

has_pushed : (g : ℕ) (ps : List ℕ) → has g (ps ++ g ∷ []) ≡ true
has_pushed g ps =
    list_any-append (λ (b : ℕ). g == b) ps (g ∷ [])
    ∙ ap (λ (b : Bool). has g ps || (b || false)) (same_number g)
    ∙ or_true (has g ps)

-- with_page by cases: whether the page is listed, and whether the list has no room
made : Listed → ℕ → Bool → Bool → Listed
made p g listed none = cond listed p (cond none (record p { full = true }) (record p { pages = p.pages ++ g ∷ [] }))

made_keeps : (p : Listed) (g h : ℕ) (a b : Bool) → has h p.pages ≡ true → has h (made p g a b).pages ≡ true
unfolding made
made_keeps p g h true b e = e
made_keeps p g h false true e = e
made_keeps p g h false false e = has_before h g p.pages e

made_full : (p : Listed) (g : ℕ) (a b : Bool) → p.full ≡ true → (made p g a b).full ≡ true
unfolding made
made_full p g true b e = e
made_full p g false true e = refl
made_full p g false false e = e

made_lists : (p : Listed) (g : ℕ) (a b : Bool) → has g p.pages ≡ a → (made p g a b).full ≡ false → has g (made p g a b).pages ≡ true
unfolding made
made_lists p g true b is e = is
made_lists p g false true is e = absurd (let f : true ≡ false = e in cc)
made_lists p g false false is e = has_pushed g p.pages

with_page_keeps : (p : Listed) (g h : ℕ) → has h p.pages ≡ true → has h (with_page p g).pages ≡ true
unfolding made
with_page_keeps p g h e = made_keeps p g h (has g p.pages) (length p.pages == listed_limit) e

with_pages_keeps : (p : Listed) (gs : List ℕ) (h : ℕ) → has h p.pages ≡ true → has h (with_pages p gs).pages ≡ true
unfolding with_pages
with_pages_keeps p [] h e = e
with_pages_keeps p (g ∷ gs) h e = with_pages_keeps (with_page p g) gs h (with_page_keeps p g h e)

with_pages_full : (p : Listed) (gs : List ℕ) → p.full ≡ true → (with_pages p gs).full ≡ true
unfolding with_pages made
with_pages_full p [] e = e
with_pages_full p (g ∷ gs) e =
    with_pages_full (with_page p g) gs (made_full p g (has g p.pages) (length p.pages == listed_limit) e)

pub room_before : (p : Listed) (gs : List ℕ) → (with_pages p gs).full ≡ false → p.full ≡ false
room_before p gs e = go p.full refl
  where
    go : (b : Bool) → p.full ≡ b → p.full ≡ false
    go true is = absurd (let f : true ≡ false = sym (with_pages_full p gs is) ∙ e in cc)
    go false is = is

pub lists_keep : (p : Listed) (gs hs : List ℕ) → Lists p hs → Lists (with_pages p gs) hs
lists_keep p gs [] lists = tt
lists_keep p gs (h ∷ hs) lists = (with_pages_keeps p gs h lists.0, lists_keep p gs hs lists.1)

pub lists_all : (p : Listed) (gs : List ℕ) → (with_pages p gs).full ≡ false → Lists (with_pages p gs) gs
unfolding with_pages made
lists_all p [] e = tt
lists_all p (g ∷ gs) e =
    let room : (with_page p g).full ≡ false = room_before (with_page p g) gs e in (
      with_pages_keeps (with_page p g) gs g (made_lists p g (has g p.pages) (length p.pages == listed_limit) refl room),
      lists_all (with_page p g) gs e,
    )
