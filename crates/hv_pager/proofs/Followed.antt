-- A watch that is followed to the end ran smoothly, and has told what its tally tells.
use Rattle.std.proofs.Common.{◌≡◌, ◌≢◌, ℕ, zero, suc, ◌+◌, ◌<◌, ◌⊎◌, inl, inr, Bool, true, false, cond, not, ◌&&◌, ◌==◌, List, [], ◌∷◌, ◌++◌, length, Option, Some, None, refl, ap, ◌∙◌, sym, subst, arith}
use Rattle.std.proofs.lemmas.Bool.{and_parts, eqb-true, true≢false, false≢true, not-false}
use Rattle.std.proofs.lemmas.Bool.Decides.{eqb_tells}
use Rattle.std.proofs.lemmas.Option.{slice_get_within}
use Rattle.hv_store.specs.declared.access.Slot.{Slot}
use Rattle.hv_store.specs.declared.access.Way.{Way}
use Rattle.hv_store.specs.declared.access.Way.TheVariants.{Open, Shut}
use Rattle.hv_map.specs.Item.{Item}
use Rattle.hv_map.specs.Compose.{reading}
use Rattle.hv_map.specs.Chain.{map_along, map_of, pin_of}
use Rattle.hv_map.specs.Seen.{words_of}
use Rattle.hv_map.proofs.Handed.{reading_slot}
use Rattle.hv_nest.specs.State.{State}
use Rattle.hv_nest.specs.Move.{Move, last_of, state_after}
use Rattle.hv_nest.specs.Bare.{bare_of}
use Rattle.hv_whole.specs.Whole.{Alike, own}
use Rattle.hv_nest.specs.Watched.{LineChange, Tally, foot, is_counted, no_tally, lines_of, beside, tally_after, tally_of}
use Rattle.hv_pager.specs.Paging.{Arrivals, AreTrue, IsSmooth, RunsSmoothly, arrivals_of, demand, keeps_if, reading_if, stands_if}
use Rattle.hv_pager.proofs.Demanded.{paged_run}
use Rattle.hv_pager.specs.Row.{Followed, FollowedLaw, any_below, brings_untrue, followed_after, followed_first, followed_of, followed_on, goes_on, is_arriving, is_as_last, is_open_to, is_rough, is_true_by, is_untrue, same_words}

same_lists : (xs ys : List ℕ) → same_words xs ys ≡ true → xs ≡ ys
unfolding same_words
same_lists [] [] e = refl
same_lists [] (y ∷ ys) e = absurd (false≢true e)
same_lists (x ∷ xs) [] e = absurd (false≢true e)
same_lists (x ∷ xs) (y ∷ ys) e =
    let p = and_parts (x == y) (same_words xs ys) e in
    let head : x ≡ y = eqb-true x y p.0 in
    let tail : xs ≡ ys = same_lists xs ys p.1 in
    λ i. head i ∷ tail i

none_below : (n : ℕ) (f : ℕ → Bool) → any_below n f ≡ false → (i : ℕ) → i < n → f i ≡ false
unfolding any_below
none_below zero f e i h = absurd (omega (arith, h))
none_below (suc n) f e i h = by (f n) refl e (none_below n f)
  where
    last : (i < n) ⊎ (i ≡ n)
    last = elim (eqb_tells i n) [
      | inl e ↦ inr e.1
      | inr e ↦ inl (let ne : i ≢ n = e.1 in omega (arith, h, ne))
    ]

    at : f n ≡ false → any_below n f ≡ false → (any_below n f ≡ false → (k : ℕ) → k < n → f k ≡ false) → (i < n) ⊎ (i ≡ n) → f i ≡ false
    at is e more (inl low) = more e i low
    at is e more (inr same) = ap f same ∙ is

    by : (b : Bool) → f n ≡ b → cond b true (any_below n f) ≡ false → (any_below n f ≡ false → (k : ℕ) → k < n → f k ≡ false) → f i ≡ false
    by true is e more = absurd (true≢false e)
    by false is e more = at is e more last

-- a way that is open to the page
open_to : (o : Option Way) (g : ℕ) → is_open_to o g ≡ true → o ≡ Some (Open g)
open_to None g e = absurd (false≢true e)
open_to (Some (Open x)) g e = ap (λ (n : ℕ). Some (Open n)) (eqb-true x g e)
open_to (Some (Shut l c a b)) g e = absurd (false≢true e)

not_open : (o : Option Way) (g : ℕ) → o ≢ Some (Open g) → is_open_to o g ≡ false
not_open o g ne = by (is_open_to o g) refl
  where
    by : (b : Bool) → is_open_to o g ≡ b → is_open_to o g ≡ false
    by true e = absurd (ne (open_to o g e))
    by false e = e

-- a page that arrives, and isn't untrue
is_true_page : (S : List ℕ) (old new : Option Way) (p : Arrivals) (g : ℕ) (words : List ℕ) → new ≡ Some (Open g) → old ≢ Some (Open g) → p.last ≡ Some words → is_untrue S old new p ≡ false → words ≡ words_of S 1024 (Open g)
is_true_page S old new p g words is ne last e =
    same_lists words (words_of S 1024 (Open g))
    (not-false (same_words words (words_of S 1024 (Open g)))
    (sym (ap (λ (b : Bool). not b && not (same_words words (words_of S 1024 (Open g)))) (not_open old g ne))
    ∙ sym (ap (λ (o : Option (List ℕ)). not (is_open_to old g) && not (is_as_last o (words_of S 1024 (Open g)))) last)
    ∙ sym (ap (λ (o : Option Way). is_arriving old o && not (is_true_by S p.last o)) is)
    ∙ e))

all_true : (S : List ℕ) (F G : Option (List Slot)) (pages : ℕ → Arrivals) → brings_untrue S F G pages ≡ false → AreTrue S F G pages
all_true S F None pages e i g words is ne last = absurd (none is)
  where
    none : None ≡ Some (Open g) → ⊥
    none e = cc
all_true S F (Some G) pages e i g words is ne last =
    let r = reading_slot G i (Open g) is in
    is_true_page S (reading_if F i) (reading G i) (pages i) g words is ne last
    (none_below (length G) (λ k. is_untrue S (reading_if F k) (reading G k) (pages k)) e i (slice_get_within G i r.0 r.1))

-- a move that isn't rough
smooth : (h : ℕ) (path : List ℕ) (st : State) (move : Move) → is_rough h path st move ≡ false → IsSmooth h path st move
smooth h path st move e = record {
  keeps = λ free. keep (stands_if (state_after st move).storage (pin_of (state_after st move).storage path)) (is_counted h path st move) free e;
  stands = stand (stands_if (state_after st move).storage (pin_of (state_after st move).storage path)) e;
}
  where
    kept : Bool
    kept = keeps_if st.storage (pin_of st.storage path) (state_after st move).storage

    keep : (b c : Bool) → c ≡ false → cond b (cond c false (not (keeps_if st.storage (pin_of st.storage path) (state_after st move).storage))) true ≡ false → keeps_if st.storage (pin_of st.storage path) (state_after st move).storage ≡ true
    keep true false free e = not-false (keeps_if st.storage (pin_of st.storage path) (state_after st move).storage) e
    keep true true free e = absurd (true≢false free)
    keep false c free e = absurd (true≢false e)

    stand : (b : Bool) → cond b (cond (is_counted h path st move) false (not (keeps_if st.storage (pin_of st.storage path) (state_after st move).storage))) true ≡ false → b ≡ true
    stand true e = refl
    stand false e = absurd (true≢false e)

module _ (h : ℕ) (path : List ℕ) (items : List Item) where
  -- what is closed stays closed
  still_closed : (moves : List Move) (st : State) (f : Followed) → goes_on f ≡ false → goes_on (followed_of h path items st moves f) ≡ false
  unfolding followed_of
  still_closed [] st f e = e
  still_closed (move ∷ moves) st f e =
      still_closed moves (state_after st move) (followed_after h path items st move f)
      (ap (λ (b : Bool). goes_on (cond b (followed_on h path items st move f) f)) e ∙ e)

  not_closed : (moves : List Move) (st : State) (f : Followed) → goes_on (followed_of h path items st moves f) ≡ true → goes_on f ≡ true
  not_closed moves st f e = by (goes_on f) refl
    where
      by : (b : Bool) → goes_on f ≡ b → goes_on f ≡ true
      by true is = is
      by false is = absurd (false≢true (sym (still_closed moves st f is) ∙ e))

  rough_not : (r t : Bool) → cond r false t ≡ true → r ≡ false
  rough_not true t e = absurd (false≢true e)
  rough_not false t e = refl

  true_so : (r t : Bool) → cond r false t ≡ true → t ≡ true
  true_so true t e = absurd (false≢true e)
  true_so false t e = e

  not_so : (b : Bool) → not b ≡ true → b ≡ false
  not_so true e = absurd (false≢true e)
  not_so false e = refl

  pub runs_smoothly : (moves : List Move) (st : State) (f : Followed) → goes_on (followed_of h path items st moves f) ≡ true → RunsSmoothly h path st moves f.pages
  unfolding followed_of
  runs_smoothly [] st f e = tt
  runs_smoothly (move ∷ moves) st f e =
      let next : State = state_after st move in
      let g : Followed = followed_on h path items st move f in
      let before : goes_on f ≡ true = not_closed (move ∷ moves) st f e in
      let on : followed_after h path items st move f ≡ g = ap (λ (b : Bool). cond b g f) before in
      let then_on : goes_on (followed_of h path items next moves g) ≡ true = ap (λ (u : Followed). goes_on (followed_of h path items next moves u)) (sym on) ∙ e in
      let now : goes_on g ≡ true = not_closed moves next g then_on in (
        smooth h path st move (rough_not g.rough g.truthful now),
        all_true next.storage (map_of st.storage path) (map_of next.storage path) f.pages (not_so (brings_untrue next.storage (map_of st.storage path) (map_of next.storage path) f.pages) (true_so g.rough g.truthful now)),
        runs_smoothly moves next g then_on,
      )

  -- what is told of it is what the tally tells, and what was seen of its pages
  one_told : (ft : List ℕ) (st : State) (move : Move) (f : Followed) (t : Tally) → f.count ≡ t.count → f.changes ≡ t.changes
      → ((followed_on h path items st move f).count ≡ (tally_after h path items ft st move t).count) × ((followed_on h path items st move f).changes ≡ (tally_after h path items ft st move t).changes)
  one_told ft st move f t count changes = by (is_counted h path st move)
    where
      next : State
      next = state_after st move

      lined : (b : Bool) → cond b f.changes (f.changes ++ record { count = f.count; bits = lines_of h items (state_after st move) } ∷ []) ≡ cond b t.changes (t.changes ++ record { count = t.count; bits = lines_of h items (state_after st move) } ∷ [])
      lined true = changes
      lined false = λ i. changes i ++ record { count = count i; bits = lines_of h items (state_after st move) } ∷ []

      by : (b : Bool)
          → (cond b (f.count + 1) f.count ≡ (cond b (record t { count = t.count + 1 }) (beside h items ft st (state_after st move) t)).count)
          × (cond b f.changes (cond (lines_of h items st == lines_of h items (state_after st move)) f.changes (f.changes ++ record { count = f.count; bits = lines_of h items (state_after st move) } ∷ [])) ≡ (cond b (record t { count = t.count + 1 }) (beside h items ft st (state_after st move) t)).changes)
      by true = (ap (λ (n : ℕ). n + 1) count, changes)
      by false = (count, lined (lines_of h items st == lines_of h items (state_after st move)))

  pub told_same : (ft : List ℕ) (moves : List Move) (st : State) (f : Followed) (t : Tally) → f.count ≡ t.count → f.changes ≡ t.changes
      → goes_on (followed_of h path items st moves f) ≡ true
      → ((followed_of h path items st moves f).count ≡ (tally_of h path items ft st moves t).count)
      × ((followed_of h path items st moves f).changes ≡ (tally_of h path items ft st moves t).changes)
      × ((followed_of h path items st moves f).pages ≡ arrivals_of path st moves f.pages)
  unfolding followed_of tally_of arrivals_of
  told_same ft [] st f t count changes e = (count, changes, refl)
  told_same ft (move ∷ moves) st f t count changes e =
      let next : State = state_after st move in
      let g : Followed = followed_on h path items st move f in
      let u : Tally = tally_after h path items ft st move t in
      let before : goes_on f ≡ true = not_closed (move ∷ moves) st f e in
      let on : followed_after h path items st move f ≡ g = ap (λ (b : Bool). cond b g f) before in
      let then_on : goes_on (followed_of h path items next moves g) ≡ true = ap (λ (w : Followed). goes_on (followed_of h path items next moves w)) (sym on) ∙ e in
      let one = one_told ft st move f t count changes in
      let rest = told_same ft moves next g u one.0 one.1 then_on in (
        ap (λ (w : Followed). (followed_of h path items next moves w).count) on ∙ rest.0,
        ap (λ (w : Followed). (followed_of h path items next moves w).changes) on ∙ rest.1,
        ap (λ (w : Followed). (followed_of h path items next moves w).pages) on ∙ rest.2,
      )

-- what the bare machine is made from
record Arrived : Type 0 where
  pages : ℕ → Arrivals
  changes : List LineChange
  count : ℕ

-- by the law of paged machines
pub followed_run : FollowedLaw
followed_run h path items start moves f there root masked short pin apart told on =
    let S : List ℕ = start.storage in
    let first : Followed = followed_first S path in
    let goes : goes_on (followed_of h path items start moves first) ≡ true = ap goes_on (sym told) ∙ on in
    let t : Tally = tally_of h path items (foot S items) start moves no_tally in
    let same = told_same h path items (foot S items) moves start first no_tally refl refl goes in
    let n : ℕ = length (map_along S items) in
    let law = paged_run h path items start moves t there root masked short pin apart (runs_smoothly h path items moves start first goes) refl in
    subst (λ (g : Followed). Alike h items (map_along (last_of start moves).storage items) (last_of start moves) (bare_of (demand n g.pages) (own h items start) g.changes g.count)) (sym told)
    (subst (λ (w : Arrived). Alike h items (map_along (last_of start moves).storage items) (last_of start moves) (bare_of (demand n w.pages) (own h items start) w.changes w.count))
    (λ i. record { pages = (sym same.2) i; changes = (sym same.1) i; count = (sym same.0) i })
    law)
