-- Notes of different places.
use Rattle.std.proofs.Common.{◌≡◌, ◌≢◌, ℕ, zero, suc, ◌+◌, ◌<◌, ◌≤◌, false, List, [], ◌∷◌, ◌++◌, length, take, get_or, refl, ap, ◌∙◌, sym, subst}
use Rattle.std.specs.Prelude.{◌==◌, ◌||◌}
use Rattle.std.proofs.lemmas.List.{take_more, take-take}
use Rattle.std.proofs.lemmas.Bool.{ne_eqb, eqb-false}
use Rattle.hv_nest.specs.declared.notes.Note.{Note}
use Rattle.hv_nest.specs.Notes.{is_noted, AreApart}
use Rattle.hv_nest.proofs.Undone.{noted_apart, or_parts}

-- one more note, of a place that isn't noted
pub apart_more : (notes : List Note) (m : Note) → is_noted m.at notes ≡ false → AreApart notes → AreApart (notes ++ m ∷ [])
unfolding AreApart
apart_more [] m e h = (refl, tt)
apart_more (n ∷ notes) m e h =
    let parts = or_parts (n.at == m.at) (is_noted m.at notes) e in
    let other : m.at ≢ n.at = λ q. eqb-false n.at m.at parts.0 (sym q) in
    (noted_apart notes m.at n.at m.before (λ q. other (sym q)) ∙ h.0, apart_more notes m parts.1 h.1)

-- notes that are apart are so without the last, whose place isn't noted before
pub apart_front : (notes : List Note) (m : Note) → AreApart (notes ++ m ∷ []) → AreApart notes × (is_noted m.at notes ≡ false)
unfolding AreApart
apart_front [] m h = (tt, refl)
apart_front (n ∷ notes) m h =
    let rest = apart_front notes m h.1 in
    let parts = noted_parts notes m n.at h.0 in
    ((parts.0, rest.0), ap (λ t. t || is_noted m.at notes) (ne_eqb n.at m.at (λ q. parts.1 (sym q))) ∙ rest.1)
  where
    noted_parts : (ns : List Note) (m : Note) (a : ℕ) → is_noted a (ns ++ m ∷ []) ≡ false → (is_noted a ns ≡ false) × (m.at ≢ a)
    noted_parts [] m a e = (refl, eqb-false m.at a (or_parts (m.at == a) false e).0)
    noted_parts (n ∷ ns) m a e =
        let parts = or_parts (n.at == a) (is_noted a (ns ++ m ∷ [])) e in
        let rest = noted_parts ns m a parts.1 in
        (ap (λ t. t || is_noted a ns) parts.0 ∙ rest.0, rest.1)

-- so are the first of them
apart_take : (k : ℕ) (notes : List Note) → AreApart notes → AreApart (take k notes)
unfolding AreApart
apart_take zero notes h = tt
apart_take (suc k) [] h = tt
apart_take (suc k) (n ∷ notes) h = (not_among k notes n.at h.0, apart_take k notes h.1)
  where
    not_among : (k : ℕ) (ns : List Note) (a : ℕ) → is_noted a ns ≡ false → is_noted a (take k ns) ≡ false
    not_among zero ns a e = refl
    not_among (suc k) [] a e = refl
    not_among (suc k) (n ∷ ns) a e =
        let parts = or_parts (n.at == a) (is_noted a ns) e in
        ap (λ t. t || is_noted a (take k ns)) parts.0 ∙ not_among k ns a parts.1

-- the first of them, and of these the first again
pub apart_fewer : (notes : List Note) (k n : ℕ) → k ≤ n → AreApart (take n notes) → AreApart (take k notes)
apart_fewer notes k n le h = subst AreApart (take-take k n notes le) (apart_take k (take n notes) h)

-- each is of a place that isn't noted before
pub apart_at : (notes : List Note) (k : ℕ) (d : Note) → k < length notes → AreApart notes → is_noted (get_or notes k d).at (take k notes) ≡ false
apart_at notes k d lt h =
    (apart_front (take k notes) (get_or notes k d) (subst AreApart (take_more notes k d lt) (apart_take (k + 1) notes h))).1
