-- How the notes tell what changed.
use Rattle.std.proofs.Common.{◌≡◌, ◌≢◌, ℕ, zero, suc, ◌+◌, ◌<◌, ◌≤◌, Bool, true, false, cond, List, [], ◌∷◌, ◌++◌, length, take, set, get_or, refl, ap, ◌∙◌, sym, arith, get_or-set_other, get_or-set_same}
use Rattle.std.specs.Prelude.{◌==◌, ◌&&◌, not, nat_lt}
use Rattle.std.specs.List.{range_with_len, flat_map}
use Rattle.std.proofs.lemmas.List.{take_all, take_more, set_comm, set_past, set-get_or}
use Rattle.std.proofs.lemmas.Bool.{eq-eqb, ne_eqb, eqb-true, eqb-false, ltb-true, ltb-false}
use Rattle.hv_nest.specs.declared.changed.ChangedRow.{ChangedRow}
use Rattle.hv_nest.specs.declared.notes.Note.{Note}
use Rattle.hv_nest.specs.Changes.{difference_at, differences_to}
use Rattle.hv_nest.specs.Noted.{told_too}
use Rattle.hv_nest.specs.Notes.{undone, is_noted, AreApart}
use Rattle.hv_nest.specs.Rows.{with_row}
use Rattle.hv_nest.proofs.Apart.{apart_at}
use Rattle.hv_nest.proofs.Inserted.{with_lesser, with_greater, length-with_row}
use Rattle.hv_nest.proofs.Undone.{length-undone, undone_at, undone-snoc, or_parts, same_or_other}

-- a word that isn't noted is put before or after the others are put back
undone_beside : (T : List ℕ) (notes : List Note) (a b : ℕ) → is_noted a notes ≡ false → undone (set T a b) notes ≡ set (undone T notes) a b
unfolding undone
undone_beside T [] a b e = refl
undone_beside T (n ∷ notes) a b e =
    let parts = or_parts (n.at == a) (is_noted a notes) e in
    let other : a ≢ n.at = λ q. eqb-false n.at a parts.0 (sym q) in
    ap (λ (U : List ℕ). set U n.at n.before) (undone_beside T notes a b parts.1)
    ∙ set_comm (undone T notes) a n.at b n.before other

-- the n places from place i on where S and T differ
abbrev among : List ℕ → List ℕ → ℕ → ℕ → List ChangedRow
among S T i n = flat_map (difference_at S T) (range_with_len i n)

abbrev row_of : List ℕ → ℕ → ChangedRow
row_of T a = record { at = a; value = get_or T a 0 }

-- the first of them
among_same : (S T : List ℕ) (i n : ℕ) → get_or S i 0 ≡ get_or T i 0 → among S T i (suc n) ≡ among S T (i + 1) n
among_same S T i n e =
    ap (λ (t : Bool). cond t [] (row_of T i ∷ []) ++ among S T (i + 1) n) (eq-eqb (get_or S i 0) (get_or T i 0) e)

among_other : (S T : List ℕ) (i n : ℕ) → get_or S i 0 ≢ get_or T i 0 → among S T i (suc n) ≡ row_of T i ∷ among S T (i + 1) n
among_other S T i n ne =
    ap (λ (t : Bool). cond t [] (row_of T i ∷ []) ++ among S T (i + 1) n) (ne_eqb (get_or S i 0) (get_or T i 0) ne)

row_before : (S T : List ℕ) (a i n : ℕ) → a < i → with_row (row_of T a) (among S T i n) ≡ row_of T a ∷ among S T i n
unfolding with_row
row_before S T a i zero lt = refl
row_before S T a i (suc n) lt =
    same_or_other (get_or S i 0) (get_or T i 0) (with_row (row_of T a) (among S T i (suc n)) ≡ row_of T a ∷ among S T i (suc n))
    (λ e. ap (with_row (row_of T a)) (among_same S T i n e) ∙ row_before S T a (i + 1) n (omega arith) ∙ ap (λ (xs : List ChangedRow). row_of T a ∷ xs) (sym (among_same S T i n e)))
    (λ ne.
    ap (with_row (row_of T a)) (among_other S T i n ne)
    ∙ with_lesser (row_of T a) (row_of T i) (among S T (i + 1) n) lt
    ∙ ap (λ (xs : List ChangedRow). row_of T a ∷ xs) (row_before S T i (i + 1) n (omega arith) ∙ sym (among_other S T i n ne)))

-- behind a word that is put nothing is another
among_behind : (S T : List ℕ) (a b i n : ℕ) → a < i → among (set S a b) T i n ≡ among S T i n
among_behind S T a b i zero lt = refl
among_behind S T a b i (suc n) lt =
    let ne : i ≢ a = λ q. omega (arith, q) in
    ap (λ (v : ℕ). cond (v == get_or T i 0) [] (row_of T i ∷ []) ++ among (set S a b) T (i + 1) n) (get_or-set_other S a i b 0 ne)
    ∙ ap (λ (xs : List ChangedRow). difference_at S T i ++ xs) (among_behind S T a b (i + 1) n (omega arith))

-- one more place where the two differ is one more row
among_more : (S T : List ℕ) (a b i n : ℕ) → a < length S → i ≤ a → a < i + n → get_or S a 0 ≡ get_or T a 0 → b ≢ get_or T a 0 → with_row (row_of T a) (among S T i n) ≡ among (set S a b) T i n
among_more S T a b i zero inside le lt same other = absurd (omega (arith, le, lt))
among_more S T a b i (suc n) inside le lt same other =
    same_or_other a i (with_row (row_of T a) (among S T i (suc n)) ≡ among (set S a b) T i (suc n)) here
    (λ ne. there ne (among_more S T a b (i + 1) n inside (omega (arith, le, ne)) (omega (arith, lt)) same other))
  where
    here : a ≡ i → with_row (row_of T a) (among S T i (suc n)) ≡ among (set S a b) T i (suc n)
    here e =
        let is : get_or S i 0 ≡ get_or T i 0 = ap (λ (k : ℕ). get_or S k 0) (sym e) ∙ same ∙ ap (λ (k : ℕ). get_or T k 0) e in
        let put : get_or (set S a b) i 0 ≡ b = ap (λ (k : ℕ). get_or (set S a b) k 0) (sym e) ∙ get_or-set_same S a b 0 inside in
        let differs : get_or (set S a b) i 0 ≢ get_or T i 0 = λ q. other (sym put ∙ q ∙ ap (λ (k : ℕ). get_or T k 0) (sym e)) in
        ap (with_row (row_of T a)) (among_same S T i n is)
        ∙ row_before S T a (i + 1) n (omega (arith, e))
        ∙ ap (λ (k : ℕ). row_of T k ∷ among S T (i + 1) n) e
        ∙ ap (λ (xs : List ChangedRow). row_of T i ∷ xs) (sym (among_behind S T a b (i + 1) n (omega (arith, e))))
        ∙ sym (among_other (set S a b) T i n differs)

    there : a ≢ i → with_row (row_of T a) (among S T (i + 1) n) ≡ among (set S a b) T (i + 1) n → with_row (row_of T a) (among S T i (suc n)) ≡ among (set S a b) T i (suc n)
    there ne rest =
        let apart : i ≢ a = λ q. ne (sym q) in
        let stays : get_or (set S a b) i 0 ≡ get_or S i 0 = get_or-set_other S a i b 0 apart in
        same_or_other (get_or S i 0) (get_or T i 0) (with_row (row_of T a) (among S T i (suc n)) ≡ among (set S a b) T i (suc n))
        (λ e. ap (with_row (row_of T a)) (among_same S T i n e) ∙ rest ∙ sym (among_same (set S a b) T i n (stays ∙ e)))
        (λ e.
        ap (with_row (row_of T a)) (among_other S T i n e)
        ∙ with_greater (row_of T a) (row_of T i) (among S T (i + 1) n) le
        ∙ ap (λ (xs : List ChangedRow). row_of T i ∷ xs) rest
        ∙ sym (among_other (set S a b) T i n (λ q. e (sym stays ∙ q))))

-- one more note, of a place that isn't noted before
told_next : (T : List ℕ) (notes : List Note) (n : Note) → is_noted n.at notes ≡ false → told_too T n (differences_to (undone T notes) T (length T)) ≡ differences_to (undone T (notes ++ n ∷ [])) T (length T)
unfolding told_too differences_to
told_next T notes n free = by (nat_lt n.at (length T)) refl (n.before == get_or T n.at 0) refl
  where
    S : List ℕ
    S = undone T notes

    with_it : undone T (notes ++ n ∷ []) ≡ set S n.at n.before
    with_it = undone-snoc T notes n ∙ undone_beside T notes n.at n.before free

    unchanged : set T n.at n.before ≡ T → differences_to S T (length T) ≡ differences_to (undone T (notes ++ n ∷ [])) T (length T)
    unchanged e =
        ap (λ (U : List ℕ). differences_to U T (length T)) (ap (λ (V : List ℕ). undone V notes) (sym e) ∙ sym (undone-snoc T notes n))

    by : (t : Bool) → nat_lt n.at (length T) ≡ t → (u : Bool) → (n.before == get_or T n.at 0) ≡ u → cond (t && not u) (with_row (row_of T n.at) (differences_to S T (length T))) (differences_to S T (length T)) ≡ differences_to (undone T (notes ++ n ∷ [])) T (length T)
    by false p u q = unchanged (set_past T n.at n.before (ltb-false n.at (length T) p))
    by true p true q =
        unchanged (ap (λ (v : ℕ). set T n.at v) (eqb-true n.before (get_or T n.at 0) q) ∙ set-get_or T n.at 0)
    by true p false q =
        let inside : n.at < length T = ltb-true n.at (length T) p in
        let in_range : n.at < length S = omega (arith, inside, length-undone T notes) in
        let first : 0 ≤ n.at = omega arith in
        let last : n.at < 0 + length T = omega arith in
        among_more S T n.at n.before 0 (length T) in_range first last (undone_at T notes n.at free) (eqb-false n.before (get_or T n.at 0) q)
        ∙ ap (λ (U : List ℕ). differences_to U T (length T)) (sym with_it)

-- of notes that are apart, one more than the first k
pub told_more : (T : List ℕ) (notes : List Note) (k : ℕ) (d : Note) (rows : List ChangedRow) → k < length notes → AreApart notes → rows ≡ differences_to (undone T (take k notes)) T (length T) → told_too T (get_or notes k d) rows ≡ differences_to (undone T (take (k + 1) notes)) T (length T)
told_more T notes k d rows lt h e =
    ap (told_too T (get_or notes k d)) e
    ∙ told_next T (take k notes) (get_or notes k d) (apart_at notes k d lt h)
    ∙ ap (λ (ns : List Note). differences_to (undone T ns) T (length T)) (sym (take_more notes k d lt))

-- one row more at most
pub few_told : (T : List ℕ) (n : Note) (rows : List ChangedRow) → length (told_too T n rows) ≤ length rows + 1
unfolding told_too
few_told T n rows = by (nat_lt n.at (length T) && not (n.before == get_or T n.at 0))
  where
    by : (t : Bool) → length (cond t (with_row (row_of T n.at) rows) rows) ≤ length rows + 1
    by true = omega (arith, length-with_row (row_of T n.at) rows)
    by false = omega arith

none_among : (S : List ℕ) (i n : ℕ) → among S S i n ≡ []
none_among S i zero = refl
none_among S i (suc n) = among_same S S i n refl ∙ none_among S (i + 1) n

-- no word is another than itself
pub differences_itself : (S : List ℕ) (n : ℕ) → [] ≡ differences_to S S n
unfolding differences_to
differences_itself S n = sym (none_among S 0 n)

-- where nothing is noted nothing changed
pub differences_unnoted : (T : List ℕ) (notes : List Note) (n : ℕ) → notes ≡ [] → [] ≡ differences_to (undone T notes) T n
unfolding undone
differences_unnoted T notes n e =
    differences_itself T n ∙ sym (ap (λ (ns : List Note). differences_to (undone T ns) T n) e)

-- one note alone
pub told_first : (T : List ℕ) (notes : List Note) (d : Note) (rows : List ChangedRow) → 0 < length notes → length notes ≤ 1 → AreApart notes → rows ≡ [] → told_too T (get_or notes 0 d) rows ≡ differences_to (undone T notes) T (length (undone T notes))
told_first T notes d rows some one apart none =
    told_more T notes 0 d rows some apart (none ∙ differences_unnoted T [] (length T) refl)
    ∙ ap (λ (ns : List Note). differences_to (undone T ns) T (length T)) (take_all 1 notes one)
    ∙ ap (differences_to (undone T notes) T) (sym (length-undone T notes))

-- two notes alone, of which the first told these rows
pub told_second : (T : List ℕ) (notes : List Note) (d e : Note) (before rows : List ChangedRow) → 1 < length notes → length notes ≤ 2 → AreApart notes → before ≡ [] → rows ≡ told_too T (get_or notes 0 d) before → told_too T (get_or notes 1 e) rows ≡ differences_to (undone T notes) T (length (undone T notes))
told_second T notes d e before rows some two apart none is =
    let first : 0 < length notes = omega (arith, some) in
    told_more T notes 1 e rows some apart (is ∙ told_more T notes 0 d before first apart (none ∙ differences_unnoted T [] (length T) refl))
    ∙ ap (λ (ns : List Note). differences_to (undone T ns) T (length T)) (take_all 2 notes two)
    ∙ ap (differences_to (undone T notes) T) (sym (length-undone T notes))

pub ruleset telling = (length-undone, told_more, few_told, differences_unnoted)
