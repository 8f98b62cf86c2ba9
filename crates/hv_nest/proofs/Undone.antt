-- What follows from putting noted words back.
use Rattle.std.proofs.Common.{◌≡◌, ◌≢◌, ℕ, suc, ◌<◌, ◌≤◌, true, false, Bool, not, cond, ◌&&◌, List, [], ◌∷◌, ◌++◌, length, get_or, set, refl, ap, ◌∙◌, sym, arith, length-set, get_or-set_other, get_or-set_same, eqb-true, subst}
use Rattle.std.specs.List.{AllByRecursion}
use Rattle.std.specs.Prelude.{◌==◌, ◌||◌, nat_lt}
use Rattle.std.proofs.lemmas.List.{set-set, set_comm, set-get_or}
use Rattle.std.proofs.lemmas.Bool.{and_parts, ne_eqb, eqb-false, not-true, lt-ltb, ltb-true}
use Rattle.std.proofs.lemmas.List.Folds.{list_any-append}
use Rattle.hv_nest.specs.declared.notes.Note.{Note}
use Rattle.hv_word.specs.Words.{has}
use Rattle.hv_nest.specs.Notes.{undone, is_noted, is_exact}

true-false : true ≡ false → ⊥
true-false e = cc

false-true : false ≡ true → ⊥
false-true e = cc

-- two numbers are the same or not
pub same_or_other : (x y : ℕ) → (P : Type 0) → (x ≡ y → P) → (x ≢ y → P) → P
same_or_other x y P same other = by (x == y) refl
  where
    by : (t : Bool) → (x == y) ≡ t → P
    by true e = same (eqb-true x y e)
    by false e = other (eqb-false x y e)

-- neither of two is so
pub or_parts : (s t : Bool) → (s || t) ≡ false → (s ≡ false) × (t ≡ false)
or_parts true t z = absurd (true-false z)
or_parts false t z = (refl, z)

pub length-undone : (T : List ℕ) (notes : List Note) → length (undone T notes) ≡ length T
unfolding undone
length-undone T [] = refl
length-undone T (n ∷ notes) = length-set (undone T notes) n.at n.before ∙ length-undone T notes

-- a storage has as many words as the one that is put back
pub length_noted : (S T : List ℕ) (notes : List Note) → undone T notes ≡ S → length T ≡ length S
length_noted S T notes origin = sym (length-undone T notes) ∙ ap length origin

-- the last note is put back first
pub undone-snoc : (T : List ℕ) (notes : List Note) (n : Note) → undone T (notes ++ n ∷ []) ≡ undone (set T n.at n.before) notes
unfolding undone
undone-snoc T [] n = refl
undone-snoc T (m ∷ notes) n = ap (λ (U : List ℕ). set U m.at m.before) (undone-snoc T notes n)

-- each noted place is below n
abbrev pub NotedBelow : ℕ → List Note → Type 0
NotedBelow n notes = AllByRecursion (λ (m : Note). m.at < n) notes

-- exact notes are of places inside the storage
pub exact_below : (T : List ℕ) (notes : List Note) → is_exact T notes ≡ true → NotedBelow (length T) notes
unfolding is_exact
exact_below T [] e = tt
exact_below T (n ∷ notes) e =
    let in_range = and_parts (nat_lt n.at (length T)) (not (n.before == get_or T n.at 0) && (not (is_noted n.at notes) && is_exact T notes)) e in
    let old = and_parts (not (n.before == get_or T n.at 0)) (not (is_noted n.at notes) && is_exact T notes) in_range.1 in
    let tail = and_parts (not (is_noted n.at notes)) (is_exact T notes) old.1 in
    (ltb-true n.at (length T) in_range.0, exact_below T notes tail.1)

-- and so they are where the last note is taken away
below_snoc : (n : ℕ) (notes : List Note) (m : Note) → NotedBelow n (notes ++ m ∷ []) → NotedBelow n notes × (m.at < n)
below_snoc n [] m h = (tt, h.0)
below_snoc n (x ∷ xs) m h = let rest = below_snoc n xs m h.1 in ((h.0, rest.0), rest.1)

pub last_below : (n : ℕ) (notes rest : List Note) (m : Note) → notes ≡ rest ++ m ∷ [] → NotedBelow n notes → m.at < n
last_below n notes rest m e h = (below_snoc n rest m (subst (NotedBelow n) e h)).1

-- Putting the last noted word back leaves the others to be put back.
pub rest_undone : (S T U : List ℕ) (notes rest : List Note) (m : Note)
    → notes ≡ rest ++ m ∷ []
    → U ≡ set T m.at m.before
    → undone T notes ≡ S
    → undone U rest ≡ S
rest_undone S T U notes rest m e put origin =
    ap (λ (V : List ℕ). undone V rest) put
    ∙ sym (undone-snoc T rest m)
    ∙ ap (undone T) (sym e)
    ∙ origin

pub rest_below : (T U : List ℕ) (notes rest : List Note) (m : Note)
    → notes ≡ rest ++ m ∷ []
    → U ≡ set T m.at m.before
    → NotedBelow (length T) notes
    → NotedBelow (length U) rest
rest_below T U notes rest m e put h =
    subst (λ (n : ℕ). NotedBelow n rest) (sym (ap length put ∙ length-set T m.at m.before))
    (below_snoc (length T) rest m (subst (NotedBelow (length T)) e h)).0

-- nothing is left to be put back
pub all_undone : (S T : List ℕ) (notes : List Note) → notes ≡ [] → undone T notes ≡ S → T ≡ S
unfolding undone
all_undone S T notes e origin = ap (undone T) (sym e) ∙ origin

-- a word that changes and is noted
pub put_new : (T : List ℕ) (notes : List Note) (a v : ℕ) → undone (set T a v) (notes ++ record { at = a; before = get_or T a 0 } ∷ []) ≡ undone T notes
put_new T notes a v =
    undone-snoc (set T a v) notes record { at = a; before = get_or T a 0 }
    ∙ ap (λ (U : List ℕ). undone U notes) (set-set T a v (get_or T a 0) ∙ set-get_or T a 0)

-- a word that isn't noted is as it was
pub undone_at : (T : List ℕ) (notes : List Note) (a : ℕ) → is_noted a notes ≡ false → get_or (undone T notes) a 0 ≡ get_or T a 0
unfolding undone
undone_at T [] a e = refl
undone_at T (n ∷ notes) a e = by (undone_at T notes a) (n.at == a) refl e
  where
    by : (is_noted a notes ≡ false → get_or (undone T notes) a 0 ≡ get_or T a 0) → (b : Bool) → (n.at == a) ≡ b → (b || is_noted a notes) ≡ false → get_or (set (undone T notes) n.at n.before) a 0 ≡ get_or T a 0
    by rest true p h = absurd (true-false h)
    by rest false p h =
        let ne : a ≢ n.at = λ q. eqb-false n.at a p (sym q) in
        get_or-set_other (undone T notes) n.at a n.before 0 ne ∙ rest h

-- a word that is noted may change again
put_under : (T : List ℕ) (notes : List Note) (a v b : ℕ) → set (undone (set T a v) notes) a b ≡ set (undone T notes) a b
unfolding undone
put_under T [] a v b = set-set T a v b
put_under T (n ∷ notes) a v b = by (put_under T notes a v b) (n.at == a) refl
  where
    by : set (undone (set T a v) notes) a b ≡ set (undone T notes) a b → (t : Bool) → (n.at == a) ≡ t → set (set (undone (set T a v) notes) n.at n.before) a b ≡ set (set (undone T notes) n.at n.before) a b
    by rest true p =
        ap (λ (k : ℕ). set (set (undone (set T a v) notes) k n.before) a b) (eqb-true n.at a p)
        ∙ set-set (undone (set T a v) notes) a n.before b
        ∙ rest
        ∙ sym (set-set (undone T notes) a n.before b)
        ∙ ap (λ (k : ℕ). set (set (undone T notes) k n.before) a b) (sym (eqb-true n.at a p))
    by rest false p =
        set_comm (undone (set T a v) notes) n.at a n.before b (eqb-false n.at a p)
        ∙ ap (λ (U : List ℕ). set U n.at n.before) rest
        ∙ sym (set_comm (undone T notes) n.at a n.before b (eqb-false n.at a p))

pub put_noted : (T : List ℕ) (notes : List Note) (a v : ℕ) → is_noted a notes ≡ true → undone (set T a v) notes ≡ undone T notes
unfolding undone
put_noted T [] a v e = absurd (false-true e)
put_noted T (n ∷ notes) a v e = by (put_noted T notes a v) (n.at == a) refl e
  where
    by : (is_noted a notes ≡ true → undone (set T a v) notes ≡ undone T notes) → (t : Bool) → (n.at == a) ≡ t → (t || is_noted a notes) ≡ true → set (undone (set T a v) notes) n.at n.before ≡ set (undone T notes) n.at n.before
    by rest true p h =
        ap (λ (k : ℕ). set (undone (set T k v) notes) n.at n.before) (sym (eqb-true n.at a p))
        ∙ put_under T notes n.at v n.before
    by rest false p h = ap (λ (U : List ℕ). set U n.at n.before) (rest h)

-- writing what is there
pub put_same : (T : List ℕ) (a v : ℕ) → get_or T a 0 ≡ v → set T a v ≡ T
put_same T a v e = ap (λ (k : ℕ). set T a k) (sym e) ∙ set-get_or T a 0

both : {a b : Bool} → a ≡ true → b ≡ true → (a && b) ≡ true
both {a = a} {b = b} p q = ap (λ t. t && b) p ∙ q

is_false : {a : Bool} → a ≡ false → not a ≡ true
is_false p = ap not p

-- the notes stay exact where a word that isn't noted changes
pub exact_more : (T : List ℕ) (notes : List Note) (a v : ℕ) → a < length T → get_or T a 0 ≢ v → is_noted a notes ≡ false → is_exact T notes ≡ true → is_exact (set T a v) (notes ++ record { at = a; before = get_or T a 0 } ∷ []) ≡ true
unfolding is_exact
exact_more T [] a v lt ne e h =
    both (lt-ltb a (length (set T a v)) (omega (arith, length-set T a v)))
    (both (is_false (ap (λ (k : ℕ). get_or T a 0 == k) (get_or-set_same T a v 0 lt) ∙ ne_eqb (get_or T a 0) v ne)) refl)
exact_more T (n ∷ notes) a v lt ne e h = by (exact_more T notes a v lt ne) (n.at == a) refl e
  where
    m : Note
    m = record { at = a; before = get_or T a 0 }

    by : (is_noted a notes ≡ false → is_exact T notes ≡ true → is_exact (set T a v) (notes ++ m ∷ []) ≡ true) → (t : Bool) → (n.at == a) ≡ t → (t || is_noted a notes) ≡ false → is_exact (set T a v) (n ∷ (notes ++ m ∷ [])) ≡ true
    by rest true p w = absurd (true-false w)
    by rest false p w =
        let apart : n.at ≢ a = eqb-false n.at a p in
        let in_range = and_parts (nat_lt n.at (length T)) (not (n.before == get_or T n.at 0) && (not (is_noted n.at notes) && is_exact T notes)) h in
        let old = and_parts (not (n.before == get_or T n.at 0)) (not (is_noted n.at notes) && is_exact T notes) in_range.1 in
        let tail = and_parts (not (is_noted n.at notes)) (is_exact T notes) old.1 in
        both
        (ap (nat_lt n.at) (length-set T a v) ∙ in_range.0)
        (both
        (ap (λ (k : ℕ). not (n.before == k)) (get_or-set_other T a n.at v 0 apart) ∙ old.0)
        (both
        (is_false
        (list_any-append (λ (x : Note). x.at == n.at) notes (m ∷ [])
        ∙ ap (λ t. t || ((a == n.at) || false)) (not-true (is_noted n.at notes) tail.0)
        ∙ ap (λ t. t || false) (ne_eqb a n.at (λ q. apart (sym q)))))
        (rest w tail.1)))

-- a note is of its own place alone
pub noted_apart : (notes : List Note) (a b v : ℕ) → b ≢ a → is_noted b (notes ++ record { at = a; before = v } ∷ []) ≡ is_noted b notes
noted_apart [] a b v ne = ap (λ t. t || false) (ne_eqb a b (λ q. ne (sym q)))
noted_apart (n ∷ notes) a b v ne = ap (λ t. (n.at == b) || t) (noted_apart notes a b v ne)

-- the places without one of them
without : ℕ → List ℕ → List ℕ
without a [] = []
without a (p ∷ ps) = cond (a == p) ps (p ∷ without a ps)

length-without : (a : ℕ) (ps : List ℕ) → has a ps ≡ true → suc (length (without a ps)) ≡ length ps
unfolding without
length-without a [] e = absurd (false-true e)
length-without a (p ∷ ps) e = by (length-without a ps) (a == p) e
  where
    by : (has a ps ≡ true → suc (length (without a ps)) ≡ length ps) → (t : Bool) → (t || has a ps) ≡ true → suc (length (cond t ps (p ∷ without a ps))) ≡ suc (length ps)
    by rest true w = refl
    by rest false w = ap suc (rest w)

has-without : (a b : ℕ) (ps : List ℕ) → a ≢ b → has b (without a ps) ≡ false → has b ps ≡ false
unfolding without
has-without a b [] ne e = refl
has-without a b (p ∷ ps) ne e = by (has-without a b ps ne) (a == p) refl e
  where
    by : (has b (without a ps) ≡ false → has b ps ≡ false) → (t : Bool) → (a == p) ≡ t → has b (cond t ps (p ∷ without a ps)) ≡ false → ((b == p) || has b ps) ≡ false
    by rest true q w =
        ap (λ t. t || has b ps) (ne_eqb b p (λ z. ne (eqb-true a p q ∙ sym z))) ∙ w
    by rest false q w =
        let parts = or_parts (b == p) (has b (without a ps)) w in
        ap (λ t. t || has b ps) parts.0 ∙ rest parts.1

-- exact notes are of different places, so there are at most as many as places where the storage may differ
pub few_notes : (T : List ℕ) (notes : List Note) (ps : List ℕ) → is_exact T notes ≡ true → ((a : ℕ) → has a ps ≡ false → get_or T a 0 ≡ get_or (undone T notes) a 0) → length notes ≤ length ps
unfolding is_exact undone
few_notes T [] ps e f = omega arith
few_notes T (n ∷ notes) ps e f =
    let in_range = and_parts (nat_lt n.at (length T)) (not (n.before == get_or T n.at 0) && (not (is_noted n.at notes) && is_exact T notes)) e in
    let now = and_parts (not (n.before == get_or T n.at 0)) (not (is_noted n.at notes) && is_exact T notes) in_range.1 in
    let tail = and_parts (not (is_noted n.at notes)) (is_exact T notes) now.1 in
    let inside : n.at < length (undone T notes) = omega (arith, ltb-true n.at (length T) in_range.0, length-undone T notes) in
    let back : get_or (set (undone T notes) n.at n.before) n.at 0 ≡ n.before = get_or-set_same (undone T notes) n.at n.before 0 inside in
    let differs : n.before ≢ get_or T n.at 0 = eqb-false n.before (get_or T n.at 0) (not-true (n.before == get_or T n.at 0) now.0) in
    let here : has n.at ps ≡ true = is_there (has n.at ps) (λ z. differs (sym (f n.at z ∙ back))) in
    let rest : length notes ≤ length (without n.at ps) =
    few_notes T notes (without n.at ps) tail.1 (λ a z. other a z (not-true (is_noted n.at notes) tail.0)) in
    let shorter : suc (length (without n.at ps)) ≡ length ps = length-without n.at ps here in
    omega arith
  where
    is_there : (t : Bool) → (t ≡ false → ⊥) → t ≡ true
    is_there true z = refl
    is_there false z = absurd (z refl)

    other : (a : ℕ) → has a (without n.at ps) ≡ false → is_noted n.at notes ≡ false → get_or T a 0 ≡ get_or (undone T notes) a 0
    other a z free = by (n.at == a) refl
      where
        by : (t : Bool) → (n.at == a) ≡ t → get_or T a 0 ≡ get_or (undone T notes) a 0
        by true q = ap (λ (k : ℕ). get_or T k 0) (sym (eqb-true n.at a q)) ∙ sym (undone_at T notes n.at free) ∙ ap (λ (k : ℕ). get_or (undone T notes) k 0) (eqb-true n.at a q)
        by false q =
            let ne : n.at ≢ a = eqb-false n.at a q in
            f a (has-without n.at a ps ne z) ∙ get_or-set_other (undone T notes) n.at a n.before 0 (λ w. ne (sym w))

pub ruleset undoing = (put_new, put_noted, put_same, undone_at, exact_more, noted_apart)

pub ruleset taking_back = (exact_below, last_below)
