-- A list that is kept from some place on and then around, and one that takes the place of its oldest.
use Rattle.std.proofs.Common.{◌≡◌, ℕ, suc, ◌+◌, ◌<◌, ◌≤◌, List, [], ◌∷◌, ◌++◌, length, append-nil, take, drop, sym, ap, ◌∙◌, arith, append_assoc, length-append, length-take, length-drop}
use Rattle.std.proofs.Math.ListN.{set}
use Rattle.std.proofs.lemmas.List.{drop_more, drop_all, take_more_set, drop-set-lt, set_split}
use Rattle.hv_run.specs.Record.{FaultRecord, last_kept}
use Rattle.hv_limits.specs.Limits.{kept_limit}

-- around from i on, with one more at the end: the last of that, as many as there were
turned : (xs : List FaultRecord) (i m : ℕ) (x : FaultRecord) → i < length xs → m ≡ 1 → drop m ((drop i xs ++ take i xs) ++ x ∷ []) ≡ drop (i + 1) xs ++ (take i xs ++ x ∷ [])
turned xs i m x lt one =
    ap (λ (k : ℕ). drop k ((drop i xs ++ take i xs) ++ x ∷ [])) one
    ∙ ap (λ (ys : List FaultRecord). drop 1 ((ys ++ take i xs) ++ x ∷ [])) (drop_more xs i x lt)
    ∙ append_assoc (drop (i + 1) xs) (take i xs) (x ∷ [])

around : (xs : List FaultRecord) (i : ℕ) → i ≤ length xs → length (drop i xs ++ take i xs) ≡ length xs
around xs i le = grind (arith, length-append, length-take, length-drop)

last_turned : (xs : List FaultRecord) (i : ℕ) (x : FaultRecord) → length xs ≡ kept_limit → i < kept_limit → last_kept ((drop i xs ++ take i xs) ++ x ∷ []) ≡ drop (i + 1) xs ++ (take i xs ++ x ∷ [])
last_turned xs i x full lt =
    turned xs i _ x (omega arith) (omega (arith, length-append (drop i xs ++ take i xs) (x ∷ []), around xs i (omega arith)))

pub pushed_between : (xs : List FaultRecord) (i o : ℕ) (x : FaultRecord) → length xs ≡ kept_limit → i < kept_limit → o ≡ i + 1 → drop o (set xs i x) ++ take o (set xs i x) ≡ last_kept ((drop i xs ++ take i xs) ++ x ∷ [])
pushed_between xs i o x full lt is =
    ap (λ (o : ℕ). drop o (set xs i x) ++ take o (set xs i x)) is
    ∙ ap (λ (ys : List FaultRecord). ys ++ take (i + 1) (set xs i x)) (drop-set-lt (i + 1) xs i x (omega arith))
    ∙ ap (λ (ys : List FaultRecord). drop (i + 1) xs ++ ys) (take_more_set xs i x (omega arith))
    ∙ sym (last_turned xs i x full lt)

pub pushed_last : (xs : List FaultRecord) (i o : ℕ) (x : FaultRecord) → length xs ≡ kept_limit → i + 1 ≡ kept_limit → o ≡ 0 → drop o (set xs i x) ++ take o (set xs i x) ≡ last_kept ((drop i xs ++ take i xs) ++ x ∷ [])
pushed_last xs i o x full last is =
    ap (λ (o : ℕ). drop o (set xs i x) ++ take o (set xs i x)) is
    ∙ append-nil (set xs i x)
    ∙ set_split xs i x (omega arith)
    ∙ ap (λ (ys : List FaultRecord). take i xs ++ x ∷ ys) (drop_all (suc i) xs (omega arith))
    ∙ ap (λ (ys : List FaultRecord). ys ++ (take i xs ++ x ∷ [])) (sym (drop_all (i + 1) xs (omega arith)))
    ∙ sym (last_turned xs i x full (omega arith))
