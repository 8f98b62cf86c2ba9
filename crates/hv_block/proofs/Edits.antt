-- Words written one after another.
use Rattle.std.proofs.Common.{◌≡◌, ℕ, suc, ◌+◌, ◌<◌, List, [], ◌∷◌, ◌++◌, length, take, set, get_or, ap, ◌∙◌, arith}
use Rattle.std.proofs.Math.Seq.{sets, length-sets}
use Rattle.std.proofs.lemmas.List.{take_more, length-take-le}

-- one more word goes behind those that were written
pub sets-snoc : (vs l : List ℕ) (i a : ℕ) → sets l i (vs ++ a ∷ []) ≡ set (sets l i vs) (i + length vs) a
sets-snoc [] l i a = ap (λ (k : ℕ). set l k a) (omega arith)
sets-snoc (v ∷ vs) l i a =
    sets-snoc vs (set l i v) (suc i) a ∙ ap (λ (k : ℕ). set (sets (set l i v) (suc i) vs) k a) (omega arith)

pub sets_more : (ws l : List ℕ) (at i : ℕ) → i < length ws → sets l at (take (i + 1) ws) ≡ set (sets l at (take i ws)) (at + i) (get_or ws i 0)
sets_more ws l at i h =
    ap (λ (vs : List ℕ). sets l at vs) (take_more ws i 0 h)
    ∙ sets-snoc (take i ws) l at (get_or ws i 0)
    ∙ ap (λ (k : ℕ). set (sets l at (take i ws)) (at + k) (get_or ws i 0)) (length-take-le i ws (omega arith))

-- writing changes no length
pub length-sets_lem : (l : List ℕ) (i : ℕ) (vs : List ℕ) → length (sets l i vs) ≡ length l
length-sets_lem l i vs = length-sets l i vs

pub ruleset edits = (sets_more, length-sets_lem)
