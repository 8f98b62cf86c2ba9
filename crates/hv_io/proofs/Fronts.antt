-- Fronts of lists, and what reading and writing in turns come to.
use Rattle.std.proofs.Common.{◌≡◌, ℕ, ◌+◌, ◌-◌, ◌≤◌, List, ◌++◌, length, take, drop, Option, Result, Ok, Err, sym, ap, ◌∙◌, subst, length-append, arith}
use Rattle.std.proofs.lemmas.List.{take-append-drop, drop-take, take_rest}
use Rattle.std.specs.Io.KnownBytes.{Appends, Consumes}
use Rattle.std.specs.Result.{IsErrAnd}
use Rattle.std.proofs.KnownBytes.{Appends-trans, Consumes-trans}
use Rattle.std.proofs.lemmas.Grind.{common_steps}
use Rattle.hv_io.specs.Whole.{IsCountAt, Gives}
use Rattle.hv_limits.specs.Limits.{input_limit}
use Rattle.hv_io.specs.declared.whole.ReadEnd.{ReadEnd}
use Rattle.hv_io.specs.declared.whole.ReadEnd.TheVariants.{Memory}

take-take : (i j : ℕ) (xs : List ℕ) → take i (take (i + j) xs) ≡ take i xs
take-take i j xs = grind (arith, common_steps)

-- a front of i and j elements
pub take-sum : (i j : ℕ) (xs : List ℕ) → take (i + j) xs ≡ take i xs ++ take j (drop i xs)
take-sum i j xs =
    sym (take-append-drop i (take (i + j) xs)) ∙ ap (λ l. l ++ drop i (take (i + j) xs)) (take-take i j xs) ∙ ap (λ l. take i xs ++ l) (drop-take i j xs)

-- after the front of a piece the front of its rest was appended
pub Appends-more : (a b c : Option (List ℕ)) (xs : List ℕ) (done more : ℕ) → Appends a b (take done xs)
    → Appends b c (take more (take (length xs - done) (drop done xs))) → Appends a c (take (done + more) xs)
Appends-more a b c xs done more before now =
    let same : take done xs ++ take more (take (length xs - done) (drop done xs)) ≡ take (done + more) xs =
    ap (λ l. take done xs ++ take more l) (take_rest xs done) ∙ sym (take-sum done more xs) in
    subst (Appends a c) same (Appends-trans a b c _ _ before now)

-- where memory is wanting, at most the limit was given
pub IsCountAt-memory : {T : Type 0} (r : Result T ReadEnd) (count : ℕ) → IsErrAnd r (λ e. e ≡ Memory) → count ≤ input_limit → IsCountAt r count
IsCountAt-memory (Ok x) count h le = absurd h
IsCountAt-memory {T} (Err e) count h le = let P : ReadEnd → Type 0 = λ end. IsCountAt {T = T} (Err end) count in subst P (sym h) le

-- what a source gave in two turns, and how many bytes that is
pub Gives-more : (a b c : Option (List ℕ)) (before now : List ℕ) (IsSuch : ℕ → Type 0) → Consumes a b before → Consumes b c now → IsSuch (length before + length now) → Gives a c IsSuch
Gives-more a b c before now IsSuch first second such = (before ++ now, Consumes-trans a b c before now first second, subst IsSuch (sym (length-append before now)) such)
