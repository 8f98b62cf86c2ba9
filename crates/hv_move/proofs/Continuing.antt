-- A bare run that is continued.
use Rattle.std.proofs.Common.{◌≡◌, ℕ, ◌+◌, ◌-◌, ◌≤◌, Bool, true, false, cond, inl, inr, List, [], ◌∷◌, ◌++◌, sym, ap, ◌∙◌, arith}
use Rattle.std.specs.Prelude.{nat_le, replicate}
use Rattle.std.proofs.lemmas.List.{replicate-append-replicate}
use Rattle.hv_nest.specs.State.{State}
use Rattle.hv_nest.specs.Move.{Move, StepOf, LinesOf, last_of}
use Rattle.hv_nest.specs.Watched.{LineChange}
use Rattle.hv_nest.specs.Bare.{alone, bare_moves, bare_of}
use Rattle.hv_twin.proofs.Moves.{last_joined}
use Rattle.std.proofs.lemmas.Bool.{le-leb, lt-leb}
use Rattle.std.proofs.lemmas.Bool.Decides.{leb_tells}
use Rattle.std.proofs.Common.{append_assoc}
use Rattle.hv_move.specs.Laws.{ContinuedLaw, later, Rises}

abbrev steps : ℕ → List Move
steps n = replicate n (StepOf 0)

-- the moves of later changes are those of the changes
later_moves : (m i n : ℕ) (others : List LineChange) → bare_moves (m + i) (later m others) (m + n) ≡ bare_moves i others n
unfolding bare_moves
later_moves m i n [] = ap steps (let e : m + n - (m + i) ≡ n - i = omega arith in e)
later_moves m i n (l ∷ ls) =
    let reached : nat_le (m + l.count) (m + n) ≡ nat_le l.count n = same_le in
    let first : m + l.count - (m + i) ≡ l.count - i = omega arith in
    let all : m + n - (m + i) ≡ n - i = omega arith in
    ap (λ (b : Bool). cond b (replicate (m + l.count - (m + i)) (StepOf 0) ++ LinesOf 0 l.bits ∷ bare_moves (m + l.count) (later m ls) (m + n)) (replicate (m + n - (m + i)) (StepOf 0))) reached
    ∙ (λ j. cond (nat_le l.count n) (replicate (first j) (StepOf 0) ++ LinesOf 0 l.bits ∷ later_moves m l.count n ls j) (replicate (all j) (StepOf 0)))
  where
    same_le : nat_le (m + l.count) (m + n) ≡ nat_le l.count n
    same_le = elim (leb_tells l.count n) [
      | inl low ↦ le-leb (m + l.count) (m + n) (omega (arith, low.1)) ∙ sym (le-leb l.count n low.1)
      | inr high ↦ lt-leb (m + l.count) (m + n) (omega (arith, high.1)) ∙ sym (lt-leb l.count n high.1)
    ]

-- the steps that are left, and more behind them
first_more : (i m n : ℕ) (others : List LineChange) → i ≤ m → bare_moves i (later m others) (m + n) ≡ steps (m - i) ++ bare_moves m (later m others) (m + n)
unfolding bare_moves
first_more i m n [] h =
    ap steps (let e : m + n - i ≡ m - i + (m + n - m) = omega arith in e)
    ∙ sym (replicate-append-replicate (m - i) (m + n - m) (StepOf 0))
first_more i m n (l ∷ ls) h = by (nat_le (m + l.count) (m + n))
  where
    rest : List Move
    rest = LinesOf 0 l.bits ∷ bare_moves (m + l.count) (later m ls) (m + n)

    by : (b : Bool) → cond b (steps (m + l.count - i) ++ rest) (steps (m + n - i)) ≡ steps (m - i) ++ cond b (steps (m + l.count - m) ++ rest) (steps (m + n - m))
    by true =
        ap (λ k. steps k ++ rest) (let e : m + l.count - i ≡ m - i + (m + l.count - m) = omega arith in e)
        ∙ ap (λ (xs : List Move). xs ++ rest) (sym (replicate-append-replicate (m - i) (m + l.count - m) (StepOf 0)))
        ∙ append_assoc (steps (m - i)) (steps (m + l.count - m)) rest
    by false =
        ap steps (let e : m + n - i ≡ m - i + (m + n - m) = omega arith in e)
        ∙ sym (replicate-append-replicate (m - i) (m + n - m) (StepOf 0))

-- the moves of both are those of the first, and then those of the second
joined : (i m n : ℕ) (changes others : List LineChange) → Rises i changes m → bare_moves i (changes ++ later m others) (m + n) ≡ bare_moves i changes m ++ bare_moves m (later m others) (m + n)
unfolding bare_moves
joined i m n [] others rises = first_more i m n others rises
joined i m n (l ∷ ls) others rises =
    let inside : l.count ≤ m = below l.count ls rises.1 in
    let reached : nat_le l.count m ≡ true = le-leb l.count m inside in
    let further : nat_le l.count (m + n) ≡ true = le-leb l.count (m + n) (omega arith) in
    ap (λ (b : Bool). cond b (steps (l.count - i) ++ LinesOf 0 l.bits ∷ bare_moves l.count (ls ++ later m others) (m + n)) (steps (m + n - i))) further
    ∙ ap (λ (xs : List Move). steps (l.count - i) ++ LinesOf 0 l.bits ∷ xs) (joined l.count m n ls others rises.1)
    ∙ sym (append_assoc (steps (l.count - i)) (LinesOf 0 l.bits ∷ bare_moves l.count ls m) (bare_moves m (later m others) (m + n)))
    ∙ ap (λ (b : Bool). cond b (steps (l.count - i) ++ LinesOf 0 l.bits ∷ bare_moves l.count ls m) (steps (m - i)) ++ bare_moves m (later m others) (m + n)) (sym reached)
  where
    below : (k : ℕ) (xs : List LineChange) → Rises k xs m → k ≤ m
    below k [] r = r
    below k (x ∷ xs) r = let more : x.count ≤ m = below x.count xs r.1 in omega (arith, r.0, more)

pub continued : ContinuedLaw
unfolding bare_of
continued S T c d changes others m n rises is =
    let zero_more : bare_moves (m + 0) (later m others) (m + n) ≡ bare_moves m (later m others) (m + n) = (let e : m + 0 ≡ m = omega arith in ap (λ k. bare_moves k (later m others) (m + n)) e) in
    ap (last_of (alone S c)) (joined 0 m n changes others rises ∙ ap (λ (xs : List Move). bare_moves 0 changes m ++ xs) (sym zero_more ∙ later_moves m 0 n others))
    ∙ last_joined (alone S c) (bare_moves 0 changes m) (bare_moves 0 others n)
    ∙ ap (λ (st : State). last_of st (bare_moves 0 others n)) is
