-- The moves of a bare machine that runs alone, one after another.
use Rattle.std.proofs.Common.{◌≡◌, ℕ, suc, ◌+◌, ◌-◌, ◌<◌, ◌≤◌, Bool, cond, List, [], ◌∷◌, ◌++◌, length, drop, get_or, refl, sym, ap, ◌∙◌, arith}
use Rattle.std.proofs.Math.Seq.{drop-cons}
use Rattle.std.proofs.lemmas.Bool.{le-leb, lt-leb}
use Rattle.std.specs.Prelude.{replicate}
use Rattle.std.proofs.lemmas.List.{replicate_more}
use Rattle.hv_cpu.specs.Regs.{Regs}
use Rattle.hv_nest.specs.declared.outcome.StepKind.{StepKind}
use Rattle.hv_nest.specs.declared.outcome.StepKind.TheVariants.{Worked as WorkedKind, Recall, Fault}
use Rattle.hv_nest.specs.State.{State}
use Rattle.hv_nest.specs.Kinds.{step_as}
use Rattle.hv_nest.specs.Step.{host_step_of}
use Rattle.hv_nest.specs.Move.{Move, StepOf, LinesOf, last_of, moved_by, state_after}
use Rattle.hv_nest.specs.Watched.{LineChange}
use Rattle.hv_nest.specs.Bare.{alone, bare_moves}

-- a step of the one hart
pub step_alone : (S T : List ℕ) (c d : Regs) (kind : StepKind) → step_as kind T d ≡ host_step_of S 0 c → alone T d ≡ state_after (alone S c) (StepOf 0)
step_alone S T c d kind e = is kind ∙ ap (λ s. (moved_by (alone S c) 0 s).state) e
  where
    is : (k : StepKind) → alone T d ≡ (moved_by (alone S c) 0 (step_as k T d)).state
    is WorkedKind = refl
    is (Recall l) = refl
    is (Fault l cause address a) = refl

pub last_none : (st : State) → last_of st [] ≡ st
unfolding last_of
last_none st = refl

pub last_joined : (st : State) (xs ys : List Move) → last_of st (xs ++ ys) ≡ last_of (last_of st xs) ys
unfolding last_of
last_joined st [] ys = refl
last_joined st (x ∷ xs) ys = last_joined (state_after st x) xs ys

pub last_first : (st : State) (x : Move) (xs : List Move) → last_of st (x ∷ xs) ≡ last_of (state_after st x) xs
unfolding last_of
last_first st x xs = refl

-- one move more of a row of the same moves
pub last_more : (st now next : State) (n : ℕ) (move : Move) → now ≡ last_of st (replicate n move) → next ≡ state_after now move → next ≡ last_of st (replicate (n + 1) move)
last_more st now next n move is after =
    after
    ∙ ap (λ s. state_after s move) is
    ∙ sym (last_none (state_after (last_of st (replicate n move)) move))
    ∙ sym (last_first (last_of st (replicate n move)) move [])
    ∙ sym (last_joined st (replicate n move) (move ∷ []))
    ∙ ap (last_of st) (replicate_more n move)

-- the moves where no change is left, or none whose count is reached
pub moves_end : (i m : ℕ) → bare_moves i [] m ≡ replicate (m - i) (StepOf 0)
unfolding bare_moves
moves_end i m = refl

pub moves_over : (i m : ℕ) (l : LineChange) (ls : List LineChange) → m < l.count → bare_moves i (l ∷ ls) m ≡ replicate (m - i) (StepOf 0)
unfolding bare_moves
moves_over i m l ls over =
    ap (λ (b : Bool). cond b (replicate (l.count - i) (StepOf 0) ++ LinesOf 0 l.bits ∷ bare_moves l.count ls m) (replicate (m - i) (StepOf 0)))
    (lt-leb l.count m over)

pub moves_next : (i m : ℕ) (l : LineChange) (ls : List LineChange) → l.count ≤ m → bare_moves i (l ∷ ls) m ≡ replicate (l.count - i) (StepOf 0) ++ LinesOf 0 l.bits ∷ bare_moves l.count ls m
unfolding bare_moves
moves_next i m l ls reached =
    ap (λ (b : Bool). cond b (replicate (l.count - i) (StepOf 0) ++ LinesOf 0 l.bits ∷ bare_moves l.count ls m) (replicate (m - i) (StepOf 0)))
    (le-leb l.count m reached)

-- the state after so many steps, and then the moves behind the next change
pub passed : (st at : State) (i m : ℕ) (l : LineChange) (ls : List LineChange) → l.count ≤ m → at ≡ last_of st (replicate (l.count - i) (StepOf 0)) → last_of (state_after at (LinesOf 0 l.bits)) (bare_moves l.count ls m) ≡ last_of st (bare_moves i (l ∷ ls) m)
passed st at i m l ls reached is =
    let now = last_of st (replicate (l.count - i) (StepOf 0)) in
    let more = bare_moves l.count ls m in
    ap (λ s. last_of (state_after s (LinesOf 0 l.bits)) more) is
    ∙ sym (last_first now (LinesOf 0 l.bits) more)
    ∙ sym (last_joined st (replicate (l.count - i) (StepOf 0)) (LinesOf 0 l.bits ∷ more))
    ∙ ap (last_of st) (sym (moves_next i m l ls reached))

-- the change at place i, and those behind it
pub change_at : (ls : List LineChange) (i : ℕ) (l : LineChange) → i < length ls → l ≡ get_or ls i l → drop i ls ≡ l ∷ drop (i + 1) ls
change_at ls i l inside is =
    let e : suc i ≡ i + 1 = omega arith in
    drop-cons ls i l inside ∙ ap (λ x. x ∷ drop (suc i) ls) (sym is) ∙ ap (λ k. l ∷ drop k ls) e
