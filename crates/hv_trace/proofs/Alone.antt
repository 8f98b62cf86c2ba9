-- The rows of a trace are the moves of the bare machine that runs alone.
use Rattle.std.proofs.Common.{◌≡◌, ℕ, suc, ◌+◌, ◌-◌, ◌<◌, ◌≤◌, Bool, true, false, cond, List, [], ◌∷◌, ◌++◌, refl, sym, ap, ◌∙◌, arith}
use Rattle.std.specs.Prelude.{nat_le, replicate}
use Rattle.std.proofs.lemmas.Bool.{le-leb}
use Rattle.hv_cpu.specs.Regs.{Regs}
use Rattle.hv_cpu.specs.Lines.{lined_of}
use Rattle.hv_exec.specs.Act.{Done}
use Rattle.hv_nest.specs.State.{State}
use Rattle.hv_nest.specs.Step.{Stepped, act_step}
use Rattle.hv_nest.specs.Move.{Move, StepOf, LinesOf, last_of, moved_by, state_after}
use Rattle.hv_nest.specs.Watched.{LineChange}
use Rattle.hv_nest.specs.Bare.{alone, bare_moves, bare_of}
use Rattle.hv_capsule.specs.Parked.{Parked}
use Rattle.hv_trace.specs.Check.{FollowsByLines, Leads, changes_told, steps_in}
use Rattle.hv_trace.specs.Flat.{flat_step_of}
use Rattle.hv_trace.specs.declared.row.TraceRow.{TraceRow}
use Rattle.hv_trace.specs.declared.row.TraceRow.TheVariants.{Lines, Step}
use Rattle.hv_trace.proofs.Flats.{flat}

-- the bare machine that is this one
abbrev pub state_of : Parked → State
state_of m = alone m.storage m.regs

after_step : (m n : Parked) → m.regs.next ≡ 0 → flat_step_of m.storage m.regs ≡ Done n.storage n.regs
    → state_after (state_of m) (StepOf 0) ≡ state_of n
after_step m n none step =
    ap (λ (s : Stepped). (moved_by (state_of m) 0 s).state) (flat m.storage m.regs none ∙ ap act_step step)

after_lines : (m n : Parked) (mask : ℕ) → FollowsByLines m mask n → state_after (state_of m) (LinesOf 0 mask) ≡ state_of n
after_lines m n mask f =
    ap (λ (S : List ℕ). alone S (lined_of m.regs mask)) (sym f.storage) ∙ ap (λ (r : Regs). alone n.storage r) (sym f.regs)

-- no change is told before so many steps
abbrev NoneBefore : ℕ → List LineChange → Type 0
NoneBefore i [] = Unit {0}
NoneBefore i (l ∷ ls) = i ≤ l.count

none_before : (i k : ℕ) (rows : List TraceRow) → i ≤ k → NoneBefore i (changes_told k rows)
unfolding changes_told
none_before i k [] h = tt
none_before i k (Lines mask ∷ rows) h = h
none_before i k (Step pc len regs mem ∷ rows) h = none_before i (k + 1) rows (omega (arith, h))

steps_first : (i m : ℕ) → i < m → replicate (m - i) (StepOf 0) ≡ StepOf 0 ∷ replicate (m - (i + 1)) (StepOf 0)
steps_first i m h = ap (λ (n : ℕ). replicate n (StepOf 0)) (let e : m - i ≡ suc (m - (i + 1)) = omega (arith, h) in e)

-- where none is told before the next step, that step is first
step_first : (i m : ℕ) (ls : List LineChange) → i < m → NoneBefore (i + 1) ls
    → bare_moves i ls m ≡ StepOf 0 ∷ bare_moves (i + 1) ls m
unfolding bare_moves
step_first i m [] h none = steps_first i m h
step_first i m (l ∷ ls) h none = by (nat_le l.count m)
  where
    rest : List Move
    rest = LinesOf 0 l.bits ∷ bare_moves l.count ls m

    by : (b : Bool) → cond b (replicate (l.count - i) (StepOf 0) ++ rest) (replicate (m - i) (StepOf 0))
        ≡ StepOf 0 ∷ cond b (replicate (l.count - (i + 1)) (StepOf 0) ++ rest) (replicate (m - (i + 1)) (StepOf 0))
    by true = ap (λ (xs : List Move). xs ++ rest) (steps_first i l.count (omega (arith, none)))
    by false = steps_first i m h

-- a change that is told now is first
lines_first : (i m mask : ℕ) (ls : List LineChange) → i ≤ m
    → bare_moves i (record { count = i; bits = mask } ∷ ls) m ≡ LinesOf 0 mask ∷ bare_moves i ls m
unfolding bare_moves
lines_first i m mask ls h =
    ap (λ (b : Bool). cond b (replicate (i - i) (StepOf 0) ++ LinesOf 0 mask ∷ bare_moves i ls m) (replicate (m - i) (StepOf 0))) (le-leb i m h)
    ∙ ap (λ (n : ℕ). replicate n (StepOf 0) ++ LinesOf 0 mask ∷ bare_moves i ls m) (let e : i - i ≡ 0 = omega arith in e)

none_left : (i : ℕ) → bare_moves i [] (i + 0) ≡ []
unfolding bare_moves
none_left i = ap (λ (n : ℕ). replicate n (StepOf 0)) (let e : i + 0 - i ≡ 0 = omega arith in e)

last_none : (st : State) → last_of st [] ≡ st
unfolding last_of
last_none st = refl

last_first : (st : State) (x : Move) (xs : List Move) → last_of st (x ∷ xs) ≡ last_of (state_after st x) xs
unfolding last_of
last_first st x xs = refl

-- where i steps were made before
leads_from : (i : ℕ) (m n : Parked) (rows : List TraceRow) → m.regs.next ≡ 0 → Leads m rows n
    → state_of n ≡ last_of (state_of m) (bare_moves i (changes_told i rows) (i + steps_in rows))
unfolding changes_told steps_in
leads_from i m n [] none l =
    ap state_of l ∙ sym (last_none (state_of m)) ∙ ap (last_of (state_of m)) (sym (none_left i))
leads_from i m n (Lines mask ∷ rows) none l =
    leads_from i l.0 n rows (ap (λ (r : Regs). r.next) l.1.regs ∙ none) l.2
    ∙ ap (λ (st : State). last_of st (bare_moves i (changes_told i rows) (i + steps_in rows))) (sym (after_lines m l.0 mask l.1))
    ∙ sym (last_first (state_of m) (LinesOf 0 mask) (bare_moves i (changes_told i rows) (i + steps_in rows)))
    ∙ ap (last_of (state_of m)) (sym (lines_first i (i + steps_in rows) mask (changes_told i rows) (omega arith)))
leads_from i m n (Step pc len regs mem ∷ rows) none l =
    let all : i + 1 + steps_in rows ≡ i + (1 + steps_in rows) = omega arith in
    leads_from (i + 1) l.0 n rows l.1.next l.2
    ∙ ap (λ (k : ℕ). last_of (state_of l.0) (bare_moves (i + 1) (changes_told (i + 1) rows) k)) all
    ∙ ap (λ (st : State). last_of st (bare_moves (i + 1) (changes_told (i + 1) rows) (i + (1 + steps_in rows)))) (sym (after_step m l.0 none l.1.step))
    ∙ sym (last_first (state_of m) (StepOf 0) (bare_moves (i + 1) (changes_told (i + 1) rows) (i + (1 + steps_in rows))))
    ∙ ap (last_of (state_of m)) (sym (step_first i (i + (1 + steps_in rows)) (changes_told (i + 1) rows) (omega arith) (none_before (i + 1) (i + 1) rows (omega arith))))

-- the rows lead where the bare machine comes to
pub leads_bare : (m n : Parked) (rows : List TraceRow) → m.regs.next ≡ 0 → Leads m rows n
    → alone n.storage n.regs ≡ bare_of m.storage m.regs (changes_told 0 rows) (steps_in rows)
unfolding bare_of
leads_bare m n rows none l =
    leads_from 0 m n rows none l
    ∙ ap (λ (k : ℕ). last_of (state_of m) (bare_moves 0 (changes_told 0 rows) k)) (let e : 0 + steps_in rows ≡ steps_in rows = omega arith in e)
