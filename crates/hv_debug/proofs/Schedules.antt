-- Moves of a schedule, one after another.
use Rattle.std.proofs.Common.{◌≡◌, ℕ, zero, suc, ◌+◌, ◌<◌, ◌≤◌, Some, List, [], ◌∷◌, ◌++◌, length, get_or, drop, replicate, refl, ap, ◌∙◌, arith}
use Rattle.std.specs.Prelude.{All, bit_and}
use Rattle.std.proofs.lemmas.List.{at_drop_more, length-append, length-replicate}
use Rattle.std.proofs.lemmas.List.Elements.{All-append, All-cons, All-replicate}
use Rattle.std.proofs.lemmas.List.Sums.{sum_by-cons}
use Rattle.hv_limits.specs.Limits.{lines_mask}
use Rattle.hv_irq.specs.Events.{hart_of, mask_of, steps_of, total_of}
use Rattle.hv_irq.specs.declared.Event.{Event}
use Rattle.hv_irq.specs.declared.Event.TheVariants.{Turn, Lines}
use Rattle.hv_nest.specs.Move.{Move, StepOf, LinesOf}
use Rattle.hv_run.specs.Record.{moves_of, schedule}
use Rattle.hv_debug.specs.Playing.{next_hart}
use Rattle.hv_debug.specs.Reaching.{IsMove}

-- a turn that is over
pub none_left : (h n : ℕ) (ms : List Move) → n ≡ 0 → replicate n (StepOf h) ++ ms ≡ ms
none_left h zero ms e = refl
none_left h (suc n) ms e = absurd (omega (arith, e))

-- a turn's first step
pub one_of : (h n k : ℕ) (ms : List Move) → n ≡ k + 1 → replicate n (StepOf h) ++ ms ≡ StepOf h ∷ replicate k (StepOf h) ++ ms
one_of h zero k ms e = absurd (omega (arith, e))
one_of h (suc n) k ms e = let same : n ≡ k = omega (arith, e) in ap (λ (m : ℕ). StepOf h ∷ replicate m (StepOf h) ++ ms) same

pub hart_of_turn : (h n : ℕ) (ms : List Move) → 0 < n → next_hart (replicate n (StepOf h) ++ ms) ≡ Some h
hart_of_turn h zero ms lt = absurd (omega (arith, lt))
hart_of_turn h (suc n) ms lt = refl

-- the next event of a schedule
pub hart_at : (events : List Event) (i : ℕ) (d e : Event) → i < length events → get_or events i d ≡ e → next_hart (schedule (drop i events)) ≡ next_hart (moves_of e ++ schedule (drop (i + 1) events))
hart_at events i d e lt is =
    at_drop_more (λ es. next_hart (schedule es)) events i d lt
    ∙ ap (λ (x : Event). next_hart (moves_of x ++ schedule (drop (i + 1) events))) is

-- all moves of a schedule are moves of its machine
pub all_moves : (n : ℕ) (events : List Event)
    → All (λ event. hart_of event < n) events
    → All (λ event. bit_and (mask_of event) lines_mask ≡ mask_of event) events
    → All (IsMove n) (schedule events)
all_moves n [] harts masks = λ k d lt. absurd (omega (arith, lt))
all_moves n (e ∷ es) harts masks =
    All-append (IsMove n) (moves_of e) (schedule es)
    (of_event e (harts 0 e (omega arith)) (masks 0 e (omega arith)))
    (all_moves n es (λ k d lt. harts (suc k) d (omega (arith, lt))) (λ k d lt. masks (suc k) d (omega (arith, lt))))
  where
    of_event : (e : Event) → hart_of e < n → bit_and (mask_of e) lines_mask ≡ mask_of e → All (IsMove n) (moves_of e)
    of_event (Turn hart count) h m = All-replicate (IsMove n) count (StepOf hart) h
    of_event (Lines hart mask) h m = All-cons (IsMove n) (LinesOf hart mask) [] (h, m) (λ k d lt. absurd (omega (arith, lt)))

-- a schedule has no more moves than steps and events
pub length-schedule : (events : List Event) → length (schedule events) ≤ total_of events + length events
length-schedule [] = omega arith
length-schedule (e ∷ es) =
    omega (arith, length-append (moves_of e) (schedule es), length-schedule es, sum_by-cons steps_of e es, of_event e)
  where
    of_event : (e : Event) → length (moves_of e) ≤ steps_of e + 1
    of_event (Turn hart count) = omega (arith, length-replicate count (StepOf hart))
    of_event (Lines hart mask) = omega arith
