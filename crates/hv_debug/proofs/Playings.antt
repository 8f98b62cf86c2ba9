-- The steps of a command, one after another.
use Rattle.std.proofs.Common.{◌≡◌, ℕ, zero, suc, ◌+◌, Bool, true, false, not, ◌&&◌, cond, Some, None, List, [], ◌∷◌, ◌++◌, refl, ap, sym, ◌∙◌, arith, append_assoc}
use Rattle.std.proofs.lemmas.List.{append-nil}
use Rattle.hv_nest.specs.State.{State}
use Rattle.hv_nest.specs.Move.{Move, StepOf, LinesOf}
use Rattle.hv_debug.specs.declared.stop.Break.{Break}
use Rattle.hv_debug.specs.declared.stop.Stop.TheVariants.{Done, AtBreak, AtEnd}
use Rattle.hv_debug.specs.Playing.{Reached, Halted, after_step, behind_step, next_hart, step_on, steps_from, stops, through_step}

-- a change of lines before a step belongs to it
pub after_lines : (r : Reached) (h m : ℕ) (rest : List Move) → r.rest ≡ LinesOf h m ∷ rest → after_step record { played = r.played ++ LinesOf h m ∷ []; rest = rest } ≡ after_step r
after_lines r h m rest e =
    ap (λ (ms : List Move). record { played = ms; rest = behind_step rest }) (append_assoc r.played (LinesOf h m ∷ []) (through_step rest))
    ∙ sym (ap (λ (ms : List Move). record { played = r.played ++ through_step ms; rest = behind_step ms }) e)

-- a step without changes of lines
pub after_one : (r : Reached) (h : ℕ) (rest : List Move) → r.rest ≡ StepOf h ∷ rest → record { played = r.played ++ StepOf h ∷ []; rest = rest } ≡ after_step r
after_one r h rest e =
    sym (ap (λ (ms : List Move). record { played = r.played ++ through_step ms; rest = behind_step ms }) e)

-- no move is left
pub after_none : (r : Reached) → r.rest ≡ [] → r ≡ after_step r
after_none r e =
    ap (λ (ms : List Move). record { played = r.played; rest = ms }) e
    ∙ ap (λ (ms : List Move). record { played = ms; rest = [] }) (sym (append-nil r.played))
    ∙ sym (ap (λ (ms : List Move). record { played = r.played ++ through_step ms; rest = behind_step ms }) e)

on_some : (more : Reached → Halted) (start : State) (breaks : List Break) (first b : Bool) (r : Reached) (hart : ℕ) → next_hart r.rest ≡ Some hart → (not first && stops start breaks r hart) ≡ b → step_on more start breaks first r (next_hart r.rest) ≡ cond b (record { reached = r; stop = AtBreak }) (more (after_step r))
on_some more start breaks first b r hart next is =
    ap (step_on more start breaks first r) next
    ∙ ap (λ (x : Bool). cond x (record { reached = r; stop = AtBreak }) (more (after_step r))) is

-- one step more
pub steps_next : (start : State) (breaks : List Break) (first : Bool) (n m : ℕ) (r : Reached) (hart : ℕ) → n ≡ m + 1 → next_hart r.rest ≡ Some hart → (not first && stops start breaks r hart) ≡ false → steps_from start breaks first n r ≡ steps_from start breaks false m (after_step r)
unfolding steps_from
steps_next start breaks first zero m r hart e next is = absurd (omega (arith, e))
steps_next start breaks first (suc n) m r hart e next is =
    let same : n ≡ m = omega (arith, e) in
    on_some (steps_from start breaks false n) start breaks first false r hart next is
    ∙ ap (λ (k : ℕ). steps_from start breaks false k (after_step r)) same

-- a breakpoint stops before the next step
pub steps_stopped : (start : State) (breaks : List Break) (first : Bool) (n m : ℕ) (r : Reached) (hart : ℕ) → n ≡ m + 1 → next_hart r.rest ≡ Some hart → (not first && stops start breaks r hart) ≡ true → steps_from start breaks first n r ≡ record { reached = r; stop = AtBreak }
unfolding steps_from
steps_stopped start breaks first zero m r hart e next is = absurd (omega (arith, e))
steps_stopped start breaks first (suc n) m r hart e next is =
    on_some (steps_from start breaks false n) start breaks first true r hart next is

-- the schedule has no more steps
pub steps_ended : (start : State) (breaks : List Break) (first : Bool) (n m : ℕ) (r : Reached) → n ≡ m + 1 → next_hart r.rest ≡ None → steps_from start breaks first n r ≡ record { reached = r; stop = AtEnd }
unfolding steps_from
steps_ended start breaks first zero m r e next = absurd (omega (arith, e))
steps_ended start breaks first (suc n) m r e next = ap (step_on (steps_from start breaks false n) start breaks first r) next

-- all steps were made
pub steps_done : (start : State) (breaks : List Break) (first : Bool) (n : ℕ) (r : Reached) → n ≡ 0 → steps_from start breaks first n r ≡ record { reached = r; stop = Done }
unfolding steps_from
steps_done start breaks first zero r e = refl
steps_done start breaks first (suc n) r e = absurd (omega (arith, e))
