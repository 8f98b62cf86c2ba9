-- What the debugger's player stands for after a move.
use Rattle.std.proofs.Common.{◌≡◌, ℕ, suc, ◌+◌, ◌<◌, ◌≤◌, ◌^◌, Bool, true, false, not, ◌&&◌, cond, Option, Some, None, List, [], ◌∷◌, ◌++◌, length, take, refl, ap, sym, ◌∙◌, subst, arith, append_assoc}
use Rattle.std.specs.Prelude.{All, count_by}
use Rattle.std.proofs.Math.Seq.{take-append_seam}
use Rattle.std.proofs.lemmas.List.Sums.{sum_by_push}
use Rattle.hv_nest.specs.State.{State}
use Rattle.hv_nest.specs.Move.{Move, StepOf, LinesOf, last_of}
use Rattle.hv_run.specs.Stands.{Follows}
use Rattle.hv_debug.specs.declared.cursor.Cursor.{Cursor}
use Rattle.hv_debug.specs.declared.player.Player.{Player}
use Rattle.hv_debug.specs.declared.stop.Break.{Break}
use Rattle.hv_debug.specs.declared.stop.Stop.{Stop}
use Rattle.hv_debug.specs.declared.stop.Stop.TheVariants.{Done, AtBreak, AtEnd}
use Rattle.hv_debug.specs.Playing.{Halted, Reached, after_step, is_step, is_stopped, next_hart, steps_from, stops}
use Rattle.hv_debug.specs.Reaching.{Advances, CanGo, Halts, HasReached, IsMove, moves_left}
use Rattle.hv_debug.specs.Transcript.{IsOnWay}
use Rattle.hv_debug.proofs.Unmoved.{stops_now}
use Rattle.hv_debug.proofs.Playings.{after_lines, after_none, after_one, steps_done, steps_ended, steps_next, steps_stopped}

-- how many steps a move is
abbrev pub step_count : Move → ℕ
step_count move = cond (is_step move) 1 0

-- the play goes on by one move
pub has_moved : (start : State) (moves : List Move) (p q : Player) (here there : State) (r : Reached) (m : Move)
    → HasReached start moves p here r
    → moves_left p.cursor ≡ m ∷ moves_left q.cursor
    → Follows p.play here q.play there (m ∷ [])
    → q.steps ≡ p.steps + step_count m
    → HasReached start moves q there record { played = r.played ++ m ∷ []; rest = moves_left q.cursor }
has_moved start moves p q here there r m h takes follows steps =
    let both = follows start r.played [] h.play h.state in
    record {
      play = both.0;
      state = both.1;
      whole = append_assoc r.played (m ∷ []) (moves_left q.cursor) ∙ ap (λ (ms : List Move). r.played ++ ms) (sym takes ∙ h.rest) ∙ h.whole;
      rest = refl;
      steps = steps ∙ ap (λ (n : ℕ). n + step_count m) h.steps ∙ sym (steps_more r.played m);
    }
  where
    steps_more : (ms : List Move) (m : Move) → count_by is_step (ms ++ m ∷ []) ≡ count_by is_step ms + step_count m
    steps_more ms m = sum_by_push step_count ms m

-- the engine's state is the same
pub has_stayed : (start : State) (moves : List Move) (p : Player) (here there : State) (r : Reached) → there ≡ here → HasReached start moves p here r → HasReached start moves p there r
has_stayed start moves p here there r e h = record {
  play = h.play;
  state = e ∙ h.state;
  whole = h.whole;
  rest = h.rest;
  steps = h.steps;
}

-- From the player p over a state to the player q over another, by some moves that belong to the next step.
abbrev pub Nears : Player → State → Player → State → Type 0
Nears p here q there =
    (start : State) (moves : List Move) (r : Reached)
    → HasReached start moves p here r
    → (e : Reached) × HasReached start moves q there e × (after_step e ≡ after_step r)

-- The same, by some of the steps of a command: n are to be made.
abbrev pub Nears_by : List Break → Bool → ℕ → ℕ → Player → State → Player → State → Type 0
Nears_by breaks first left count p here q there =
    (start : State) (moves : List Move) (r : Reached)
    → HasReached start moves p here r
    → (e : Reached) × HasReached start moves q there e × (steps_from start breaks first left e ≡ steps_from start breaks true count r)

-- the state lies on the schedule's way
pub on_way : (start : State) (moves : List Move) (p : Player) (here : State) (r : Reached) → HasReached start moves p here r → IsOnWay start moves here
on_way start moves p here r h =
    (length r.played, h.state ∙ ap (last_of start) (sym (ap (take (length r.played)) (sym h.whole) ∙ take-append_seam r.played r.rest)))

-- what can go on can go on after a move
pub go_on : (n : ℕ) (p q : Player) (m : Move) → CanGo n p → moves_left p.cursor ≡ m ∷ moves_left q.cursor → q.play.calls ≡ p.play.calls + 1 → q.steps ≤ p.steps + 1 → CanGo n q
go_on n p q m can takes calls steps = record {
  moves = rest;
  calls = omega (arith, can.calls, ap length takes, calls);
  steps = omega (arith, can.steps, calls, steps);
}
  where
    all : All (IsMove n) (m ∷ moves_left q.cursor)
    all = subst (All (IsMove n)) takes can.moves

    rest : All (IsMove n) (moves_left q.cursor)
    rest k d lt = all (suc k) d (omega (arith, lt))

pub first_move : (n : ℕ) (p : Player) (m : Move) (ms : List Move) → CanGo n p → moves_left p.cursor ≡ m ∷ ms → IsMove n m
first_move n p m ms can takes = subst (All (IsMove n)) takes can.moves 0 m (omega arith)

pub few_calls : (n : ℕ) (p : Player) (m : Move) (ms : List Move) → CanGo n p → moves_left p.cursor ≡ m ∷ ms → p.play.calls < 2 ^ 62
few_calls n p m ms can takes = omega (arith, can.calls, ap length takes)

-- the hart of the next step is there
pub hart_there : (n : ℕ) (ms : List Move) (hart : ℕ) → All (IsMove n) ms → next_hart ms ≡ Some hart → hart < n
hart_there n [] hart all e = cc
hart_there n (StepOf h ∷ ms) hart all e =
    let same : h ≡ hart = cc in
    subst (λ (k : ℕ). k < n) same (all 0 (StepOf h) (omega arith))
hart_there n (LinesOf h m ∷ ms) hart all e = hart_there n ms hart (λ k d lt. all (suc k) d (omega (arith, lt))) e

-- a change of lines was made
pub nears_on : (a p q : Player) (first here there : State) (h m : ℕ)
    → Nears a first p here
    → moves_left p.cursor ≡ LinesOf h m ∷ moves_left q.cursor
    → Follows p.play here q.play there (LinesOf h m ∷ [])
    → q.steps ≡ p.steps
    → Nears a first q there
nears_on a p q first here there h m nears takes follows steps start moves r hr =
    let x = nears start moves r hr in
    let none : q.steps ≡ p.steps + 0 = omega (arith, steps) in (
      record { played = x.0.played ++ LinesOf h m ∷ []; rest = moves_left q.cursor },
      has_moved start moves p q here there x.0 (LinesOf h m) x.1 takes follows none,
      after_lines x.0 h m (moves_left q.cursor) (sym x.1.rest ∙ takes) ∙ x.2,
    )

-- the step was made
pub advanced : (a p q : Player) (first here there : State) (h : ℕ)
    → Nears a first p here
    → moves_left p.cursor ≡ StepOf h ∷ moves_left q.cursor
    → Follows p.play here q.play there (StepOf h ∷ [])
    → q.steps ≡ p.steps + 1
    → Advances a first q there
advanced a p q first here there h nears takes follows steps start moves r hr =
    let x = nears start moves r hr in
    subst
    (HasReached start moves q there)
    (after_one x.0 h (moves_left q.cursor) (sym x.1.rest ∙ takes) ∙ x.2)
    (has_moved start moves p q here there x.0 (StepOf h) x.1 takes follows steps)

-- no move was left
pub ended : (a p : Player) (first here : State) (cursor : Cursor)
    → Nears a first p here
    → moves_left p.cursor ≡ []
    → moves_left cursor ≡ []
    → Advances a first (record p { cursor = cursor }) here
ended a p first here cursor nears none still start moves r hr =
    let x = nears start moves r hr in
    let rest : x.0.rest ≡ [] = sym x.1.rest ∙ none in
    let h : HasReached start moves (record p { cursor = cursor }) here x.0 = record {
      play = x.1.play;
      state = x.1.state;
      whole = x.1.whole;
      rest = still ∙ sym rest;
      steps = x.1.steps;
    } in
    subst (HasReached start moves (record p { cursor = cursor }) here) (after_none x.0 rest ∙ x.2) h

-- the steps of a command end
pub halts_with : (breaks : List Break) (f : Bool) (left count : ℕ) (a p : Player) (first here : State) (stop : Stop)
    → Nears_by breaks f left count a first p here
    → ((start : State) (moves : List Move) (e : Reached) → HasReached start moves p here e → steps_from start breaks f left e ≡ record { reached = e; stop = stop })
    → Halts breaks count a first p here stop
halts_with breaks f left count a p first here stop nears last start moves r hr =
    let x = nears start moves r hr in
    let same : record { reached = x.0; stop = stop } ≡ steps_from start breaks true count r = sym (last start moves x.0 x.1) ∙ x.2 in
    (subst (λ (h : Halted). HasReached start moves p here h.reached) same x.1, ap (λ (h : Halted). h.stop) same)

-- the hart of the next step, by what the player keeps
next_of : (start : State) (moves : List Move) (p : Player) (here : State) (e : Reached) (o : Option ℕ) → o ≡ next_hart (moves_left p.cursor) → HasReached start moves p here e → next_hart e.rest ≡ o
next_of start moves p here e o is h = sym (is ∙ ap next_hart h.rest)

-- the schedule has no more steps
pub halts_at_end : (breaks : List Break) (f : Bool) (left m count : ℕ) (a p : Player) (first here : State)
    → Nears_by breaks f left count a first p here
    → left ≡ m + 1
    → None ≡ next_hart (moves_left p.cursor)
    → Halts breaks count a first p here AtEnd
halts_at_end breaks f left m count a p first here nears e next =
    halts_with breaks f left count a p first here AtEnd nears
    (λ start moves r h. steps_ended start breaks f left m r e (next_of start moves p here r None next h))

pub halts_done : (breaks : List Break) (f : Bool) (left count : ℕ) (a p : Player) (first here : State)
    → Nears_by breaks f left count a first p here
    → left ≡ 0
    → Halts breaks count a first p here Done
halts_done breaks f left count a p first here nears e =
    halts_with breaks f left count a p first here Done nears (λ start moves r h. steps_done start breaks f left r e)

stopped_of : (start : State) (moves : List Move) (p : Player) (here : State) (e : Reached) (breaks : List Break) (f b : Bool) (hart : ℕ) → (not f && is_stopped here breaks hart) ≡ b → HasReached start moves p here e → (not f && stops start breaks e hart) ≡ b
stopped_of start moves p here e breaks f b hart is h =
    ap (λ (x : Bool). not f && x) (stops_now start breaks e hart)
    ∙ ap (λ (st : State). not f && is_stopped st breaks hart) (sym h.state)
    ∙ is

pub halts_at_break : (breaks : List Break) (f : Bool) (left m count hart : ℕ) (a p : Player) (first here there : State)
    → Nears_by breaks f left count a first p here
    → there ≡ here
    → left ≡ m + 1
    → Some hart ≡ next_hart (moves_left p.cursor)
    → (not f && is_stopped here breaks hart) ≡ true
    → Halts breaks count a first p there AtBreak
halts_at_break breaks f left m count hart a p first here there nears same e next stopped start moves r hr =
    let x = halts_with breaks f left count a p first here AtBreak nears
    (λ start moves r h. steps_stopped start breaks f left m r hart e (next_of start moves p here r (Some hart) next h) (stopped_of start moves p here r breaks f true hart stopped h))
    start moves r hr in
    (has_stayed start moves p here there (steps_from start breaks true count r).reached same x.0, x.1)

-- one step more
pub nears_more : (breaks : List Break) (f : Bool) (left m count hart : ℕ) (a p q : Player) (first here between there : State)
    → Nears_by breaks f left count a first p here
    → between ≡ here
    → Advances p between q there
    → left ≡ m + 1
    → Some hart ≡ next_hart (moves_left p.cursor)
    → (not f && is_stopped here breaks hart) ≡ false
    → Nears_by breaks false m count a first q there
nears_more breaks f left m count hart a p q first here between there nears same advances e next stopped start moves r hr =
    let x = nears start moves r hr in (
      after_step x.0,
      advances start moves x.0 (has_stayed start moves p here between x.0 same x.1),
      sym (steps_next start breaks f left m x.0 hart e (next_of start moves p here x.0 (Some hart) next x.1) (stopped_of start moves p here x.0 breaks f false hart stopped x.1)) ∙ x.2,
    )
