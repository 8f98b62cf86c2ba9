-- What the debugger's code stands for.
use Rattle.std.specs.Prelude.{◌≡◌, ℕ, ◌+◌, ◌<◌, ◌≤◌, ◌^◌, All, true, bit_and, List, [], ◌∷◌, ◌++◌, length, replicate}
use Rattle.std.specs.Prelude.{Option, Some, None}
use Rattle.hv_limits.specs.Limits.{lines_mask}
use Rattle.hv_nest.specs.State.{State}
use Rattle.hv_nest.specs.Move.{Move, StepOf, LinesOf, last_of}
use Rattle.hv_run.specs.Record.{schedule}
use Rattle.hv_run.specs.Stands.{StandsFor}
use Rattle.hv_debug.specs.declared.cursor.Cursor.{Cursor}
use Rattle.hv_debug.specs.declared.cursor.Next.{Next}
use Rattle.hv_debug.specs.declared.cursor.Next.TheVariants.{Step, Lines}
use Rattle.hv_debug.specs.declared.debugger.Debugger.{Debugger}
use Rattle.hv_debug.specs.declared.player.Player.{Player}
use Rattle.hv_debug.specs.declared.stop.Break.{Break}
use Rattle.hv_debug.specs.declared.stop.Stop.{Stop}
use Rattle.hv_debug.specs.Playing.{Reached, after_step, steps_from, steps_of}
use Rattle.hv_debug.specs.Transcript.{IsOnWay, Session}

-- a move as the code has it
abbrev pub move_of : Next → Move
move_of (Step hart) = StepOf hart
move_of (Lines hart mask) = LinesOf hart mask

-- a move was taken off, or there is none
abbrev pub Takes : Option Next → List Move → List Move → Type 0
Takes None old new = (old ≡ []) × (new ≡ [])
Takes (Some next) old new = old ≡ move_of next ∷ new

-- the moves that are left: the rest of a turn, and those of the events behind it
abbrev pub moves_left : Cursor → List Move
moves_left c = replicate c.left (StepOf c.hart) ++ schedule c.events.now

-- a move of a machine with so many harts
abbrev pub IsMove : ℕ → Move → Type 0
IsMove harts (StepOf hart) = hart < harts
IsMove harts (LinesOf hart mask) = (hart < harts) × (bit_and mask lines_mask ≡ mask)

-- all moves that are left can be made, and they are few enough to be counted
pub record CanGo (harts : ℕ) (p : Player) : Type 0 where
  pub moves : All (IsMove harts) (moves_left p.cursor)
  pub calls : p.play.calls + length (moves_left p.cursor) ≤ 2 ^ 62
  pub steps : p.steps ≤ p.play.calls

-- The player has come so far in a schedule, from a start to the state that the engine has now.
pub record HasReached (start : State) (moves : List Move) (p : Player) (now : State) (r : Reached) : Type 0 where
  pub play : StandsFor p.play start r.played []
  pub state : now ≡ last_of start r.played
  pub whole : r.played ++ r.rest ≡ moves
  pub rest : moves_left p.cursor ≡ r.rest
  pub steps : p.steps ≡ steps_of r

-- From a player p over a state to a player q over another: wherever p had come, q has come a step further.
abbrev pub Advances : Player → State → Player → State → Type 0
Advances p here q there =
    (start : State) (moves : List Move) (r : Reached)
    → HasReached start moves p here r
    → HasReached start moves q there (after_step r)

-- The same where q has come to the end of so many steps, and they ended for the reason that is given.
abbrev pub Halts : List Break → ℕ → Player → State → Player → State → Stop → Type 0
Halts breaks count p here q there stop =
    (start : State) (moves : List Move) (r : Reached)
    → HasReached start moves p here r
    → HasReached start moves q there (steps_from start breaks true count r).reached
    × (stop ≡ (steps_from start breaks true count r).stop)

-- the debugger has come so far in a session
pub record IsSession (start : State) (moves : List Move) (d : Debugger) (now : State) (s : Session) : Type 0 where
  pub reached : HasReached start moves d.player now s.reached
  pub breaks : d.breaks.items ≡ s.breaks
  pub text : d.out.items ≡ s.text

-- whatever session the debugger d stood for, the debugger e stands for what f makes of it
abbrev pub Becomes : (State → Session → Session) → Debugger → State → Debugger → State → Type 0
Becomes f d here e there =
    (start : State) (moves : List Move) (s : Session)
    → IsSession start moves d here s
    → IsSession start moves e there (f start s)

-- the state is one that the schedule comes to
abbrev pub StaysOnWay : Debugger → State → State → Type 0
StaysOnWay d here there =
    (start : State) (moves : List Move) (s : Session)
    → IsSession start moves d here s
    → IsOnWay start moves there
