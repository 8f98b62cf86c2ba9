-- What a command makes of a session, and of what the debugger's code keeps.
use Rattle.std.proofs.Common.{◌≡◌, ℕ, ◌+◌, true, List, ◌++◌, length, get_or, take, ◌<◌, refl, ap, ap₂, sym, ◌∙◌, subst}
use Rattle.std.specs.Prelude.{fold}
use Rattle.std.proofs.lemmas.List.Sums.{fold_more}
use Rattle.hv_job.specs.declared.job.DebugLine.{DebugLine}
use Rattle.hv_load.specs.declared.start.Named.{Named}
use Rattle.hv_nest.specs.State.{State}
use Rattle.hv_nest.specs.Move.{Move}
use Rattle.hv_debug.specs.declared.debugger.Debugger.{Debugger}
use Rattle.hv_debug.specs.declared.player.Player.{Player}
use Rattle.hv_debug.specs.declared.stop.Break.{Break}
use Rattle.hv_debug.specs.declared.stop.Stop.{Stop}
use Rattle.hv_debug.specs.Answers.{halt_line, echo_line}
use Rattle.hv_debug.specs.Playing.{steps_from}
use Rattle.hv_debug.specs.Reaching.{Becomes, Halts, HasReached, IsSession, StaysOnWay}
use Rattle.hv_debug.specs.Transcript.{Session, after_line, after_command, after_steps, with_text}
use Rattle.hv_debug.proofs.Reaches.{has_stayed, on_way}

-- the player and the engine's state are the same
stayed : (start : State) (moves : List Move) (d e : Debugger) (here there : State) (s : Session) → there ≡ here → e.player ≡ d.player → HasReached start moves d.player here s.reached → HasReached start moves e.player there s.reached
stayed start moves d e here there s same player h =
    subst (λ (p : Player). HasReached start moves p there s.reached) (sym player) (has_stayed start moves d.player here there s.reached same h)

-- steps were made, and where they ended is told
pub goes_on : (d e : Debugger) (here there : State) (count : ℕ) (stop : Stop)
    → Halts d.breaks.items count d.player here e.player there stop
    → e.breaks.items ≡ d.breaks.items
    → e.out.items ≡ d.out.items ++ halt_line e.player.steps stop
    → Becomes (after_steps count) d here e there
goes_on d e here there count stop halts breaks text start moves s h =
    let x = subst (λ (bs : List Break). Halts bs count d.player here e.player there stop) h.breaks halts start moves s.reached h.reached in
    record {
      reached = x.0;
      breaks = breaks ∙ h.breaks;
      text = text
          ∙ ap (λ (t : List ℕ). t ++ halt_line e.player.steps stop) h.text
          ∙ ap₂ (λ (n : ℕ) (why : Stop). s.text ++ halt_line n why) x.0.steps x.1;
    }

-- the words of a command are told before it is done
pub line_goes : (d m e : Debugger) (here there : State) (names : List Named) (l : DebugLine)
    → m.player ≡ d.player
    → m.breaks.items ≡ d.breaks.items
    → m.out.items ≡ d.out.items ++ echo_line l.words
    → Becomes (λ start s. after_command start names s l.what) m here e there
    → Becomes (λ start s. after_line start names s l) d here e there
line_goes d m e here there names l player breaks text goes start moves s h =
    goes start moves (with_text s (echo_line l.words))
    record {
      reached = stayed start moves d m here here s refl player h.reached;
      breaks = breaks ∙ h.breaks;
      text = text ∙ ap (λ (t : List ℕ). t ++ echo_line l.words) h.text;
    }

-- the state stays on the schedule's way
pub stays : (d : Debugger) (here there : State) → there ≡ here → StaysOnWay d here there
stays d here there same start moves s h =
    on_way start moves d.player there s.reached (has_stayed start moves d.player here there s.reached same h.reached)

pub halts_on_way : (d : Debugger) (p : Player) (here there : State) (breaks : List Break) (count : ℕ) (stop : Stop) → Halts breaks count d.player here p there stop → StaysOnWay d here there
halts_on_way d p here there breaks count stop halts start moves s h =
    let x = halts start moves s.reached h.reached in
    on_way start moves p there (steps_from start breaks true count s.reached).reached x.0

-- what is told before a command doesn't matter
pub echo_on_way : (d m : Debugger) (here there : State) (l : DebugLine)
    → m.player ≡ d.player
    → m.breaks.items ≡ d.breaks.items
    → m.out.items ≡ d.out.items ++ echo_line l.words
    → StaysOnWay m here there
    → StaysOnWay d here there
echo_on_way d m here there l player breaks text way start moves s h =
    way start moves (with_text s (echo_line l.words))
    record {
      reached = stayed start moves d m here here s refl player h.reached;
      breaks = breaks ∙ h.breaks;
      text = text ∙ ap (λ (t : List ℕ). t ++ echo_line l.words) h.text;
    }

-- one line more
pub session_more : (start : State) (moves : List Move) (e : Debugger) (there : State) (names : List Named) (lines : List DebugLine) (i : ℕ) (l : DebugLine) (first : Session)
    → i < length lines
    → l ≡ get_or lines i l
    → IsSession start moves e there (after_line start names (fold (after_line start names) first (take i lines)) l)
    → IsSession start moves e there (fold (after_line start names) first (take (i + 1) lines))
session_more start moves e there names lines i l first lt is h =
    subst
    (IsSession start moves e there)
    (ap (after_line start names (fold (after_line start names) first (take i lines))) is ∙ sym (fold_more (after_line start names) first lines i l lt))
    h
