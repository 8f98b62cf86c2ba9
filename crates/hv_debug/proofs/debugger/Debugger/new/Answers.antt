use Rattle.std.proofs.Common.{◌≡◌, ℕ, All, length, refl, ap, sym, ◌∙◌, subst, arith}
use Rattle.hv_nest.specs.State.{State}
use Rattle.hv_run.proofs.Moves.{last_none}
use Rattle.hv_debug.specs.Reaching.{IsMove, moves_left}
use Rattle.hv_debug.proofs.Schedules.{all_moves, length-schedule}
use Rattle.hv_debug.proofs.debugger.Debugger.new.Goals as goal

pub returns-clause-can : goal.returns-clause-can
returns-clause-can g c =
    let old = g.N.Nested.state c.args.nested.now in
    let new = g.N.Nested.state c.new.new.nested in
    let same : length new.harts ≡ length old.harts = ap (λ (st : State). length st.harts) c.new.ensures.same in
    let moves = all_moves (length old.harts) c.args.events.now c.requires.harts c.requires.schedule.masks in
    record {
      moves = subst (λ (n : ℕ). All (IsMove n) (moves_left c.new-2.result)) (sym same) (subst (All (IsMove (length old.harts))) (sym c.new-2.ensures) moves);
      calls = omega (arith, ap length c.new-2.ensures, length-schedule c.args.events.now, c.requires.schedule.steps, c.requires.schedule.many, c.in_ok-play.ensures.calls);
      steps = omega arith;
    }

pub returns-clause-session : goal.returns-clause-session
returns-clause-session g c = record {
  reached = record {
    play = c.in_ok-play.ensures.stands;
    state = c.new.ensures.same ∙ sym (last_none (g.N.Nested.state c.args.nested.now));
    whole = refl;
    rest = c.new-2.ensures;
    steps = refl;
  };
  breaks = c.new-3.ensures.items;
  text = c.new-4.ensures.items;
}
