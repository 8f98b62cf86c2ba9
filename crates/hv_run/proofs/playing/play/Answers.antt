use Rattle.std.proofs.Common.{sym, ◌∙◌, ◌≤◌, ℕ, List, ap, length, subst, take, arith}
use Rattle.std.proofs.lemmas.List.{take_all}
use Rattle.hv_irq.specs.declared.Event.{Event}
use Rattle.hv_nest.specs.State.{State}
use Rattle.hv_run.specs.Play.{Played}
use Rattle.hv_run.specs.Record.{WatchOf, schedule}
use Rattle.hv_run.specs.Stands.{StandsFor, watches_of}
use Rattle.hv_run.proofs.Promised.{stands_bare, stands_routed}
use Rattle.hv_run.proofs.Moves.{last_none}
use Rattle.hv_run.proofs.playing.play.Goals as goal

-- after all events
at_end : (p : Played) (start : State) (es : List Event) (i : ℕ) (ws : List WatchOf) → length es ≤ i → StandsFor p start (schedule (take i es)) ws → StandsFor p start (schedule es) ws
at_end p start es i ws end stands = subst (λ (xs : List Event). StandsFor p start (schedule xs) ws) (take_all i es end) stands

pub loop-event-init : goal.loop-event-init
loop-event-init g c =
    let same = c.in_ok-play.ensures.same in
    record {
      calls = omega (arith, c.in_ok-play.ensures.calls);
      harts = ap (λ (st : State). length st.harts) same;
      stands = c.in_ok-play.ensures.stands;
      state = same ∙ sym (last_none (g.N.Nested.state c.args.nested.now));
    }

pub returns-clause-guests : goal.returns-clause-guests
returns-clause-guests g c =
    let old = g.N.Nested.state c.args.nested.now in
    let ws = watches_of c.args.watches.now in
    stands_bare c.loop-event.play old (schedule c.args.events.now) ws
    (at_end c.loop-event.play old c.args.events.now c.loop-event.event-index ws c.loop-event-test.false c.loop-event.invariant.stands)

pub returns-clause-routed : goal.returns-clause-routed
returns-clause-routed g c =
    let old = g.N.Nested.state c.args.nested.now in
    let ws = watches_of c.args.watches.now in
    stands_routed c.loop-event.play old (schedule c.args.events.now) ws
    (at_end c.loop-event.play old c.args.events.now c.loop-event.event-index ws c.loop-event-test.false c.loop-event.invariant.stands)
