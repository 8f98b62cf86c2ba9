use Rattle.std.proofs.Common.{◌≡◌, ℕ, ◌<◌, ◌≤◌, Result, Ok, Err, List, length, refl, sym, ap, ◌∙◌, subst}
use Rattle.std.specs.List.{All}
use Rattle.std.specs.Prelude.{IfOk, OnOk}
use Rattle.std.proofs.lemmas.Result.{IfOk-weaker}
use Rattle.hv_limits.specs.Limits.{steps_limit}
use Rattle.hv_irq.specs.declared.Event.{Event}
use Rattle.hv_irq.specs.Events.{hart_of, total_of}
use Rattle.hv_load.specs.Ready.{EachWatched}
use Rattle.hv_load.specs.declared.start.Start.{Start}
use Rattle.hv_map.specs.declared.path.Watch.{Watch}
use Rattle.hv_nest.specs.State.{State}
use Rattle.hv_nest.specs.Move.{last_of}
use Rattle.hv_report.specs.Report.{AreInState}
use Rattle.hv_run.specs.Record.{schedule, record_of, PlayRecord}
use Rattle.hv_run.specs.Run.{steps_in}
use Rattle.hv_run.specs.Stands.{CanWatch, watches_of}
use Rattle.hv_top.specs.Check.{IsRow}
use Rattle.hv_top.specs.Run.{state_of, start_at}
use Rattle.hv_top.proofs.Events.{own_events}
use Rattle.hv_top.proofs.Started.{watchable}
use Rattle.hv_top.proofs.Played.{there}
use Rattle.hv_top.proofs.Told.{rows, steps_scheduled}
use Rattle.hv_top.proofs.Promised.{promised}
use Rattle.hv_top.proofs.playing.play_out.Goals as goal

-- what is watched may be, from the start
can_watch : (start : Start) (ws : List Watch) → ws ≡ start.plan.watches → EachWatched start.store (length start.harts) start.plan.watches → CanWatch (state_of start) (watches_of ws)
can_watch start ws same each =
    subst (λ (xs : List Watch). CanWatch (state_of start) (watches_of xs)) (sym same)
    (watchable start.store start.harts start.plan.watches each)

-- what is told is in the state that is reached
told_there : {E : Type 0} (r : Result PlayRecord E) (now last : State) (all : PlayRecord)
    → OnOk r (now ≡ last)
    → IfOk r (λ (t : PlayRecord). t ≡ all)
    → AreInState last all.watches
    → IfOk r (λ (t : PlayRecord). AreInState now t.watches)
told_there (Ok t) now last all reached is there =
    subst (λ (st : State). AreInState st t.watches) (sym reached)
    (subst (λ (x : PlayRecord). AreInState last x.watches) (sym is) there)
told_there (Err e) now last all reached is there = tt

-- two facts where a call succeeds
both : {T E P Q R : Type 0} (r : Result T E) → (P → Q → R) → OnOk r P → OnOk r Q → OnOk r R
both (Ok t) f p q = f p q
both (Err e) f p q = tt

pub play-requires-clause-watches : goal.play-requires-clause-watches
play-requires-clause-watches g c =
    let start = start_at (g.N.Nested.state c.args.nested.now) c.args.plan.now in
    can_watch start c.as_slice.result.now c.as_slice.ensures c.requires.ready.watches

pub play-requires-clause-harts : goal.play-requires-clause-harts
play-requires-clause-harts g c =
    let old = g.N.Nested.state c.args.nested.now in
    subst (λ (events : List Event). All (λ (e : Event). hart_of e < length old.harts) events) (sym c.events.ensures.events)
    (subst (λ (n : ℕ). All (λ (e : Event). hart_of e < n) c.args.job.now.recording) (sym c.requires.ready.harts)
    (own_events c.args.job.now (start_at old c.args.plan.now) c.requires.job c.requires.built))

pub returns-clause-there : goal.returns-clause-there
returns-clause-there g c =
    let old = g.N.Nested.state c.args.nested.now in
    let moves = schedule c.events.result.now in
    let ws = watches_of c.as_slice.result.now in
    let can = can_watch (start_at old c.args.plan.now) c.as_slice.result.now c.as_slice.ensures c.requires.ready.watches in
    told_there c.play.result (g.N.Nested.state c.play.new.nested) (last_of old moves) (record_of old moves ws)
    c.play.ensures.state c.play.ensures.record (there old moves ws can)

pub returns-clause-rows : goal.returns-clause-rows
returns-clause-rows g c =
    let old = g.N.Nested.state c.args.nested.now in
    let moves = schedule c.events.result.now in
    let ws = watches_of c.as_slice.result.now in
    let can = can_watch (start_at old c.args.plan.now) c.as_slice.result.now c.as_slice.ensures c.requires.ready.watches in
    let steps : steps_in moves ≡ total_of c.args.job.now.recording =
    steps_scheduled c.events.result.now ∙ ap (λ (events : List Event). total_of events) c.events.ensures.events
    in
    let few : steps_in moves ≤ steps_limit = subst (λ (n : ℕ). n ≤ steps_limit) (sym steps) c.events.ensures.schedule.steps in
    IfOk-weaker c.play.result (λ (t : PlayRecord). t ≡ record_of old moves ws) (λ (t : PlayRecord). All (IsRow old) t.watches)
    (λ t is. subst (λ (x : PlayRecord). All (IsRow old) x.watches) (sym is) (rows old moves few ws can))
    c.play.ensures.record

pub returns-clause-promised : goal.returns-clause-promised
returns-clause-promised g c =
    let old = g.N.Nested.state c.args.nested.now in
    both c.play.result
    (promised (start_at old c.args.plan.now) (schedule c.args.job.now.recording) old (schedule c.events.result.now)
    (watches_of c.as_slice.result.now) refl
    (ap (λ (events : List Event). schedule events) c.events.ensures.events)
    (ap (λ (ws : List Watch). watches_of ws) c.as_slice.ensures))
    c.play.ensures.guests c.play.ensures.routed
