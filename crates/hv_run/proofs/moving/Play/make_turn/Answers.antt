use Rattle.std.proofs.Common.{◌≡◌, ◌≢◌, ◌+◌, ◌++◌, ◌∷◌, [], List, length, take, drop, ap, ap₂, sym, ◌∙◌, subst, arith}
use Rattle.std.proofs.lemmas.List.{length-map}
use Rattle.hv_nest.specs.Changes.{differences}
use Rattle.hv_nest.specs.Move.{StepOf, Moved, moved_of, running_of}
use Rattle.hv_nest.specs.State.{State, IsNextInside}
use Rattle.hv_run.specs.declared.counts.Counts.{Counts}
use Rattle.hv_run.specs.Play.{Stepped, Played, Watching, all_after, watched_after, inside_of, TellsWithin}
use Rattle.hv_run.specs.Promises.{fault_in, IsRoutedIn}
use Rattle.hv_run.specs.Stands.{StandsFor}
use Rattle.hv_run.proofs.Inside.{inside_after}
use Rattle.hv_run.proofs.Moves.{stands_more}
use Rattle.hv_run.proofs.Promised.{follows_bare}
use Rattle.hv_run.proofs.Routes.{step_routed}
use Rattle.hv_run.proofs.Tells.{tells_step}
use Rattle.hv_run.proofs.Within.{all_within, told_back}
use Rattle.hv_run.proofs.moving.Play.make_turn.Goals as goal

pub invariant_of-self : goal.invariant_of-self
invariant_of-self g c =
    let running = c.find.new.self.path in
    let h = Stepped c.args.hart running c.step_into.new.outcome.kind c.step_into.new.outcome.changed in
    let st = g.N.Nested.state c.step_into.new.self in
    let old = c.self.inside.watched.items in
    let all = take c.self.inside.watched.len (c.step_all.new.watched ++ drop (length c.step_all.new.watched) old) in
    let same : all ≡ all_after h st old = told_back c.self.inside.watched.len h st c.step_all.new.watched c.deref_mut.result.now old c.step_all.ensures c.deref_mut.ensures.value (omega arith) in
    let found = subst (λ (ws : List Watching). c.find.new.self.inside.items ≡ inside_of running ws) c.deref.ensures.value c.find.ensures.inside in (
      (omega arith, omega arith, omega arith),
      subst (TellsWithin (c.self.inside.calls + 1)) (sym same) (all_within c.self.inside.calls h st old c.self.invariant.1),
      c.self.invariant.2,
      omega (arith, ap length same, length-map old (watched_after h st)),
      inside_after running h st old all c.find.new.self.inside.items same found,
    )

pub returns-clause-stands : goal.returns-clause-stands
returns-clause-stands g c =
    λ start moves watches stands is.
    let hart = c.args.hart in
    let old = g.N.Nested.state c.args.nested.now in
    let new = g.N.Nested.state c.step_into.new.self in
    let kind = c.step_into.new.outcome.kind in
    let changed = c.step_into.new.outcome.changed in
    let h = Stepped hart c.find.new.self.path kind changed in
    let ws = c.self.inside.watched.items in
    let same = c.find.ensures.same in
    let moves_is = c.step_into.ensures.moves ∙ ap (λ (st : State). moved_of st hart) same in
    let told = subst (λ (st : State). changed ≡ differences st.storage new.storage) same c.step_into.ensures.changed in
    let len = c.step_into.ensures.len ∙ ap (λ (st : State). length st.storage) same in
    let inside = subst (λ (st : State). IsNextInside st hart) same c.step_into.ensures.next in
    let path = subst (λ (ws : List Watching). ws ≢ [] → c.find.new.self.path ≡ running_of old hart) c.deref.ensures.value c.find.ensures.path in
    let tells = tells_step ws old new hart c.find.new.self.path kind changed moves_is path told len in
    let was : Played = record { calls = c.self.inside.calls; counts = c.self.inside.counts; watching = ws } in
    let stood = subst (λ (p : Played). StandsFor p start moves watches) (sym c.self.view_is) stands in
    let both = stands_more was start old moves watches (StepOf hart) new h tt inside tells stood is in
    let items = told_back c.self.inside.watched.len h new c.step_all.new.watched c.deref_mut.result.now ws c.step_all.ensures c.deref_mut.ensures.value (omega arith) in
    let now = ap₂ (λ (counts : Counts) (ws : List Watching). let p : Played = record { calls = c.self.inside.calls + 1; counts = counts; watching = ws } in p) c.tell.ensures.counts items in
    (subst (λ (p : Played). StandsFor p start (moves ++ StepOf hart ∷ []) watches) (sym now) both.0, both.1)

pub returns-clause-guests : goal.returns-clause-guests
returns-clause-guests g c =
    follows_bare c.args.self.now (g.N.Nested.state c.args.nested.now) _ _ (StepOf c.args.hart ∷ []) (returns-clause-stands g c)

pub returns-clause-routed : goal.returns-clause-routed
returns-clause-routed g c =
    let hart = c.args.hart in
    let old = g.N.Nested.state c.args.nested.now in
    let same = c.find.ensures.same in
    let inside = subst (λ (st : State). IsNextInside st hart) same c.step_into.ensures.next in
    let moves_is = c.step_into.ensures.moves ∙ ap (λ (st : State). moved_of st hart) same in
    subst (λ (m : Moved). IsRoutedIn old hart (fault_in m.kind)) (sym moves_is) (step_routed old hart inside)
