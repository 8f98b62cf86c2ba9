use Rattle.std.proofs.Common.{◌≡◌, ◌+◌, ◌++◌, ◌∷◌, [], List, length, take, drop, ap, refl, sym, ◌∙◌, subst, arith}
use Rattle.std.proofs.lemmas.List.{length-map}
use Rattle.hv_nest.specs.Move.{StepOf}
use Rattle.hv_run.specs.Play.{Stepped, Played, Watching, all_after, watched_after, inside_of, TellsWithin}
use Rattle.hv_run.specs.Stands.{StandsFor}
use Rattle.hv_run.proofs.Counted.{one_told}
use Rattle.hv_run.proofs.Inside.{inside_after}
use Rattle.hv_run.proofs.Within.{all_within, told_back}
use Rattle.hv_run.proofs.moving.Play.one_turn.Goals as goal

pub invariant_of-self : goal.invariant_of-self
invariant_of-self g c =
    let running = c.find.new.self.path in
    let h = Stepped c.args.hart running c.make_steps-made.new.outcome.kind c.make_steps-made.new.outcome.changed in
    let st = g.N.Nested.state c.make_steps-made.new.nested in
    let old = c.self.inside.watched.items in
    let all = take c.self.inside.watched.len (c.step_all.new.watched ++ drop (length c.step_all.new.watched) old) in
    let same : all ≡ all_after h st old = told_back c.self.inside.watched.len h st c.step_all.new.watched c.deref_mut.result.now old c.step_all.ensures c.deref_mut.ensures.value (omega arith) in
    let found = subst (λ (ws : List Watching). c.find.new.self.inside.items ≡ inside_of running ws) c.deref.ensures.value c.find.ensures.inside in (
      grind arith,
      subst (TellsWithin (c.self.inside.calls + 1)) (sym same) (all_within c.self.inside.calls h st old c.self.invariant.1),
      c.self.invariant.2,
      omega (arith, ap length same, length-map old (watched_after h st)),
      inside_after running h st old all c.find.new.self.inside.items same found,
    )

pub returns-clause-stands : goal.returns-clause-stands
returns-clause-stands g c =
    λ start moves watches stands is.
    let hart = c.args.hart in
    let next = g.N.Nested.state c.make_steps-made.new.nested in
    let h = Stepped hart c.find.new.self.path c.make_steps-made.new.outcome.kind c.make_steps-made.new.outcome.changed in
    let ws = c.self.inside.watched.items in
    let was : Played = record { calls = c.self.inside.calls; counts = c.self.inside.counts; watching = ws } in
    let stood = subst (λ (p : Played). StandsFor p start moves watches) (sym c.self.view_is) stands in
    let made = c.make_steps-made.ensures.stands was refl (record { all = λ e. cc; working = λ e f. cc }) in
    let told = one_told was (g.N.Nested.state c.find.new.nested) next h _ _ c.make_steps-made.new.counts (StepOf hart) (c.make_steps-made.ensures.one refl refl (omega arith)) made in
    let both = told start moves watches stood (c.find.ensures.same ∙ is) in
    let items = told_back c.self.inside.watched.len h next c.step_all.new.watched c.deref_mut.result.now ws c.step_all.ensures c.deref_mut.ensures.value (omega arith) in
    let now = ap (λ (vs : List Watching). let p : Played = record { calls = c.self.inside.calls + 1; counts = c.make_steps-made.new.counts; watching = vs } in p) items in
    (subst (λ (p : Played). StandsFor p start (moves ++ StepOf hart ∷ []) watches) (sym now) both.0, both.1)
