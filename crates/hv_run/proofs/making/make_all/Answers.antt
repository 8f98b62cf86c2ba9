use Rattle.std.proofs.Common.{ℕ, ◌+◌, Bool, refl, replicate, subst}
use Rattle.hv_nest.specs.Move.{StepOf}
use Rattle.hv_run.specs.Play.{CountsWithin, Stepped, made_count, made_played}
use Rattle.hv_run.specs.Stands.{Follows}
use Rattle.hv_run.proofs.making.make_all.Goals as goal

pub returns-clause-within : goal.returns-clause-within
returns-clause-within g c = λ n within.
    let all = c.make_steps-made.ensures.all refl in
    subst (λ (r : Bool). CountsWithin (n + made_count c.args.most r) c.make_steps-made.new.counts) all.1
    (subst (λ (w : ℕ). CountsWithin (n + made_count w c.make_steps-made.result.refused) c.make_steps-made.new.counts) all.0 (c.make_steps-made.ensures.within n within))

pub returns-clause-stands : goal.returns-clause-stands
returns-clause-stands g c = λ p is bare.
    let all = c.make_steps-made.ensures.all refl in
    let st = g.N.Nested.state c.args.nested.now in
    let next = g.N.Nested.state c.make_steps-made.new.nested in
    let h = Stepped c.args.hart c.args.path.now c.make_steps-made.new.outcome.kind c.make_steps-made.new.outcome.changed in
    let s = StepOf c.args.hart in
    subst (λ (r : Bool). Follows p st (made_played h c.args.most r c.make_steps-made.new.counts next p) next (replicate (made_count c.args.most r) s)) all.1
    (subst (λ (w : ℕ). Follows p st (made_played h w c.make_steps-made.result.refused c.make_steps-made.new.counts next p) next (replicate (made_count w c.make_steps-made.result.refused) s)) all.0
    (c.make_steps-made.ensures.stands p is (record { all = λ e. bare; working = λ e. cc })))
