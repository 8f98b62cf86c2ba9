use Rattle.std.proofs.Common.{ap, sym, ◌∙◌, arith}
use Rattle.hv_nest.specs.Watched.{begins}
use Rattle.hv_run.specs.Play.{Stepped, Watching}
use Rattle.hv_run.proofs.Inside.{inside_at}
use Rattle.hv_run.proofs.Within.{same_at, watches_more, rest_more}
use Rattle.hv_run.proofs.moving.step_all.Goals as goal

pub tell_step-requires-clause-count : goal.tell_step-requires-clause-count
tell_step-requires-clause-count g c =
    let e = same_at c.loop-i.watched c.args.watched.now c.loop-i.i c.index-watched-i.result c.loop-i.invariant.rest in
    let room = (c.requires.room c.loop-i.i c.index-watched-i.result (omega arith)).0 in
    grind (arith, e, room)

pub tell_step-requires-clause-total : goal.tell_step-requires-clause-total
tell_step-requires-clause-total g c =
    let e = same_at c.loop-i.watched c.args.watched.now c.loop-i.i c.index-watched-i.result c.loop-i.invariant.rest in
    let room = (c.requires.room c.loop-i.i c.index-watched-i.result (omega arith)).1 in
    grind (arith, e, room)

pub tell_step-requires-clause-inside : goal.tell_step-requires-clause-inside
tell_step-requires-clause-inside g c =
    let running = c.args.running.now in
    let w = c.index-watched-i.result in
    let e = same_at c.loop-i.watched c.args.watched.now c.loop-i.i w c.loop-i.invariant.rest in
    c.index.ensures
    ∙ inside_at running.path c.args.watched.now running.inside.items c.loop-i.i c.index.result.now w (omega arith) c.requires.inside
    ∙ ap (λ (v : Watching). begins v.so_far.path running.path) (sym e)

pub loop-i-preserved : goal.loop-i-preserved
loop-i-preserved g c = record {
  told = watches_more (Stepped c.args.hart c.args.running.now.path c.args.outcome.now.kind c.args.outcome.now.changed) (g.N.Nested.state c.args.nested.now) c.loop-i.watched c.args.watched.now c.loop-i.i c.index-watched-i.result c.tell_step.new.self (omega arith) (omega arith) c.loop-i.invariant.told c.loop-i.invariant.rest c.tell_step.ensures;
  rest = rest_more c.loop-i.watched c.args.watched.now c.loop-i.i c.tell_step.new.self c.loop-i.invariant.rest;
}
