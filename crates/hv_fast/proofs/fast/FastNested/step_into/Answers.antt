-- A hart that is in the state keeps its next below the number of pages, of which there is one at least.
use Rattle.std.proofs.Common.{◌≤◌, subst, arith}
use Rattle.hv_word.specs.Storage.{page_count}
use Rattle.hv_nest.specs.State.{IsNextInside}
use Rattle.hv_fast.specs.Engine.{Engine}
use Rattle.hv_fast.proofs.Engines.{next_inside}
use Rattle.hv_fast.proofs.fast.FastNested.step_into.Goals as goal

pub returns-then-ride-clause-next : goal.returns-then-ride-clause-next
returns-then-ride-clause-next c =
    let store = c.self.inside.store in
    let some : 1 ≤ page_count store = omega (arith, c.pages-pages.ensures.some, c.pages-pages.ensures.count) in
    subst (λ (e : Engine). IsNextInside e.state c.args.hart) c.self.view_is
    (next_inside (page_count store) c.self.inside.harts c.args.hart some c.self.invariant.next)

pub returns-else-ride-clause-next : goal.returns-else-ride-clause-next
returns-else-ride-clause-next c =
    let store = c.self.inside.store in
    let some : 1 ≤ page_count store = omega (arith, c.pages-pages.ensures.some, c.pages-pages.ensures.count) in
    subst (λ (e : Engine). IsNextInside e.state c.args.hart) c.self.view_is
    (next_inside (page_count store) c.self.inside.harts c.args.hart some c.self.invariant.next)
