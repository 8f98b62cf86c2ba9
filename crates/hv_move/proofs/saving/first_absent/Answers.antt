use Rattle.std.proofs.Common.{arith}
use Rattle.hv_map.specs.Chain.{map_along}
use Rattle.hv_move.proofs.Firsts.{absent_here, absent_nowhere}
use Rattle.hv_move.proofs.saving.first_absent.Goals as goal

pub returns-then-not-is_readable : goal.returns-then-not-is_readable
returns-then-not-is_readable c =
    absent_here (map_along c.args.store.now c.args.chain.now) c.loop-page.page (omega (arith, c.loop-page-test.true, c.pages-page-end.ensures.pages)) c.loop-page.invariant (cc (c.is_readable.ensures, c.if-not-is_readable.true))

pub returns : goal.returns
returns c =
    absent_nowhere (map_along c.args.store.now c.args.chain.now) (λ m low. c.loop-page.invariant m (omega (arith, c.loop-page-test.false, c.pages-page-end.ensures.pages)))
