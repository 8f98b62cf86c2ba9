use Rattle.std.proofs.Common.{arith, sym}
use Rattle.hv_map.specs.Chain.{map_along}
use Rattle.hv_move.specs.Saved.{first_absent}
use Rattle.hv_move.specs.declared.saving.SaveEnd.TheVariants.{Absent}
use Rattle.hv_top.proofs.Saved.{saved_right, whole_by}
use Rattle.hv_top.proofs.saving.inner_parked.Goals as goal

pub returns-in-Ok : goal.returns-in-Ok
returns-in-Ok c =
    let whole = whole_by (first_absent (map_along c.args.store.now c.args.chain.now)) c.in-Ok.capsule Absent c.save.result c.in-Ok.is c.save.ensures.absent in
    λ st hart is.
    saved_right st hart c.args.store.now c.args.chain.now c.in-Ok.capsule is c.requires.inside
    (omega (arith, c.if-pages-gt-PAGES.false, c.pages.ensures.pages)) whole c.in-Ok.ensures.regs c.in-Ok.ensures.storage
