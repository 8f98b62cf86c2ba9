use Rattle.std.proofs.Common.{length, arith, subst}
use Rattle.hv_word.specs.Storage.{page_count}
use Rattle.hv_map.specs.Levels.{IsWayWithin}
use Rattle.hv_map.proofs.view.ViewSpace.read.Goals as goal

pub refusal-requires-clause-asked : goal.refusal-requires-clause-asked
refusal-requires-clause-asked c =
    let P = page_count c.args.self.now.store.now in
    let k = length c.args.self.now.chain.now in
    (subst (IsWayWithin P k) c.in-Shut.is (c.way_for.ensures.within P k c.page_slot-slot.ensures.within)).2

pub returns-in-Shut-clause-level : goal.returns-in-Shut-clause-level
returns-in-Shut-clause-level c =
    let P = page_count c.args.self.now.store.now in
    let k = length c.args.self.now.chain.now in
    let below = (subst (IsWayWithin P k) c.in-Shut.is (c.way_for.ensures.within P k c.page_slot-slot.ensures.within)).0 in
    omega (arith, c.refusal.ensures.level, below)
