-- The next bare page, the first page that isn't written, and all of them.
use Rattle.std.proofs.Common.{◌+◌, ◌<◌, Result, Ok, Err, get_or, length, length-set, refl, sym, ◌∙◌, arith}
use Rattle.hv_map.specs.Apart.{table_pages}
use Rattle.hv_map.specs.Chain.{map_along}
use Rattle.hv_apart.specs.declared.upgrading.Plan.{Plan}
use Rattle.hv_apart.specs.declared.upgrading.UpgradeEnd.{UpgradeEnd}
use Rattle.hv_apart.specs.declared.upgrading.UpgradeEnd.TheVariants as end
use Rattle.hv_apart.specs.Table.{item_of_chain}
use Rattle.hv_apart.specs.Upgrade.{first_shut}
use Rattle.hv_apart.proofs.Plans.{found_more}
use Rattle.hv_apart.proofs.Refusals.{shut_at, shut_nowhere, tells_none, tells_shut}
use Rattle.hv_apart.proofs.upgrading.Plan.find.Goals as goal

pub returns-in_default-written_at-clause-shut : goal.returns-in_default-written_at-clause-shut
returns-in_default-written_at-clause-shut c =
    let F = map_along c.args.store.now c.args.parent.now in
    let x = item_of_chain c.args.child in
    let t = c.args.child.table in
    let k = c.loop-k.k in
    let r : Result Plan UpgradeEnd = Err (end.Shut (t + k)) in
    let lt : k < table_pages c.args.child.pages = omega (arith, c.loop-k-test.true, c.table_pages-k-end.ensures.pages) in
    tells_shut (first_shut F x c.args.dir) r (t + k)
    (shut_at F x c.args.dir c.in-Some.directory k (λ m. get_or c.loop-k.tables m 0) (sym c.in-Some.ensures.page) lt c.loop-k.invariant.found (sym c.in_default-written_at.ensures.page)) refl

pub loop-k-preserved : goal.loop-k-preserved
loop-k-preserved c =
    let room : c.loop-k.k < length c.loop-k.tables = omega (arith, c.loop-k-test.true, c.table_pages-k-end.ensures.bound, c.loop-k.invariant.len) in
    record {
      found = found_more (map_along c.args.store.now c.args.parent.now) c.args.child.table c.loop-k.k c.in-Some-written_at.host c.loop-k.tables room c.loop-k.invariant.found (sym c.in-Some-written_at.ensures.page);
      len = length-set c.loop-k.tables c.loop-k.k c.in-Some-written_at.host ∙ c.loop-k.invariant.len;
    }

pub returns-clause-shut : goal.returns-clause-shut
returns-clause-shut c =
    let F = map_along c.args.store.now c.args.parent.now in
    let x = item_of_chain c.args.child in
    let r : Result Plan UpgradeEnd = Ok record { child = c.args.child; directory = c.in-Some.directory; tables = c.loop-k.tables } in
    tells_none (first_shut F x c.args.dir) r
    (shut_nowhere F x c.args.dir c.in-Some.directory (λ m. get_or c.loop-k.tables m 0) (sym c.in-Some.ensures.page) (λ m lt. c.loop-k.invariant.found m (omega arith))) refl
