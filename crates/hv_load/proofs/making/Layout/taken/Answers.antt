use Rattle.std.proofs.Common.{◌+◌, Some, ◌∙◌, ap, arith, sym}
use Rattle.std.proofs.lemmas.Result.{err_from_is_err_and}
use Rattle.hv_map.specs.Chain.{map_along}
use Rattle.hv_load.specs.Pages.{writes_in}
use Rattle.hv_load.proofs.Placing.{next_found, each_stop, length_more, all_more}
use Rattle.hv_load.proofs.making.Layout.taken.Goals as goal

pub loop-k-preserved : goal.loop-k-preserved
loop-k-preserved c = record {
  left = next_found (writes_in (Some (map_along c.args.store.now c.args.chain.now))) c.loop-k.pages.items c.push-in-loop-k.new.self.items c.args.self.now.table c.loop-k.k c.table_pages-count.result c.in_ok-writes-2.field-0 (c.from-in-loop-k.result + c.from-in-loop-k-2.result) _ c.loop-k-test.true (omega arith) c.in_ok-writes-2.ensures.page c.in_ok-push-2.ensures.items c.loop-k.invariant.left;
  within = all_more _ c.loop-k.pages.items c.push-in-loop-k.new.self.items c.in_ok-writes-2.field-0 c.in_ok-push-2.ensures.items c.loop-k.invariant.within c.in_ok-writes-2.ensures.within;
  number = length_more c.loop-k.pages.items c.push-in-loop-k.new.self.items c.in_ok-writes-2.field-0 (c.loop-k.k + 1) c.in_ok-push-2.ensures.items c.loop-k.invariant.number;
}

pub returns-in_err-writes-2-clause-pages : goal.returns-in_err-writes-2-clause-pages
returns-in_err-writes-2-clause-pages c =
    let p = err_from_is_err_and c.from_residual-in_err-writes-2.result c.from_residual-in_err-writes-2.ensures.1 in
    let f = writes_in (Some (map_along c.args.store.now c.args.chain.now)) in
    rw (p.1, p.2)
    (each_stop f c.loop-k.pages.items c.args.self.now.table c.loop-k.k c.table_pages-count.result c.in_err-writes-2.field-0.0 _ c.loop-k-test.true (ap f (omega arith) ∙ sym c.in_err-writes-2.ensures.page) c.loop-k.invariant.left)
