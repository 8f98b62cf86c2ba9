use Rattle.std.proofs.Common.{◌∙◌, refl, take, get_or, take_all}
use Rattle.std.proofs.lemmas.List.{take_more}
use Rattle.hv_nest.specs.Rows.{no_row}
use Rattle.hv_fast.proofs.Dropping.{dropped_none, dropped_more}
use Rattle.hv_fast.proofs.Resting.{all_right}
use Rattle.hv_fast.proofs.beside.Beside.spare_all.Goals as goal

pub loop-row-init : goal.loop-row-init
loop-row-init c = dropped_none c.args.store.now _ c.args.self.now c.args.self.now refl refl

pub loop-row-preserved : goal.loop-row-preserved
loop-row-preserved c =
    dropped_more c.args.store.now (take c.loop-row.row-index c.as_slice-row-items.result.now) _ (get_or c.as_slice-row-items.result.now c.loop-row.row-index no_row)
    c.args.self.now c.loop-row.self c.spare.new.self
    (take_more c.as_slice-row-items.result.now c.loop-row.row-index no_row c.loop-row-test.true)
    c.loop-row.invariant c.spare.ensures.dropped

pub returns-clause-right : goal.returns-clause-right
returns-clause-right c = λ S R h r b gone right long all.
    all_right S c.args.store.now R h r b c.args.self.now c.loop-row.self _ c.args.changed.now
    (take_all c.loop-row.row-index c.as_slice-row-items.result.now c.loop-row-test.false ∙ c.as_slice-row-items.ensures)
    gone c.loop-row.invariant right long all

pub returns-clause-count : goal.returns-clause-count
returns-clause-count c = c.loop-row.invariant.count
