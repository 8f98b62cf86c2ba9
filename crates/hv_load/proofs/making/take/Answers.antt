use Rattle.std.proofs.Common.{◌<◌, ◌∙◌, arith, length, rules}
use Rattle.std.specs.Prelude.{slice_index}
use Rattle.std.proofs.Math.ListN.{length-set}
use Rattle.hv_load.proofs.Taking.{took_more, free_read}
use Rattle.hv_load.proofs.making.take.Goals as goal

pub loop-page-preserved : goal.loop-page-preserved
loop-page-preserved c =
    let lt : slice_index c.args.pages.now c.loop-page.page-index < length c.loop-page.marks.items = omega (arith, c.requires c.loop-page.page-index 0 c.loop-page-test.true, c.loop-page.invariant.len) in
    record {
      left = took_more c.loop-page.marks.items c.args.pages.now c.loop-page.page-index _ c.loop-page-test.true lt (free_read c.loop-page.marks.items _ c.index_mut-mark.result.now lt c.index_mut-mark.ensures.value (search rules)) c.loop-page.invariant.left;
      len = length-set c.loop-page.marks.items _ _ ∙ c.loop-page.invariant.len;
    }
