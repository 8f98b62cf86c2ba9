-- A page that is still to be taken off has been counted.
use Rattle.std.proofs.Common.{◌<◌, rules, arith, slice_index, length}
use Rattle.std.proofs.lemmas.Grind.{get_or_default_zero}
use Rattle.hv_cache.proofs.Occurring.{inside_of_some, occurrences_more}
use Rattle.hv_cache.proofs.counts.Counts.remove.Goals as goal

pub index_mut-requires : goal.index_mut-requires
index_mut-requires c =
    let pages = c.args.pages.now in
    let i = c.loop-page.page-index in
    let g = slice_index pages i in
    let counts = c.loop-page.self-inside.counts.items in
    let some : 0 < slice_index counts g = omega (arith, c.requires.counted g, c.loop-page.invariant.counted g, occurrences_more pages i c.loop-page-test.true) in
    let inside : g < length counts = inside_of_some counts g some in
    search rules

pub overflow_sub-index_mut : goal.overflow_sub-index_mut
overflow_sub-index_mut c =
    let pages = c.args.pages.now in
    let i = c.loop-page.page-index in
    let g = slice_index pages i in
    let counts = c.loop-page.self-inside.counts.items in
    let some : 0 < slice_index counts g = omega (arith, c.requires.counted g, c.loop-page.invariant.counted g, occurrences_more pages i c.loop-page-test.true) in
    let inside : g < length counts = inside_of_some counts g some in
    omega (arith, some, get_or_default_zero counts g c.index_mut.result.now inside, c.loop-page.invariant.counted g, occurrences_more pages i c.loop-page-test.true, c.index_mut.ensures.value)
