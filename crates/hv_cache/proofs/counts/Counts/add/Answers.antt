-- A page's count and one is at most the count of all the pages together.
use Rattle.std.proofs.Common.{◌<◌, arith, slice_index, length}
use Rattle.std.proofs.lemmas.Grind.{get_or_default_zero}
use Rattle.std.proofs.lemmas.List.Elements.{All-from_recursion}
use Rattle.hv_cache.proofs.Occurring.{occurrences_more}
use Rattle.hv_cache.proofs.counts.Counts.add.Goals as goal

pub overflow_add-index_mut : goal.overflow_add-index_mut
overflow_add-index_mut c =
    let pages = c.args.pages.now in
    let i = c.loop-page.page-index in
    let g = slice_index pages i in
    let counts = c.loop-page.self-inside.counts.items in
    let below = All-from_recursion (λ h. h < length c.args.self.now) pages c.requires.inside i 0 c.loop-page-test.true in
    let inside : g < length counts = omega (arith, below, c.loop-page.invariant.long) in
    omega (arith, get_or_default_zero counts g c.index_mut.result.now inside, c.requires.room g, c.loop-page.invariant.counted g, occurrences_more pages i c.loop-page-test.true, c.index_mut.ensures.value)
