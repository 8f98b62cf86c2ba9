-- One page more is written.
use Rattle.std.proofs.Common.{◌≡◌, ◌≢◌, ℕ, ◌<◌, get_or, refl, arith}
use Rattle.hv_word.specs.Storage.{page_count}
use Rattle.hv_move.proofs.Writing.{more_written, row_long, row_words}
use Rattle.hv_move.proofs.placing.write_pages.Goals as goal

pub put_words-requires : goal.put_words-requires
put_words-requires c =
    let n = c.loop-page.page in
    let T = c.args.copy.now in
    let low : n < page_count T = omega (arith, c.loop-page-test.true, c.pages-page-end.ensures.count) in
    let host = c.requires.within n low in
    let long = row_long T c.row.result.now n c.row.ensures (omega (arith, c.loop-page-test.true, c.pages-page-end.ensures.words)) in
    omega (arith, host, long, c.loop-page.invariant.len, c.pages-pages.ensures.words, c.pages-pages.ensures.count)

pub loop-page-preserved : goal.loop-page-preserved
loop-page-preserved c =
    let n = c.loop-page.page in
    let T = c.args.copy.now in
    let hosts = c.args.hosts.now in
    let low : n < page_count T = omega (arith, c.loop-page-test.true, c.pages-page-end.ensures.count) in
    let host = c.requires.within n low in
    let long = row_long T c.row.result.now n c.row.ensures (omega (arith, c.loop-page-test.true, c.pages-page-end.ensures.words)) in
    let differ : (i : ℕ) → i < n → get_or hosts i 0 ≢ get_or hosts n 0 = (λ i lt e. let same : i ≡ n = c.requires.differ i n (omega arith) low e in omega arith) in
    more_written c.args.store.now c.loop-page.store c.put_words.new.store hosts T n (get_or hosts n 0) c.loop-page.invariant refl c.row.result.now long (λ w h. row_words T c.row.result.now n w c.row.ensures h) c.put_words.ensures differ (omega (arith, host, c.pages-pages.ensures.words, c.pages-pages.ensures.count))
