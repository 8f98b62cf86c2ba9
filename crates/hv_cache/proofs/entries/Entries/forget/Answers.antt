-- The entries that rest on the page go one by one.
use Rattle.std.proofs.Common.{List, ap, sym, ◌∙◌}
use Rattle.lru.specs.LruCache.{lru_cache}
use Rattle.hv_cache.specs.Kept.{rests_on}
use Rattle.hv_cache.specs.Holding.{Entry, without_page}
use Rattle.hv_cache.proofs.Forgotten.{distinct_removed, forgets_at, none_out, out_at}
use Rattle.hv_cache.proofs.entries.Entries.forget.Goals as goal

pub returns-then-not-watches-clause-entries : goal.returns-then-not-watches-clause-entries
returns-then-not-watches-clause-entries c =
    ap (λ (es : List Entry). lru_cache es c.args.self.now.cap)
    (sym (none_out (λ (e : Entry). rests_on c.args.page e.1) c.args.self.now.entries (sym c.watches.ensures ∙ c.if-not-watches.true)))

pub loop-key-preserved : goal.loop-key-preserved
loop-key-preserved c =
    let p = λ (e : Entry). rests_on c.args.page e.1 in
    let held = c.loop-key.self in
    let keys = c.as_slice-key-items.result.now in
    let is = c.loop-key.invariant in
    rw c.remove.ensures
    (record {
      keys = (forgets_at p held.entries keys c.loop-key.key-index _ c.loop-key-test.true is.distinct is.keys).keys;
      left = (forgets_at p held.entries keys c.loop-key.key-index _ c.loop-key-test.true is.distinct is.keys).left ∙ is.left;
      distinct = distinct_removed _ held.entries is.distinct;
      cap = is.cap;
    })

pub returns-clause-entries : goal.returns-clause-entries
returns-clause-entries c =
    let p = λ (e : Entry). rests_on c.args.page e.1 in
    let held = c.loop-key.self in
    let is = c.loop-key.invariant in
    ap (λ (es : List Entry). lru_cache es held.cap) (sym (out_at p held.entries c.as_slice-key-items.result.now c.loop-key.key-index c.loop-key-test.false is.keys) ∙ is.left)
    ∙ ap (lru_cache (without_page c.args.page c.args.self.now.entries)) is.cap
