-- The table words in the next page of the table.
use Rattle.std.proofs.Common.{◌≡◌, ℕ, ◌+◌, ◌*◌, ◌++◌, length, min, ap, ◌∙◌, arith}
use Rattle.std.specs.Option.{option_to_list}
use Rattle.hv_map.specs.Chain.{map_along}
use Rattle.hv_apart.specs.Table.{item_of_chain, table_places, places_in}
use Rattle.hv_apart.proofs.Joining.{joined_more}
use Rattle.hv_apart.proofs.Feet.{table_places-chunk}
use Rattle.hv_apart.proofs.foot.put_tables.Goals as goal

pub loop-k-preserved : goal.loop-k-preserved
loop-k-preserved c =
    let S = c.args.store.now in
    let F = map_along S c.args.chain.now in
    let j = length c.args.chain.now in
    let x = item_of_chain c.args.child in
    let n = c.args.child.pages in
    let k = c.loop-k.k in
    let r = c.table_page-table.result in
    let count = c.min.result in
    let so_far : 1024 * k ≡ min n (1024 * k) = omega arith in
    let more : min n (1024 * (k + 1)) ≡ 1024 * k + c.min.result = omega (arith, c.min.ensures) in (
      joined_more _ _ _ (table_places S F j x (min n (1024 * k))) (places_in 0 count (option_to_list r)) _ c.loop-k.invariant.0 c.put_words.ensures
          (ap (table_places S F j x) more
          ∙ table_places-chunk S F j x k count r (omega (arith, c.min.ensures)) c.table_page-table.ensures.page
          ∙ ap (λ (m : ℕ). table_places S F j x m ++ places_in 0 count (option_to_list r)) so_far),
      c.table_page-table.ensures.cache,
    )
