-- The words of the block, of the directory and of the table, in this order.
use Rattle.std.proofs.Common.{ℕ, List, ◌++◌, ◌∷◌, [], length, ap, sym, ◌∙◌, refl}
use Rattle.std.specs.Option.{option_to_list}
use Rattle.hv_map.specs.Apart.{table_pages}
use Rattle.hv_map.specs.Chain.{map_along}
use Rattle.hv_apart.specs.Table.{item_of_chain, table_places, places_in}
use Rattle.hv_apart.proofs.Joining.{joined_more}
use Rattle.hv_apart.proofs.Feet.{item-parts}
use Rattle.hv_apart.proofs.foot.put_item.Goals as goal

pub returns : goal.returns
returns c =
    let S = c.args.store.now in
    let F = map_along S c.args.chain.now in
    let j = length c.args.chain.now in
    let x = item_of_chain c.args.child in
    let block = places_in 65 3 (c.args.child.block ∷ []) in
    let found = places_in 0 c.table_pages-tables.result (option_to_list c.directory-page.result) in
    let words = table_places S F j x c.args.child.pages in
    joined_more _ _ _ block (found ++ words) _ c.put_words.ensures
    (joined_more _ _ _ found words (found ++ words) c.put_words-2.ensures c.put_tables.ensures refl)
    (item-parts S F j c.args.child
    ∙ ap (λ (gs : List ℕ). block ++ (places_in 0 (table_pages c.args.child.pages) gs ++ words)) (sym c.directory-page.ensures.page)
    ∙ ap (λ (n : ℕ). block ++ (places_in 0 n (option_to_list c.directory-page.result) ++ words)) (sym c.table_pages-tables.ensures.pages))
