-- The next page of the table.
use Rattle.std.proofs.Common.{List, ℕ, ◌++◌, ◌*◌, length, ap, sym, ◌∙◌, append_assoc}
use Rattle.std.specs.Option.{option_to_list}
use Rattle.hv_map.specs.Apart.{directory_of, table_open}
use Rattle.hv_map.specs.Chain.{map_along}
use Rattle.hv_map.specs.Compose.{reading, table_of}
use Rattle.hv_apart.specs.Table.{item_of_chain, first_tables}
use Rattle.hv_apart.proofs.Adding.{added_more}
use Rattle.hv_apart.proofs.Growing.{tables-push}
use Rattle.hv_apart.proofs.standing.add_tables_of.Goals as goal

pub loop-k-preserved : goal.loop-k-preserved
loop-k-preserved c =
    let S = c.args.store.now in
    let F = map_along S c.args.chain.now in
    let j = length c.args.chain.now in
    let x = item_of_chain c.args.child in
    let k = c.loop-k.k in
    let before = directory_of F x in
    let some = first_tables S F j x k in (
      added_more _ _ _ (before ++ some) (option_to_list c.table_page.result) _ c.loop-k.invariant.0 c.add_found-in-loop-k.ensures
          (ap (λ (ys : List ℕ). before ++ ys) (tables-push S F j x k)
          ∙ sym (append_assoc before some (table_open F (table_of S (reading F) j x.table x.version (1024 * k))))
          ∙ ap (λ (ys : List ℕ). (before ++ some) ++ ys) (sym c.table_page.ensures.page)),
      c.table_page.ensures.cache,
    )
