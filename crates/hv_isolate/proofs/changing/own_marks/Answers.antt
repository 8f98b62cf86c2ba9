-- The block, then the tables and the pages.
use Rattle.std.proofs.Common.{[], ℕ, subst, Option, ◌++◌, arith}
use Rattle.std.specs.Option.{option_to_list}
use Rattle.hv_word.specs.Storage.{page_count}
use Rattle.hv_store.specs.Access.{identity}
use Rattle.hv_map.specs.Apart.{open_pages, tables_along}
use Rattle.hv_map.specs.Chain.{map_along}
use Rattle.hv_apart.specs.Added.{Tells}
use Rattle.hv_apart.proofs.Growing.{found_below}
use Rattle.hv_isolate.proofs.changing.own_marks.Goals as goal

pub add_found-requires : goal.add_found-requires
add_found-requires c =
    found_below c.last_block.result (page_count c.args.store.now) (omega (arith, c.pages-pages.ensures.count, c.pages-pages.ensures.bound))
    (c.last_block.ensures.within c.args.store.now c.requires)

pub returns : goal.returns
returns c =
    let S = c.args.store.now in
    let items = c.args.chain.now in
    let rest = tables_along S (identity (page_count S)) 0 items ++ open_pages (map_along S items) in
    subst (λ (o : Option ℕ). Tells c.add_readable.new.marks (option_to_list o ++ rest)) c.last_block.ensures.block
    (c.add_readable.ensures.tells (option_to_list c.last_block.result) (c.add_found.ensures.tells [] c.new-marks.ensures))
