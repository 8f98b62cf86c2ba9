-- The blocks, then the tables, then the pages.
use Rattle.std.proofs.Common.{ℕ, List, [], ◌++◌, subst, append_assoc}
use Rattle.hv_word.specs.Storage.{page_count}
use Rattle.hv_store.specs.Access.{identity}
use Rattle.hv_map.specs.Apart.{blocks_of, open_pages, tables_along}
use Rattle.hv_map.specs.Chain.{map_along}
use Rattle.hv_apart.specs.Added.{Tells}
use Rattle.hv_apart.proofs.standing.standing_pages.Goals as goal

pub returns : goal.returns
returns c =
    let S = c.args.store.now in
    let items = c.args.chain.now in
    let blocks = blocks_of items in
    let tables = tables_along S (identity (page_count S)) 0 items in
    let pages = open_pages (map_along S items) in
    subst (λ (xs : List ℕ). Tells c.add_pages.new.marks xs) (append_assoc blocks tables pages)
    (c.add_pages.ensures.tells (blocks ++ tables) (c.add_tables.ensures.tells blocks (c.add_blocks.ensures.tells [] c.new-marks.ensures)))
