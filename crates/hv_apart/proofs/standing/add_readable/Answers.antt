-- The tables, then the pages.
use Rattle.std.proofs.Common.{refl}
use Rattle.hv_word.specs.Storage.{page_count}
use Rattle.hv_store.specs.Access.{identity}
use Rattle.hv_map.specs.Apart.{open_pages, tables_along}
use Rattle.hv_map.specs.Chain.{map_along}
use Rattle.hv_apart.proofs.Adding.{added_more}
use Rattle.hv_apart.proofs.standing.add_readable.Goals as goal

pub returns : goal.returns
returns c =
    let S = c.args.store.now in
    added_more _ _ _ (tables_along S (identity (page_count S)) 0 c.args.chain.now) (open_pages (map_along S c.args.chain.now)) _ c.add_tables.ensures c.add_pages.ensures refl
