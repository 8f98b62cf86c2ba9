-- Those three parts are all that the machine stands on.
use Rattle.std.proofs.Common.{◌++◌, refl}
use Rattle.hv_word.specs.Storage.{page_count}
use Rattle.hv_store.specs.Access.{identity}
use Rattle.hv_map.specs.Chain.{map_along}
use Rattle.hv_nest.specs.Watched.{chain_foot, standing_places, last_block, own_places, page_foot}
use Rattle.hv_apart.proofs.Joining.{joined_more}
use Rattle.hv_apart.proofs.foot.put_places.Goals as goal

pub returns : goal.returns
unfolding standing_places
returns c =
    let S = c.args.store.now in
    let items = c.args.chain.now in
    let first = chain_foot S (identity (page_count S)) 0 items in
    let own = own_places (last_block items) in
    let pages = page_foot (map_along S items) in
    joined_more _ _ _ first (own ++ pages) _ c.put_items.ensures
    (joined_more _ _ _ own pages (own ++ pages) c.put_own.ensures c.put_pages.ensures refl)
    refl
