-- The next page that can be read.
use Rattle.std.proofs.Common.{ℕ, ◌<◌, List, ◌++◌, length, take, ap, sym, ◌∙◌, arith}
use Rattle.std.specs.Option.{option_to_list}
use Rattle.hv_map.specs.Apart.{open_page_if}
use Rattle.hv_map.specs.Chain.{map_along}
use Rattle.hv_map.specs.Compose.{reading}
use Rattle.hv_nest.specs.Watched.{page_foot}
use Rattle.hv_apart.specs.Table.{places_in}
use Rattle.hv_apart.proofs.Joining.{joined_more}
use Rattle.hv_apart.proofs.Feet.{page_foot-push}
use Rattle.hv_apart.proofs.foot.put_pages.Goals as goal

pub loop-page-preserved : goal.loop-page-preserved
loop-page-preserved c =
    let F = map_along c.args.store.now c.args.chain.now in
    let i = c.loop-page.page in
    let inside : i < length F = omega arith in (
      joined_more _ _ _ (page_foot (take i F)) (places_in 0 1024 (option_to_list c.read-host.result)) _ c.loop-page.invariant.0 c.put_page.ensures
          (page_foot-push F i inside
          ∙ ap (λ (k : ℕ). page_foot (take i F) ++ places_in 0 1024 (open_page_if (reading F k))) (sym c.from.ensures)
          ∙ ap (λ (gs : List ℕ). page_foot (take i F) ++ places_in 0 1024 gs) (sym c.read-host.ensures.page)),
      c.read-host.ensures.cache,
    )
