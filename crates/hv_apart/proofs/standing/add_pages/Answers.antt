-- The next page that can be read.
use Rattle.std.proofs.Common.{ℕ, ◌<◌, List, ◌++◌, length, take, ap, sym, ◌∙◌, arith}
use Rattle.std.specs.Option.{option_to_list}
use Rattle.hv_map.specs.Apart.{open_pages, open_page_if}
use Rattle.hv_map.specs.Chain.{map_along}
use Rattle.hv_map.specs.Compose.{reading}
use Rattle.hv_apart.proofs.Adding.{added_more}
use Rattle.hv_apart.proofs.Growing.{pages-push}
use Rattle.hv_apart.proofs.standing.add_pages.Goals as goal

pub loop-page-preserved : goal.loop-page-preserved
loop-page-preserved c =
    let F = map_along c.args.store.now c.args.chain.now in
    let i = c.loop-page.page in
    let inside : i < length F = omega arith in (
      added_more _ _ _ (open_pages (take i F)) (option_to_list c.read.result) _ c.loop-page.invariant.0 c.add_found.ensures
          (pages-push F i inside
          ∙ ap (λ (k : ℕ). open_pages (take i F) ++ open_page_if (reading F k)) (sym c.from.ensures)
          ∙ ap (λ (ys : List ℕ). open_pages (take i F) ++ ys) (sym c.read.ensures.page)),
      c.read.ensures.cache,
    )
