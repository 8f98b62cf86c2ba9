use Rattle.std.proofs.Common.{◌*◌, ◌∙◌, ◌≤◌, length, map, ap, arith}
use Rattle.std.proofs.Math.Seq.{length-sets}
use Rattle.std.proofs.lemmas.List.Edits.{sets}
use Rattle.hv_map.specs.Chain.{map_along}
use Rattle.hv_map.specs.Seen.{words_of}
use Rattle.hv_store.specs.declared.access.Way.TheVariants.{Open}
use Rattle.hv_map.specs.Links.{syllable_of}
use Rattle.hv_store.proofs.Identity.{length-zeros}
use Rattle.hv_twin.proofs.Pages.{pinned_has_pages}
use Rattle.hv_twin.proofs.Copies.{copied_none, open_more, shut_more}
use Rattle.hv_twin.proofs.copying.seen.Goals as goal
use Rattle.hv_twin.proofs.copying.seen.Goals.{in-Open, in_default}

pub new-requires-clause-some : goal.new-requires-clause-some
new-requires-clause-some c =
    let S = c.args.store.now in
    let pages : 1 ≤ length (map_along S c.args.chain.now) = pinned_has_pages S (map syllable_of c.args.chain.now) c.args.chain.now (omega arith) c.requires.pinned in
    omega arith

pub loop-page-init : goal.loop-page-init
loop-page-init c = record {
  pages =
      c.in_ok-copy.ensures
      ∙ copied_none c.args.store.now (map_along c.args.store.now c.args.chain.now) c.pages-pages.result c.pages-pages.ensures.pages;
  len = ap length c.in_ok-copy.ensures ∙ length-zeros (1024 * c.pages-pages.result);
}

pub loop-page-preserved : goal.loop-page-preserved
loop-page-preserved c =
    let S = c.args.store.now in
    let F = map_along S c.args.chain.now in
    let i = c.loop-page.page in
    let at = c.page_slot.ensures.slot in
    elim c.match-page_slot.branch [
      | in-Open w ↦ record {
        pages =
            w.copy-is
            ∙ w.copy_page.ensures
            ∙ ap (λ copy. sets copy (1024 * i) (words_of S 1024 (Open w.in-Open.host))) c.loop-page.invariant.pages
            ∙ open_more S F i w.in-Open.host c.page_slot.result at w.in-Open.is;
        len = ap length (w.copy-is ∙ w.copy_page.ensures) ∙ length-sets c.loop-page.copy (1024 * i) (words_of S 1024 (Open w.in-Open.host)) ∙ c.loop-page.invariant.len;
      }
      | in_default w ↦ record {
        pages = w.copy-is ∙ c.loop-page.invariant.pages ∙ shut_more S F i c.page_slot.result at w.in_default.not-Open;
        len = ap length w.copy-is ∙ c.loop-page.invariant.len;
      }
    ]
