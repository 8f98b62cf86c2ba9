use Rattle.std.proofs.Common.{ap, subst, sym, ◌∙◌, ℕ, List, ◌+◌, ◌*◌}
use Rattle.hv_store.specs.Zeros.{zeros}
use Rattle.hv_capsule.proofs.Filled.{IsReadTo, all_read, read_more, read_none}
use Rattle.hv_capsule.proofs.reading.read_pages.Goals as goal

pub loop-page-init : goal.loop-page-init
loop-page-init c = record {
  count = c.pages-pages.ensures.count;
  read =
      read_none c.args.store.now c.args.text.now c.pages-pages.result c.pages-pages.ensures.words
      (c.requires ∙ ap (λ (n : ℕ). zeros (1024 * n)) (sym c.pages-pages.ensures.count));
}

pub returns-in-Ok-clause-ok : goal.returns-in-Ok-clause-ok
returns-in-Ok-clause-ok c =
    all_read c.loop-page.store c.args.text.now c.loop-page.rest.now c.in-Ok.behind.now c.pages-pages.result c.loop-page.least
    c.loop-page.line c.loop-page.invariant.read c.in-Ok.ensures.ok

pub loop-page-preserved : goal.loop-page-preserved
loop-page-preserved c = record {
  count = c.loop-page.invariant.count;
  read =
      subst (λ (S : List ℕ). IsReadTo S c.pages-pages.result (c.in-Some.page + 1) c.args.text.now (c.loop-page.line + 1) c.in-Some.behind.now) (sym c.put_words.ensures)
      (read_more c.loop-page.store c.read_page.new.words c.args.text.now c.loop-page.rest.now c.in-Some.behind.now
      c.pages-pages.result c.loop-page.least c.loop-page.line c.in-Some.page c.loop-page.invariant.read
      c.in-Some.ensures.next c.in-Some.ensures.some);
}
