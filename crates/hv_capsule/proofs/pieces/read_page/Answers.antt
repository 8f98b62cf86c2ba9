use Rattle.std.proofs.Common.{◌≡◌, ◌∷◌, true, sym, ap, ◌∙◌, arith}
use Rattle.hv_capsule.specs.Lines.{are_zero}
use Rattle.hv_capsule.proofs.Fronts.{number_there, page_there}
use Rattle.hv_capsule.proofs.pieces.read_page.Goals as goal

pub returns-in_default-read_words-clause-none : goal.returns-in_default-read_words-clause-none
returns-in_default-read_words-clause-none c = λ page ws behind is e.
    let there = number_there c.args.pages c.args.least c.in-Some-read_decimal.page page c.args.text.now c.in-Some.rest.now
    c.in-Some-read_decimal.rest.now behind ws c.in-Some.ensures.some c.in-Some-read_decimal.ensures.some
    c.in-Some-read_decimal.ensures.word (omega (arith, is.inside, c.ranges.pages.fits)) e in
    c.in_default-read_words.ensures.none ws (10 ∷ behind) (is.size ∙ sym c.requires) is.each there.1

pub returns-in_default-after-clause-none : goal.returns-in_default-after-clause-none
returns-in_default-after-clause-none c = λ page ws behind is e.
    let there = page_there c.args.pages c.args.least c.in-Some-read_decimal.page page c.args.text.now c.in-Some.rest.now
    c.in-Some-read_decimal.rest.now c.in-Some-read_words.rest.now behind c.read_words.new.out ws c.in-Some.ensures.some
    c.in-Some-read_decimal.ensures.some c.in-Some-read_words.ensures.some c.in-Some-read_decimal.ensures.word c.ranges.pages.fits
    (c.read_words.ensures.len ∙ c.requires) c.in-Some-read_words.ensures.each is e in
    c.in_default-after.ensures.none behind there.2

pub returns-then-is_zero-clause-none : goal.returns-then-is_zero-clause-none
returns-then-is_zero-clause-none c = λ page ws behind is e.
    let there = page_there c.args.pages c.args.least c.in-Some-read_decimal.page page c.args.text.now c.in-Some.rest.now
    c.in-Some-read_decimal.rest.now c.in-Some-read_words.rest.now behind c.read_words.new.out ws c.in-Some.ensures.some
    c.in-Some-read_decimal.ensures.some c.in-Some-read_words.ensures.some c.in-Some-read_decimal.ensures.word c.ranges.pages.fits
    (c.read_words.ensures.len ∙ c.requires) c.in-Some-read_words.ensures.each is e in
    let zero : are_zero ws ≡ true = sym (ap are_zero there.1) ∙ sym c.is_zero.ensures ∙ c.if-is_zero.true in
    cc (zero, is.some)

pub returns-then-page-least-clause-none : goal.returns-then-page-least-clause-none
returns-then-page-least-clause-none c = λ page ws behind is e.
    let there = page_there c.args.pages c.args.least c.in-Some-read_decimal.page page c.args.text.now c.in-Some.rest.now
    c.in-Some-read_decimal.rest.now c.in-Some-read_words.rest.now behind c.read_words.new.out ws c.in-Some.ensures.some
    c.in-Some-read_decimal.ensures.some c.in-Some-read_words.ensures.some c.in-Some-read_decimal.ensures.word c.ranges.pages.fits
    (c.read_words.ensures.len ∙ c.requires) c.in-Some-read_words.ensures.each is e in
    omega (arith, there.0, is.from, c.if-page-least.true)

pub returns-then-page-pages-clause-next : goal.returns-then-page-pages-clause-next
returns-then-page-pages-clause-next c = record {
  from = c.if-page-least.false;
  inside = c.if-page-pages.true;
  size = c.read_words.ensures.len ∙ c.requires;
  each = c.in-Some-read_words.ensures.each;
  some = sym c.is_zero.ensures ∙ c.if-is_zero.false;
}

pub returns-else-page-pages-clause-none : goal.returns-else-page-pages-clause-none
returns-else-page-pages-clause-none c = λ page ws behind is e.
    let there = page_there c.args.pages c.args.least c.in-Some-read_decimal.page page c.args.text.now c.in-Some.rest.now
    c.in-Some-read_decimal.rest.now c.in-Some-read_words.rest.now behind c.read_words.new.out ws c.in-Some.ensures.some
    c.in-Some-read_decimal.ensures.some c.in-Some-read_words.ensures.some c.in-Some-read_decimal.ensures.word c.ranges.pages.fits
    (c.read_words.ensures.len ∙ c.requires) c.in-Some-read_words.ensures.each is e in
    omega (arith, there.0, is.inside, c.if-page-pages.false)
