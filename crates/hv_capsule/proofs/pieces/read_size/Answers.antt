use Rattle.std.proofs.Common.{sym, ◌∙◌, arith}
use Rattle.hv_capsule.proofs.Fronts.{size_text, size_word}
use Rattle.hv_capsule.proofs.Spelled.{one_number}
use Rattle.hv_capsule.proofs.pieces.read_size.Goals as goal

pub returns-then-pages-eq0-clause-none : goal.returns-then-pages-eq0-clause-none
returns-then-pages-eq0-clause-none c = λ n behind is e.
    let inner = size_text c.in-Some.rest.now behind n (sym c.in-Some.ensures.some ∙ e) in
    let same = one_number 10 c.in-Some-read_decimal.pages n c.in-Some-read_decimal.rest.now behind (omega arith) c.in-Some-read_decimal.ensures.word
    (size_word n is) (sym c.in-Some-read_decimal.ensures.some ∙ inner) in
    omega (arith, same.0, is.0, c.if-pages-eq0.true)

pub returns-else-pages-le-PAGES-clause-none : goal.returns-else-pages-le-PAGES-clause-none
returns-else-pages-le-PAGES-clause-none c = λ n behind is e.
    let inner = size_text c.in-Some.rest.now behind n (sym c.in-Some.ensures.some ∙ e) in
    let same = one_number 10 c.in-Some-read_decimal.pages n c.in-Some-read_decimal.rest.now behind (omega arith) c.in-Some-read_decimal.ensures.word
    (size_word n is) (sym c.in-Some-read_decimal.ensures.some ∙ inner) in
    omega (arith, same.0, is.1, c.if-pages-le-PAGES.false)
