use Rattle.std.proofs.Common.{◌≡◌, ◌∷◌, ℕ, List, get_or, true, sym, ap, ◌∙◌, arith}
use Rattle.hv_block.specs.Block.{fits_hart}
use Rattle.hv_block.proofs.Fits.{hart_fits, fits_hart_tells}
use Rattle.hv_capsule.specs.Parked.{regs_of_words}
use Rattle.hv_capsule.proofs.Fronts.{regs_text, regs_there}
use Rattle.hv_capsule.proofs.pieces.read_regs.Goals as goal

pub returns-in_default-read_words-clause-none : goal.returns-in_default-read_words-clause-none
returns-in_default-read_words-clause-none c = λ ws behind are e.
    c.in_default-read_words.ensures.none ws (10 ∷ behind) (are.size ∙ sym c.requires) are.each
    (regs_text c.args.text.now c.in-Some.rest.now behind ws c.in-Some.ensures.some e)

pub returns-in_default-after-clause-none : goal.returns-in_default-after-clause-none
returns-in_default-after-clause-none c = λ ws behind are e.
    let same = regs_there c.args.pages c.args.text.now c.in-Some.rest.now c.in-Some-read_words.rest.now behind c.read_words.new.out ws
    c.in-Some.ensures.some c.in-Some-read_words.ensures.some (c.read_words.ensures.len ∙ c.requires) c.in-Some-read_words.ensures.each are e in
    c.in_default-after.ensures.none behind same.1

pub returns-then-not-is_of_hart-clause-none : goal.returns-then-not-is_of_hart-clause-none
returns-then-not-is_of_hart-clause-none c = λ ws behind are e.
    let same = regs_there c.args.pages c.args.text.now c.in-Some.rest.now c.in-Some-read_words.rest.now behind c.read_words.new.out ws
    c.in-Some.ensures.some c.in-Some-read_words.ensures.some (c.read_words.ensures.len ∙ c.requires) c.in-Some-read_words.ensures.each are e in
    let yes : fits_hart (regs_of_words c.read_words.new.out) ≡ true =
    ap (λ (v : List ℕ). fits_hart (regs_of_words v)) same.0 ∙ hart_fits (regs_of_words ws) are.fits in
    cc (c.is_of_hart.ensures, c.if-not-is_of_hart.true, yes)

pub returns-then-words-eq0-clause-are : goal.returns-then-words-eq0-clause-are
returns-then-words-eq0-clause-are c = record {
  size = c.read_words.ensures.len ∙ c.requires;
  each = c.in-Some-read_words.ensures.each;
  fits = fits_hart_tells (regs_of_words c.read_words.new.out) (sym c.is_of_hart.ensures ∙ c.if-not-is_of_hart.false);
  next = λ ne. absurd (ne c.if-words-eq0.true);
}

pub returns-then-words-pages-clause-are : goal.returns-then-words-pages-clause-are
returns-then-words-pages-clause-are c = record {
  size = c.read_words.ensures.len ∙ c.requires;
  each = c.in-Some-read_words.ensures.each;
  fits = fits_hart_tells (regs_of_words c.read_words.new.out) (sym c.is_of_hart.ensures ∙ c.if-not-is_of_hart.false);
  next = λ ne. c.if-words-pages.true;
}

pub returns-else-words-pages-clause-none : goal.returns-else-words-pages-clause-none
returns-else-words-pages-clause-none c = λ ws behind are e.
    let same = regs_there c.args.pages c.args.text.now c.in-Some.rest.now c.in-Some-read_words.rest.now behind c.read_words.new.out ws
    c.in-Some.ensures.some c.in-Some-read_words.ensures.some (c.read_words.ensures.len ∙ c.requires) c.in-Some-read_words.ensures.each are e in
    let word : get_or c.read_words.new.out 49 0 ≡ get_or ws 49 0 = ap (λ (v : List ℕ). get_or v 49 0) same.0 in
    omega (arith, word, c.if-words-pages.false, are.next (λ z. c.if-words-eq0.false (word ∙ z)))
