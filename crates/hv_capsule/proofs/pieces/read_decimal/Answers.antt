use Rattle.std.proofs.Common.{◌≡◌, Some, sym, ap, ◌∙◌, decimal}
use Rattle.std.proofs.lemmas.Bool.Decides.{Decides-eqb, not_from_Decides}
use Rattle.std.proofs.lemmas.Slice.Eq.{slice_eq-Decides}
use Rattle.hv_lex.specs.Numbers.{number_of}
use Rattle.hv_capsule.proofs.Spelled.{before_stop, no_stop, number_again}
use Rattle.hv_capsule.proofs.pieces.read_decimal.Goals as goal

pub returns-in_default-clause-none : goal.returns-in_default-clause-none
returns-in_default-clause-none c = λ a behind lt e.
    no_stop c.args.stop c.args.text.now (decimal a) behind c.in_default.ensures.none e

pub returns-in_default-read_number-clause-none : goal.returns-in_default-read_number-clause-none
returns-in_default-read_number-clause-none c = λ a behind lt e.
    let parts = before_stop c.args.stop c.args.text.now c.in-Some.front.now c.in-Some.rest.now behind a c.requires
    c.in-Some.ensures.first c.in-Some.ensures.cut lt e in
    let is : number_of c.in-Some.front.now ≡ Some a = ap number_of parts.0 ∙ number_again a lt in
    let read = c.read_number.ensures in
    let none = c.in_default-read_number.is in
    cc

pub returns-else-eq-clause-none : goal.returns-else-eq-clause-none
returns-else-eq-clause-none c = λ a behind lt e.
    let parts = before_stop c.args.stop c.args.text.now c.in-Some.front.now c.in-Some.rest.now behind a c.requires
    c.in-Some.ensures.first c.in-Some.ensures.cut lt e in
    let is : number_of c.in-Some.front.now ≡ Some a = ap number_of parts.0 ∙ number_again a lt in
    let read = c.read_number.ensures in
    let some = c.in-Some-read_number.is in
    let number : c.in-Some-read_number.number ≡ a = cc in
    not_from_Decides c.eq.result
    (slice_eq-Decides Decides-eqb c.as_bytes.result.now c.in-Some.front.now c.eq.result c.eq.ensures) c.if-eq.false
    (c.as_bytes.ensures.value ∙ c.format.ensures.text ∙ ap decimal number ∙ sym parts.0)
