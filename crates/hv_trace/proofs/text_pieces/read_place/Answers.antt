use Rattle.std.proofs.Common.{◌≡◌, ℕ, List, [], ◌∷◌, ◌++◌, Some, sym, ap, ◌∙◌, arith, append_assoc, decimal}
use Rattle.std.proofs.lemmas.Bool.Decides.{Decides-eqb, not_from_Decides}
use Rattle.std.proofs.lemmas.Slice.Eq.{slice_eq-Decides}
use Rattle.hv_lex.specs.Numbers.{number_of}
use Rattle.hv_trace.proofs.Pieces.{before_colon, number_again}
use Rattle.hv_trace.proofs.text_pieces.read_place.Goals as goal

pub returns-in_default : goal.returns-in_default
returns-in_default c = λ a behind lt e.
    let parts = before_colon c.args.text.now c.in_ok-front.front.now c.in_ok-front.rest.now behind a
    c.in_ok-front.ensures.first c.in_ok-front.ensures.cut lt e in
    let is : number_of c.in_ok-front.front.now ≡ Some a = ap number_of parts.0 ∙ number_again a lt in
    let read = c.read_number.ensures in
    let none = c.in_default.is in
    cc

pub returns-then-eq : goal.returns-then-eq
returns-then-eq c =
    let same : c.as_bytes.result.now ≡ c.in_ok-front.front.now =
    (slice_eq-Decides Decides-eqb c.as_bytes.result.now c.in_ok-front.front.now c.eq.result c.eq.ensures).0 c.if-eq.true in
    let front : c.in_ok-front.front.now ≡ decimal c.in-Some.number =
    sym same ∙ c.as_bytes.ensures.value ∙ c.format.ensures.text in (
      omega arith,
      c.in_ok-front.ensures.cut ∙ ap (λ (text : List ℕ). text ++ 58 ∷ c.in_ok-front.rest.now) front
          ∙ sym (append_assoc (decimal c.in-Some.number) (58 ∷ []) c.in_ok-front.rest.now),
    )

pub returns-else-eq : goal.returns-else-eq
returns-else-eq c = λ a behind lt e.
    let parts = before_colon c.args.text.now c.in_ok-front.front.now c.in_ok-front.rest.now behind a
    c.in_ok-front.ensures.first c.in_ok-front.ensures.cut lt e in
    let is : number_of c.in_ok-front.front.now ≡ Some a = ap number_of parts.0 ∙ number_again a lt in
    let read = c.read_number.ensures in
    let some = c.in-Some.is in
    let number : c.in-Some.number ≡ a = cc in
    not_from_Decides c.eq.result
    (slice_eq-Decides Decides-eqb c.as_bytes.result.now c.in_ok-front.front.now c.eq.result c.eq.ensures) c.if-eq.false
    (c.as_bytes.ensures.value ∙ c.format.ensures.text ∙ ap decimal number ∙ sym parts.0)
