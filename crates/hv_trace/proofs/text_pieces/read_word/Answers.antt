use Rattle.std.proofs.Common.{◌≡◌, sym, ap, ◌∙◌, false}
use Rattle.std.specs.Int.{w32, from_be_bytes}
use Rattle.std.specs.Result.{is_err}
use Rattle.std.proofs.lemmas.Bool.Decides.{Decides-eqb, not_from_Decides}
use Rattle.std.proofs.lemmas.Slice.Eq.{slice_eq-Decides}
use Rattle.hv_text.specs.Text.{hex8}
use Rattle.hv_trace.proofs.Pieces.{short, front_is, decoded, word_again}
use Rattle.hv_trace.proofs.text_pieces.read_word.Goals as goal

pub returns-then-text-lt8 : goal.returns-then-text-lt8
returns-then-text-lt8 c = λ a behind lt e. short c.args.text.now behind a c.if-text-lt8.true e

pub returns-then-is_err : goal.returns-then-is_err
returns-then-is_err c = λ a behind lt e.
    let front = front_is c.args.text.now c.split_at.result.0.now c.split_at.result.1.now behind a
    c.split_at.ensures.front_len (sym c.split_at.ensures.by_index.0) e in
    let d = decoded c.split_at.result.0.now c.decode_to_slice.new.out c.decode_to_slice.result a front.0 c.decode_to_slice.ensures.value in
    let is : is_err c.decode_to_slice.result ≡ false = ap is_err d.0 in
    cc (c.is_err.ensures.value, c.if-is_err.true)

pub returns-else-eq : goal.returns-else-eq
returns-else-eq c = λ a behind lt e.
    let front = front_is c.args.text.now c.split_at.result.0.now c.split_at.result.1.now behind a
    c.split_at.ensures.front_len (sym c.split_at.ensures.by_index.0) e in
    let d = decoded c.split_at.result.0.now c.decode_to_slice.new.out c.decode_to_slice.result a front.0 c.decode_to_slice.ensures.value in
    let word : c.from_be_bytes-word.result ≡ a =
    c.from_be_bytes-word.ensures ∙ ap (from_be_bytes w32) d.1 ∙ word_again a lt in
    not_from_Decides c.eq.result
    (slice_eq-Decides Decides-eqb c.as_slice.result.now c.split_at.result.0.now c.eq.result c.eq.ensures) c.if-eq.false
    (c.as_slice.ensures ∙ c.hex8.ensures ∙ ap hex8 word ∙ sym front.0)
