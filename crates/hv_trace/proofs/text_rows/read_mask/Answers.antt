use Rattle.std.specs.Int.RustNames.{bit_and}
use Rattle.hv_limits.specs.Limits.{lines_mask}
use Rattle.std.proofs.Common.{ℕ, ap, [], ◌∷◌, sym, ◌∙◌, append_assoc}
use Rattle.hv_text.specs.Text.{hex8}
use Rattle.hv_trace.proofs.Pieces.{one_word}
use Rattle.hv_trace.proofs.text_rows.read_mask.Goals as goal

pub returns-in_default-after : goal.returns-in_default-after
returns-in_default-after c = λ a behind is e.
    c.in_default-after.ensures.none behind
    (one_word c.in-Some.mask a c.in-Some.rest.now (10 ∷ behind) c.in-Some.ensures.0 is.1
    (sym c.in-Some.ensures.1 ∙ e ∙ append_assoc (hex8 a) (10 ∷ []) behind)).1

pub returns-else-mask : goal.returns-else-mask
returns-else-mask c = λ a behind is e.
    let word = one_word c.in-Some.mask a c.in-Some.rest.now (10 ∷ behind) c.in-Some.ensures.0 is.1
    (sym c.in-Some.ensures.1 ∙ e ∙ append_assoc (hex8 a) (10 ∷ []) behind) in
    c.if-mask.false (ap (λ (m : ℕ). bit_and m lines_mask) word.0 ∙ is.0 ∙ sym word.0)
