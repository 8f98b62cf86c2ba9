use Rattle.std.proofs.Common.{◌≡◌, ℕ, ap, arith}
use Rattle.hv_trace.proofs.Pieces.{stored_there}
use Rattle.hv_trace.proofs.text_pieces.read_stored.Goals as goal

pub returns-in_default-after : goal.returns-in_default-after
returns-in_default-after c = λ a behind fits e.
    let there = stored_there c.args.text.now c.in-Some.rest.now behind c.in-Some.change a
    c.in-Some.ensures.0 c.in-Some.ensures.1 fits.1 e in
    c.in_default-after.ensures.none behind there.1

pub returns-else-change-words : goal.returns-else-change-words
returns-else-change-words c = λ a behind fits e.
    let there = stored_there c.args.text.now c.in-Some.rest.now behind c.in-Some.change a
    c.in-Some.ensures.0 c.in-Some.ensures.1 fits.1 e in
    let place : c.in-Some.change.0 ≡ a.0 = ap (λ (p : ℕ × ℕ). p.0) there.0 in
    omega (arith, place, fits.0)
