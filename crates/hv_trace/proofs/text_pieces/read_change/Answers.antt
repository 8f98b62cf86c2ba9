use Rattle.std.proofs.Common.{◌≡◌, ℕ, ap, arith}
use Rattle.hv_trace.proofs.Pieces.{change_there, change_words}
use Rattle.hv_trace.proofs.text_pieces.read_change.Goals as goal

pub returns-else-change-lt50 : goal.returns-else-change-lt50
returns-else-change-lt50 c = λ a behind fits e.
    let same = change_there c.args.text.now c.in-Some.rest.now c.in-Some-read_pair.rest.now behind
    c.in-Some-read_pair.change a c.in-Some.ensures.some c.in-Some-read_pair.ensures.0 c.in-Some-read_pair.ensures.1 (change_words a fits) e in
    let place : c.in-Some-read_pair.change.0 ≡ a.0 = ap (λ (p : ℕ × ℕ). p.0) same.0 in
    omega (arith, place, fits.0)
