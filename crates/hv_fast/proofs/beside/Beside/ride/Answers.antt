-- All is right after the instruction, and after what it missed is put at hand.
use Rattle.hv_fast.proofs.beside.Beside.ride.Goals as goal

pub returns-in-Some-clause-right : goal.returns-in-Some-clause-right
returns-in-Some-clause-right c = λ R r at right. c.fill.ensures.right R r at (c.one-rode.ensures.right R r at right)
