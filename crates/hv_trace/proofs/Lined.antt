-- A row of lines: what follows from a machine by it.
use Rattle.std.proofs.Common.{◌≡◌, ◌≢◌, ℕ, List, refl}
use Rattle.hv_cpu.specs.Regs.{Regs}
use Rattle.hv_cpu.specs.Lines.{lined_of, lines}
use Rattle.hv_capsule.specs.Parked.{Parked}
use Rattle.hv_trace.specs.Check.{FollowsByLines}

pub lines_right : (S : List ℕ) (c d : Regs) (mask : ℕ) → (lines c.mip ≢ mask) × (d ≡ lined_of c mask)
    → FollowsByLines record { regs = c; storage = S } mask record { regs = d; storage = S }
lines_right S c d mask is = record { storage = refl; regs = is.1; other = is.0 }

pub lines_wrong : (S : List ℕ) (c : Regs) (mask : ℕ) (n : Parked) → lines c.mip ≡ mask
    → FollowsByLines record { regs = c; storage = S } mask n → ⊥
lines_wrong S c mask n is f = f.other is

pub ruleset lined = (lines_right, lines_wrong)
