-- Notes are apart without the last, too.
use Rattle.std.proofs.Common.{ℕ, ◌≤◌, arith}
use Rattle.hv_nest.proofs.Apart.{apart_fewer}
use Rattle.hv_nest.proofs.notes.Notes.pop.Goals as goal

pub invariant_of-self : goal.invariant_of-self
invariant_of-self c =
    let k : ℕ = c.in_ok-self-inside.field-0 in
    let fewer : k ≤ c.self.inside.len = omega arith in (
      omega (arith, c.self.invariant.0, fewer),
      c.self.invariant.1,
      apart_fewer c.self.inside.items k c.self.inside.len fewer c.self.invariant.2,
    )
