use Rattle.std.proofs.Common.{◌++◌, List, ℕ, refl, ap, ◌∙◌}
use Rattle.hv_capsule.specs.Lines.{header_line}
use Rattle.hv_capsule.proofs.reading.read_opening.Goals as goal

pub returns-in_default-read_regs-clause-err : goal.returns-in_default-read_regs-clause-err
returns-in_default-read_regs-clause-err c =
    rw c.fault-in_default-read_regs.ensures (
      refl,
      c.in-Some-read_size.pages,
      c.in-Some-read_size.rest.now,
      c.in-Some-read_size.ensures.is,
      c.in-Some.ensures.some ∙ ap (λ (z : List ℕ). header_line ++ z) c.in-Some-read_size.ensures.some,
      c.in_default-read_regs.ensures.none,
    )
