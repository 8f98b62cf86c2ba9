use Rattle.std.proofs.Common.{ℕ, List, get_or, sym, ap, ◌∙◌}
use Rattle.hv_cpu.specs.Arrays.{file_is}
use Rattle.hv_cpu.specs.Regs.{Regs, reg}
use Rattle.hv_cpu.proofs.Cpu.x.Goals as goal

pub returns : goal.returns
returns c =
    ap (λ (xs : List ℕ). get_or xs c.args.i 0) (sym (file_is c.self.inside c.self.invariant))
    ∙ ap (λ (r : Regs). reg r c.args.i) c.self.view_is
