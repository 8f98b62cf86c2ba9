-- The first of as many equal harts.
use Rattle.std.proofs.lemmas.List.{take-replicate}
use Rattle.hv_cpu.specs.Regs.{reset_regs}
use Rattle.hv_limits.specs.Limits.{harts_limit}
use Rattle.hv_nest.proofs.harts.Harts.new.Goals as goal
use Rattle.std.proofs.Common.{ap, ◌∙◌, replicate, take}
use Rattle.hv_cpu.specs.Regs.{Regs}

pub returns : goal.returns
returns c =
    ap (λ (r : Regs). take c.args.count (replicate harts_limit r)) c.reset.ensures
    ∙ take-replicate c.args.count harts_limit reset_regs c.requires.bound
