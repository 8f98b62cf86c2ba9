use Rattle.std.proofs.Common.{◌<◌, length, ap, ◌∙◌, arith}
use Rattle.hv_cpu.specs.Regs.{Regs, with_reg}
use Rattle.hv_cpu.proofs.Arrays.{regs_put}
use Rattle.hv_cpu.proofs.Cpu.set_x.Goals as goal

pub returns : goal.returns
returns c =
    let inside : c.args.i < length c.self.inside.x = omega (arith, c.requires, c.self.invariant.count) in
    regs_put c.self.inside c.args.i c.args.value inside
    ∙ ap (λ (r : Regs). with_reg r c.args.i c.args.value) c.self.view_is
