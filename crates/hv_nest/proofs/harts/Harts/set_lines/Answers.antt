-- The lines are those of the registers which stand there.
use Rattle.std.proofs.Common.{◌≡◌, ◌≤◌, Some, IfSome, length, arith, slice_get, get_or, ap, ◌∙◌, sym, subst, set, take}
use Rattle.hv_cpu.specs.Regs.{Regs}
use Rattle.hv_cpu.specs.Lines.{lined_of}
use Rattle.hv_nest.proofs.AtHart.{registers_at, replaced_at}
use Rattle.hv_nest.proofs.harts.Harts.set_lines.Goals as goal

pub returns : goal.returns
returns c =
    let fits : c.self.inside.count ≤ length c.self.inside.cpus = omega (arith, c.self.invariant) in
    let at : slice_get c.args.self.now c.args.hart ≡ Some (get_or c.self.inside.cpus c.args.hart c.index-self-hart.result) =
    registers_at c.self.inside.count c.args.hart c.self.inside.cpus c.args.self.now c.index-self-hart.result c.self.view_is fits c.requires.hart in
    subst (λ o. IfSome o (λ (r : Regs). take c.self.inside.count (set c.self.inside.cpus c.args.hart c.set_lines.new.self) ≡ set c.args.self.now c.args.hart (lined_of r c.args.mask))) (sym at)
    (replaced_at c.self.inside.count c.args.hart c.self.inside.cpus c.args.self.now c.set_lines.new.self c.self.view_is fits c.requires.hart
    ∙ ap (set c.args.self.now c.args.hart) c.set_lines.ensures)
