-- The hart is among those that count.
use Rattle.std.proofs.Common.{◌<◌, ap, ◌∙◌, List, ◌≡◌, set, take, length, arith}
use Rattle.std.proofs.Math.Seq.{take-set-lt}
use Rattle.std.proofs.lemmas.List.{length-take-le}
use Rattle.hv_cpu.specs.Regs.{Regs}
use Rattle.hv_nest.proofs.harts.Harts.put.Goals as goal

pub returns : goal.returns
returns c =
    let short : length (take c.self.inside.count c.self.inside.cpus) ≡ c.self.inside.count = length-take-le c.self.inside.count c.self.inside.cpus (omega (arith, c.self.invariant)) in
    let lt : c.args.hart < c.self.inside.count = omega (arith, c.requires, ap length c.self.view_is, short) in
    take-set-lt c.self.inside.count c.self.inside.cpus c.args.hart c.args.cpu.now lt
    ∙ ap (λ (rs : List Regs). set rs c.args.hart c.args.cpu.now) c.self.view_is
