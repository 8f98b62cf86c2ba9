-- The hart's next stays, and with it every pin.
use Rattle.std.proofs.Common.{◌≡◌, ◌<◌, Option, IfSome, length, set, ap, sym, subst}
use Rattle.hv_cpu.specs.Lines.{lined_of}
use Rattle.hv_cpu.specs.Regs.{Regs}
use Rattle.hv_fast.specs.Engine.{Engine}
use Rattle.hv_fast.proofs.Engines.{lined_fast, lined_moves, stands}
use Rattle.hv_fast.proofs.fast.FastNested.lines.Goals as goal

pub invariant_of-self : goal.invariant_of-self
invariant_of-self c =
    let R = c.self.inside.harts in
    let s = stands R c.args.hart (subst (λ (e : Engine). c.args.hart < length e.state.harts) (sym c.self.view_is) c.requires.hart) in
    let is = subst (λ (o : Option Regs). IfSome o (λ r. c.set_lines.new.self ≡ set R c.args.hart (lined_of r c.args.mask))) s.there c.set_lines.ensures in
    lined_fast c.self.inside.store R c.set_lines.new.self c.self.inside.beside c.args.hart c.args.mask s.regs s.there is c.self.invariant

pub returns : goal.returns
returns c =
    let R = c.self.inside.harts in
    let s = stands R c.args.hart (subst (λ (e : Engine). c.args.hart < length e.state.harts) (sym c.self.view_is) c.requires.hart) in
    let is = subst (λ (o : Option Regs). IfSome o (λ r. c.set_lines.new.self ≡ set R c.args.hart (lined_of r c.args.mask))) s.there c.set_lines.ensures in
    lined_moves c.self.inside.store R c.set_lines.new.self c.args.hart c.args.mask s.regs c.args.self.now.state s.there is (ap (λ (e : Engine). e.state) c.self.view_is)
