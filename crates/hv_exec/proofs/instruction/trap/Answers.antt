use Rattle.std.proofs.Common.{◌≡◌, ◌≢◌, ap, sym, subst, ◌∙◌, rules}
use Rattle.hv_cpu.specs.Modes.{mode_word}
use Rattle.hv_cpu.specs.Regs.{Regs}
use Rattle.hv_exec.specs.declared.touched.Touched.{Touched}
use Rattle.hv_exec.specs.Touched.{Touches}
use Rattle.hv_exec.proofs.Leaves.{trap_up_leaves, trap_down_leaves}
use Rattle.hv_exec.proofs.instruction.trap.Goals as goal
use Rattle.hv_exec.proofs.instruction.trap.Goals.{in-M, in-S}

pub returns-clause-touches : goal.returns-clause-touches
returns-clause-touches c =
    let r = c.args.cpu.now in
    let q = c.take_trap.new.cpu in
    let mode : q.mode ≡ mode_word c.cpu.inside.mode = ap (λ (p : Regs). p.mode) (sym c.cpu.view_is) in
    elim c.match-cpu.branch [
      | in-M w ↦
          let up : mode_word c.cpu.inside.mode ≡ 3 = search rules in
          subst (λ (t : Touched). Touches t r q) (sym w.result-is) (trap_up_leaves r q c.args.cause c.args.tval c.take_trap.ensures (mode ∙ up))
      | in-S w ↦
          let down : mode_word c.cpu.inside.mode ≢ 3 = search rules in
          subst (λ (t : Touched). Touches t r q) (sym w.result-is) (trap_down_leaves r q c.args.cause c.args.tval c.take_trap.ensures (λ e. down (sym mode ∙ e)))
    ]
