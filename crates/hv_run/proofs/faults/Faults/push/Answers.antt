use Rattle.std.proofs.Common.{◌++◌, ◌∷◌, [], ap, ◌∙◌, arith}
use Rattle.hv_run.specs.Record.{last_kept}
use Rattle.hv_run.proofs.Ring.{pushed_between, pushed_last}
use Rattle.hv_run.proofs.faults.Faults.push.Goals as goal
use Rattle.hv_run.proofs.faults.Faults.push.Goals.{then-self-eq-KEPT, else-self-eq-KEPT}

pub returns-after-self-eq-KEPT : goal.returns-after-self-eq-KEPT
returns-after-self-eq-KEPT c =
    elim c.if-self-eq-KEPT.branch [
      | then-self-eq-KEPT w ↦
          pushed_last c.self.inside.rows.items c.self.inside.oldest c.if-self-eq-KEPT.self c.args.row (omega arith) (omega arith) (omega arith)
          ∙ ap (λ xs. last_kept (xs ++ c.args.row ∷ [])) c.self.view_is
      | else-self-eq-KEPT w ↦
          pushed_between c.self.inside.rows.items c.self.inside.oldest c.if-self-eq-KEPT.self c.args.row (omega arith) (omega arith) (omega arith)
          ∙ ap (λ xs. last_kept (xs ++ c.args.row ∷ [])) c.self.view_is
    ]
