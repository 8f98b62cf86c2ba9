use Rattle.std.proofs.Common.{◌-◌, ◌++◌, ◌∷◌, [], List, ◌∙◌, ap}
use Rattle.hv_job.specs.declared.job.Placed.{Placed}
use Rattle.hv_load.specs.Tower.{level_machine, grown}
use Rattle.hv_load.proofs.Doing.{levels_more}
use Rattle.hv_load.proofs.levels.tower.Goals as goal

pub loop-level-preserved : goal.loop-level-preserved
loop-level-preserved c =
    levels_more c.args.line c.args.pages c.loop-level.level c.args.depth c.args.which c.loop-level.parts.items c.push-in-loop-level.new.self.items _ c.loop-level-test.true
    (c.in_ok-push-2.ensures.items
    ∙ ap (λ (l : List Placed). l ++ c.in_ok-level_sample.field-0 ∷ []) (c.in_ok-push.ensures.items ∙ ap (λ (p : Placed). c.loop-level.parts.items ++ p ∷ []) (c.level_machine.ensures ∙ ap (level_machine c.args.line c.loop-level.level) c.grown-inner.ensures.pages))
    ∙ ap (λ (p : Placed). (c.loop-level.parts.items ++ level_machine c.args.line c.loop-level.level (grown (c.args.depth - c.loop-level.level - 1) c.args.pages) ∷ []) ++ p ∷ []) c.in_ok-level_sample.ensures)
    c.loop-level.invariant
