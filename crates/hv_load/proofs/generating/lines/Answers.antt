use Rattle.std.proofs.Common.{arith}
use Rattle.std.proofs.lemmas.Grind.{common_steps}
use Rattle.hv_load.proofs.Generated.{turn_lines_more, turn_lines_none}
use Rattle.hv_load.proofs.generating.lines.Goals as goal

pub loop-turn-init : goal.loop-turn-init
loop-turn-init c = grind (arith, common_steps, turn_lines_none)

pub loop-turn-preserved : goal.loop-turn-preserved
loop-turn-preserved c = grind (arith, common_steps, turn_lines_more)
