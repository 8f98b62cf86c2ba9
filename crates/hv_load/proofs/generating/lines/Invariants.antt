use Rattle.std.proofs.Common.{◌≡◌, ◌∷◌}
use Rattle.hv_load.specs.Generator.{kernel_line, tower_line, turn_lines}
use Rattle.hv_load.proofs.generating.lines.Given as goal

abbrev pub invariant-loop-turn : goal.invariant-loop-turn
invariant-loop-turn l = l.lines.items ≡ tower_line l.fn.depth ∷ kernel_line l.fn.words ∷ turn_lines l.turn
