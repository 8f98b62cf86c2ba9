use Rattle.std.proofs.Common.{◌≡◌, ◌++◌, replicate}
use Rattle.hv_load.specs.Generator.{entry_turns, long_turn}
use Rattle.hv_load.proofs.generating.schedule.Given as goal

abbrev pub invariant-loop-turn : goal.invariant-loop-turn
invariant-loop-turn l = l.recording ≡ entry_turns l.fn.depth ++ replicate l.turn long_turn
