use Rattle.std.proofs.Common.{◌≡◌, take}
use Rattle.hv_load.proofs.parts.path_of.Given as goal

abbrev pub invariant-loop-syllable : goal.invariant-loop-syllable
invariant-loop-syllable l = l.path ≡ take l.syllable-index l.syllables
