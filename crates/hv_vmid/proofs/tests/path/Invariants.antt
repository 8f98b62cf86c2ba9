-- The path has a syllable for each that was gone over.
use Rattle.std.proofs.Common.{◌≡◌, length}
use Rattle.hv_vmid.proofs.tests.path.Given as goal

abbrev pub invariant-loop-syllable : goal.invariant-loop-syllable
invariant-loop-syllable l = length l.path ≡ l.syllable-index
