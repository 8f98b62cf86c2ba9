-- The number was given, and its path has a syllable for each that was gone over.
use Rattle.std.proofs.Common.{◌≡◌, length}
use Rattle.hv_vmid.specs.Paths.{IsNumber, parent_path}
use Rattle.hv_vmid.proofs.tests.number_all.Given as goal

abbrev pub invariant-loop-syllable : goal.invariant-loop-syllable
invariant-loop-syllable l =
    record { given : IsNumber (length l.ids) l.id; depth : length (parent_path l.ids l.id) ≡ l.syllable-index }
