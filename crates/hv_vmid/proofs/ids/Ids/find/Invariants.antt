-- The syllables so far are the path at the number.
use Rattle.std.proofs.Common.{◌≡◌, length, take}
use Rattle.hv_vmid.specs.Paths.{IsNumber, parent_path}
use Rattle.hv_vmid.proofs.ids.Ids.find.Given as goal

abbrev pub invariant-loop-syllable : goal.invariant-loop-syllable
invariant-loop-syllable l =
    record { number : IsNumber (length l.self) l.id; path : parent_path l.self l.id ≡ take l.syllable-index l.syllable-items }
