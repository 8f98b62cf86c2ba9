-- The syllables so far are the path at the number, and all numbers stayed.
use Rattle.std.proofs.Common.{◌≡◌, length, take}
use Rattle.hv_vmid.specs.Paths.{IsNumber, parent_path}
use Rattle.hv_fast.specs.Holds.{NumbersStay}
use Rattle.hv_fast.proofs.translations.given.Given as goal

abbrev pub invariant-loop-syllable : goal.invariant-loop-syllable
invariant-loop-syllable l =
    record {
      number : IsNumber (length l.ids) l.number;
      path : parent_path l.ids l.number ≡ take l.syllable-index l.syllable-items;
      stay : NumbersStay l.fn.ids l.ids;
    }
