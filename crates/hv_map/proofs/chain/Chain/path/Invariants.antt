use Rattle.std.proofs.Common.{◌≡◌, take}
use Rattle.std.specs.Prelude.{map}
use Rattle.hv_map.specs.Links.{syllable_of}
use Rattle.hv_map.proofs.chain.Chain.path.Given as goal

abbrev pub invariant-loop-i : goal.invariant-loop-i
invariant-loop-i l = l.path ≡ map syllable_of (take l.i l.self)
