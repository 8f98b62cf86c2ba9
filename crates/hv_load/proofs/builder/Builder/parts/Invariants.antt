use Rattle.std.proofs.Common.{◌≡◌, drop}
use Rattle.hv_load.specs.Build.{parts_of}
use Rattle.hv_load.proofs.builder.Builder.parts.Given as goal

-- the parts that are left come to the same
abbrev pub invariant-loop-placed : goal.invariant-loop-placed
invariant-loop-placed l = parts_of l.self (drop l.placed-index l.parts) ≡ parts_of l.fn.self l.parts
