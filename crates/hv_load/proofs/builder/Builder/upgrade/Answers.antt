-- The chain is that of the machine's path, which has a syllable.
use Rattle.std.proofs.Common.{◌≤◌, arith, length, subst, sym}
use Rattle.hv_map.proofs.Machines.{pinned_own}
use Rattle.hv_load.specs.Building.{Known}
use Rattle.hv_load.proofs.Reaching.{chain_length}
use Rattle.hv_load.proofs.builder.Builder.upgrade.Goals as goal

pub upgrade-requires-clause-pinned : goal.upgrade-requires-clause-pinned
upgrade-requires-clause-pinned c = pinned_own c.self.inside.store c.machine.inside.path c.in-Some.chain (sym c.in-Some.ensures)

pub upgrade-requires-clause-inside : goal.upgrade-requires-clause-inside
upgrade-requires-clause-inside c =
    let deep : 1 ≤ length c.machine.inside.path = subst (λ (k : Known). 1 ≤ length k.path) (sym c.machine.view_is) c.in_ok-machine.ensures.deep in
    omega (arith, chain_length c.self.inside.store c.machine.inside.path c.in-Some.chain (sym c.in-Some.ensures))
