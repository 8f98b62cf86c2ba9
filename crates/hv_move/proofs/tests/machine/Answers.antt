-- What `pin` gives is a chain of the store.
use Rattle.std.proofs.Common.{◌∙◌, sym}
use Rattle.hv_map.proofs.Machines.{pinned_own}
use Rattle.hv_move.proofs.tests.machine.Goals as goal

pub returns-clause-pinned : goal.returns-clause-pinned
returns-clause-pinned c = pinned_own c.args.store.now c.push.new.self c.in_ok-chain.chain (sym c.pin.ensures ∙ c.in_ok-chain.was)
