-- The entry that is found goes first, and the tally stays.
use Rattle.hv_cache.specs.Holding.{same}
use Rattle.hv_cache.proofs.Tallies.{tally_promoted}
use Rattle.hv_cache.proofs.entries.Entries.entry.Goals as goal

pub invariant_of-self : goal.invariant_of-self
invariant_of-self c = rw c.get.follows.holds-at-none (tally_promoted (same c.args.key) c.self.inside.kept c.self.inside.tally c.self.invariant)
