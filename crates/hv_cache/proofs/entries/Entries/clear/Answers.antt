-- No page is named by no entries.
use Rattle.hv_cache.proofs.Tallies.{tally_nil}
use Rattle.hv_cache.proofs.entries.Entries.clear.Goals as goal

pub invariant_of-self : goal.invariant_of-self
invariant_of-self c = rw c.clear.ensures (tally_nil c.self.inside.kept.cap c.clear-2.new.self c.self.invariant.few c.clear-2.ensures.pages c.clear-2.ensures.tables)
