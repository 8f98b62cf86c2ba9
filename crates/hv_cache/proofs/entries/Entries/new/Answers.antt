-- No page is named by no entries.
use Rattle.std.specs.NonZero.{non_zero_usize_get}
use Rattle.hv_cache.proofs.Tallies.{tally_nil}
use Rattle.hv_cache.proofs.entries.Entries.new.Goals as goal

pub invariant_of-result : goal.invariant_of-result
invariant_of-result c =
    rw c.in_ok-kept.ensures
    (tally_nil (non_zero_usize_get c.args.entries) c.in_ok-tally.tally c.requires c.in_ok-tally.ensures.pages c.in_ok-tally.ensures.tables)
