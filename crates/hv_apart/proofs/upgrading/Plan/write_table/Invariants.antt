use Rattle.std.proofs.Common.{◌≡◌, length}
use Rattle.std.specs.Prelude.{slice_index}
use Rattle.hv_apart.specs.Upgrade.{with_fetchable_table}
use Rattle.hv_apart.proofs.upgrading.Plan.write_table.Given as goal

abbrev pub invariant-loop-page : goal.invariant-loop-page
invariant-loop-page l = record {
  written : l.store ≡ with_fetchable_table l.fn.store (slice_index l.self.tables) l.page;
  len : length l.store ≡ length l.fn.store;
}
