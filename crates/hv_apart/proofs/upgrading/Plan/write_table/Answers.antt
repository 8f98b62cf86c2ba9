-- One table word more.
use Rattle.std.proofs.Common.{refl, rules}
use Rattle.std.specs.Prelude.{slice_index}
use Rattle.hv_apart.specs.Upgrade.{with_fetchable_table}
use Rattle.hv_apart.proofs.Rewriting.{length_put, table_more}
use Rattle.hv_apart.proofs.upgrading.Plan.write_table.Goals as goal

pub loop-page-init : goal.loop-page-init
unfolding with_fetchable_table
loop-page-init c = record { written = refl; len = refl }

pub loop-page-preserved : goal.loop-page-preserved
loop-page-preserved c = record {
  written = table_more c.args.store.now c.loop-page.store c.put.new.self (slice_index c.args.self.now.tables) c.loop-page.page _ c.with_fetch.result c.loop-page.invariant.written refl (search rules) c.put.ensures;
  len = length_put c.loop-page.store c.put.new.self c.args.store.now _ c.with_fetch.result c.put.ensures c.loop-page.invariant.len;
}
