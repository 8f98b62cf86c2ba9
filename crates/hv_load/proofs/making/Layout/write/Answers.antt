use Rattle.std.proofs.Common.{ℕ, ◌/◌, ap, sym}
use Rattle.hv_load.proofs.Writing.{host_in}
use Rattle.hv_load.proofs.making.Layout.write.Goals as goal

pub write_table-requires-clause-host : goal.write_table-requires-clause-host
write_table-requires-clause-host c =
    host_in _ _ c.args.taken.now c.in-Some.tables.now c.in-Some.block.now c.loop-k.k c.requires.within c.in-Some.ensures.cases.0 c.loop-k-test.true (ap (λ (n : ℕ). n / 1024) (sym c.loop-k.invariant.len))
