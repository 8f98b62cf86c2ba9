use Rattle.std.proofs.Common.{◌≡◌, drop, length}
use Rattle.hv_load.specs.Making.{with_machine, with_tables}
use Rattle.hv_load.proofs.making.Layout.write.Given as goal

-- what is left to write comes to the same
abbrev pub invariant-loop-k : goal.invariant-loop-k
invariant-loop-k l = record {
  left :
      with_tables l.store l.self.pages l.self.at l.k (drop l.k l.tables)
      ≡ with_machine l.fn.store l.self.pages l.self.table l.self.at l.fn.taken;
  len : length l.store ≡ length l.fn.store;
}
