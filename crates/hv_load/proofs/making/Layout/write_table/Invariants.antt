use Rattle.std.proofs.Common.{◌≡◌, ◌*◌, length, map}
use Rattle.std.specs.List.{range_with_len}
use Rattle.std.proofs.Math.Seq.{sets}
use Rattle.hv_load.specs.Making.{table_word}
use Rattle.hv_load.proofs.making.Layout.write_table.Given as goal

abbrev pub invariant-loop-word : goal.invariant-loop-word
invariant-loop-word l = record {
  written : l.store ≡ sets l.fn.store (1024 * l.host) (map (table_word l.self.pages l.self.at l.k) (range_with_len 0 l.word));
  len : length l.store ≡ length l.fn.store;
}
