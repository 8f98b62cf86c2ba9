use Rattle.std.proofs.Common.{◌≡◌, ◌*◌, length, map}
use Rattle.std.specs.List.{range_with_len}
use Rattle.std.proofs.Math.Seq.{sets}
use Rattle.hv_load.specs.Making.{block_word}
use Rattle.hv_load.proofs.making.Layout.write_block.Given as goal

abbrev pub invariant-loop-word : goal.invariant-loop-word
invariant-loop-word l = record {
  written : l.store ≡ sets l.fn.store (1024 * l.host) (map (block_word l.self.pages l.self.table) (range_with_len 0 l.word));
  len : length l.store ≡ length l.fn.store;
}
