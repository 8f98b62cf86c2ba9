use Rattle.std.proofs.Common.{◌≡◌, ◌*◌, length, map}
use Rattle.std.specs.List.{range_with_len}
use Rattle.std.proofs.Math.Seq.{sets}
use Rattle.hv_map.specs.Apart.{table_pages}
use Rattle.hv_apart.specs.Upgrade.{directory_word}
use Rattle.hv_apart.proofs.upgrading.Plan.write_directory.Given as goal

abbrev pub invariant-loop-word : goal.invariant-loop-word
invariant-loop-word l = record {
  written : l.store ≡ sets l.fn.store (1024 * l.self.directory) (map (directory_word l.self.child.table (table_pages l.self.child.pages)) (range_with_len 0 l.word));
  len : length l.store ≡ length l.fn.store;
}
