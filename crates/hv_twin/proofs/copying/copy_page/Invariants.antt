use Rattle.std.proofs.Common.{◌≡◌, ◌*◌, length}
use Rattle.std.proofs.lemmas.List.Edits.{sets}
use Rattle.hv_store.specs.declared.access.Way.TheVariants.{Open}
use Rattle.hv_map.specs.Seen.{words_of}
use Rattle.hv_twin.proofs.copying.copy_page.Given as goal

abbrev pub invariant-loop-word : goal.invariant-loop-word
invariant-loop-word l = record {
  words : l.copy ≡ sets l.fn.copy (1024 * l.page) (words_of l.store l.word (Open l.host));
  len : length l.copy ≡ length l.fn.copy;
}
