use Rattle.std.proofs.Common.{◌≡◌, length, take, map}
use Rattle.std.specs.List.{range_with_len}
use Rattle.hv_word.specs.Storage.{word_at}
use Rattle.hv_report.proofs.machine.block_words.Given as goal

abbrev pub invariant-loop-word : goal.invariant-loop-word
invariant-loop-word l = record {
  all : length l.words ≡ 50;
  read : take l.word l.words ≡ map (word_at l.store l.page) (range_with_len 0 l.word);
}
