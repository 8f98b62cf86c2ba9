use Rattle.std.proofs.Common.{◌≡◌, ◌+◌, ◌≤◌, length, take, drop}
use Rattle.std.proofs.Math.Seq.{sets}
use Rattle.hv_exec.specs.Changes.{differing}
use Rattle.hv_nest.specs.Notes.{undone}
use Rattle.hv_nest.proofs.noting.put_words.Given as goal

abbrev pub invariant-loop-word : goal.invariant-loop-word
invariant-loop-word l = record {
  place : l.place ≡ l.at + l.word-index;
  written : l.store ≡ sets l.fn.store l.at (take l.word-index l.words);
  origin : undone l.store l.notes ≡ undone l.fn.store l.fn.notes;
  count : length l.notes ≤ length l.fn.notes + differing (drop l.at (undone l.fn.store l.fn.notes)) (take l.word-index l.words);
}
