use Rattle.std.proofs.Common.{◌≡◌, ◌++◌, length, take}
use Rattle.std.specs.List.{AllByRecursion}
use Rattle.hv_capsule.specs.Lines.{IsWord}
use Rattle.hv_capsule.specs.Text.{words_digits}
use Rattle.hv_capsule.proofs.pieces.read_words.Given as goal

abbrev pub invariant-loop-i : goal.invariant-loop-i
invariant-loop-i l = record {
  parts : l.text ≡ words_digits (take l.i l.out) ++ l.rest;
  each : AllByRecursion IsWord (take l.i l.out);
  len : length l.out ≡ length l.fn.out;
}
