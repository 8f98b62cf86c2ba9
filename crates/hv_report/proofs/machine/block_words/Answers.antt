use Rattle.std.proofs.Common.{ℕ, ◌+◌, set, take, ap, ◌∙◌, arith}
use Rattle.std.proofs.lemmas.List.{length-set}
use Rattle.hv_report.proofs.Blocks.{words_more, all_words}
use Rattle.hv_report.proofs.machine.block_words.Goals as goal

pub loop-word-preserved : goal.loop-word-preserved
loop-word-preserved c = record {
  all = length-set c.loop-word.words c.loop-word.word c.block_word.result ∙ c.loop-word.invariant.all;
  read =
      ap (λ (v : ℕ). take (c.loop-word.word + 1) (set c.loop-word.words c.loop-word.word v)) c.block_word.ensures
      ∙ words_more c.args.store.now c.loop-word.words c.args.page c.loop-word.word (omega (arith, c.loop-word.invariant.all)) c.loop-word.invariant.read;
}

pub returns : goal.returns
returns c =
    ap (λ (v : ℕ). set c.loop-word.words 49 v) c.block_word-2.ensures
    ∙ all_words c.args.store.now c.loop-word.words c.args.page c.loop-word.word c.loop-word.invariant.all (omega arith) c.loop-word.invariant.read
