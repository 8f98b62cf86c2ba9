use Rattle.std.proofs.Common.{◌*◌, ◌∙◌, arith, ap, length, refl, length-set}
use Rattle.hv_twin.proofs.Copies.{no_words, word_copied, all_words}
use Rattle.hv_twin.proofs.copying.copy_page.Goals as goal

pub loop-word-init : goal.loop-word-init
loop-word-init c = record {
  words = no_words c.args.store.now c.args.copy.now c.args.host (1024 * c.args.page);
  len = refl;
}

pub loop-word-preserved : goal.loop-word-preserved
loop-word-preserved c = record {
  words =
      c.put.ensures
      ∙ word_copied c.args.store.now c.args.copy.now c.loop-word.copy c.args.host (1024 * c.args.page) c.loop-word.word c.block_word.result c.loop-word.invariant.words c.block_word.ensures;
  len = ap length c.put.ensures ∙ length-set _ _ _ ∙ c.loop-word.invariant.len;
}

pub returns : goal.returns
returns c =
    all_words c.args.store.now c.args.copy.now c.loop-word.copy c.args.host (1024 * c.args.page) c.loop-word.word 1024 (omega arith) c.loop-word.invariant.words
