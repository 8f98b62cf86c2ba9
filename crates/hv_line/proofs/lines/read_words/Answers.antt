use Rattle.std.proofs.Common.{rules, arith}
use Rattle.hv_line.proofs.Reading.{words_more, words_end, words_full}
use Rattle.hv_line.proofs.lines.read_words.Goals as goal

pub returns-in_default : goal.returns-in_default
returns-in_default c =
    words_end c.loop-count.words c.loop-count.count c.loop-count.rest.now _ (omega arith) c.loop-count.invariant.within c.in_default.ensures.cut c.loop-count.invariant.told

pub loop-count-preserved : goal.loop-count-preserved
loop-count-preserved c = record {
  within = omega arith;
  room = search rules;
  told =
      words_more c.loop-count.words c.loop-count.count c.in-Some.word c.loop-count.rest.now c.in-Some.behind.now _ (omega arith) c.in-Some.ensures.cut
      c.loop-count.invariant.told;
}

pub returns : goal.returns
returns c = words_full c.loop-count.words c.loop-count.count _ _ (omega arith) (omega arith) c.loop-count.invariant.told
