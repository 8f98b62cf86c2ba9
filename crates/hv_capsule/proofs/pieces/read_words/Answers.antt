use Rattle.std.proofs.Common.{◌<◌, length, take, sym, ◌∙◌, arith, length-set}
use Rattle.std.proofs.lemmas.List.{length-take}
use Rattle.hv_capsule.proofs.Spelled.{each_more, word_behind, word_more}
use Rattle.hv_capsule.proofs.pieces.read_words.Goals as goal

pub returns-in_default-clause-none : goal.returns-in_default-clause-none
returns-in_default-clause-none c = λ ws behind len all e.
    let fewer : length (take c.loop-i.i c.loop-i.out) < length ws =
    omega (arith, length-take c.loop-i.i c.loop-i.out, c.loop-i.invariant.len, c.loop-i-test.true, len) in
    let there = word_behind (take c.loop-i.i c.loop-i.out) ws c.loop-i.rest.now behind all fewer (sym c.loop-i.invariant.parts ∙ e) in
    c.in_default.ensures.none there.0 there.1 there.2 there.3

pub loop-i-preserved : goal.loop-i-preserved
loop-i-preserved c =
    let within : c.loop-i.i < length c.loop-i.out = omega (arith, c.loop-i.invariant.len, c.loop-i-test.true) in
    record {
      parts = word_more c.loop-i.out c.args.text.now c.loop-i.rest.now c.in-Some.behind.now c.loop-i.i c.in-Some.word within c.loop-i.invariant.parts c.in-Some.ensures.some;
      each = each_more c.loop-i.out c.loop-i.i c.in-Some.word within c.loop-i.invariant.each c.in-Some.ensures.word;
      len = length-set _ _ _ ∙ c.loop-i.invariant.len;
    }
