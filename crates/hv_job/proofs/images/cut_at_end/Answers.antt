use Rattle.std.proofs.Common.{◌∙◌, arith, refl, rules}
use Rattle.hv_job.proofs.Ending.{cut_start, front_start, cut_next, front_next, goes_more, goes_none}
use Rattle.hv_job.proofs.images.cut_at_end.Goals as goal

pub loop-rest-init : goal.loop-rest-init
loop-rest-init c = record {
  cut = cut_start c.args.text.now;
  size = omega arith;
  none = refl;
  front = λ some. front_start c.args.text.now;
}

pub loop-rest-preserved : goal.loop-rest-preserved
loop-rest-preserved c =
    let i = c.loop-rest.invariant in
    let rest = c.loop-rest.rest.now in
    record {
      cut = cut_next c.args.text.now rest c.first_line.result.1.now i.cut c.first_line.ensures.rest;
      size = omega (arith, i.size, c.first_line.ensures.behind);
      none = i.none ∙ goes_more rest c.first_line.result.0.now c.first_line.result.1.now c.first_line.ensures.cut (search rules);
      front = λ some.
          front_next c.args.text.now rest c.first_line.result.1.now c.first_line.result.0.now c.loop-rest.count i.cut c.first_line.ensures.rest
          (i.front (omega (arith, c.first_line.ensures.behind))) (c.first_line.ensures.front some) (search rules);
    }

pub returns : goal.returns
returns c = c.loop-rest.invariant.none ∙ goes_none c.loop-rest.rest.now (search rules)
