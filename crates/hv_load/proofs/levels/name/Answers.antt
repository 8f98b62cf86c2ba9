use Rattle.std.proofs.Common.{ℕ, ◌≡◌, ◌-◌, ◌∙◌, drop, replicate, length, ap, sym, arith}
use Rattle.std.proofs.Math.ListN.{length-set}
use Rattle.hv_load.proofs.Naming.{front_more, rest_more}
use Rattle.hv_load.proofs.levels.name.Goals as goal

pub loop-i-preserved : goal.loop-i-preserved
loop-i-preserved c = record {
  front = front_more c.loop-i.letters c.args.text.now c.loop-i.i (omega arith) c.loop-i-test.true c.loop-i.invariant.front;
  len = length-set c.loop-i.letters _ _ ∙ c.loop-i.invariant.len;
  rest = rest_more c.loop-i.letters c.loop-i.i 16 _ c.loop-i.invariant.rest;
}

pub invariant_of-result : goal.invariant_of-result
invariant_of-result c =
    let end : c.loop-i.i ≡ length c.args.text.now = omega arith in
    (c.requires, c.loop-i.invariant.len, ap (λ (n : ℕ). drop n c.loop-i.letters) (sym end) ∙ c.loop-i.invariant.rest ∙ ap (λ (n : ℕ). replicate (16 - n) 0) end)
