-- One more place is compared.
use Rattle.std.proofs.Common.{◌≡◌, ℕ, ◌+◌, ◌<◌, ◌≤◌, Bool, true, false, cond, get_or, length, refl, ap, ◌∙◌, arith}
use Rattle.std.specs.Prelude.{◌==◌, not}
use Rattle.hv_nest.proofs.Changing.{count_more}
use Rattle.hv_nest.proofs.noting.count_differing.Goals as goal
use mir.Val.{bool_byte}

counted_one : (t : Bool) → ◌≡◌ {A = ℕ} (bool_byte (not t)) (cond t 0 1)
counted_one true = refl
counted_one false = refl

one_at_most : (t : Bool) (n : ℕ) → n ≡ bool_byte (not t) → n ≤ 1
one_at_most true n e = omega (arith, e)
one_at_most false n e = omega (arith, e)

pub loop-i-preserved : goal.loop-i-preserved
loop-i-preserved c =
    let i : ℕ = c.loop-i.i in
    let same : Bool = get_or c.args.before.now i 0 == get_or c.args.words.now i 0 in
    let lt : i < length c.args.words.now = c.loop-i-test.true in
    let inside : i < length c.args.before.now = omega (arith, lt, c.requires.long) in
    record {
      counted =
          ap (λ (n : ℕ). c.loop-i.count + n) (c.from-count.ensures ∙ counted_one same)
          ∙ count_more c.args.before.now c.args.words.now i c.loop-i.count inside lt c.loop-i.invariant.counted;
      few = omega (arith, one_at_most same c.from-count.result c.from-count.ensures, c.loop-i.invariant.few);
    }
