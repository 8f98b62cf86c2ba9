use Rattle.std.proofs.Common.{ℕ, ◌<◌, set, ap, ◌∙◌, arith}
use Rattle.hv_block.proofs.Filling.{filled}
use Rattle.hv_block.proofs.read_x.Goals as goal

pub loop-i-preserved : goal.loop-i-preserved
loop-i-preserved c =
    let below : c.loop-i.i < 32 = omega (arith, c.loop-i-test.true) in
    record {
      behind_x0 = omega arith;
      within = omega (arith, below);
      filled =
          ap (λ (w : ℕ). set c.loop-i.x c.loop-i.i w) c.block_word.ensures
          ∙ filled c.args.store.now c.loop-i.x c.args.page c.loop-i.i c.loop-i.invariant.behind_x0 below c.loop-i.invariant.filled;
    }
