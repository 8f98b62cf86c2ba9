use Rattle.std.proofs.Common.{◌<◌, arith}
use Rattle.hv_trace.proofs.Spelling.{filled}
use Rattle.hv_trace.proofs.checking.read_x.Goals as goal

pub loop-i-preserved : goal.loop-i-preserved
loop-i-preserved c =
    let below : c.loop-i.i < 32 = omega (arith, c.loop-i-test.true) in
    record {
      behind_x0 = omega arith;
      within = omega (arith, below);
      filled = filled c.args.words.now c.loop-i.x c.loop-i.i c.loop-i.invariant.behind_x0 below c.loop-i.invariant.filled;
    }
