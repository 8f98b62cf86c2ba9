-- As many pins that say nothing as there are harts, and no entries.
use Rattle.std.proofs.Common.{◌≡◌, length, refl, ap, arith}
use Rattle.hv_cache.specs.Holding.{Holding}
use Rattle.hv_fast.proofs.Mounting.{right_new}
use Rattle.hv_fast.proofs.beside.Beside.new.Goals as goal

pub returns : goal.returns
returns c = λ S R long.
    let count : length c.loop-hart.pins.items ≡ length R = omega (arith, c.loop-hart.invariant.count, long) in
    right_new S R _ count c.loop-hart.invariant.unused refl (ap (λ (k : Holding). k.entries) c.in_ok-new-2.ensures)
