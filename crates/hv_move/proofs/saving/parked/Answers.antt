use Rattle.hv_move.proofs.Blocks.{parked_spelled}
use Rattle.hv_move.proofs.saving.parked.Goals as goal

pub invariant_of-result : goal.invariant_of-result
invariant_of-result c = parked_spelled c.words.result c.args.cpu.now c.args.store c.words.ensures c.fits.ensures c.requires
