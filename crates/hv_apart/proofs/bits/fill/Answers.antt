-- A word of ones has all of its numbers.
use Rattle.hv_apart.proofs.Filling.{filled}
use Rattle.hv_apart.proofs.bits.fill.Goals as goal

pub returns-clause-filled : goal.returns-clause-filled
returns-clause-filled c = filled c.args.words.now c.args.i c.requires
