use Rattle.std.proofs.Common.{refl}
use Rattle.hv_block.specs.Block.{regs_at}
use Rattle.hv_block.proofs.Same.{put_same}
use Rattle.hv_block.proofs.laws.put_of_what_is_there.Goals as goal

pub returns : goal.returns
returns c = λ S g. put_same S g (regs_at S g) refl
