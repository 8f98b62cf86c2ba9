use Rattle.hv_block.proofs.Blocks.{block_alike}
use Rattle.hv_block.proofs.laws.block_depends_on_its_page.Goals as goal

pub returns : goal.returns
returns c = block_alike
