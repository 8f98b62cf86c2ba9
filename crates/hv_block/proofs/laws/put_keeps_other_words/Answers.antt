use Rattle.hv_block.proofs.Words.{put_other}
use Rattle.hv_block.proofs.laws.put_keeps_other_words.Goals as goal

pub returns : goal.returns
returns c = put_other
