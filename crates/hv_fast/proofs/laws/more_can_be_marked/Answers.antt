use Rattle.hv_fast.proofs.Growing.{blocks_more, held_more, pin_more}
use Rattle.hv_fast.proofs.laws.more_can_be_marked.Goals as goal

pub returns-clause-pin : goal.returns-clause-pin
returns-clause-pin c = pin_more

pub returns-clause-held : goal.returns-clause-held
returns-clause-held c = held_more

pub returns-clause-blocks : goal.returns-clause-blocks
returns-clause-blocks c = blocks_more
