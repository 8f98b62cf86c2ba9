-- The law is proved by the lemmas.
use Rattle.hv_towers.proofs.Built.{built}
use Rattle.hv_towers.proofs.building.towers_are_built.Goals as goal

pub returns : goal.returns
returns c = built
