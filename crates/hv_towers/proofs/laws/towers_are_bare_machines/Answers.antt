use Rattle.hv_towers.proofs.TowerPlays.{towers_play}
use Rattle.hv_towers.proofs.laws.towers_are_bare_machines.Goals as goal

pub returns : goal.returns
returns c = towers_play
