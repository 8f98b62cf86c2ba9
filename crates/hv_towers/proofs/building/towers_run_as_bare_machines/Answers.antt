-- The tower is built as the one law says, and played as the other does.
use Rattle.hv_towers.proofs.Built.{built}
use Rattle.hv_towers.proofs.TowerPlays.{towers_play}
use Rattle.hv_towers.proofs.building.towers_run_as_bare_machines.Goals as goal

pub returns : goal.returns
returns c job pages depth top line m parts start alone harts few deep short some all is is_alone =
    let b = built job pages depth top line parts start alone harts few deep short some all is is_alone in
    record { built = b; played = towers_play depth top m start.store alone.store b.items b.laid }
