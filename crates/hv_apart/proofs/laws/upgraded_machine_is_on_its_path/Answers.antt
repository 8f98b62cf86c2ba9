use Rattle.hv_apart.proofs.SameMap.{path_law}
use Rattle.hv_apart.proofs.laws.upgraded_machine_is_on_its_path.Goals as goal

pub returns : goal.returns
returns c = path_law
