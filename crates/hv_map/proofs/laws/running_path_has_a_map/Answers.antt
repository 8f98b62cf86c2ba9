use Rattle.hv_map.proofs.Running.{running_law}
use Rattle.hv_map.proofs.laws.running_path_has_a_map.Goals as goal

pub returns : goal.returns
returns c = running_law
