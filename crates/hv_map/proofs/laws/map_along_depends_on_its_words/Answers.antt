use Rattle.hv_map.proofs.Words.{along_agrees}
use Rattle.hv_map.proofs.laws.map_along_depends_on_its_words.Goals as goal

pub returns : goal.returns
returns c = along_agrees
