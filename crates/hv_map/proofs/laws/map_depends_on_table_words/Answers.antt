use Rattle.hv_map.proofs.Agree.{composed_agrees}
use Rattle.hv_map.proofs.laws.map_depends_on_table_words.Goals as goal

pub returns : goal.returns
returns c = composed_agrees
