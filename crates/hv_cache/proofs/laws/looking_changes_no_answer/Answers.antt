use Rattle.hv_cache.proofs.Finding.{look_keeps}
use Rattle.hv_cache.proofs.laws.looking_changes_no_answer.Goals as goal

pub returns : goal.returns
returns c = look_keeps
