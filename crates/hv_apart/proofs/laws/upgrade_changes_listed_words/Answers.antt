use Rattle.hv_apart.proofs.Upgraded.{words_law}
use Rattle.hv_apart.proofs.laws.upgrade_changes_listed_words.Goals as goal

pub returns : goal.returns
returns c = words_law
