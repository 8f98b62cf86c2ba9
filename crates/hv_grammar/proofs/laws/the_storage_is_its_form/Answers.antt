use Rattle.hv_grammar.proofs.Formed.{storage_is_formed}
use Rattle.hv_grammar.proofs.laws.the_storage_is_its_form.Goals as goal

pub returns : goal.returns
returns c = storage_is_formed
