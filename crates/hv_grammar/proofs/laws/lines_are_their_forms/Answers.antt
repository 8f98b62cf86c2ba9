use Rattle.hv_grammar.proofs.Formed.{lines_are_formed}
use Rattle.hv_grammar.proofs.laws.lines_are_their_forms.Goals as goal

pub returns : goal.returns
returns c = lines_are_formed
