use Rattle.hv_grammar.proofs.Calls.{commands_are_calls}
use Rattle.hv_grammar.proofs.laws.commands_are_their_forms.Goals as goal

pub returns : goal.returns
returns c = commands_are_calls
