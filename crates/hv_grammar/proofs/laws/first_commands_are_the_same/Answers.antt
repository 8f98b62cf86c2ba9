use Rattle.hv_grammar.proofs.First.{first_commands}
use Rattle.hv_grammar.proofs.laws.first_commands_are_the_same.Goals as goal

pub returns : goal.returns
returns c = first_commands
