use Rattle.hv_grammar.proofs.First.{first_lines}
use Rattle.hv_grammar.proofs.laws.first_lines_say_the_same.Goals as goal

pub returns : goal.returns
returns c = first_lines
