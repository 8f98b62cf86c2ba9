use Rattle.hv_grammar.proofs.Through.{refused}
use Rattle.hv_grammar.proofs.laws.lines_before_the_refused_one_are_good.Goals as goal

pub returns : goal.returns
returns c = refused
