use Rattle.hv_grammar.proofs.Late.{no_other_fault}
use Rattle.hv_grammar.proofs.laws.texts_that_go_through_have_no_other_fault.Goals as goal

pub returns : goal.returns
returns c = no_other_fault
