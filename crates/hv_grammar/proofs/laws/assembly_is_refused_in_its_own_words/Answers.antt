use Rattle.hv_grammar.proofs.Worded.{words_alike}
use Rattle.hv_grammar.proofs.laws.assembly_is_refused_in_its_own_words.Goals as goal

pub returns : goal.returns
returns c = words_alike
