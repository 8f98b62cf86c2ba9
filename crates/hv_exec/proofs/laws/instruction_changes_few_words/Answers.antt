use Rattle.hv_exec.proofs.Few.{few_act}
use Rattle.hv_exec.proofs.laws.instruction_changes_few_words.Goals as goal

pub returns : goal.returns
returns c = few_act
