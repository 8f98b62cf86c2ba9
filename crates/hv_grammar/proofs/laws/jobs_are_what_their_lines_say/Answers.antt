use Rattle.hv_grammar.proofs.Back.{job_text}
use Rattle.hv_grammar.proofs.laws.jobs_are_what_their_lines_say.Goals as goal

pub returns : goal.returns
returns c = job_text
