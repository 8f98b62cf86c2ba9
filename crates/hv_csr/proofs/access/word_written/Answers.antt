use Rattle.hv_csr.proofs.Places.{written_leaves}
use Rattle.hv_csr.proofs.access.word_written.Goals as goal

pub returns-in-Some-clause-others : goal.returns-in-Some-clause-others
returns-in-Some-clause-others c = written_leaves c.args.number c.word.result c.in-Some.csr (cc) c.word.ensures.others
