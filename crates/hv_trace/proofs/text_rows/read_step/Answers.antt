use Rattle.hv_trace.proofs.Changes.{tail_there}
use Rattle.hv_trace.proofs.text_rows.read_step.Goals as goal

pub returns-in_default-read_tail : goal.returns-in_default-read_tail
returns-in_default-read_tail c = λ told behind is e.
    c.in_default-read_tail.ensures told.mem behind (is.changes.inside, is.words_in_mem)
    (tail_there c.args.words c.in-Some.pc c.args.text.now c.in-Some.rest.now c.read_changes-len.result.rest.now behind
    c.read_changes-len.result.len c.read_changes-len.result.regs told c.in-Some.ensures.0 c.in-Some.ensures.1
    c.read_changes-len.ensures.front c.read_changes-len.ensures.stops is e)
