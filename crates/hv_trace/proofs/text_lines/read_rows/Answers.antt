use Rattle.hv_trace.proofs.Same.{reads_them, refuses_there}
use Rattle.hv_trace.proofs.text_lines.read_rows.Goals as goal

pub returns-clause-read : goal.returns-clause-read
returns-clause-read c =
    reads_them c.args.words c.args.first c.args.text.now c.read_lines.result c.read_lines.ensures.ok c.read_lines.ensures.err

pub returns-clause-refused : goal.returns-clause-refused
returns-clause-refused c =
    refuses_there c.args.words c.args.first c.args.text.now c.read_lines.result c.read_lines.ensures.ok c.read_lines.ensures.err
