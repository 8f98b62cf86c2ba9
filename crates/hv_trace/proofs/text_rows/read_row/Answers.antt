use Rattle.hv_trace.proofs.Changes.{no_step, no_lines, no_row}
use Rattle.hv_trace.proofs.text_rows.read_row.Goals as goal

pub returns-in_default-read_mask : goal.returns-in_default-read_mask
returns-in_default-read_mask c = λ a behind is e.
    no_lines c.args.words c.in-Some.rest.now c.args.text.now behind a c.in_default-read_mask.ensures c.in-Some.ensures.some is e

pub returns-in_default-after_kind : goal.returns-in_default-after_kind
returns-in_default-after_kind c = λ a behind is e.
    no_row c.args.words c.args.text.now behind a c.in_default.ensures.none c.in_default-after_kind.ensures.none e

pub returns-in_default-read_step : goal.returns-in_default-read_step
returns-in_default-read_step c = λ a behind is e.
    no_step c.args.words c.in-Some-after_kind.rest.now c.args.text.now behind a c.in_default-read_step.ensures
    c.in-Some-after_kind.ensures.some is e
