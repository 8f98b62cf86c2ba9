use Rattle.std.proofs.Common.{ℕ, ◌++◌, List, get_or, take, sym, ap, ◌∙◌, append_assoc}
use Rattle.hv_trace.specs.Text.{rows_text, row_line}
use Rattle.hv_trace.specs.declared.row.TraceRow.{TraceRow}
use Rattle.hv_trace.specs.declared.row.TraceRow.TheVariants.{Lines}
use Rattle.hv_trace.proofs.Changes.{rows_at}
use Rattle.hv_trace.proofs.text_writing.put_rows.Goals as goal

pub loop-row-preserved : goal.loop-row-preserved
loop-row-preserved c =
    let i = c.loop-row.row-index in
    let row : TraceRow = get_or c.args.rows.now i (Lines 0) in
    let at = rows_at c.args.rows.now i (Lines 0) c.loop-row-test.true in
    c.in_ok-put_row.ensures
    ∙ ap (λ (text : List ℕ). text ++ row_line row) c.loop-row.invariant
    ∙ append_assoc c.args.out.now.items (rows_text (take i c.args.rows.now)) (row_line row)
    ∙ ap (λ (text : List ℕ). c.args.out.now.items ++ text) (sym at)
