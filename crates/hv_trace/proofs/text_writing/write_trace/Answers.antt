use Rattle.std.proofs.Common.{◌++◌, List, length, codes, subst, sym, ap, ◌∙◌}
use Rattle.std.specs.List.{AllByRecursion}
use Rattle.hv_capsule.specs.Text.{capsule_text}
use Rattle.hv_trace.specs.Rows.{HasRoom, Traced}
use Rattle.hv_trace.specs.Text.{rows_text}
use Rattle.hv_trace.specs.TextLines.{end_line, trace_text}
use Rattle.hv_trace.specs.declared.row.TraceRow.{TraceRow}
use Rattle.hv_trace.proofs.Changes.{rooms, traced}
use Rattle.hv_trace.proofs.text_writing.write_trace.Goals as goal

pub put_rows-requires : goal.put_rows-requires
put_rows-requires c =
    subst (λ (rows : List TraceRow). AllByRecursion HasRoom rows) (sym c.deref.ensures.value)
    (rooms (length c.trace.inside.start.storage) c.trace.inside.rows.items c.trace.invariant)

pub returns : goal.returns
returns c =
    traced (codes "trace 1\n") (capsule_text c.trace.inside.start) (rows_text c.trace.inside.rows.items) end_line
    c.in_ok-out.out.items c.put_capsule.new.out.items c.put_rows.new.out.items c.put.new.out.items
    c.in_ok-out.ensures.items c.in_ok-put_capsule.ensures
    (c.in_ok-put_rows.ensures ∙ ap (λ (rows : List TraceRow). c.put_capsule.new.out.items ++ rows_text rows) c.deref.ensures.value)
    c.in_ok-put.ensures
    ∙ ap (λ (t : Traced). trace_text t) c.trace.view_is
