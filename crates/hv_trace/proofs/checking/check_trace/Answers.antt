use Rattle.std.proofs.Common.{List, sym, subst}
use Rattle.hv_trace.specs.Check.{IsFirstWrong}
use Rattle.hv_trace.specs.Rows.{Traced}
use Rattle.hv_trace.specs.declared.row.TraceRow.{TraceRow}
use Rattle.hv_trace.proofs.checking.check_trace.Goals as goal

pub returns-clause-told : goal.returns-clause-told
returns-clause-told c = λ row w.
    c.check_start.ensures.told row
    (subst (λ (rows : List TraceRow). IsFirstWrong c.trace.inside.start rows row) (sym c.deref.ensures.value)
    (subst (λ (t : Traced). IsFirstWrong t.start t.rows row) (sym c.trace.view_is) w))
