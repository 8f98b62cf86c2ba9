use Rattle.std.proofs.Common.{length, sym, ap, subst, ◌∙◌}
use Rattle.hv_capsule.specs.Parked.{Parked}
use Rattle.hv_trace.specs.Check.{IsFirstWrong}
use Rattle.hv_trace.specs.Rows.{AreRows}
use Rattle.hv_trace.proofs.Parking.{with_storage}
use Rattle.hv_trace.proofs.checking.check_start.Goals as goal

pub check_rows-verdict-requires-clause-rows : goal.check_rows-verdict-requires-clause-rows
check_rows-verdict-requires-clause-rows c =
    subst (λ (m : Parked). AreRows (length m.storage) c.args.rows.now) (sym c.start.view_is) c.requires.rows

pub returns-in-Yes-clause-told : goal.returns-in-Yes-clause-told
returns-in-Yes-clause-told c = λ row w.
    c.check_rows-verdict.ensures.told row
    (subst (λ (m : Parked). IsFirstWrong m c.args.rows.now row)
    (sym (ap (with_storage c.start.inside.store) c.read_cpu-cpu.ensures ∙ c.start.view_is)) w)

pub returns-in_default-clause-told : goal.returns-in_default-clause-told
returns-in_default-clause-told c = λ row w.
    c.check_rows-verdict.ensures.told row
    (subst (λ (m : Parked). IsFirstWrong m c.args.rows.now row)
    (sym (ap (with_storage c.start.inside.store) c.read_cpu-cpu.ensures ∙ c.start.view_is)) w)
