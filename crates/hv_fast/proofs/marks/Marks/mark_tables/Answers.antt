-- The pages before the index are marked.
use Rattle.std.proofs.Common.{◌≡◌, get_or, ap, ◌∙◌, sym, subst}
use Rattle.std.proofs.lemmas.List.{take_all}
use Rattle.hv_map.specs.Held.{Lists}
use Rattle.hv_fast.specs.Marked.{IsMore, Marked, listed}
use Rattle.hv_fast.specs.Marking.{with_table, with_tables}
use Rattle.hv_fast.proofs.Putting.{each_there, tables_more, tables_next, tables_none}
use Rattle.hv_fast.proofs.marks.Marks.mark_tables.Goals as goal

pub loop-page-init : goal.loop-page-init
loop-page-init c = tables_none c.args.self.now

pub loop-page-preserved : goal.loop-page-preserved
loop-page-preserved c =
    c.mark_table.ensures.marks
    ∙ ap (λ (m : Marked). with_table m (get_or c.args.pages.now c.loop-page.page-index 0)) c.loop-page.invariant
    ∙ tables_next c.args.self.now c.args.pages.now c.loop-page.page-index c.loop-page-test.true

pub returns : goal.returns
returns c =
    let marks : c.loop-page.self ≡ with_tables c.args.self.now c.args.pages.now =
    c.loop-page.invariant ∙ ap (with_tables c.args.self.now) (take_all c.loop-page.page-index c.args.pages.now c.loop-page-test.false)
    in
    record {
      marks = marks;
      there = subst (λ (m : Marked). Lists (listed m.tables) c.args.pages.now) (sym marks) (each_there c.args.self.now.tables c.args.pages.now);
      more = subst (IsMore c.args.self.now) (sym marks) (tables_more c.args.self.now c.args.pages.now);
    }
