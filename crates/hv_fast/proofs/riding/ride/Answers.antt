-- What was ridden is what the definition says.
use Rattle.std.proofs.Common.{◌∙◌, sym}
use Rattle.hv_nest.proofs.Counts.{undone_none}
use Rattle.hv_fast.proofs.Sparing.{has_ridden, next_below, touches_block}
use Rattle.hv_fast.proofs.riding.ride.Goals as goal

pub returns-then-is_table-clause-origin : goal.returns-then-is_table-clause-origin
returns-then-is_table-clause-origin c = undone_none c.args.store.now c.args.notes.now c.requires.fresh

pub returns-then-any_marked-clause-origin : goal.returns-then-any_marked-clause-origin
returns-then-any_marked-clause-origin c =
    undone_none c.undo.new.store c.undo.new.self c.undo.ensures.none ∙ c.undo.ensures.store ∙ c.act_along.ensures.noted.origin

pub put_touched-requires-clause-touches : goal.put_touched-requires-clause-touches
put_touched-requires-clause-touches c =
    touches_block c.args.store.now c.act_along.new.store c.args.marks.now c.args.cache.now.entries c.act_along.new.notes c.args.block c.args.cpu.now c.act_along.new.cpu c.in-Ok.touched
    c.act_along.ensures.noted.origin
    (sym c.any_marked.ensures ∙ c.if-any_marked.false)
    c.requires.marked
    c.requires.cpu
    c.in-Ok.ensures.touched

pub returns-clause-made : goal.returns-clause-made
returns-clause-made c = λ _.
    has_ridden c.args.store.now c.act_along.new.store c.put_touched.new.store c.args.marks.now c.args.cache.now.entries c.args.chain.now c.act_along.new.notes c.args.block c.args.cpu.now c.act_along.new.cpu
    c.act_along.ensures.noted.origin
    c.act_along.ensures.noted.len
    (sym c.any_marked.ensures ∙ c.if-any_marked.false)
    (sym c.is_table.ensures ∙ c.if-is_table.false)
    (sym c.table_watched.ensures ∙ c.if-table_watched.false)
    c.requires.there
    c.fits.ensures
    (next_below c.act_along.new.cpu.next _ _ c.act_along.ensures.next c.requires.pages c.requires.some)
    c.put_touched.ensures.put
    (sym c.in-Ok.ensures.acts)
