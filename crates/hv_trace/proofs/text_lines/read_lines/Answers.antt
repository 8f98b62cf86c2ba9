use Rattle.std.proofs.Common.{◌∷◌, [], length, ap, arith}
use Rattle.std.proofs.lemmas.List.{length-append}
use Rattle.hv_trace.proofs.Changes.{rows_go_on, are_rows_more, row_shorter}
use Rattle.hv_trace.proofs.text_lines.read_lines.Goals as goal

pub loop-row-preserved : goal.loop-row-preserved
loop-row-preserved c =
    let items = c.in_ok-push.ensures.items in
    let shorter = row_shorter c.in-Some.row c.loop-row.rest.now c.in-Some.behind.now c.in-Some.ensures.1 in
    record {
      are_rows = rw items (are_rows_more c.args.words c.loop-row.rows.items c.in-Some.row c.loop-row.invariant.are_rows c.in-Some.ensures.0);
      parts = rw items (rows_go_on c.loop-row.rows.items c.in-Some.row c.args.text.now c.loop-row.rest.now c.in-Some.behind.now c.loop-row.invariant.parts c.in-Some.ensures.1);
      line = omega (arith, c.loop-row.invariant.line, ap length items, length-append c.loop-row.rows.items (c.in-Some.row ∷ []));
      room = omega (arith, c.loop-row.invariant.room, shorter);
    }
