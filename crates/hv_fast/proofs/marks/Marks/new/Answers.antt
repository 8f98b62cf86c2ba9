-- No page is marked, and there is room for all.
use Rattle.hv_fast.proofs.Erasing.{no_kinds}
use Rattle.hv_fast.proofs.marks.Marks.new.Goals as goal

pub invariant_of-result : goal.invariant_of-result
invariant_of-result c =
    rw (c.in_ok-tables.ensures.items, c.in_ok-blocks.ensures.items) (
      no_kinds c.in_ok-kinds.kinds.items c.in_ok-kinds.ensures.count c.in_ok-kinds.ensures.zero,
      c.in_ok-tables.ensures.capacity,
      c.in_ok-blocks.ensures.capacity,
    )
