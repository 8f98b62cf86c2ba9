use Rattle.std.proofs.Common.{◌≡◌, take}
use Rattle.hv_fast.specs.Marking.{with_tables}
use Rattle.hv_fast.proofs.marks.Marks.mark_tables.Given as goal

abbrev pub invariant-loop-page : goal.invariant-loop-page
invariant-loop-page l = l.self ≡ with_tables l.initial.self (take l.page-index l.pages)
