use Rattle.hv_map.specs.Held.{Lists}
use Rattle.hv_fast.specs.Marked.{IsMore, listed}
use Rattle.hv_fast.proofs.MarkingPaths.{PagesTo}
use Rattle.hv_fast.proofs.marks.Marks.mark_all.Given as goal

abbrev pub invariant-loop-page : goal.invariant-loop-page
invariant-loop-page l = record {
  more : IsMore l.fn.self l.self;
  tables : Lists (listed l.self.tables) l.tables;
  blocks : PagesTo l.self.blocks l.blocks l.page-index;
}
