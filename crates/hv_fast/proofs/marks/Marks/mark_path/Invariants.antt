use Rattle.hv_map.specs.Held.{Lists}
use Rattle.hv_fast.specs.Marked.{IsMore, listed}
use Rattle.hv_fast.proofs.MarkingPaths.{BlocksTo}
use Rattle.hv_fast.proofs.marks.Marks.mark_path.Given as goal

abbrev pub invariant-loop-i : goal.invariant-loop-i
invariant-loop-i l = record {
  more : IsMore l.fn.self l.self;
  tables : Lists (listed l.self.tables) l.tables;
  blocks : BlocksTo l.self.blocks l.chain l.i;
}
