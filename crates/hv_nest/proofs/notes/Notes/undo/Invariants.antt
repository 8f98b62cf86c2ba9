use Rattle.std.proofs.Common.{◌≡◌, length}
use Rattle.hv_nest.specs.Notes.{undone}
use Rattle.hv_nest.proofs.Undone.{NotedBelow}
use Rattle.hv_nest.proofs.notes.Notes.undo.Given as goal

abbrev pub invariant-loop-note : goal.invariant-loop-note
invariant-loop-note l = record {
  origin : undone l.store l.self ≡ undone l.fn.store l.fn.self;
  below : NotedBelow (length l.store) l.self;
}

abbrev pub decreases-loop-note : goal.decreases-loop-note
decreases-loop-note l = length l.self
