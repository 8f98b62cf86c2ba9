use Rattle.std.proofs.Common.{◌≡◌, ◌≤◌, length, take}
use Rattle.hv_nest.specs.Changes.{differences_to}
use Rattle.hv_nest.specs.Notes.{undone}
use Rattle.hv_nest.proofs.notes.tell_each.Given as goal

abbrev pub invariant-loop-note : goal.invariant-loop-note
invariant-loop-note l = record {
  told : l.changed ≡ differences_to (undone l.store (take l.note-index l.notes)) l.store (length l.store);
  few : length l.changed ≤ l.note-index;
}
