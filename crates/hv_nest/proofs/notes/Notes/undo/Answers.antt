-- The last note is taken away and put back.
use Rattle.hv_nest.specs.Notes.{undone}
use Rattle.hv_nest.proofs.Undone.{all_undone, rest_below, rest_undone}
use Rattle.hv_nest.proofs.notes.Notes.undo.Goals as goal

pub loop-note-preserved : goal.loop-note-preserved
loop-note-preserved c = record {
  origin =
      rest_undone (undone c.args.store.now c.args.self.now) c.loop-note.store c.put.new.self c.loop-note.self c.pop.new.self c.in-Some.note
      c.in-Some.ensures.some c.put.ensures c.loop-note.invariant.origin;
  below =
      rest_below c.loop-note.store c.put.new.self c.loop-note.self c.pop.new.self c.in-Some.note
      c.in-Some.ensures.some c.put.ensures c.loop-note.invariant.below;
}

pub returns-clause-store : goal.returns-clause-store
returns-clause-store c =
    all_undone (undone c.args.store.now c.args.self.now) c.loop-note.store c.loop-note.self c.in_default.ensures.none.0 c.loop-note.invariant.origin
