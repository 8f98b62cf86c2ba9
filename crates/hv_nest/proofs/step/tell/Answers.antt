-- The three words of the fault are noted, and the child stops.
use Rattle.std.proofs.Common.{◌≡◌, length, ◌∙◌}
use Rattle.hv_nest.specs.Notes.{undone}
use Rattle.hv_nest.proofs.Undone.{length_noted}
use Rattle.hv_nest.proofs.Counts.{idle_count, undone_none}
use Rattle.hv_nest.proofs.step.tell.Goals as goal

pub returns-clause-noted : goal.returns-clause-noted
returns-clause-noted c =
    let origin : undone c.put_fault.new.store c.put_fault.new.notes ≡ c.args.store.now =
    c.put_fault.ensures.origin ∙ undone_none c.args.store.now c.args.notes.now c.requires.fresh in
    record {
      len = length_noted c.args.store.now c.put_fault.new.store c.put_fault.new.notes origin;
      origin = origin;
      count = idle_count (length c.put_fault.new.notes) c.args.cpu.now c.stop.new.cpu c.put_fault.ensures.count c.stop.ensures;
    }
