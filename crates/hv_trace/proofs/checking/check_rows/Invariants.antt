use Rattle.std.proofs.Common.{◌≡◌, ◌≤◌, length, take}
use Rattle.hv_trace.specs.Check.{Leads, steps_in}
use Rattle.hv_trace.proofs.checking.check_rows.Given as goal

-- the rows before lead here
abbrev pub invariant-loop-row : goal.invariant-loop-row
invariant-loop-row l = record {
  number : l.number ≡ l.row-index;
  steps : l.steps ≡ steps_in (take l.row-index l.rows);
  few : l.steps ≤ l.row-index;
  leads : Leads record { regs = l.fn.cpu; storage = l.fn.store } (take l.row-index l.rows) record { regs = l.cpu; storage = l.store };
  next : l.cpu.next ≡ 0;
  len : length l.store ≡ length l.fn.store;
}
