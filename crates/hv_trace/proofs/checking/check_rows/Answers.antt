use Rattle.std.proofs.Common.{ℕ, ◌+◌, refl, sym, ap, ap₂, ◌∙◌, arith}
use Rattle.hv_capsule.specs.Parked.{Parked}
use Rattle.hv_trace.specs.declared.row.TraceRow.TheVariants.{Lines}
use Rattle.hv_trace.specs.declared.checking.Verdict.TheVariants.{Yes, No}
use Rattle.hv_trace.proofs.Once.{told_wrong}
use Rattle.hv_trace.proofs.Led.{first_wrong, leads_all, leads_more, steps_more, steps_none, still_none}
use Rattle.hv_trace.proofs.checking.check_rows.Goals as goal

pub loop-row-init : goal.loop-row-init
loop-row-init c = record {
  number = refl;
  steps = sym steps_none;
  few = omega arith;
  leads = refl;
  next = c.requires.next;
  len = refl;
}

pub returns-then-not-is_right-clause-wrong : goal.returns-then-not-is_right-clause-wrong
returns-then-not-is_right-clause-wrong c =
    first_wrong record { regs = c.args.cpu.now; storage = c.args.store.now }
    record { regs = c.loop-row.cpu; storage = c.loop-row.store }
    c.args.rows.now c.loop-row.row-index (c.loop-row.number + 1) (Lines 0) c.loop-row-test.true
    (ap (λ (n : ℕ). n + 1) c.loop-row.invariant.number) c.loop-row.invariant.leads (c.if-not-is_right.ensures.no refl)

pub overflow_add-steps : goal.overflow_add-steps
overflow_add-steps c =
    omega (arith, c.loop-row.invariant.few, c.loop-row-test.true, c.requires.few, c.steps_of-steps.ensures.few)

pub loop-row-preserved : goal.loop-row-preserved
loop-row-preserved c =
    let start : Parked = record { regs = c.args.cpu.now; storage = c.args.store.now } in
    let before : Parked = record { regs = c.loop-row.cpu; storage = c.loop-row.store } in
    let after : Parked = record { regs = c.is_right.new.cpu; storage = c.is_right.new.store } in
    let i = c.loop-row.row-index in
    let follows = c.if-not-is_right.ensures.yes refl in
    record {
      number = ap (λ (n : ℕ). n + 1) c.loop-row.invariant.number;
      steps =
          ap₂ (λ (n k : ℕ). n + k) c.loop-row.invariant.steps c.steps_of-steps.ensures.is
          ∙ sym (steps_more c.args.rows.now i (Lines 0) c.loop-row-test.true);
      few = omega (arith, c.loop-row.invariant.few, c.steps_of-steps.ensures.few);
      leads = leads_more start before after c.args.rows.now i (Lines 0) c.loop-row-test.true c.loop-row.invariant.leads follows;
      next = still_none before after _ c.loop-row.invariant.next follows;
      len = c.if-not-is_right.ensures.len ∙ c.loop-row.invariant.len;
    }

pub returns-then-not-is_right-clause-told : goal.returns-then-not-is_right-clause-told
returns-then-not-is_right-clause-told c =
    let start : Parked = record { regs = c.args.cpu.now; storage = c.args.store.now } in
    told_wrong start start c.args.rows.now (No (c.loop-row.number + 1)) tt (returns-then-not-is_right-clause-wrong c)

pub returns-clause-told : goal.returns-clause-told
returns-clause-told c =
    let start : Parked = record { regs = c.args.cpu.now; storage = c.args.store.now } in
    let end : Parked = record { regs = c.loop-row.cpu; storage = c.loop-row.store } in
    told_wrong start end c.args.rows.now (Yes c.loop-row.steps)
    (leads_all start end c.args.rows.now c.loop-row.row-index (omega (arith, c.loop-row-test.false)) c.loop-row.invariant.leads) tt
