-- The words compared are those of the registers before and after the step.
use Rattle.std.proofs.Common.{rules, ◌≡◌, ℕ, List, refl, sym, ◌∙◌, ap₂, subst}
use Rattle.hv_trace.specs.Check.{IsWritten, changes_from}
use Rattle.hv_trace.proofs.Wrong.{wrong_changes}
use Rattle.hv_trace.proofs.checking.is_step.Goals as goal

pub returns-then-not-are_changes-clause-no : goal.returns-then-not-are_changes-clause-no
returns-then-not-are_changes-clause-no c = λ _. λ n.
    wrong_changes c.args.store.now c.flat_step-written.new.store c.args.cpu.now c.flat_step-written.new.cpu c.args.pc c.args.changes.now c.args.mem n c.flat_step-written.ensures.steps
    (λ e. c.if-not-are_changes.ensures.no refl (e ∙ sym (ap₂ (changes_from 0) c.words-before.ensures c.words-after.ensures)))

pub returns-clause-yes : goal.returns-clause-yes
returns-clause-yes c = λ told.
    let next : c.flat_step-written.new.cpu.next ≡ 0 = search rules in
    let before : c.args.pc ≡ c.args.cpu.now.pc = search rules in
    record {
      step = sym c.flat_step-written.ensures.steps;
      next = next;
      before = before;
      told = c.if-not-are_changes.ensures.yes refl ∙ ap₂ (changes_from 0) c.words-before.ensures c.words-after.ensures;
      written = subst (λ (S : List ℕ). IsWritten S c.flat_step-written.new.store c.args.mem) c.flat_step-written.ensures.before (c.is_told.ensures.yes told);
    }
