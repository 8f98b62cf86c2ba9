use Rattle.std.proofs.Common.{◌≡◌, ◌*◌, ◌/◌, List, ℕ, sym, ap, ◌∙◌, subst}
use Rattle.hv_word.specs.Storage.{page_count}
use Rattle.hv_store.specs.Zeros.{zeros}
use Rattle.hv_capsule.specs.Lines.{EndsAt, Stands}
use Rattle.hv_capsule.proofs.Faults.{err_in_pages, least, want}
use Rattle.hv_capsule.proofs.Filled.{zeros_count}
use Rattle.hv_capsule.proofs.Same.{no_fault}
use Rattle.hv_capsule.proofs.Whole.{behind_is, ends, is_parked, machine_of, one_machine, stands}
use Rattle.hv_capsule.proofs.reading.read_front.Goals as goal

pub returns-in-Err-clause-want : goal.returns-in-Err-clause-want
returns-in-Err-clause-want c = λ m behind is cut. want c.args.text.now behind c.in-Err.end m c.in-Err.ensures.err is cut

pub returns-in-Err-clause-least : goal.returns-in-Err-clause-least
returns-in-Err-clause-least c = λ at kind stop. least c.args.text.now c.in-Err.end at kind c.in-Err.ensures.err stop

pub read_pages-requires : goal.read_pages-requires
read_pages-requires c = c.in_ok-store.ensures ∙ ap (λ (n : ℕ). zeros (1024 * n)) (zeros_count c.in_ok-store.store c.in-Ok.found.0 c.in_ok-store.ensures)

pub returns-in-Err-read_pages-clause-err : goal.returns-in-Err-read_pages-clause-err
returns-in-Err-read_pages-clause-err c =
    err_in_pages c.args.text.now c.read_opening.new.regs c.in-Ok.found.1.now c.in-Ok.found.0 (page_count c.in_ok-store.store)
    c.in-Err-read_pages.end c.in-Ok.ensures.size c.in-Ok.ensures.regs c.in-Ok.ensures.ok
    (zeros_count c.in_ok-store.store c.in-Ok.found.0 c.in_ok-store.ensures) c.in-Err-read_pages.ensures.err

pub returns-in-Err-read_pages-clause-want : goal.returns-in-Err-read_pages-clause-want
returns-in-Err-read_pages-clause-want c = λ m behind is cut.
    want c.args.text.now behind c.in-Err-read_pages.end m (
    err_in_pages c.args.text.now c.read_opening.new.regs c.in-Ok.found.1.now c.in-Ok.found.0 (page_count c.in_ok-store.store)
    c.in-Err-read_pages.end c.in-Ok.ensures.size c.in-Ok.ensures.regs c.in-Ok.ensures.ok
    (zeros_count c.in_ok-store.store c.in-Ok.found.0 c.in_ok-store.ensures) c.in-Err-read_pages.ensures.err) is cut

pub returns-in-Err-read_pages-clause-least : goal.returns-in-Err-read_pages-clause-least
returns-in-Err-read_pages-clause-least c = λ at kind stop.
    least c.args.text.now c.in-Err-read_pages.end at kind (
    err_in_pages c.args.text.now c.read_opening.new.regs c.in-Ok.found.1.now c.in-Ok.found.0 (page_count c.in_ok-store.store)
    c.in-Err-read_pages.end c.in-Ok.ensures.size c.in-Ok.ensures.regs c.in-Ok.ensures.ok
    (zeros_count c.in_ok-store.store c.in-Ok.found.0 c.in_ok-store.ensures) c.in-Err-read_pages.ensures.err) stop

pub overflow_sub-size : goal.overflow_sub-size
overflow_sub-size c =
    (behind_is c.args.text.now c.read_opening.new.regs c.read_pages.new.store c.in-Ok.found.1.now c.in-Ok-read_pages.found.1.now
    c.in-Ok.found.0 c.in-Ok-read_pages.found.0 c.in-Ok.ensures.ok c.in-Ok-read_pages.ensures.ok).0

pub invariant_of-capsule : goal.invariant_of-capsule
invariant_of-capsule c =
    let count : c.in-Ok.found.0 ≡ page_count c.read_pages.new.store =
    zeros_count c.in_ok-store.store c.in-Ok.found.0 c.in_ok-store.ensures ∙ sym (ap (λ (n : ℕ). n / 1024) c.in-Ok-read_pages.ensures.len) in (
      c.in-Ok.ensures.len,
      is_parked c.read_opening.new.regs c.read_pages.new.store c.in-Ok.found.1.now c.in-Ok-read_pages.found.1.now
          c.in-Ok.found.0 c.in-Ok-read_pages.found.0 count c.in-Ok.ensures.regs c.in-Ok-read_pages.ensures.ok,
    )

pub returns-clause-ok : goal.returns-clause-ok
returns-clause-ok c =
    let count : c.in-Ok.found.0 ≡ page_count c.read_pages.new.store =
    zeros_count c.in_ok-store.store c.in-Ok.found.0 c.in_ok-store.ensures ∙ sym (ap (λ (n : ℕ). n / 1024) c.in-Ok-read_pages.ensures.len) in
    let behind = behind_is c.args.text.now c.read_opening.new.regs c.read_pages.new.store c.in-Ok.found.1.now c.in-Ok-read_pages.found.1.now
    c.in-Ok.found.0 c.in-Ok-read_pages.found.0 c.in-Ok.ensures.ok c.in-Ok-read_pages.ensures.ok in
    subst (λ (z : List ℕ). Stands c.args.text.now (machine_of c.read_opening.new.regs c.read_pages.new.store) c.in-Ok-read_pages.found.0 z) (sym behind.1)
    (stands c.args.text.now c.read_opening.new.regs c.read_pages.new.store c.in-Ok.found.1.now c.in-Ok-read_pages.found.1.now
    c.in-Ok.found.0 c.in-Ok-read_pages.found.0 c.in-Ok.ensures.ok count c.in-Ok.ensures.len c.in-Ok-read_pages.ensures.ok)

pub returns-clause-ends : goal.returns-clause-ends
returns-clause-ends c =
    let count : c.in-Ok.found.0 ≡ page_count c.read_pages.new.store =
    zeros_count c.in_ok-store.store c.in-Ok.found.0 c.in_ok-store.ensures ∙ sym (ap (λ (n : ℕ). n / 1024) c.in-Ok-read_pages.ensures.len) in
    let behind = behind_is c.args.text.now c.read_opening.new.regs c.read_pages.new.store c.in-Ok.found.1.now c.in-Ok-read_pages.found.1.now
    c.in-Ok.found.0 c.in-Ok-read_pages.found.0 c.in-Ok.ensures.ok c.in-Ok-read_pages.ensures.ok in
    subst (λ (z : List ℕ). EndsAt c.args.text.now c.in-Ok-read_pages.found.0 z) (sym behind.1)
    (ends c.args.text.now c.read_opening.new.regs c.read_pages.new.store c.in-Ok.found.1.now c.in-Ok-read_pages.found.1.now
    c.in-Ok.found.0 c.in-Ok-read_pages.found.0 c.in-Ok.ensures.ok count c.in-Ok.ensures.size c.in-Ok.ensures.regs c.in-Ok-read_pages.ensures.ok)

pub returns-clause-read : goal.returns-clause-read
returns-clause-read c = λ m behind is cut.
    let count : c.in-Ok.found.0 ≡ page_count c.read_pages.new.store =
    zeros_count c.in_ok-store.store c.in-Ok.found.0 c.in_ok-store.ensures ∙ sym (ap (λ (n : ℕ). n / 1024) c.in-Ok-read_pages.ensures.len) in
    one_machine m c.args.text.now c.read_opening.new.regs c.read_pages.new.store c.in-Ok.found.1.now c.in-Ok-read_pages.found.1.now behind
    c.in-Ok.found.0 c.in-Ok-read_pages.found.0 is cut c.in-Ok.ensures.ok count c.in-Ok.ensures.size c.in-Ok.ensures.regs c.in-Ok-read_pages.ensures.ok

pub returns-clause-refused : goal.returns-clause-refused
returns-clause-refused c = λ at kind stop.
    let count : c.in-Ok.found.0 ≡ page_count c.read_pages.new.store =
    zeros_count c.in_ok-store.store c.in-Ok.found.0 c.in_ok-store.ensures ∙ sym (ap (λ (n : ℕ). n / 1024) c.in-Ok-read_pages.ensures.len) in
    no_fault at c.in-Ok-read_pages.found.0 c.args.text.now c.in-Ok-read_pages.found.1.now kind
    (ends c.args.text.now c.read_opening.new.regs c.read_pages.new.store c.in-Ok.found.1.now c.in-Ok-read_pages.found.1.now
    c.in-Ok.found.0 c.in-Ok-read_pages.found.0 c.in-Ok.ensures.ok count c.in-Ok.ensures.size c.in-Ok.ensures.regs c.in-Ok-read_pages.ensures.ok) stop
