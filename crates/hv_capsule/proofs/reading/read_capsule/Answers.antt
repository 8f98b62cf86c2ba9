use Rattle.std.proofs.Common.{◌≡◌, inr, List, ℕ, [], ◌++◌, drop, refl, sym, ap, ◌∙◌, subst, arith}
use Rattle.std.proofs.lemmas.List.{append-nil, drop_all}
use Rattle.hv_capsule.specs.Lines.{EndsAt}
use Rattle.hv_capsule.specs.Text.{capsule_text}
use Rattle.hv_capsule.proofs.Faults.{goes_on, least_refused, no_more}
use Rattle.hv_capsule.proofs.Same.{goes_once, not_refused}
use Rattle.hv_capsule.proofs.reading.read_capsule.Goals as goal

pub returns-in-Err-clause-least : goal.returns-in-Err-clause-least
returns-in-Err-clause-least c = λ at kind h. least_refused c.args.bytes.now c.in-Err.end at kind c.in-Err.ensures.err h

pub returns-then-size-bytes-clause-want : goal.returns-then-size-bytes-clause-want
returns-then-size-bytes-clause-want c = λ m is cut.
    absurd (no_more c.args.bytes.now (drop c.in-Ok.front.size c.args.bytes.now) c.in-Ok.front.lines m is cut c.in-Ok.ensures.ends
    (goes_on c.in-Ok.front.size c.args.bytes.now c.if-size-bytes.true))

pub returns-then-size-bytes-clause-err : goal.returns-then-size-bytes-clause-err
returns-then-size-bytes-clause-err c =
    rw c.fault.ensures
    (inr (
      c.in-Ok.front.lines,
      drop c.in-Ok.front.size c.args.bytes.now,
      c.in-Ok.ensures.ends,
      goes_on c.in-Ok.front.size c.args.bytes.now c.if-size-bytes.true,
      refl,
    ))

pub returns-then-size-bytes-clause-least : goal.returns-then-size-bytes-clause-least
returns-then-size-bytes-clause-least c = λ at kind h.
    rw c.fault.ensures
    (goes_once c.in-Ok.front.lines at c.args.bytes.now (drop c.in-Ok.front.size c.args.bytes.now) kind c.in-Ok.ensures.ends h
    (goes_on c.in-Ok.front.size c.args.bytes.now c.if-size-bytes.true))

pub returns-clause-ok : goal.returns-clause-ok
returns-clause-ok c =
    let nothing : drop c.in-Ok.front.size c.args.bytes.now ≡ [] =
    drop_all c.in-Ok.front.size c.args.bytes.now (omega (arith, c.if-size-bytes.false)) in
    c.in-Ok.ensures.ok.parts ∙ ap (λ (z : List ℕ). capsule_text c.in-Ok.front.capsule ++ z) nothing
    ∙ append-nil (capsule_text c.in-Ok.front.capsule)

pub returns-clause-read : goal.returns-clause-read
returns-clause-read c = λ m is cut. c.in-Ok.ensures.read m [] is (cut ∙ sym (append-nil (capsule_text m)))

pub returns-clause-refused : goal.returns-clause-refused
returns-clause-refused c = λ at kind h.
    let nothing : drop c.in-Ok.front.size c.args.bytes.now ≡ [] =
    drop_all c.in-Ok.front.size c.args.bytes.now (omega (arith, c.if-size-bytes.false)) in
    not_refused at c.in-Ok.front.lines c.args.bytes.now kind
    (subst (λ (z : List ℕ). EndsAt c.args.bytes.now c.in-Ok.front.lines z) nothing c.in-Ok.ensures.ends) h
