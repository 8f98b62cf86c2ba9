use Rattle.std.proofs.Common.{ℕ, ◌++◌, List, ap, ◌∙◌, sym}
use Rattle.hv_capsule.specs.Text.{capsule_text, machine_text}
use Rattle.hv_capsule.specs.Parked.{Parked}
use Rattle.hv_capsule.proofs.Written.{spelled_words}
use Rattle.hv_capsule.proofs.writing.put_capsule.Goals as goal

pub returns : goal.returns
returns c =
    c.in_ok-put_machine.ensures
    ∙ ap (λ (text : List ℕ). c.args.out.now.items ++ text)
    (ap (λ (ws : List ℕ). machine_text ws c.capsule.inside.store) (sym (spelled_words c.capsule.inside.regs c.capsule.invariant.0))
    ∙ ap (λ (m : Parked). capsule_text m) c.capsule.view_is)
