use Rattle.std.proofs.Common.{◌∙◌, refl}
use Rattle.hv_asm.proofs.labels.note.Goals as goal

pub returns : goal.returns
returns c = rw c.in-Some.is (record { name = c.new-name.result; place = c.args.place }, c.in_ok-push.ensures.items, c.new-name.ensures ∙ c.text.ensures, refl)
