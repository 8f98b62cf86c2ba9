-- A page that was added before is told, and no other.
use Rattle.std.proofs.Common.{sym, ◌∙◌, refl}
use Rattle.hv_apart.proofs.Adding.{added_again, added_new}
use Rattle.hv_apart.proofs.marks.Marks.add.Goals as goal

pub returns-then-set : goal.returns-then-set
returns-then-set c = added_again _ _ c.args.page (sym c.set.ensures.was ∙ c.if-set.true) c.set.ensures.set refl

pub returns-else-set : goal.returns-else-set
returns-else-set c = added_new _ _ c.args.page (sym c.set.ensures.was ∙ c.if-set.false) c.set.ensures.set refl
