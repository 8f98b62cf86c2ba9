use Rattle.std.proofs.Common.{◌≡◌, ◌≢◌, List, ℕ, Option, Some, None, IfSome, IfNone, sym, ap, ◌∙◌}
use Rattle.hv_isa.specs.declared.Op.{Op}
use Rattle.hv_isa.specs.Names.{name_of}
use Rattle.hv_isa.proofs.Naming.{same_name}
use Rattle.hv_isa.proofs.by_name.Goals as goal

the_one : (text : List ℕ) (o : Option Op) → IfSome o (λ op. text ≡ name_of op) → IfNone o ((op : Op) → text ≢ name_of op) → (op : Op) → text ≡ name_of op → o ≡ Some op
the_one text None f n op e = absurd (n op e)
the_one text (Some a) f n op e = ap Some (same_name a op (sym f ∙ e))

pub returns-clause-only : goal.returns-clause-only
returns-clause-only c = the_one c.args.text.now c.find_name.result c.find_name.ensures.found c.find_name.ensures.none
