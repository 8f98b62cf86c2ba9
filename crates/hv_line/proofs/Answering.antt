-- Refusals that go on as they are.
use Rattle.std.proofs.Common.{◌≡◌, Result, Ok, Err, sym, subst}
use Rattle.std.specs.Prelude.{IsErrAnd}
use Rattle.hv_line.specs.Answers.{GivesLine, LineRefuses}
use Rattle.hv_line.specs.declared.kinds.JobKind.{JobKind}
use Rattle.hv_line.specs.declared.kinds.JobLineEnd.{JobLineEnd}
use Rattle.hv_line.specs.declared.kinds.JobLineEnd.TheVariants as line

pub gives_end : {A : Type 0} (r : Result A JobLineEnd) (end : JobLineEnd) (has : Result A JobKind) → IsErrAnd r (λ given. given ≡ end) → LineRefuses end has → GivesLine r has
gives_end (Ok value) end has is refuses = elim is [ ]
gives_end (Err given) end has is refuses = subst (λ given. LineRefuses given has) (sym is) refuses

-- a refusal of a part is one of the whole
pub refuses_whole : {A B : Type 0} (end : JobLineEnd) (part : Result A JobKind) (whole : Result B JobKind) → LineRefuses end part → ((kind : JobKind) → part ≡ Err kind → whole ≡ Err kind) → LineRefuses end whole
refuses_whole (line.Fault kind) part whole refuses f = f kind refuses
refuses_whole line.Memory part whole refuses f = tt
