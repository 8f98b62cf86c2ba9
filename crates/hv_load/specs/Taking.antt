-- Bare pages that are given to a machine.
use Rattle.std.specs.Prelude.{◌≡◌, ℕ, if◌then◌else◌, List, Result, Ok, Err}
use Rattle.hv_load.specs.declared.ends.BuildKind.{BuildKind}
use Rattle.hv_load.specs.declared.ends.BuildKind.TheVariants as kind
use Rattle.hv_load.specs.declared.parts.Mark.{Mark}
use Rattle.hv_load.specs.declared.parts.Mark.TheVariants.{Control}
use Rattle.hv_load.specs.Making.{can_take}
use Rattle.hv_load.specs.Pages.{marked}

-- the marks after it, where they are all free and all different
abbrev pub taken_in : List Mark → List ℕ → Result (List Mark) BuildKind
taken_in marks pages = if can_take marks pages then Ok (marked Control pages marks) else Err kind.Overlap

-- the marks that are left where the call succeeded are those that are given, and a refusal is the one that is given
abbrev pub Took : {A : Type 0} → Result A BuildKind → List Mark → Result (List Mark) BuildKind → Type 0
Took (Ok _) marks given = given ≡ Ok marks
Took (Err why) marks given = given ≡ Err why
