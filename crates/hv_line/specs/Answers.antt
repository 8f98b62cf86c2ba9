-- What the reading of a line answers.
use Rattle.std.specs.Prelude.{◌≡◌, Result, Ok, Err}
use Rattle.hv_line.specs.declared.kinds.JobKind.{JobKind}
use Rattle.hv_line.specs.declared.kinds.JobLineEnd.{JobLineEnd}
use Rattle.hv_line.specs.declared.kinds.JobLineEnd.TheVariants as line

-- a refusal is the one that the line has; memory may be wanting whatever it has
abbrev pub LineRefuses : {A : Type 0} → JobLineEnd → Result A JobKind → Type 0
LineRefuses (line.Fault kind) has = has ≡ Err kind
LineRefuses line.Memory has = Unit {0}

-- what is answered is what the line has
abbrev pub GivesLine : {A : Type 0} → Result A JobLineEnd → Result A JobKind → Type 0
GivesLine (Ok value) has = has ≡ Ok value
GivesLine (Err end) has = LineRefuses end has
