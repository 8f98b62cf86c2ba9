-- What the parts of `build` answer, beside what the definitions give; memory may be wanting whatever they are.
use Rattle.std.specs.Prelude.{◌≡◌, ℕ, List, Result, Ok, Err, Vec}
use Rattle.std.specs.declared.alloc.Global.{Global}
use Rattle.hv_load.specs.declared.ends.BuildKind.{BuildKind}
use Rattle.hv_load.specs.declared.parts.DirectiveEnd.{DirectiveEnd}
use Rattle.hv_load.specs.declared.parts.DirectiveEnd.TheVariants.{Fault, Memory}

-- a refusal is the one that is given
abbrev pub Refuses : {A : Type 0} → DirectiveEnd → Result A BuildKind → Type 0
Refuses (Fault why) given = given ≡ Err why
Refuses Memory given = Unit {0}

-- the value is the one that is given
abbrev pub Answers : {A : Type 0} → Result A DirectiveEnd → Result A BuildKind → Type 0
Answers (Ok x) given = given ≡ Ok x
Answers (Err end) given = Refuses end given

-- the list is the one that is given
abbrev pub AnswersList : Result (Vec ℕ Global) DirectiveEnd → Result (List ℕ) BuildKind → Type 0
AnswersList (Ok xs) given = given ≡ Ok xs.items
AnswersList (Err end) given = Refuses end given

-- x, which is there where the call succeeded, is what is given
abbrev pub Leaves : {A X : Type 0} → Result A DirectiveEnd → X → Result X BuildKind → Type 0
Leaves (Ok _) x given = given ≡ Ok x
Leaves (Err end) x given = Refuses end given

-- x is what is given where the call succeeded, and a refusal is the one that is given
abbrev pub Passes : {A X : Type 0} → Result A BuildKind → X → Result X BuildKind → Type 0
Passes (Ok _) x given = given ≡ Ok x
Passes (Err why) x given = given ≡ Err why
