-- What `assemble` answers, beside the words of the text.
use Rattle.std.specs.Prelude.{ℕ, ◌≡◌, List, Result, Ok, Err, Vec}
use Rattle.std.specs.declared.alloc.Global.{Global}
use Rattle.hv_asm.specs.Emitted.{with_front}
use Rattle.hv_asm.specs.declared.AsmEnd.{AsmEnd}
use Rattle.hv_asm.specs.declared.AsmEnd.TheVariants.{AsmFault, Memory}
use Rattle.hv_asm.specs.declared.AsmKind.{AsmKind}
use Rattle.hv_asm.specs.declared.emits.EmitEnd.{EmitEnd}
use Rattle.hv_asm.specs.declared.emits.EmitEnd.TheVariants as line
use Rattle.hv_asm.specs.declared.Image.{Image}

-- a refusal is the one that the text has; memory may be wanting whatever it has
abbrev pub Refuses : AsmEnd → Result (List ℕ) (ℕ × AsmKind) → Type 0
Refuses (AsmFault line kind) text = text ≡ Err (line, kind)
Refuses Memory text = Unit {0}

-- the words are those that the text has
abbrev pub GivesWords : Result (Vec ℕ Global) AsmEnd → Result (List ℕ) (ℕ × AsmKind) → Type 0
GivesWords (Ok words) text = text ≡ Ok words.items
GivesWords (Err end) text = Refuses end text

-- the image has the words of the text, from its base on
abbrev pub GivesImage : ℕ → Result Image AsmEnd → Result (List ℕ) (ℕ × AsmKind) → Type 0
GivesImage base (Ok image) text = (text ≡ Ok image.words) × (image.base ≡ base)
GivesImage base (Err end) text = Refuses end text

-- why a text has no words, from why a line has none
abbrev pub ended : EmitEnd → ℕ → AsmEnd
ended (line.Fault kind) number = AsmFault number kind
ended line.Memory number = Memory

-- the words of the line of this number were appended, or their fault is the answer; memory may be wanting
abbrev pub AppendsLine : Result ℕ AsmEnd → (number : ℕ) → Result (List ℕ) AsmKind → (old new : List ℕ) → Type 0
AppendsLine (Ok size) number words old new = with_front old words ≡ Ok new
AppendsLine (Err (AsmFault line kind)) number words old new = (line ≡ number) × (words ≡ Err kind)
AppendsLine (Err Memory) number words old new = Unit {0}
