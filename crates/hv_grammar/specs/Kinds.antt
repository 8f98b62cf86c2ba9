-- A line of assembly inside an image is refused with the word that the assembler has for it.
use Rattle.std.specs.Prelude.{◌≡◌}
use Rattle.hv_asm.specs.Kinds.{asm_kind_text}
use Rattle.hv_asm.specs.declared.AsmKind.{AsmKind}
use Rattle.hv_line.specs.Kinds.{kind_word}
use Rattle.hv_job.specs.JobOf.{asm_kind}

-- the word of the kind with which a job is refused for a line of assembly is the assembler's own
abbrev pub KindWordLaw : Type 0
KindWordLaw = (kind : AsmKind) → kind_word (asm_kind kind) ≡ asm_kind_text kind
