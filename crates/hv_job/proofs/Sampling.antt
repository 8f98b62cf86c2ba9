-- Samples, as directives.
use Rattle.std.proofs.Common.{◌≡◌, ℕ, ◌+◌, ◌^◌, ◌<◌, List, length, Result, Ok, sym, ap, ◌∙◌, subst, lit<}
use Rattle.hv_asm.specs.Assembly.{asm_of}
use Rattle.hv_asm.specs.declared.Image.{Image}
use Rattle.hv_samples.specs.Samples.{sample_text}
use Rattle.hv_samples.specs.declared.choice.Sample.{Sample}
use Rattle.hv_samples.specs.declared.choice.Sample.TheVariants.{Pass, Slicer, Forward, Pager}
use Rattle.hv_job.specs.Drafted.{Makes}
use Rattle.hv_job.specs.JobOf.{directive_with, sample_with}
use Rattle.hv_job.specs.declared.draft.Draft.{Draft}
use Rattle.hv_line.specs.declared.kinds.JobLineEnd.{JobLineEnd}
use Rattle.hv_line.specs.declared.types.Directive.TheVariants as directive

pub sample_short : (which : Sample) → length (sample_text which) + 1 < 2 ^ 32
unfolding sample_text
sample_short Pass = lit< tt
sample_short Slicer = lit< tt
sample_short Forward = lit< tt
sample_short Pager = lit< tt

pub sampled : (draft new : Draft) (number at : ℕ) (name text : List ℕ) (which : Sample) (image : Image) (done : Result (Unit {0}) JobLineEnd) → text ≡ sample_text which → asm_of text at ≡ Ok image.words → image.base ≡ at → Makes done (directive_with draft number (directive.Sample name image)) new → Makes done (sample_with draft number name at (asm_of (sample_text which) at)) new
sampled draft new number at name text which image done is words base made =
    let e : asm_of (sample_text which) at ≡ Ok image.words = ap (λ t. asm_of t at) (sym is) ∙ words in
    rw e (subst (λ (b : ℕ). Makes done (directive_with draft number (directive.Sample name (record { base = b; words = image.words }))) new) base made)
