-- An image as its lines.
use Rattle.std.proofs.Common.{◌≡◌, ℕ, suc, ◌+◌, ◌^◌, ◌<◌, Bool, true, false, not, cond, ◌||◌, List, [], ◌∷◌, ◌++◌, length, take_while, find, Some, None, Ok, Err, refl, sym, ap, ◌∙◌, arith}
use Rattle.std.specs.List.{list_any}
use Rattle.std.proofs.lemmas.List.Sums.{take_while-cons}
use Rattle.hv_asm.specs.Assembly.{asm_of}
use Rattle.hv_asm.specs.Answer.{Refuses as AsmRefuses}
use Rattle.hv_asm.specs.declared.AsmEnd.{AsmEnd}
use Rattle.hv_asm.specs.declared.AsmEnd.TheVariants as asm
use Rattle.hv_asm.proofs.Extent.{asm_within}
use Rattle.hv_asm.specs.declared.Image.{Image}
use Rattle.hv_lex.specs.Lines.{lines_of}
use Rattle.hv_line.specs.Answers.{LineRefuses}
use Rattle.hv_job.specs.Drafted.{FitsBehind, Refuses, end_at, end_inside}
use Rattle.hv_job.specs.Inside.{IsCut}
use Rattle.hv_job.specs.JobOf.{before_end, body_from, image_lines_with, image_of, image_with, image_words, is_end, directive_with}
use Rattle.hv_line.specs.Lines.{is_allowed}
use Rattle.hv_job.specs.declared.draft.Draft.{Draft}
use Rattle.hv_line.specs.declared.kinds.JobLineEnd.{JobLineEnd}
use Rattle.hv_line.specs.declared.kinds.JobLineEnd.TheVariants as lined
use Rattle.hv_line.specs.declared.kinds.JobKind.TheVariants as fault
use Rattle.hv_line.specs.declared.types.Directive.TheVariants as directive
use Rattle.hv_lex.specs.Refusing.{at_line}

none_first : (b rest : Bool) → (b || rest) ≡ false → (b ≡ false) × (rest ≡ false)
none_first true rest e = cc
none_first false rest e = (refl, e)

goes_front : (xs ys : List (List ℕ)) (last : List ℕ) → list_any is_end xs ≡ false → is_end last ≡ true → before_end (xs ++ last ∷ ys) ≡ xs
goes_front [] ys last goes ends =
    take_while-cons (λ line. not (is_end line)) last ys
    ∙ ap (λ b. cond (not b) (last ∷ take_while (λ line. not (is_end line)) ys) []) ends
goes_front (x ∷ xs) ys last goes ends =
    let n = none_first (is_end x) (list_any is_end xs) goes in
    take_while-cons (λ line. not (is_end line)) x (xs ++ last ∷ ys)
    ∙ ap (λ b. cond (not b) (x ∷ take_while (λ line. not (is_end line)) (xs ++ last ∷ ys)) []) n.0
    ∙ ap (λ ls. x ∷ ls) (goes_front xs ys last n.1 ends)

find_last : (xs ys : List (List ℕ)) (last : List ℕ) → list_any is_end xs ≡ false → is_end last ≡ true → find is_end (xs ++ last ∷ ys) ≡ Some last
find_last [] ys last goes ends = ap (λ b. cond b (Some last) (find is_end ys)) ends
find_last (x ∷ xs) ys last goes ends =
    let n = none_first (is_end x) (list_any is_end xs) goes in
    ap (λ b. cond b (Some x) (find is_end (xs ++ last ∷ ys))) n.0 ∙ find_last xs ys last n.1 ends

find_none : (xs : List (List ℕ)) → list_any is_end xs ≡ false → find is_end xs ≡ None
find_none [] goes = refl
find_none (x ∷ xs) goes =
    let n = none_first (is_end x) (list_any is_end xs) goes in
    ap (λ b. cond b (Some x) (find is_end xs)) n.0 ∙ find_none xs n.1

-- the lines inside an image were read
pub passed : (draft : Draft) (n : ℕ) (xs ys : List (List ℕ)) (last : List ℕ) → list_any is_end xs ≡ false → is_end last ≡ true → body_from draft true n (xs ++ last ∷ ys) ≡ body_from draft false (n + length xs + 1) ys
unfolding body_from
passed draft n [] ys last goes ends =
    let m : n + 1 ≡ n + 0 + 1 = omega arith in
    ap (λ b. body_from draft (not b) (n + 1) ys) ends ∙ ap (λ m. body_from draft false m ys) m
passed draft n (x ∷ xs) ys last goes ends =
    let e = none_first (is_end x) (list_any is_end xs) goes in
    let m : n + 1 + length xs + 1 ≡ n + suc (length xs) + 1 = omega arith in
    ap (λ b. body_from draft (not b) (n + 1) (xs ++ last ∷ ys)) e.0
    ∙ passed draft (n + 1) xs ys last e.1 ends ∙ ap (λ m. body_from draft false m ys) m

pub image_open : (draft : Draft) (number base : ℕ) (name : List ℕ) (lines : List (List ℕ)) → list_any is_end lines ≡ false → image_lines_with draft number name base lines ≡ Err (number, fault.Open)
unfolding image_lines_with
image_open draft number base name lines goes = ap (image_of draft number name base (before_end lines)) (find_none lines goes)

module _ (draft : Draft) (number base : ℕ) (name : List ℕ) (text inside last behind : List ℕ) (count : ℕ) (cut : IsCut text inside last behind count) where
  is : image_lines_with draft number name base (lines_of text) ≡ image_with draft number (number + 1 + count) last name base (asm_of inside base)
  unfolding image_lines_with asm_of
  is =
      ap (λ ls. image_of draft number name base (before_end ls) (find is_end ls)) cut.lines
      ∙ ap (λ ls. image_of draft number name base ls (find is_end (lines_of inside ++ last ∷ lines_of behind))) (goes_front (lines_of inside) (lines_of behind) last cut.goes_on cut.ends)
      ∙ ap (image_of draft number name base (lines_of inside)) (find_last (lines_of inside) (lines_of behind) last cut.goes_on cut.ends)
      ∙ ap (λ n. image_with draft number (number + 1 + n) last name base (image_words base (lines_of inside))) (sym cut.counted)

  pub image_refused : (end : AsmEnd) → AsmRefuses end (asm_of inside base) → Refuses (end_inside end number) (image_lines_with draft number name base (lines_of text))
  image_refused (asm.AsmFault inner kind) e = is ∙ ap (image_with draft number (number + 1 + count) last name base) e
  image_refused asm.Memory e = tt

  ok : (image : Image) → asm_of inside base ≡ Ok image.words → image.base ≡ base → (b : Bool) → is_allowed last ≡ b → image_lines_with draft number name base (lines_of text) ≡ at_line (number + 1 + count) (cond b (directive_with draft number (directive.Image name image)) (Err fault.Byte))
  ok image e based b allowed =
      is ∙ ap (image_with draft number (number + 1 + count) last name base) e
      ∙ ap (λ (a : ℕ). at_line (number + 1 + count) (cond (is_allowed last) (directive_with draft number (directive.Image name (record { base = a; words = image.words }))) (Err fault.Byte))) (sym based)
      ∙ ap (λ b. at_line (number + 1 + count) (cond b (directive_with draft number (directive.Image name image)) (Err fault.Byte))) allowed

  pub image_byte : (image : Image) → asm_of inside base ≡ Ok image.words → image.base ≡ base → is_allowed last ≡ false → image_lines_with draft number name base (lines_of text) ≡ Err (number + 1 + count, fault.Byte)
  image_byte image e based no_byte = ok image e based false no_byte

  pub image_placed : (image : Image) (new : Draft) → asm_of inside base ≡ Ok image.words → image.base ≡ base → is_allowed last ≡ true → directive_with draft number (directive.Image name image) ≡ Ok new → image_lines_with draft number name base (lines_of text) ≡ Ok new
  image_placed image new e based allowed made = ok image e based true allowed ∙ ap (at_line (number + 1 + count)) made

  pub image_many : (image : Image) (end : JobLineEnd) → asm_of inside base ≡ Ok image.words → image.base ≡ base → is_allowed last ≡ true → LineRefuses end (directive_with draft number (directive.Image name image)) → Refuses (end_at end (number + 1 + count)) (image_lines_with draft number name base (lines_of text))
  image_many image (lined.Fault kind) e based allowed made = ok image e based true allowed ∙ ap (at_line (number + 1 + count)) made
  image_many image lined.Memory e based allowed made = tt

  pub image_rest : (new : Draft) (next : ℕ) → next ≡ number + 1 + count + 1 → body_from new true (number + 1) (lines_of text) ≡ body_from new false next (lines_of behind)
  image_rest new next is_next =
      ap (body_from new true (number + 1)) cut.lines
      ∙ passed new (number + 1) (lines_of inside) (lines_of behind) last cut.goes_on cut.ends
      ∙ ap (λ n. body_from new false (number + 1 + n + 1) (lines_of behind)) (sym cut.counted)
      ∙ ap (λ n. body_from new false n (lines_of behind)) (sym is_next)

pub refused_fits : (number base : ℕ) (text inside last behind : List ℕ) (count : ℕ) → IsCut text inside last behind count → number + length text + 1 < 2 ^ 32 → (end : AsmEnd) → AsmRefuses end (asm_of inside base) → FitsBehind end number
refused_fits number base text inside last behind count cut fits (asm.AsmFault inner kind) e =
    omega (arith, asm_within inside base inner kind e, cut.counted, cut.size)
refused_fits number base text inside last behind count cut fits asm.Memory e = tt
