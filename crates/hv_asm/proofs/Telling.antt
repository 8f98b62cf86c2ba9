-- The words of lines, one line more at a time.
use Rattle.std.proofs.Common.{◌≡◌, ℕ, ◌+◌, false, cond, List, [], ◌∷◌, ◌++◌, length, Option, Result, Ok, Err, refl, sym, ap, ◌∙◌, append_assoc, append-nil}
use Rattle.std.proofs.lemmas.List.{nil_from_length}
use Rattle.hv_lex.specs.Lines.{lines_of, cut_of}
use Rattle.hv_asm.specs.Assembly.{words_from, line_words, in_front, and_then, is_refused, repeats, worked_words}
use Rattle.hv_asm.specs.Answer.{AppendsLine, Refuses, ended}
use Rattle.hv_asm.specs.Emitted.{Appends, with_front}
use Rattle.hv_asm.specs.declared.emits.EmitEnd.{EmitEnd}
use Rattle.hv_asm.specs.declared.emits.EmitEnd.TheVariants as lined
use Rattle.hv_asm.specs.Operands.{Reading, Nothing, read_of, size_of}
use Rattle.hv_asm.specs.declared.AsmEnd.{AsmEnd}
use Rattle.hv_asm.specs.declared.AsmEnd.TheVariants.{AsmFault, Memory}
use Rattle.hv_asm.specs.declared.AsmKind.{AsmKind}
use Rattle.hv_asm.specs.declared.AsmKind.TheVariants as fault
use Rattle.hv_asm.specs.declared.labels.Place.{Place}

abbrev pub Answer : Type 0
Answer = Result (List ℕ) (ℕ × AsmKind)

fronts : (old ws new : List ℕ) (r : Answer) → new ≡ old ++ ws → in_front old (in_front ws r) ≡ in_front new r
fronts old ws new (Ok xs) is = let e : old ++ (ws ++ xs) ≡ new ++ xs = rw (is, append_assoc) refl in ap (λ (l : List ℕ). let r : Answer = Ok l in r) e
fronts old ws new (Err e) is = refl

fronted : (old new : List ℕ) (n : ℕ) (r : Result (List ℕ) AsmKind) (behind : Answer) → with_front old r ≡ Ok new → in_front old (and_then n r behind) ≡ in_front new behind
fronted old new n (Ok ws) behind is = let e : new ≡ old ++ ws = cc in fronts old ws new behind e
fronted old new n (Err k) behind is = cc

stopped : (old : List ℕ) (n : ℕ) (r : Result (List ℕ) AsmKind) (behind : Answer) (k : AsmKind) → r ≡ Err k → in_front old (and_then n r behind) ≡ Err (n, k)
stopped old n r behind k is = ap (λ r. in_front old (and_then n r behind)) is

module _ (find : List ℕ → Option Place) (base n at size : ℕ) (line s behind : List ℕ) (r : Reading) (cut : lines_of s ≡ line ∷ lines_of behind) (reads : r ≡ read_of line) (sized : size ≡ size_of r.deed) where
  next : words_from find base n at (lines_of s) ≡ and_then n (line_words find base n at line r) (words_from find base (n + 1) (at + size) (lines_of behind))
  unfolding words_from
  next =
      ap (words_from find base n at) cut
      ∙ ap (λ (r : Reading). and_then n (line_words find base n at line r) (words_from find base (n + 1) (at + size_of r.deed) (lines_of behind))) (sym reads)
      ∙ ap (λ z. and_then n (line_words find base n at line r) (words_from find base (n + 1) (at + z) (lines_of behind))) (sym sized)

  pub told_more : (old new : List ℕ) (all : Answer) → with_front old (line_words find base n at line r) ≡ Ok new → in_front old (words_from find base n at (lines_of s)) ≡ all → in_front new (words_from find base (n + 1) (at + size) (lines_of behind)) ≡ all
  told_more old new all is told = sym (fronted old new n _ _ is) ∙ ap (in_front old) (sym next) ∙ told

  pub told_stop : (old : List ℕ) (all : Answer) (k : AsmKind) → line_words find base n at line r ≡ Err k → in_front old (words_from find base n at (lines_of s)) ≡ all → all ≡ Err (n, k)
  told_stop old all k is told = sym told ∙ ap (in_front old) next ∙ stopped old n _ _ k is

  pub told_ended : (old new : List ℕ) (all : Answer) (e : EmitEnd) → Appends {A = Unit {0}} (Err e) (line_words find base n at line r) old new → in_front old (words_from find base n at (lines_of s)) ≡ all → Refuses (ended e n) all
  told_ended old new all (lined.Fault k) is told = told_stop old all k is told
  told_ended old new all lined.Memory is told = tt

  pub told_refused : (old new : List ℕ) (all : Answer) (end : AsmEnd) → AppendsLine (Err end) n (line_words find base n at line r) old new → in_front old (words_from find base n at (lines_of s)) ≡ all → Refuses end all
  told_refused old new all (AsmFault number kind) is told = told_stop old all kind is.1 told ∙ ap (λ (n : ℕ). let e : Answer = Err (n, kind) in e) (sym is.0)
  told_refused old new all Memory is told = tt

pub line_ended : (n : ℕ) (words : Result (List ℕ) AsmKind) (old new : List ℕ) (end : EmitEnd) → Appends {A = Unit {0}} (Err end) words old new → AppendsLine (Err (ended end n)) n words old new
line_ended n words old new (lined.Fault kind) is = (refl, is)
line_ended n words old new lined.Memory is = tt

-- an idle line has no words, and no size
pub idle_words : (find : List ℕ → Option Place) (base n at : ℕ) (line old : List ℕ) (r : Reading) → r.deed ≡ Nothing → repeats find n r.label ≡ false → with_front old (line_words find base n at line r) ≡ Ok old
unfolding line_words
idle_words find base n at line old r idle once =
    let none : line_words find base n at line r ≡ Ok [] =
    ap (λ d. cond (is_refused d) (worked_words find base at (at + size_of d) line d) (cond (repeats find n r.label) (Err fault.Repeat) (worked_words find base at (at + size_of d) line d))) idle
    ∙ ap (λ b. let all : Result (List ℕ) AsmKind = cond b (Err fault.Repeat) (Ok []) in all) once in
    ap (with_front old) none ∙ ap (λ (l : List ℕ). let r : Result (List ℕ) AsmKind = Ok l in r) (append-nil old)

pub idle_size : (r : Reading) → r.deed ≡ Nothing → 0 ≡ size_of r.deed
unfolding size_of
idle_size r idle = ap size_of (sym idle)

pub told_end : (find : List ℕ → Option Place) (base n at : ℕ) (s old : List ℕ) (all : Answer) → length s ≡ 0 → in_front old (words_from find base n at (lines_of s)) ≡ all → all ≡ Ok old
unfolding words_from lines_of cut_of
told_end find base n at s old all none told =
    sym told ∙ ap (λ s. in_front old (words_from find base n at (lines_of s))) (nil_from_length s none)
    ∙ ap (λ (l : List ℕ). let r : Answer = Ok l in r) (append-nil old)

pub told_none : (r : Answer) → in_front [] r ≡ r
told_none (Ok ws) = refl
told_none (Err e) = refl

-- the same labels give the same words
pub same_labels : (f g : List ℕ → Option Place) → ((q : List ℕ) → f q ≡ g q) → f ≡ g
same_labels f g same = λ i q. same q i
