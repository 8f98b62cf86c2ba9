-- The lines inside an image.
use Rattle.std.proofs.Common.{◌≡◌, ℕ, zero, suc, ◌+◌, ◌<◌, ◌≤◌, Bool, true, false, not, cond, List, [], ◌∷◌, length, map, take, find, Option, Some, None, Result, Ok, Err, refl, sym, ap, ◌∙◌, subst, arith}
use Rattle.std.proofs.lemmas.List.Sums.{take_while-cons}
use Rattle.hv_asm.specs.Assembly.{and_then, line_words, place_of, words_from}
use Rattle.hv_asm.specs.Operands.{read_of, size_of}
use Rattle.hv_asm.specs.declared.AsmKind.{AsmKind}
use Rattle.hv_job.specs.JobOf.{before_end, image_words, is_end}
use Rattle.hv_line.specs.declared.version.JobVersion.{JobVersion}
use Rattle.hv_grammar.proofs.Deeds.{domain_of}
use Rattle.hv_grammar.specs.Said.{Inner}
use Rattle.hv_grammar.specs.Texts.{GoesOn, InnerLine, InsideImage, IsAllowed}
use Rattle.hv_grammar.proofs.Steps.{goes_says}

-- where labels are
abbrev Labels : Type 0
Labels = domain_of words_from

-- a refusal is at one of the lines
stopped : (n m k : ℕ) (kind : AsmKind) (r : Result (List ℕ) AsmKind) (b : Result (List ℕ) (ℕ × AsmKind)) → and_then n r b ≡ Err (k, kind) → (b ≡ Err (k, kind) → (n + 1 ≤ k) × (k < n + 1 + m)) → (n ≤ k) × (k < n + suc m)
stopped n m k kind (Err e) b is next =
    let p : ◌≡◌ {A = ℕ × AsmKind} (n, e) (k, kind) = cc in let i : n ≡ k = ap (λ (p : ℕ × AsmKind). p.0) p in
    (omega (arith, i), omega (arith, i))
stopped n m k kind (Ok ws) (Ok vs) is next = cc
stopped n m k kind (Ok ws) (Err e) is next =
    let h = next is in let l : n + 1 ≤ k = h.0 in let u : k < n + 1 + m = h.1 in (omega (arith, l), omega (arith, u))

words_at : (labels : Labels) (base n at k : ℕ) (kind : AsmKind) (lines : List (List ℕ)) → words_from labels base n at lines ≡ Err (k, kind) → (n ≤ k) × (k < n + length lines)
unfolding words_from
words_at labels base n at k kind [] is = cc
words_at labels base n at k kind (line ∷ lines) is =
    stopped n (length lines) k kind (line_words labels base n at line (read_of line)) (words_from labels base (n + 1) (at + size_of (read_of line).deed) lines) is
    (words_at labels base (n + 1) (at + size_of (read_of line).deed) k kind lines)

pub image_at : (base k : ℕ) (kind : AsmKind) (lines : List (List ℕ)) → image_words base lines ≡ Err (k, kind) → (1 ≤ k) × (k ≤ length lines)
image_at base k kind lines is =
    let w = words_at (place_of base lines) base 1 base k kind lines is in
    let l : 1 ≤ k = w.0 in let h : k < 1 + length lines = w.1 in (omega (arith, l), omega (arith, h))

pub before_next : (line : List ℕ) (lines : List (List ℕ)) → before_end (line ∷ lines) ≡ cond (not (is_end line)) (line ∷ before_end lines) []
before_next line lines = take_while-cons (λ line. not (is_end line)) line lines

-- the lines before the end of an image stay inside it
abbrev pub Within : JobVersion → List (List ℕ) → Type 0
Within version lines = GoesOn (InsideImage version) lines (map Inner lines) (InsideImage version)

next_goes : (version : JobVersion) (j : ℕ) (line : List ℕ) (lines : List (List ℕ)) → (j ≤ length (before_end lines) → Within version (take j lines)) → (b : Bool) → is_end line ≡ b → suc j ≤ length (cond (not b) (line ∷ before_end lines) []) → Within version (take (suc j) (line ∷ lines))
next_goes version j line lines rest true is few = absurd (omega (arith, few))
next_goes version j line lines rest false is few =
    let h : suc j ≤ suc (length (before_end lines)) = few in
    (InsideImage version, InnerLine (goes_says line is), rest (omega (arith, h)))

pub inner_goes : (version : JobVersion) (j : ℕ) (lines : List (List ℕ)) → j ≤ length (before_end lines) → Within version (take j lines)
inner_goes version zero lines few = refl
inner_goes version (suc j) [] few = absurd (omega (arith, few))
inner_goes version (suc j) (line ∷ lines) few =
    next_goes version j line lines (inner_goes version j lines) (is_end line) refl
    (subst (λ ls. suc j ≤ length ls) (before_next line lines) few)

next_few : (line : List ℕ) (lines : List (List ℕ)) → length (before_end lines) ≤ length lines → (b : Bool) → length (cond b (line ∷ before_end lines) []) ≤ length (line ∷ lines)
next_few line lines few true = omega (arith, few)
next_few line lines few false = omega arith

pub before_few : (lines : List (List ℕ)) → length (before_end lines) ≤ length lines
before_few [] = omega arith
before_few (line ∷ lines) =
    subst (λ ls. length ls ≤ length (line ∷ lines)) (sym (before_next line lines)) (next_few line lines (before_few lines) (not (is_end line)))

-- an image's lines end, and the bytes of the end are allowed
pub record Ends (lines : List (List ℕ)) : Type 0 where
  pub last : List ℕ
  pub is : find is_end lines ≡ Some last
  pub allowed : IsAllowed last

pub ends_next : (line : List ℕ) (lines : List (List ℕ)) → is_end line ≡ false → Ends (line ∷ lines) → Ends lines
ends_next line lines goes ends = record {
  last = ends.last;
  is = sym (ap (λ b. cond b (Some line) (find is_end lines)) goes) ∙ ends.is;
  allowed = ends.allowed;
}

pub ends_here : (line : List ℕ) (lines : List (List ℕ)) → is_end line ≡ true → Ends (line ∷ lines) → IsAllowed line
ends_here line lines is ends =
    let e : (let o : Option (List ℕ) = Some line in o) ≡ Some ends.last =
    sym (ap (λ b. cond b (Some line) (find is_end lines)) is) ∙ ends.is
    in
    let same : line ≡ ends.last = cc in
    subst IsAllowed (sym same) ends.allowed

pub no_end : Ends [] → ⊥
no_end ends = let e : (let o : Option (List ℕ) = None in o) ≡ Some ends.last = ends.is in cc
