-- Words that are appended one after another.
use Rattle.std.proofs.Common.{◌≡◌, ℕ, suc, ◌+◌, ◌<◌, ◌≤◌, List, [], ◌∷◌, ◌++◌, length, get_or, drop, Option, Result, Ok, Err, refl, sym, ap, ◌∙◌, drop-cons, add-one, append_assoc, append-nil}
use Rattle.std.proofs.Common.{replicate}
use Rattle.std.proofs.lemmas.List.{drop_all, replicate-append-replicate}
use Rattle.hv_asm.specs.Emitted.{with_front}
use Rattle.hv_asm.specs.Words.{value_at, values_of}
use Rattle.hv_asm.specs.declared.AsmKind.{AsmKind}
use Rattle.hv_asm.specs.declared.labels.Place.{Place}
use Rattle.hv_asm.specs.declared.operands.Operand.{Operand}
use Rattle.hv_lex.specs.Refusing.{◌>>=◌}

fronted_ok : (front : List ℕ) (r : Result (List ℕ) AsmKind) (w : ℕ) (new : List ℕ) → new ≡ front ++ w ∷ [] → with_front front (r >>= λ ws. Ok (w ∷ ws)) ≡ with_front new r
fronted_ok front (Ok ws) w new is = let e : front ++ (w ∷ ws) ≡ new ++ ws = rw (is, append_assoc) refl in ap (λ (l : List ℕ). let r : Result (List ℕ) AsmKind = Ok l in r) e
fronted_ok front (Err k) w new is = refl

stopped : (old : List ℕ) (r : Result (List ℕ) AsmKind) (k : AsmKind) → with_front old r ≡ Err k → r ≡ Err k
stopped old (Ok ws) k is = cc
stopped old (Err e) k is = is

module _ (find : List ℕ → Option Place) (line : List ℕ) (os : List Operand) where
  next : (i : ℕ) (d : Operand) (r : Result ℕ AsmKind) → i < length os → value_at find line (get_or os i d) ≡ r → values_of find line (drop i os) ≡ (r >>= λ w. values_of find line (drop (suc i) os) >>= λ ws. Ok (w ∷ ws))
  unfolding values_of
  next i d r lt is = ap (values_of find line) (drop-cons os i d lt) ∙ ap (λ (r : Result ℕ AsmKind). r >>= λ w. values_of find line (drop (suc i) os) >>= λ ws. Ok (w ∷ ws)) is

  pub values_more : (i : ℕ) (d : Operand) (w : ℕ) (out new : List ℕ) (all : Result (List ℕ) AsmKind) → i < length os → value_at find line (get_or os i d) ≡ Ok w → new ≡ out ++ w ∷ [] → with_front out (values_of find line (drop i os)) ≡ all → with_front new (values_of find line (drop (i + 1) os)) ≡ all
  values_more i d w out new all lt is grown told =
      rw (add-one i) (sym (fronted_ok out (values_of find line (drop (suc i) os)) w new grown) ∙ ap (with_front out) (sym (next i d (Ok w) lt is)) ∙ told)

  pub values_stop : (i : ℕ) (d : Operand) (k : AsmKind) (out old : List ℕ) → i < length os → value_at find line (get_or os i d) ≡ Err k → with_front out (values_of find line (drop i os)) ≡ with_front old (values_of find line os) → values_of find line os ≡ Err k
  values_stop i d k out old lt is told = stopped old (values_of find line os) k (sym told ∙ ap (with_front out) (next i d (Err k) lt is))

  pub values_end : (i : ℕ) (out old : List ℕ) → length os ≤ i → with_front out (values_of find line (drop i os)) ≡ with_front old (values_of find line os) → with_front old (values_of find line os) ≡ Ok out
  unfolding values_of
  values_end i out old end told =
      sym told ∙ ap (λ os. with_front out (values_of find line os)) (drop_all i os end)
      ∙ ap (λ (l : List ℕ). let r : Result (List ℕ) AsmKind = Ok l in r) (append-nil out)

pub zeros_more : (n : ℕ) (old out new : List ℕ) → out ≡ old ++ replicate n 0 → new ≡ out ++ 0 ∷ [] → new ≡ old ++ replicate (n + 1) 0
zeros_more n old out new is grown =
    grown ∙ ap (λ xs. xs ++ 0 ∷ []) is ∙ append_assoc old (replicate n 0) (0 ∷ []) ∙ ap (λ xs. old ++ xs) (replicate-append-replicate n 1 0)
