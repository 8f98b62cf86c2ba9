-- Where a path has a number, so has each path on the way to it.
use Rattle.std.proofs.Common.{◌≡◌, ◌≢◌, ℕ, zero, suc, ◌+◌, ◌<◌, ◌≤◌, List, [], ◌∷◌, ◌++◌, length, get_or, take, Option, Some, None, slice_get, sym, ap, ◌∙◌, inl, inr, arith}
use Rattle.std.proofs.lemmas.Bool.{cases_eq}
use Rattle.std.proofs.lemmas.List.{length_push, take-append-le, take_all, take_more}
use Rattle.std.proofs.lemmas.Option.{slice_get_within, slice_get-get_or}
use Rattle.hv_vmid.specs.Paths.{IsNumber, path_at, parent_path, child_path, IsNew, IsNumbered}

module _ (paths : List (List ℕ)) (N : IsNumbered paths) where
  -- the path at a number has a number for its first i syllables
  HasPrefix : ℕ → List ℕ → Type 0
  HasPrefix i path = (j : ℕ) × (slice_get paths j ≡ Some (take i path))

  -- a path's first i syllables, fewer than all, are its parent's
  shorter : (k : ℕ) (path : List ℕ) (i : ℕ)
      → ((p : ℕ) (above : List ℕ) → p < k → slice_get paths p ≡ Some above → i ≤ length above → HasPrefix i above)
      → slice_get paths k ≡ Some path
      → 0 < i
      → i ≤ length path
      → i ≢ length path
      → (parent : Option ℕ) (s : ℕ)
      → IsNumber k parent
      → path ≡ child_path paths parent s
      → HasPrefix i path
  unfolding HasPrefix
  shorter k path i before at pos le d None s earlier is = absurd (omega (arith, pos, le, d, ap length is))
  shorter k path i before at pos le d (Some p) s earlier is =
      let above = path_at paths p in
      let there : p < length paths = omega (arith, earlier, slice_get_within paths k path at) in
      let within : i ≤ length above = omega (arith, le, d, ap length is, length_push above s) in
      let found = before p above earlier (slice_get-get_or paths p [] there) within in
      (found.0, found.1 ∙ ap Some (sym (ap (take i) is ∙ take-append-le i above (s ∷ []) within)))

  prefix : (m k : ℕ) (path : List ℕ) (i : ℕ) → k < m → slice_get paths k ≡ Some path → 0 < i → i ≤ length path → HasPrefix i path
  unfolding HasPrefix
  prefix zero k path i l at pos le = absurd (omega (arith, l))
  prefix (suc m) k path i l at pos le =
      let child = N.child k path at in
      elim (cases_eq i (length path)) [
        | inl e ↦ (k, at ∙ ap Some (sym (take_all i path (omega (arith, e)))))
        | inr d ↦
            shorter k path i (λ p above less is room. prefix m p above i (omega (arith, l, less)) is pos room) at pos le d child.parent child.syllable child.earlier child.is
      ]

  -- a path that goes on from one without a number has none
  pub new-below : (path : List ℕ) (i : ℕ) → i < length path → IsNew paths (take i path ++ get_or path i 0 ∷ []) → IsNew paths path
  unfolding HasPrefix
  new-below path i l new k at =
      let found = prefix (suc k) k path (i + 1) (omega arith) at (omega arith) (omega (arith, l)) in
      new found.0 (found.1 ∙ ap Some (take_more path i 0 l))

  -- the bare machine's path has no number
  pub new-empty : (path : List ℕ) → path ≡ [] → IsNew paths path
  new-empty path e k at =
      let child = N.child k path at in
      omega (arith, ap length (sym e ∙ child.is), length_push (parent_path paths child.parent) child.syllable)
