-- The child has a number, and one syllable more.
use Rattle.std.proofs.Common.{◌≡◌, ℕ, ◌+◌, ◌∙◌, List, [], ◌∷◌, ◌++◌, length, Some, slice_get, ap}
use Rattle.std.proofs.lemmas.List.{length_push}
use Rattle.std.proofs.lemmas.Option.{get_or_from_slice_get, slice_get_within}
use Rattle.hv_vmid.specs.Paths.{path_at}
use Rattle.hv_vmid.proofs.tests.number_all.Goals as goal

deeper : (paths : List (List ℕ)) (k i : ℕ) (path : List ℕ) (s : ℕ) → slice_get paths k ≡ Some (path ++ s ∷ []) → length path ≡ i → length (path_at paths k) ≡ i + 1
deeper paths k i path s at long =
    ap length (get_or_from_slice_get paths k (path ++ s ∷ []) [] at) ∙ length_push path s ∙ ap (λ (n : ℕ). n + 1) long

pub loop-syllable-preserved : goal.loop-syllable-preserved
loop-syllable-preserved c =
    record {
      given = slice_get_within _ _ _ c.in_ok-child_id.ensures.named;
      depth = deeper c.child_id.new.self c.in_ok-child_id.field-0 _ _ _ c.in_ok-child_id.ensures.named c.loop-syllable.invariant.depth;
    }
