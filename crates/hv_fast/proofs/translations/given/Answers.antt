-- Syllable by syllable, the path so far has the number that is kept.
use Rattle.std.proofs.Common.{◌∙◌, ℕ, List, [], ◌∷◌, ◌++◌, get_or, sym, ap, refl}
use Rattle.std.proofs.lemmas.List.{take_more}
use Rattle.std.proofs.lemmas.Option.{get_or_from_slice_get, slice_get_within}
use Rattle.hv_vmid.specs.Paths.{child_path}
use Rattle.hv_fast.proofs.Keeping.{number_ends, numbers_stay}
use Rattle.hv_fast.proofs.translations.given.Goals as goal

pub loop-syllable-preserved : goal.loop-syllable-preserved
loop-syllable-preserved c =
    let paths = c.child_id.new.self in
    let xs = c.as_slice-syllable-items.result.now in
    let at = c.in_ok-child_id.ensures.named in
    let path = child_path c.loop-syllable.ids c.loop-syllable.number (get_or xs c.loop-syllable.syllable-index 0) in
    let more = numbers_stay c.loop-syllable.ids paths path
    (λ k is. (c.in_ok-child_id.ensures.known k is).1)
    (λ new. (c.in_ok-child_id.ensures.added new refl).1) in
    record {
      number = slice_get_within paths _ _ at;
      path =
          get_or_from_slice_get paths _ _ [] at
          ∙ ap (λ (p : List ℕ). p ++ get_or xs c.loop-syllable.syllable-index 0 ∷ []) c.loop-syllable.invariant.path
          ∙ sym (take_more xs c.loop-syllable.syllable-index 0 c.loop-syllable-test.true);
      stay = λ k p is. more k p (c.loop-syllable.invariant.stay k p is);
    }

pub returns-clause-number : goal.returns-clause-number
returns-clause-number c =
    number_ends c.loop-syllable.ids c.as_slice-syllable-items.result.now c.args.path.now c.loop-syllable.syllable-index c.loop-syllable.number
    c.as_slice-syllable-items.ensures.items c.loop-syllable-test.false c.loop-syllable.invariant.number c.loop-syllable.invariant.path
