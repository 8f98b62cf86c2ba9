-- Syllable by syllable, the path so far has the number that is kept.
use Rattle.std.proofs.Common.{◌≡◌, ◌∙◌, ℕ, ◌<◌, ◌≤◌, List, [], ◌∷◌, ◌++◌, length, get_or, take, Option, Some, None, slice_get, sym, ap, subst, arith, MatchOption}
use Rattle.std.proofs.lemmas.Bool.{eqb-true}
use Rattle.std.proofs.lemmas.List.{take_all, take_more}
use Rattle.std.proofs.lemmas.Option.{get_or_from_slice_get, slice_get-get_or, slice_get_within}
use Rattle.hv_vmid.specs.Paths.{IsNumber, IsNew, IsNumbered, parent_path, child_path}
use Rattle.hv_vmid.proofs.Numbering.{kept-length, kept-numbered}
use Rattle.hv_vmid.proofs.Prefixes.{new-below, new-empty}
use Rattle.hv_vmid.proofs.ids.Ids.find.Goals as goal

pub returns-then-is_empty-clause-found : goal.returns-then-is_empty-clause-found
returns-then-is_empty-clause-found c = λ k at.
    omega (
      arith,
      eqb-true _ 0 (sym c.is_empty.ensures ∙ c.if-is_empty.true),
      slice_get_within _ k _ at,
      kept-length _ _ _ c.self.invariant,
      ap length c.self.view_is,
    )

-- a child on the way that has no number
stops : (paths : List (List ℕ)) (xs path : List ℕ) (i : ℕ) (id : Option ℕ) → IsNumbered paths → xs ≡ path → i < length xs → parent_path paths id ≡ take i xs → IsNew paths (child_path paths id (get_or xs i 0)) → IsNew paths path
stops paths xs path i id N same l so_far new =
    subst (IsNew paths) same
    (new-below paths N xs i l (subst (λ (p : List ℕ). IsNew paths (p ++ get_or xs i 0 ∷ [])) so_far new))

pub returns-in_err-number-clause-found : goal.returns-in_err-number-clause-found
returns-in_err-number-clause-found c =
    let new : IsNew c.args.self.now c.args.path.now =
    stops c.args.self.now c.as_slice-syllable-items.result.now c.args.path.now c.loop-syllable.syllable-index c.loop-syllable.id
    c.number.ensures.numbered c.as_slice-syllable-items.ensures.items c.loop-syllable-test.true c.loop-syllable.invariant.path c.in_err-number.ensures.found in
    subst
    (λ (o : Option ℕ). MatchOption o (IsNew c.args.self.now c.args.path.now) (λ k. slice_get c.args.self.now k ≡ Some c.args.path.now))
    (sym c.from_residual.ensures) new

pub loop-syllable-preserved : goal.loop-syllable-preserved
loop-syllable-preserved c =
    let paths = c.args.self.now in
    let xs = c.as_slice-syllable-items.result.now in
    let at = c.in_ok-number.ensures.found in
    record {
      number = slice_get_within paths _ _ at;
      path =
          get_or_from_slice_get paths _ _ [] at
          ∙ ap (λ (p : List ℕ). p ++ get_or xs c.loop-syllable.syllable-index 0 ∷ []) c.loop-syllable.invariant.path
          ∙ sym (take_more xs c.loop-syllable.syllable-index 0 c.loop-syllable-test.true);
    }

-- at the end the path so far is the whole path
ends : (paths : List (List ℕ)) (xs path : List ℕ) (i : ℕ) (id : Option ℕ) → IsNumbered paths → xs ≡ path → length xs ≤ i → IsNumber (length paths) id → parent_path paths id ≡ take i xs → MatchOption id (IsNew paths path) (λ k. slice_get paths k ≡ Some path)
ends paths xs path i None N same l given so_far = new-empty paths N path (sym (so_far ∙ take_all i xs l ∙ same))
ends paths xs path i (Some k) N same l given so_far = slice_get-get_or paths k [] given ∙ ap Some (so_far ∙ take_all i xs l ∙ same)

pub returns-clause-found : goal.returns-clause-found
returns-clause-found c =
    ends c.args.self.now c.as_slice-syllable-items.result.now c.args.path.now c.loop-syllable.syllable-index c.loop-syllable.id
    (subst IsNumbered c.self.view_is (kept-numbered _ _ _ c.self.invariant))
    c.as_slice-syllable-items.ensures.items c.loop-syllable-test.false c.loop-syllable.invariant.number c.loop-syllable.invariant.path

-- what is kept is numbered
pub returns-clause-numbered : goal.returns-clause-numbered
returns-clause-numbered c = subst IsNumbered c.self.view_is (kept-numbered _ _ _ c.self.invariant)

pub returns-then-is_empty-clause-numbered : goal.returns-then-is_empty-clause-numbered
returns-then-is_empty-clause-numbered c = subst IsNumbered c.self.view_is (kept-numbered _ _ _ c.self.invariant)

pub returns-in_err-number-clause-numbered : goal.returns-in_err-number-clause-numbered
returns-in_err-number-clause-numbered c = subst IsNumbered c.self.view_is (kept-numbered _ _ _ c.self.invariant)
