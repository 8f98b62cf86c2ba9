use Rattle.std.proofs.Common.{rules}
use Rattle.std.proofs.lemmas.List.Sorted.{answers_always, ranks_by}
use Rattle.hv_asm.specs.Labels.{place_in}
use Rattle.hv_asm.specs.declared.labels.Definition.{Definition}
use Rattle.hv_asm.proofs.Sorting.{goes_before, name_total, same_places, sorted_found}
use Rattle.hv_asm.proofs.labels.Labels.new.Goals as goal

pub invariant_of-result : goal.invariant_of-result
invariant_of-result c = record {
  sorted =
      c.in_ok-sort_by.ensures.sorted goes_before (ranks_by name_total (λ (d : Definition). d.name)) (answers_always _ _ _ (λ f a r g h. search rules));
}

pub returns-clause-places : goal.returns-clause-places
unfolding place_in
returns-clause-places c = λ q.
    same_places c.args.definitions.items c.sort_by.new.self.items q
    (c.sort_by.ensures.stable goes_before (ranks_by name_total (λ (d : Definition). d.name)) (answers_always _ _ _ (λ f a r g h. search rules)))

pub returns-clause-distinct : goal.returns-clause-distinct
unfolding place_in
returns-clause-distinct c = λ distinct.
    sorted_found c.args.definitions.items c.sort_by.new.self.items c.is_sorted_by-distinct.result c.sort_by.ensures.permutation
    (c.in_ok-sort_by.ensures.sorted goes_before (ranks_by name_total (λ (d : Definition). d.name)) (answers_always _ _ _ (λ f a r g h. search rules)))
    (rw c.as_slice.ensures.value at (c.is_sorted_by-distinct.ensures.cases goes_before (answers_always _ _ _ (λ f a r g h. search rules))))
    distinct
