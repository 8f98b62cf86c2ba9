use Rattle.std.proofs.Common.{◌∙◌, ap, rules, sym}
use Rattle.std.proofs.lemmas.List.Sorted.{IsPartitionPoint-from_clause}
use Rattle.hv_asm.specs.Definitions.{place_among}
use Rattle.hv_asm.specs.Labels.{place_in}
use Rattle.hv_asm.proofs.Sorting.{found_at, found_other, found_past, is_short, parted}
use Rattle.hv_asm.proofs.labels.Labels.find.Goals as goal

pub returns-in_default : goal.returns-in_default
unfolding place_in
returns-in_default c =
    let xs = c.args.self.now.definitions.items in
    let point = IsPartitionPoint-from_clause (is_short c.new-wanted.result) xs c.partition_point-at.result (rw c.as_slice-definitions.ensures.value at c.partition_point-at.ensures.partitioned) (parted c.new-wanted.result xs c.args.self.now.sorted) (λ a r f k. search rules) in
    let lookup = rw c.as_slice-definitions.ensures.value at c.in_default.ensures.lookup in
    found_past c.new-wanted.result xs c.partition_point-at.result c.args.self.now.sorted point lookup.3 ∙ ap (place_among xs) c.new-wanted.ensures

pub returns-then-is : goal.returns-then-is
unfolding place_in
returns-then-is c =
    let xs = c.args.self.now.definitions.items in
    let point = IsPartitionPoint-from_clause (is_short c.new-wanted.result) xs c.partition_point-at.result (rw c.as_slice-definitions.ensures.value at c.partition_point-at.ensures.partitioned) (parted c.new-wanted.result xs c.args.self.now.sorted) (λ a r f k. search rules) in
    let lookup = rw c.as_slice-definitions.ensures.value at c.in-Some.ensures.lookup in
    found_at c.new-wanted.result xs c.partition_point-at.result c.args.self.now.sorted point c.in-Some.found.now lookup.3.0 (sym (lookup.3.1 c.in-Some.found.now)) (sym c.is.ensures ∙ c.if-is.true)
    ∙ ap (place_among xs) c.new-wanted.ensures

pub returns-else-is : goal.returns-else-is
unfolding place_in
returns-else-is c =
    let xs = c.args.self.now.definitions.items in
    let point = IsPartitionPoint-from_clause (is_short c.new-wanted.result) xs c.partition_point-at.result (rw c.as_slice-definitions.ensures.value at c.partition_point-at.ensures.partitioned) (parted c.new-wanted.result xs c.args.self.now.sorted) (λ a r f k. search rules) in
    let lookup = rw c.as_slice-definitions.ensures.value at c.in-Some.ensures.lookup in
    found_other c.new-wanted.result xs c.partition_point-at.result c.args.self.now.sorted point c.in-Some.found.now lookup.3.0 (sym (lookup.3.1 c.in-Some.found.now)) (sym c.is.ensures ∙ c.if-is.false)
    ∙ ap (place_among xs) c.new-wanted.ensures
