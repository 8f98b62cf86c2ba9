-- What is marked is below the limit, and each of its kinds becomes 0.
use Rattle.std.proofs.Common.{◌≡◌, ◌++◌, drop, length, take, ap, ◌∙◌, sym, arith}
use Rattle.std.proofs.lemmas.List.{take_at}
use Rattle.hv_limits.specs.Limits.{pages_limit}
use Rattle.hv_fast.proofs.Erasing.{erased, still_inside}
use Rattle.hv_fast.proofs.Putting.{blocks_inside, tables_inside}
use Rattle.hv_fast.proofs.marks.Marks.clear.Goals as goal

pub erase-requires : goal.erase-requires
erase-requires c =
    let m = c.self.inside in
    still_inside (length m.kinds.items) m.tables.items c.deref.result.now (length c.deref_mut.result.now)
    (tables_inside m.kinds.items m.tables.items m.blocks.items c.self.invariant.0)
    (ap length c.deref_mut.ensures.value) c.deref.ensures.value

pub erase-requires-2 : goal.erase-requires-2
erase-requires-2 c =
    let m = c.self.inside in
    still_inside (length m.kinds.items) m.blocks.items c.deref-2.result.now (length c.deref_mut-2.result.now)
    (blocks_inside m.kinds.items m.tables.items m.blocks.items c.self.invariant.0)
    (c.deref_mut-2.ensures.len ∙ sym c.deref_mut.ensures.len ∙ ap length c.deref_mut.ensures.value) c.deref-2.ensures.value

pub invariant_of-self : goal.invariant_of-self
invariant_of-self c =
    let m = c.self.inside in
    let n = m.kinds.len in
    let first = c.erase.new.kinds in
    let second = c.erase-2.new.kinds in
    let long1 : length first ≡ n = omega (arith, c.erase.auto.kinds, c.deref_mut.ensures.len) in
    let long2 : length second ≡ n = omega (arith, c.erase-2.auto.kinds, c.deref_mut-2.ensures.len) in
    let back1 : take n (first ++ drop (length first) m.kinds.items) ≡ first = take_at _ _ n long1 in
    let back2 : take n (second ++ drop (length second) (take n (first ++ drop (length first) m.kinds.items))) ≡ second = take_at _ _ n long2 in
    let long : length second ≡ pages_limit = long2 ∙ sym c.deref_mut.ensures.len ∙ ap length c.deref_mut.ensures.value ∙ c.self.invariant.0.long in
    rw (back2, c.clear.ensures.items, c.clear-2.ensures.items) (
      erased m.kinds.items m.tables.items m.blocks.items c.deref_mut.result.now c.deref.result.now first c.deref_mut-2.result.now c.deref-2.result.now second c.self.invariant.0
          c.deref_mut.ensures.value c.deref.ensures.value c.erase.ensures
          (c.deref_mut-2.ensures.value ∙ back1) c.deref-2.ensures.value c.erase-2.ensures long,
      omega (arith, c.self.invariant.1, c.clear.ensures.capacity),
      omega (arith, c.self.invariant.2, c.clear-2.ensures.capacity),
    )
