-- A child that is found is the next machine on the path.
use Rattle.std.proofs.Common.{◌+◌, List, [], ◌∷◌, length, length-append, drop, get_or, ap, ◌∙◌, sym, arith}
use Rattle.hv_map.specs.Item.{Item}
use Rattle.hv_map.specs.Chain.{map_along}
use Rattle.hv_map.specs.Found.{item_of}
use Rattle.hv_map.proofs.Pins.{rest_of, rest_goes_on, child_there}
use Rattle.hv_map.proofs.pinning.pin.Goals as goal

pub loop-syllable-preserved : goal.loop-syllable-preserved
loop-syllable-preserved c =
    let S = c.args.store.now in
    let chain = c.loop-syllable.chain in
    let items = c.as_slice-syllable-items.result.now in
    let i = c.loop-syllable.syllable-index in
    let s = get_or items i 0 in
    let x = item_of s c.in-Child.host c.in-Child.block in
    let there = child_there S (map_along S chain) s c.in-Child.host c.in-Child.block c.in-Child.ensures.found in
    record {
      level = ap length c.deeper-chain.ensures ∙ omega (arith, length-append chain (x ∷ []), c.loop-syllable.invariant.level);
      rest =
          ap (λ (xs : List Item). rest_of S xs (drop (i + 1) items)) c.deeper-chain.ensures
          ∙ sym (rest_goes_on S chain items i x c.loop-syllable-test.true there)
          ∙ c.loop-syllable.invariant.rest;
    }
