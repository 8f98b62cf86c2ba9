-- A child that is found is the next machine on the path, and what was read for its block is listed.
use Rattle.std.proofs.Common.{◌+◌, List, [], ◌∷◌, length, length-append, drop, get_or, ap, ◌∙◌, sym, arith}
use Rattle.hv_map.specs.Item.{Item}
use Rattle.hv_map.specs.Chain.{map_along, pin_of}
use Rattle.hv_map.specs.Found.{item_of}
use Rattle.hv_map.specs.Gathered.{pin_pages, with_pages}
use Rattle.hv_map.proofs.Listing.{pins_none, pins_more}
use Rattle.hv_map.proofs.Pins.{rest_of, rest_all, rest_goes_on, child_there}
use Rattle.hv_map.proofs.pinning.pin_noting.Goals as goal

pub loop-syllable-init : goal.loop-syllable-init
loop-syllable-init c =
    let S = c.args.store.now in
    let items = c.as_slice-syllable-items.result.now in
    record {
      level = ap length c.new-chain.ensures;
      rest =
          ap (λ (xs : List Item). rest_of S xs items) c.new-chain.ensures
          ∙ rest_all S items
          ∙ ap (pin_of S) c.as_slice-syllable-items.ensures.items;
      listed =
          pins_none c.args.tables.now S
          ∙ ap (λ (xs : List Item). with_pages c.args.tables.now (pin_pages S xs)) (sym c.new-chain.ensures);
    }

pub loop-syllable-preserved : goal.loop-syllable-preserved
loop-syllable-preserved c =
    let S = c.args.store.now in
    let chain = c.loop-syllable.chain in
    let items = c.as_slice-syllable-items.result.now in
    let i = c.loop-syllable.syllable-index in
    let s = get_or items i 0 in
    let x = item_of s c.in-Child.host c.in-Child.block in
    let there = child_there S (map_along S chain) s c.in-Child.host c.in-Child.block c.in-Child.ensures.found in
    record {
      level = ap length c.deeper-chain.ensures ∙ omega (arith, length-append chain (x ∷ []), c.loop-syllable.invariant.level);
      rest =
          ap (λ (xs : List Item). rest_of S xs (drop (i + 1) items)) c.deeper-chain.ensures
          ∙ sym (rest_goes_on S chain items i x c.loop-syllable-test.true there)
          ∙ c.loop-syllable.invariant.rest;
      listed =
          pins_more c.args.tables.now c.loop-syllable.tables c.child_noting.new.tables S chain x c.loop-syllable.invariant.listed c.child_noting.ensures.tables
          ∙ ap (λ (xs : List Item). with_pages c.args.tables.now (pin_pages S xs)) (sym c.deeper-chain.ensures);
    }
