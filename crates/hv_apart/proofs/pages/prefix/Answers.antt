-- The path of the first machines is the first part of the path.
use Rattle.std.proofs.Common.{IsSome, take, ◌∙◌, refl, subst, sym}
use Rattle.std.proofs.lemmas.Option.{same_Some}
use Rattle.hv_map.proofs.Machines.{pinned_first}
use Rattle.hv_apart.proofs.pages.prefix.Goals as goal

pub unwrap-requires : goal.unwrap-requires
unwrap-requires c =
    let found = pinned_first c.args.store.now c.args.chain.now c.args.level c.loop-syllable.syllable-index c.as_slice.result.now c.loop-syllable.path c.requires.pinned (c.as_slice.ensures.items ∙ c.path-whole.ensures) c.loop-syllable.invariant c.loop-syllable-test.false in
    subst IsSome (sym (c.pin.ensures ∙ found)) refl

pub returns : goal.returns
returns c =
    let found = pinned_first c.args.store.now c.args.chain.now c.args.level c.loop-syllable.syllable-index c.as_slice.result.now c.loop-syllable.path c.requires.pinned (c.as_slice.ensures.items ∙ c.path-whole.ensures) c.loop-syllable.invariant c.loop-syllable-test.false in
    same_Some c.unwrap.result (take c.args.level c.args.chain.now) (sym c.unwrap.ensures ∙ c.pin.ensures ∙ found)
