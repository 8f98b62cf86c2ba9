-- The pages are all found, and what is written is the parked machine.
use Rattle.std.proofs.Common.{◌≡◌, ◌*◌, ◌∙◌, ◌<◌, ◌≤◌, IfSome, IsSome, Some, true, length, sym, subst, arith}
use Rattle.hv_limits.specs.Limits.{depth_limit}
use Rattle.hv_word.specs.Storage.{page_count}
use Rattle.hv_map.specs.Apart.{is_apart}
use Rattle.hv_map.specs.Chain.{map_along}
use Rattle.hv_map.specs.Links.{last_block}
use Rattle.hv_capsule.specs.Parked.{Parked, regs_of_words}
use Rattle.hv_move.specs.Placed.{IsPlaced}
use Rattle.hv_move.proofs.Blocks.{has_last}
use Rattle.hv_move.proofs.Standing.{differ, placed}
use Rattle.hv_move.proofs.placing.place.Goals as goal

pub unwrap-block-requires : goal.unwrap-block-requires
unwrap-block-requires c = subst IsSome (sym c.last_block.ensures.block) (has_last c.args.chain.now c.requires.inside)

pub write_pages-requires-clause-differ : goal.write_pages-requires-clause-differ
write_pages-requires-clause-differ c =
    let S = c.args.store.now in
    let items = c.args.chain.now in
    let short : length items ≤ depth_limit = omega (arith, c.len-level.ensures.len, c.len-level.ensures.bound) in
    let stands : is_apart S items ≡ true = cc (c.apart.ensures, c.if-not-apart.false) in
    let same : page_count c.capsule.inside.store ≡ length (map_along S items) = omega (arith, c.if-pages.false, c.pages.ensures.count, c.pages-2.ensures.pages) in
    differ S items c.in_ok-hosts.hosts short c.requires.pinned stands (c.in_ok-hosts.ensures.hosts) (page_count c.capsule.inside.store) same

pub returns-clause-there : goal.returns-clause-there
returns-clause-there c =
    let S = c.args.store.now in
    let items = c.args.chain.now in
    let m : Parked = record { regs = regs_of_words c.capsule.inside.regs; storage = c.capsule.inside.store } in
    let short : length items ≤ depth_limit = omega (arith, c.len-level.ensures.len, c.len-level.ensures.bound) in
    let stands : is_apart S items ≡ true = cc (c.apart.ensures, c.if-not-apart.false) in
    let same : page_count m.storage ≡ length (map_along S items) = omega (arith, c.if-pages.false, c.pages.ensures.count, c.pages-2.ensures.pages) in
    let copy : length m.storage ≡ 1024 * page_count m.storage = omega (arith, c.pages.ensures.words, c.pages.ensures.count) in
    let last : last_block items ≡ Some c.unwrap-block.result = sym c.last_block.ensures.block ∙ c.unwrap-block.ensures in
    let low : c.unwrap-block.result < page_count S = subst (λ o. IfSome o (λ g. g < page_count S)) c.unwrap-block.ensures (c.last_block.ensures.within S c.requires.pinned) in
    let there = placed S items c.in_ok-hosts.hosts short c.requires.pinned stands (c.in_ok-hosts.ensures.hosts) c.write_pages.new.store c.write_regs.new.store m c.unwrap-block.result copy same last low c.capsule.invariant.1 c.write_pages.ensures c.write_regs.ensures in
    subst (IsPlaced S c.write_regs.new.store items) c.capsule.view_is there
