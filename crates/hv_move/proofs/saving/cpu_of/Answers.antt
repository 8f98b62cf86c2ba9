-- The block of the last machine is there, since the machine is.
use Rattle.std.proofs.Common.{◌≡◌, ◌∙◌, ◌<◌, IsSome, IfSome, Some, length, map, sym, subst}
use Rattle.hv_block.specs.Block.{regs_at}
use Rattle.hv_map.specs.Chain.{map_along}
use Rattle.hv_map.specs.Links.{syllable_of}
use Rattle.hv_move.proofs.Blocks.{HasBlock, has_last, pinned_block, read_pages, read_regs, read_some}
use Rattle.hv_move.proofs.saving.cpu_of.Goals as goal

pub unwrap-block-requires : goal.unwrap-block-requires
unwrap-block-requires c = subst IsSome (sym c.last_block.ensures.block) (has_last c.args.chain.now c.requires.inside)

there : (c : goal.After-read_block) → HasBlock c.args.store.now c.unwrap-block.result (length (map_along c.args.store.now c.args.chain.now))
there c =
    pinned_block c.args.store.now (map syllable_of c.args.chain.now) c.args.chain.now c.unwrap-block.result c.requires.pinned (sym c.last_block.ensures.block ∙ c.unwrap-block.ensures)

pub unwrap-requires : goal.unwrap-requires
unwrap-requires c = read_some c.args.store.now c.unwrap-block.result (length (map_along c.args.store.now c.args.chain.now)) c.read_block.result c.read_block.ensures.block (there c)

pub returns-clause-regs : goal.returns-clause-regs
returns-clause-regs c =
    let regs = read_regs c.args.store.now c.unwrap-block.result c.read_block.result c.unwrap.result c.read_block.ensures.block c.unwrap.ensures in
    subst (λ o. IfSome o (λ g. c.unwrap.result.cpu ≡ regs_at c.args.store.now g)) (sym c.unwrap-block.ensures ∙ c.last_block.ensures.block) regs

pub returns-clause-next : goal.returns-clause-next
returns-clause-next c =
    let S = c.args.store.now in
    let g = c.unwrap-block.result in
    let n = length (map_along S c.args.chain.now) in
    let has = pinned_block S (map syllable_of c.args.chain.now) c.args.chain.now g c.requires.pinned (sym c.last_block.ensures.block ∙ c.unwrap-block.ensures) in
    let pages = read_pages S g n c.read_block.result c.unwrap.result c.read_block.ensures.block c.unwrap.ensures has in
    let next : IfSome (Some c.unwrap.result) (λ b. b.cpu.next < b.pages) = subst (λ o. IfSome o (λ b. b.cpu.next < b.pages)) c.unwrap.ensures c.read_block.ensures.next in
    (λ _. subst (λ k. c.unwrap.result.cpu.next < k) pages next)
