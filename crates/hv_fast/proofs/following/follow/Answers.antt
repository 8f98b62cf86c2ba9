-- One machine more is found, and it can be passed by.
use Rattle.std.proofs.Common.{◌<◌, length, ◌∙◌, sym, arith}
use Rattle.hv_limits.specs.Limits.{depth_limit}
use Rattle.hv_fast.proofs.Follows.{none_found, so_far_end, so_far_more, so_far_none}
use Rattle.hv_fast.proofs.following.follow.Goals as goal

pub loop-page-init : goal.loop-page-init
loop-page-init c =
    so_far_none c.args.store.now c.args.cpu.now c.args.tables.now c.new-chain.result c.new-chain.ensures c.requires

pub loop-page-preserved : goal.loop-page-preserved
loop-page-preserved c =
    let room : length c.loop-page.chain < depth_limit = omega (arith, c.len.ensures.len, c.len.ensures.bound, c.if-len-eq-DEPTH.false) in
    so_far_more c.args.store.now c.args.cpu.now c.loop-page.regs c.loop-page.chain c.deeper-chain.result c.loop-page.tables c.child_noting.new.tables
    c.in-Some.page c.in-Child.host c.in-Child.block
    c.loop-page.invariant room c.in-Some.ensures.some.0 c.in-Some.ensures.some.1
    (none_found c.pending.result _ c.pending.ensures.takes (sym c.is_some.ensures ∙ c.if-is_some.false))
    c.in-Child.ensures.found c.child_noting.ensures.tables c.deeper-chain.ensures c.in-Child.ensures.within.3

pub returns-clause-pinned : goal.returns-clause-pinned
returns-clause-pinned c = λ room.
    so_far_end c.args.store.now c.args.cpu.now c.loop-page.regs c.loop-page.chain c.loop-page.tables c.loop-page.invariant c.in_default.ensures.none room
