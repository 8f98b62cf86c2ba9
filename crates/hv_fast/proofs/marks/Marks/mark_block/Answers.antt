-- The list of pages had room for one more, and its kind says so.
use Rattle.std.proofs.Common.{arith}
use Rattle.hv_fast.proofs.Putting.{block_put}
use Rattle.hv_fast.proofs.marks.Marks.mark_block.Goals as goal

pub push-requires : goal.push-requires
push-requires c =
    let m = c.self.inside in
    let put = block_put m.kinds.items m.tables.items m.blocks.items c.args.page c.index-kind.result.now c.self.invariant.0 c.requires c.index-kind.ensures c.if-kind-eq0.true in
    omega (arith, put.room, c.self.invariant.1, c.self.invariant.2)

pub invariant_of-self : goal.invariant_of-self
invariant_of-self c =
    let m = c.self.inside in
    let put = block_put m.kinds.items m.tables.items m.blocks.items c.args.page c.index-kind.result.now c.self.invariant.0 c.requires c.index-kind.ensures c.if-kind-eq0.true in (
      rw c.push.ensures.items put.kinds,
      omega (arith, c.self.invariant.1, c.push.ensures.room),
      omega (arith, c.self.invariant.2, c.push.ensures.room),
    )
