-- Blocks and tables are taken off in turn.
use Rattle.std.proofs.Common.{arith}
use Rattle.hv_cache.specs.Counting.{pages_named, tables_named}
use Rattle.hv_cache.proofs.tally.Tally.remove.Goals as goal

pub remove-requires : goal.remove-requires
unfolding pages_named
remove-requires c = record { counted = λ g. rw (c.blocks-2.ensures) (let all = (rw (← c.self.view_is) at c.requires).pages g in omega (arith, all)) }

pub remove-requires-2 : goal.remove-requires-2
unfolding pages_named
remove-requires-2 c = record {
  counted = λ g.
      rw c.tables.ensures
      (let all = (rw (← c.self.view_is) at c.requires).pages g in
      let less = rw c.blocks-2.ensures at (c.remove.ensures.counted g) in
      omega (arith, all, less));
}

pub remove-requires-3 : goal.remove-requires-3
unfolding tables_named
remove-requires-3 c = record { counted = λ g. rw c.tables-2.ensures (let all = (rw (← c.self.view_is) at c.requires).tables g in omega (arith, all)) }

pub returns : goal.returns
unfolding pages_named tables_named
returns c =
    rw (← c.self.view_is)
    (record {
      pages = λ g. let one = rw c.blocks-2.ensures at (c.remove.ensures.counted g) in let two = rw c.tables.ensures at (c.remove-2.ensures.counted g) in omega (arith, one, two);
      tables = λ g. let one = rw c.tables-2.ensures at (c.remove-3.ensures.counted g) in omega (arith, one);
    })
