-- Blocks and tables are counted in turn.
use Rattle.std.proofs.Common.{arith}
use Rattle.hv_cache.specs.Counting.{pages_named, tables_named}
use Rattle.hv_cache.proofs.tally.Tally.add.Goals as goal

pub add-requires-clause-room : goal.add-requires-clause-room
unfolding pages_named
add-requires-clause-room c = λ g. rw (c.blocks-2.ensures) (let room = (rw (← c.self.view_is) at c.requires.room).pages g in omega (arith, room))

pub add-requires-2-clause-inside : goal.add-requires-2-clause-inside
add-requires-2-clause-inside c = rw (c.tables.ensures, c.add.ensures.len, c.self.invariant.0) c.requires.inside.tables

pub add-requires-2-clause-room : goal.add-requires-2-clause-room
unfolding pages_named
add-requires-2-clause-room c = λ g.
    rw c.tables.ensures
    (let room = (rw (← c.self.view_is) at c.requires.room).pages g in
    let more = rw c.blocks-2.ensures at (c.add.ensures.counted g) in
    omega (arith, room, more))

pub add-requires-3-clause-inside : goal.add-requires-3-clause-inside
add-requires-3-clause-inside c = rw (c.tables-2.ensures, c.self.invariant.1) c.requires.inside.tables

pub add-requires-3-clause-room : goal.add-requires-3-clause-room
unfolding tables_named
add-requires-3-clause-room c = λ g. rw c.tables-2.ensures (let room = (rw (← c.self.view_is) at c.requires.room).tables g in omega (arith, room))

pub returns : goal.returns
unfolding pages_named tables_named
returns c =
    rw (← c.self.view_is)
    (record {
      pages = λ g. let one = rw c.blocks-2.ensures at (c.add.ensures.counted g) in let two = rw c.tables.ensures at (c.add-2.ensures.counted g) in omega (arith, one, two);
      tables = λ g. rw c.tables-2.ensures at (c.add-3.ensures.counted g);
    })
