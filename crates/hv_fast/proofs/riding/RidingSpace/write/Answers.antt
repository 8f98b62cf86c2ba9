-- A page at hand lies where the map opens it.
use Rattle.hv_store.specs.declared.access.Access.TheVariants.{Write}
use Rattle.hv_fast.proofs.Opening.{at_hand, open_inside, written}
use Rattle.hv_fast.proofs.riding.RidingSpace.write.Goals as goal

pub put_lane-requires-clause-page : goal.put_lane-requires-clause-page
put_lane-requires-clause-page c =
    let v = c.args.self.now in
    open_inside v.store.now v.chain.now Write c.args.page c.in-Some.host
    (at_hand v.store.now v.chain.now v.notes.now v.memo.now Write c.args.page c.in-Some.host c.requires.room v.right c.in-Some.ensures.opens)

pub returns-in-Some-clause-gives : goal.returns-in-Some-clause-gives
returns-in-Some-clause-gives c =
    let v = c.args.self.now in
    written v.store.now c.put_lane.new.store v.chain.now c.args.page c.in-Some.host c.args.word c.args.lane c.args.value
    (at_hand v.store.now v.chain.now v.notes.now v.memo.now Write c.args.page c.in-Some.host c.requires.room v.right c.in-Some.ensures.opens)
    c.put_lane.ensures.put
