-- A page at hand lies where the map opens it.
use Rattle.std.proofs.Common.{ℕ, Ok, Some, ap, ◌∙◌, sym}
use Rattle.hv_fast.proofs.Opening.{at_hand, got, open_inside}
use Rattle.hv_fast.proofs.riding.RidingSpace.read.Goals as goal

pub block_word-requires-clause-page : goal.block_word-requires-clause-page
block_word-requires-clause-page c =
    let v = c.args.self.now in
    open_inside v.store.now v.chain.now c.args.access c.args.page c.in-Some.host
    (at_hand v.store.now v.chain.now v.notes.now v.memo.now c.args.access c.args.page c.in-Some.host c.requires.room v.right c.in-Some.ensures.opens)

pub returns-in-Some-clause-gives : goal.returns-in-Some-clause-gives
returns-in-Some-clause-gives c =
    let v = c.args.self.now in
    ap (λ (w : ℕ). Some (Ok w)) c.block_word.ensures
    ∙ sym (
    got v.store.now v.chain.now c.args.access c.args.page c.in-Some.host c.args.word
    (at_hand v.store.now v.chain.now v.notes.now v.memo.now c.args.access c.args.page c.in-Some.host c.requires.room v.right c.in-Some.ensures.opens)
    )
