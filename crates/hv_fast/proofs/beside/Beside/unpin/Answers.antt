-- A pin that isn't in use is no rider's.
use Rattle.std.proofs.Common.{length, refl}
use Rattle.std.proofs.lemmas.Option.{slice_get_read}
use Rattle.hv_fast.proofs.Resting.{unpinned_already}
use Rattle.hv_fast.proofs.beside.Beside.unpin.Goals as goal

pub returns-else-index-clause-gone : goal.returns-else-index-clause-gone
returns-else-index-clause-gone c = λ S R right.
    let b = c.args.self.now in
    unpinned_already S R b c.args.hart c.index.result.now right
    (slice_get_read b.pins.items (length b.pins.items) c.args.hart c.index.result.now refl c.requires.hart c.index.ensures) c.if-index.false
