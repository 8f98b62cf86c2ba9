-- The block at the end of the pin says the registers.
use Rattle.std.proofs.Common.{◌≡◌, ◌<◌, Some, length, refl, arith, slice_get}
use Rattle.std.proofs.lemmas.Option.{slice_get_read}
use Rattle.hv_fast.proofs.Mounting.{block_regs, live_at, right_mounted}
use Rattle.hv_fast.proofs.beside.Beside.mount.Goals as goal

pub returns-clause-right : goal.returns-clause-right
returns-clause-right c = λ R at right.
    let inside : c.args.hart < length c.pin.new.self.pins.items = omega (arith, c.pin.ensures.count, c.requires.hart) in
    let there : slice_get c.pin.new.self.pins.items c.args.hart ≡ Some c.index.result.now =
    slice_get_read c.pin.new.self.pins.items (length c.pin.new.self.pins.items) c.args.hart c.index.result.now refl inside c.index.ensures in
    right_mounted c.args.store.now R c.pin.new.self _ c.args.hart c.index.result.now refl refl refl refl refl there
    (live_at (slice_get c.pin.new.self.pins.items c.args.hart) c.index.result.now there (c.if-not-pin.ensures.live refl))
    (block_regs c.args.store.now c.index.result.now.block c.in-Some.found c.in-Some.ensures.block)
    (c.pin.ensures.right R at right)
