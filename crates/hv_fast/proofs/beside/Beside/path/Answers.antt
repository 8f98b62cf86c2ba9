-- The machines of a pin in use are those on the running path.
use Rattle.std.proofs.Common.{◌≡◌, Some, length, refl, ◌∙◌, sym, slice_get}
use Rattle.std.proofs.lemmas.Option.{slice_get_read}
use Rattle.hv_map.proofs.Holding.{pin_right}
use Rattle.hv_fast.specs.Marked.{listed}
use Rattle.hv_fast.proofs.beside.Beside.path.Goals as goal

pub returns-then-pin : goal.returns-then-pin
returns-then-pin c = λ R at right.
    let there : slice_get c.args.self.now.pins.items c.args.hart ≡ Some c.index-pin.result.now =
    slice_get_read c.args.self.now.pins.items (length c.args.self.now.pins.items) c.args.hart c.index-pin.result.now refl c.requires.hart c.index-pin.ensures in
    let ready = right.pins c.args.hart c.args.cpu.now c.index-pin.result.now at there c.if-pin.true in
    c.copied.ensures
    ∙ ready.path
    ∙ sym (pin_right c.args.store.now c.args.cpu.now c.index-pin.result.now.chain (listed c.args.self.now.marks.tables) ready.pin).0
