-- The path of a pin in use is the running one, and a hart that runs no machine runs the empty path.
use Rattle.std.proofs.Common.{◌≡◌, not, Some, length, refl, ap, ◌∙◌, sym, slice_get}
use Rattle.std.proofs.lemmas.Bool.{eqb-false, eqb-true}
use Rattle.std.proofs.lemmas.Option.{slice_get_read}
use Rattle.hv_map.proofs.Holding.{pin_right}
use Rattle.hv_nest.proofs.Follows.{runs_none}
use Rattle.hv_fast.specs.Marked.{listed}
use Rattle.hv_fast.proofs.Knowing.{none_long}
use Rattle.hv_fast.proofs.Riders.{none_holds}
use Rattle.hv_fast.proofs.beside.Beside.runs.Goals as goal

pub returns-then-is_none-clause-yes : goal.returns-then-is_none-clause-yes
returns-then-is_none-clause-yes c = λ yes R at right.
    let idle = none_holds c.entered.result (c.args.cpu.now.next ≡ 0) (c.is_none.ensures ∙ ap not c.if-is_none.true) c.entered.ensures.none in
    none_long c.args.path.now (sym c.len.ensures.len ∙ eqb-true c.len.result 0 yes) ∙ runs_none c.args.store.now c.args.cpu.now idle

pub returns-then-is_none-clause-no : goal.returns-then-is_none-clause-no
returns-then-is_none-clause-no c = λ no R at right runs.
    let idle = none_holds c.entered.result (c.args.cpu.now.next ≡ 0) (c.is_none.ensures ∙ ap not c.if-is_none.true) c.entered.ensures.none in
    eqb-false c.len.result 0 no (c.len.ensures.len ∙ ap length (runs ∙ sym (runs_none c.args.store.now c.args.cpu.now idle)))

pub returns-then-pin-clause-yes : goal.returns-then-pin-clause-yes
returns-then-pin-clause-yes c = λ yes R at right.
    let b = c.args.self.now in
    let there : slice_get b.pins.items c.args.hart ≡ Some c.index-pin.result.now =
    slice_get_read b.pins.items (length b.pins.items) c.args.hart c.index-pin.result.now refl c.requires.hart c.index-pin.ensures in
    let ready = right.pins c.args.hart c.args.cpu.now c.index-pin.result.now at there c.if-pin.true in
    c.is_same.ensures.yes yes
    ∙ ready.path
    ∙ sym (pin_right c.args.store.now c.args.cpu.now c.index-pin.result.now.chain (listed b.marks.tables) ready.pin).0

pub returns-then-pin-clause-no : goal.returns-then-pin-clause-no
returns-then-pin-clause-no c = λ no R at right runs.
    let b = c.args.self.now in
    let there : slice_get b.pins.items c.args.hart ≡ Some c.index-pin.result.now =
    slice_get_read b.pins.items (length b.pins.items) c.args.hart c.index-pin.result.now refl c.requires.hart c.index-pin.ensures in
    let ready = right.pins c.args.hart c.args.cpu.now c.index-pin.result.now at there c.if-pin.true in
    c.is_same.ensures.no no
    (runs
    ∙ (pin_right c.args.store.now c.args.cpu.now c.index-pin.result.now.chain (listed b.marks.tables) ready.pin).0
    ∙ sym ready.path)
