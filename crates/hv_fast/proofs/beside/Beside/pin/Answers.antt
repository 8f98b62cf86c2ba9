-- What was found is ready, and more is marked.
use Rattle.std.proofs.Common.{◌≡◌, true, false, refl, ap, ◌∙◌, sym, set}
use Rattle.hv_map.specs.Gathered.{Listed}
use Rattle.hv_fast.specs.declared.pin.Pin.{Pin}
use Rattle.hv_fast.proofs.Mounting.{found_ready, live_set, right_more, right_pinned}
use Rattle.hv_fast.proofs.beside.Beside.pin.Goals as goal

pub returns-then-not-mark_path-clause-right : goal.returns-then-not-mark_path-clause-right
returns-then-not-mark_path-clause-right c = λ R at right.
    right_more c.args.store.now R c.args.self.now _ c.mark_path.ensures.more refl refl refl refl refl right

pub returns-clause-right : goal.returns-clause-right
returns-clause-right c = λ R at right.
    let p : Pin = record { live = true; block = c.in-Some-last_block.block; path = c.path-path.result; chain = c.in-Some.chain; memo = c.new.result } in
    let room : c.follow.new.tables.full ≡ false = sym (ap (λ (l : Listed). l.full) c.tables.view_is) ∙ c.if-tables.false in
    right_pinned c.args.store.now R c.args.self.now _ c.args.hart c.args.cpu.now p c.mark_path.ensures.more refl refl refl refl
    (found_ready c.args.store.now c.args.cpu.now c.mark_path.new.self c.follow.new.tables c.as_slice.result.now p
    (c.in-Some.ensures.pinned room) room c.as_slice.ensures (c.if-not-mark_path.ensures.tables refl)
    c.path-path.ensures c.in-Some-last_block.ensures.block (c.if-not-mark_path.ensures.blocks refl) c.in-Some.ensures.quiet
    (c.new.ensures.right c.args.store.now c.in-Some.chain c.mark_path.new.self.tables))
    at right

pub returns-clause-live : goal.returns-clause-live
returns-clause-live c = λ _.
    let p : Pin = record { live = true; block = c.in-Some-last_block.block; path = c.path-path.result; chain = c.in-Some.chain; memo = c.new.result } in
    live_set c.args.self.now.pins.items (set c.args.self.now.pins.items c.args.hart p) c.args.hart p c.requires.hart refl refl
