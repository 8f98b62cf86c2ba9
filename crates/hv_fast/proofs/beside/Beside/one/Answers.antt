-- The pin of the hart that rode last can be ridden, and all is right after the ride.
use Rattle.std.proofs.Common.{◌≡◌, ℕ, List, None, length, refl, ◌∙◌, sym, subst}
use Rattle.std.proofs.lemmas.Option.{slice_get_read}
use Rattle.hv_fast.specs.Beside.{IsRightBeside}
use Rattle.hv_fast.proofs.Filling.{no_less}
use Rattle.hv_fast.proofs.Mounting.{right_more, right_unmounted}
use Rattle.hv_fast.proofs.Riders.{can_ride, is_none, none_holds, ridden_dropped, ridden_right, ridden_step}
use Rattle.hv_fast.proofs.beside.Beside.one.Goals as goal

pub ride-requires : goal.ride-requires
ride-requires c =
    let b = c.args.self.now in
    let there = slice_get_read b.pins.items (length b.pins.items) c.args.hart c.index-pin.result.now refl c.requires.hart c.index-pin.ensures in
    let q = c.requires.right in
    let can = can_ride c.args.store.now q.0 b c.args.hart q.1 c.index-pin.result.now q.3 q.2 there c.requires.rider in
    record {
      fresh = c.clear.ensures;
      memo = can.memo;
      there = can.there;
      marked = can.marked;
      cpu = can.regs;
      next = can.next;
      pages = can.pages;
      some = can.some;
    }

pub returns-in-Refused-clause-right : goal.returns-in-Refused-clause-right
returns-in-Refused-clause-right c = λ R r at right.
    let b = c.args.self.now in
    let same = c.ride.ensures.refused c.in-Refused.is in
    subst (λ (S : List ℕ). IsRightBeside S R (record b { inner = c.ride.new.cpu; notes = c.ride.new.notes })) (sym same.0)
    (right_more c.args.store.now R b (record b { inner = c.ride.new.cpu; notes = c.ride.new.notes }) (no_less b.marks) refl refl refl refl same.1 right)

pub returns-in-Undone-clause-right : goal.returns-in-Undone-clause-right
returns-in-Undone-clause-right c = λ R r at right.
    let b = c.args.self.now in
    subst (λ (S : List ℕ). IsRightBeside S R (record b { rider = None; inner = c.ride.new.cpu; notes = c.ride.new.notes }))
    (sym (c.ride.ensures.undone c.in-Undone.is))
    (right_unmounted c.args.store.now R b (record b { rider = None; inner = c.ride.new.cpu; notes = c.ride.new.notes }) refl refl refl refl refl right)

pub returns-then-is_some-2-clause-right : goal.returns-then-is_some-2-clause-right
returns-then-is_some-2-clause-right c = λ R r at right.
    let b = c.args.self.now in
    ridden_dropped c.args.store.now c.ride.new.store R b (record b { inner = c.ride.new.cpu; notes = c.ride.new.notes }) c.drop_pins.new.self
    c.args.hart c.ride.new.cpu c.index-pin.result.now c.ride.new.notes right (c.ride.ensures.made c.in-Made.is) refl c.drop_pins.ensures

pub returns-else-is_some-2-clause-right : goal.returns-else-is_some-2-clause-right
returns-else-is_some-2-clause-right c = λ R r at right.
    let b = c.args.self.now in
    let q = c.ride.new.cpu in
    let p = c.index-pin.result.now in
    let there = slice_get_read b.pins.items (length b.pins.items) c.args.hart p refl c.requires.hart c.index-pin.ensures in
    ridden_right c.args.store.now c.ride.new.store R b (record b { inner = q; notes = c.ride.new.notes }) c.args.hart r q p c.ride.new.notes right at there
    c.requires.rider (c.ride.ensures.made c.in-Made.is)
    (none_holds c.entered.result (q.next ≡ 0) (sym c.is_some-2.ensures ∙ c.if-is_some-2.false) c.entered.ensures.none) refl

pub returns-then-is_some-2-clause-rode : goal.returns-then-is_some-2-clause-rode
returns-then-is_some-2-clause-rode c = λ rode R r at right quiet.
    let b = c.args.self.now in
    let p = c.index-pin.result.now in
    let there = slice_get_read b.pins.items (length b.pins.items) c.args.hart p refl c.requires.hart c.index-pin.ensures in
    ridden_step c.args.store.now c.ride.new.store R b c.args.hart r c.ride.new.cpu p right at there c.requires.rider quiet
    (sym c.pending.ensures.takes ∙ is_none c.pending.result (sym c.is_some.ensures ∙ c.if-is_some.false))
    (c.ride.ensures.made c.in-Made.is)

pub returns-else-is_some-2-clause-rode : goal.returns-else-is_some-2-clause-rode
returns-else-is_some-2-clause-rode c = λ rode R r at right quiet.
    let b = c.args.self.now in
    let p = c.index-pin.result.now in
    let there = slice_get_read b.pins.items (length b.pins.items) c.args.hart p refl c.requires.hart c.index-pin.ensures in
    ridden_step c.args.store.now c.ride.new.store R b c.args.hart r c.ride.new.cpu p right at there c.requires.rider quiet
    (sym c.pending.ensures.takes ∙ is_none c.pending.result (sym c.is_some.ensures ∙ c.if-is_some.false))
    (c.ride.ensures.made c.in-Made.is)
