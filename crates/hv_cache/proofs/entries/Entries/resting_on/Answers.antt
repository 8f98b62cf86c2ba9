-- The key of the next entry is added where the entry rests on the page.
use Rattle.std.proofs.Common.{◌≡◌, ◌∷◌, List, length, ap, sym, ◌∙◌, arith}
use Rattle.std.specs.Map.{keys_of}
use Rattle.std.specs.List.{filter}
use Rattle.hv_cache.specs.Kept.{rests_on}
use Rattle.hv_cache.specs.Holding.{Entry}
use Rattle.hv_cache.proofs.Forgotten.{more_no, more_yes}
use Rattle.hv_cache.proofs.entries.Entries.resting_on.Goals as goal

pub loop-key-preserved : goal.loop-key-preserved
loop-key-preserved c =
    let p = λ (e : Entry). rests_on c.args.page e.1 in
    let e : Entry = (c.in-Some.key.now, c.in-Some.kept.now) in
    let step : c.loop-key.key-iterator ≡ e ∷ c.next.new.self = c.in-Some.ensures.steps in
    let less = ap (λ (es : List Entry). length es) step in
    record {
      can_next = tt;
      finite = tt;
      keys = more_no p c.loop-key.keys.items (keys_of (filter p c.args.self.now.entries)) e c.next.new.self (sym c.rests_on.ensures ∙ c.if-rests_on.false) (rw step at c.loop-key.invariant.keys);
      room = omega (arith, less, c.loop-key.invariant.room);
      wide = c.loop-key.invariant.wide;
    }

pub loop-key-preserved-in-Ok-1 : goal.loop-key-preserved-in-Ok-1
loop-key-preserved-in-Ok-1 c =
    let p = λ (e : Entry). rests_on c.args.page e.1 in
    let e : Entry = (c.in-Some.key.now, c.in-Some.kept.now) in
    let step : c.loop-key.key-iterator ≡ e ∷ c.next.new.self = c.in-Some.ensures.steps in
    let less = ap (λ (es : List Entry). length es) step in
    record {
      can_next = tt;
      finite = tt;
      keys = rw c.in-Ok.ensures.items (more_yes p c.loop-key.keys.items (keys_of (filter p c.args.self.now.entries)) e c.next.new.self (sym c.rests_on.ensures ∙ c.if-rests_on.true) (rw step at c.loop-key.invariant.keys));
      room = omega (arith, less, c.loop-key.invariant.room, c.in-Ok.ensures.len, c.in-Ok.ensures.capacity);
      wide = omega (arith, c.loop-key.invariant.wide, c.in-Ok.ensures.capacity);
    }
