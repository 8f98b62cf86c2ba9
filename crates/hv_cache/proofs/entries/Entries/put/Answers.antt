-- The tally has what comes and no more what goes.
use Rattle.std.proofs.Common.{◌≡◌, List, Some, None, ap}
use Rattle.lru.specs.LruCache.{displaced, lru_cache}
use Rattle.hv_cache.specs.Holding.{Entry, same}
use Rattle.hv_cache.proofs.Tallies.{covers_gone, has_room, put_first, tally_pushed, tally_put}
use Rattle.hv_cache.proofs.entries.Entries.put.Goals as goal

pub add-requires-clause-room : goal.add-requires-clause-room
add-requires-clause-room c = has_room c.self.inside.kept c.self.inside.tally c.args.kept c.len-held.ensures.valid c.self.invariant c.requires.short

pub invariant_of-self : goal.invariant_of-self
invariant_of-self c =
    let kept = c.self.inside.kept in
    let none : displaced same kept c.args.key c.args.kept ≡ None = cc (c.in-Ok-None.ensures.old, c.in-Ok-None.field-0-is) in
    rw c.in-Ok-None.ensures.entries
    (tally_put kept c.self.inside.tally c.add.new.self c.args.key c.args.kept none c.len-held.ensures.valid c.requires.short c.self.invariant c.add.ensures)

pub remove-requires : goal.remove-requires
remove-requires c =
    let kept = c.self.inside.kept in
    let one : displaced same kept c.args.key c.args.kept ≡ Some (c.in-Ok-Some.field-0-0-0, c.in-Ok-Some.gone) = cc (c.in-Ok-Some.ensures.old, c.in-Ok-Some.field-0-is) in
    covers_gone kept c.self.inside.tally c.add.new.self c.args.key c.args.kept (c.in-Ok-Some.field-0-0-0, c.in-Ok-Some.gone) one c.len-held.ensures.valid c.self.invariant c.add.ensures

pub invariant_of-self-in-Ok-Some : goal.invariant_of-self-in-Ok-Some
invariant_of-self-in-Ok-Some c =
    let kept = c.self.inside.kept in
    let one : displaced same kept c.args.key c.args.kept ≡ Some (c.in-Ok-Some.field-0-0-0, c.in-Ok-Some.gone) = cc (c.in-Ok-Some.ensures.old, c.in-Ok-Some.field-0-is) in
    rw c.in-Ok-Some.ensures.entries
    (tally_pushed kept c.self.inside.tally c.add.new.self c.remove.new.self c.args.key c.args.kept (c.in-Ok-Some.field-0-0-0, c.in-Ok-Some.gone) one c.len-held.ensures.valid c.requires.short c.self.invariant c.add.ensures c.remove.ensures)

pub returns-in-Ok-None-clause-ok : goal.returns-in-Ok-None-clause-ok
returns-in-Ok-None-clause-ok c =
    rw (← c.self.view_is, c.in-Ok-None.ensures.entries)
    (ap (λ (es : List Entry). lru_cache es c.self.inside.kept.cap) (put_first c.self.inside.kept c.args.key c.args.kept c.len-held.ensures.valid))

pub returns-in-Ok-Some-clause-ok : goal.returns-in-Ok-Some-clause-ok
returns-in-Ok-Some-clause-ok c =
    rw (← c.self.view_is, c.in-Ok-Some.ensures.entries)
    (ap (λ (es : List Entry). lru_cache es c.self.inside.kept.cap) (put_first c.self.inside.kept c.args.key c.args.kept c.len-held.ensures.valid))
