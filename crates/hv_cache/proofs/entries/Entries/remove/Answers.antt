-- The tally has no more what goes.
use Rattle.std.proofs.Common.{◌≡◌, Some, None}
use Rattle.std.specs.Map.{lookup}
use Rattle.hv_cache.specs.Holding.{same}
use Rattle.hv_cache.proofs.Tallies.{covers_found, tally_removed, tally_same}
use Rattle.hv_cache.proofs.entries.Entries.remove.Goals as goal

pub remove-requires : goal.remove-requires
remove-requires c =
    let kept = c.self.inside.kept in
    let one : lookup (same c.args.key) kept.entries ≡ Some c.in-Some.gone = cc (c.in-Some.ensures.value) in
    covers_found (same c.args.key) kept c.self.inside.tally c.in-Some.gone one c.self.invariant

pub invariant_of-self : goal.invariant_of-self
invariant_of-self c =
    let kept = c.self.inside.kept in
    let one : lookup (same c.args.key) kept.entries ≡ Some c.in-Some.gone = cc (c.in-Some.ensures.value) in
    rw c.in-Some.ensures.entries
    (tally_removed (same c.args.key) kept c.self.inside.tally c.remove.new.self c.in-Some.gone one c.self.invariant c.remove.ensures)

pub invariant_of-self-in_default : goal.invariant_of-self-in_default
invariant_of-self-in_default c =
    let kept = c.self.inside.kept in
    let none : lookup (same c.args.key) kept.entries ≡ None = cc (c.in_default.ensures.value) in
    rw c.in_default.ensures.entries (tally_same (same c.args.key) kept c.self.inside.tally none c.self.invariant)
