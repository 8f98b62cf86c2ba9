use Rattle.std.proofs.Common.{◌≡◌, List, subst}
use Rattle.hv_run.proofs.Starts.{new_sound, stands_new}
use Rattle.hv_run.specs.Play.{Watching, inside_of}
use Rattle.hv_run.specs.Stands.{watches_of}
use Rattle.hv_run.proofs.moving.Play.new.Goals as goal

pub invariant_of-result : goal.invariant_of-result
invariant_of-result g c =
    let sound = new_sound (g.N.Nested.state c.args.nested.now) c.args.watches.now c.in_ok-counts.counts c.in_ok-watched.watched.items c.in_ok-rows.rows.items _ c.in_ok-counts.ensures c.in_ok-watched.ensures c.in_ok-rows.ensures.items c.in_ok-rows.ensures.exact in
    let running = c.in_ok-running.running in
    let inside = subst (λ (ws : List Watching). running.inside.items ≡ inside_of running.path ws) c.deref.ensures.value c.in_ok-running.ensures in
    (sound.0, sound.1, sound.2, sound.3, inside)

pub returns-clause-stands : goal.returns-clause-stands
returns-clause-stands g c =
    stands_new (g.N.Nested.state c.args.nested.now) _ (watches_of c.args.watches.now) c.requires.watches c.in_ok-counts.ensures c.in_ok-watched.ensures
