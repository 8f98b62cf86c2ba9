use Rattle.std.proofs.Common.{sym, subst, arith}
use Rattle.hv_map.specs.declared.path.Watch.{Watch}
use Rattle.hv_run.specs.Stands.{IsWatchable, watch_of}
use Rattle.hv_run.proofs.Starts.{each_at, new_more}
use Rattle.hv_run.proofs.moving.start_all.Goals as goal

pub start-requires : goal.start-requires
start-requires g c =
    let st = g.N.Nested.state c.args.nested.now in
    let ws = c.args.watches.now in
    subst (λ (w : Watch). IsWatchable st (watch_of w)) (sym c.watch-item.is)
    (each_at (IsWatchable st) ws c.loop-watch.watch-index c.watch-item.result c.requires (omega arith))

pub loop-watch-preserved : goal.loop-watch-preserved
loop-watch-preserved g c =
    new_more (g.N.Nested.state c.args.nested.now) c.args.watches.now c.loop-watch.watch-index c.watch-item.result c.loop-watch.watched.items c.push.new.self.items c.in_ok-one.one (omega arith) c.watch-item.is c.loop-watch.invariant c.in_ok-one.ensures c.in_ok-push.ensures.items
