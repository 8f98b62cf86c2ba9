use Rattle.std.proofs.Common.{take}
use Rattle.hv_run.specs.Stands.{EachNew, watches_of}
use Rattle.hv_run.proofs.moving.start_all.Given as goal

abbrev pub invariant-loop-watch : goal.invariant-loop-watch
invariant-loop-watch g l = EachNew (g.N.Nested.state l.nested) (watches_of (take l.watch-index l.watches)) l.watched.items
