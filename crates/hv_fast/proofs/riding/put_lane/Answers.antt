-- Before it nothing is noted.
use Rattle.std.proofs.Common.{◌+◌, ◌*◌, ap}
use Rattle.hv_nest.specs.Notes.{is_noted, is_exact}
use Rattle.hv_fast.proofs.riding.put_lane.Goals as goal

pub returns-clause-exact : goal.returns-clause-exact
unfolding is_exact
returns-clause-exact c =
    c.put.ensures.exact (ap (is_noted (1024 * c.args.page + c.args.word)) c.requires.fresh) (ap (is_exact c.args.store.now) c.requires.fresh)
