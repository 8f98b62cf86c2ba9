use Rattle.std.proofs.Common.{arith}
use Rattle.hv_run.proofs.Changes.{kept_short, kept_full}
use Rattle.hv_run.proofs.watched.keep_change.Goals as goal

pub returns-then-len-lt-KEPT-clause-items : goal.returns-then-len-lt-KEPT-clause-items
returns-then-len-lt-KEPT-clause-items c =
    let e = kept_short c.args.lines.now.items c.args.row (omega arith) in grind (arith, e, c.push.ensures.items)

pub returns-else-len-lt-KEPT-clause-items : goal.returns-else-len-lt-KEPT-clause-items
returns-else-len-lt-KEPT-clause-items c = kept_full c.args.lines.now.items c.args.row (omega arith) (omega arith)
