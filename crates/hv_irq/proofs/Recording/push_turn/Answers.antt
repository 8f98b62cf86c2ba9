use Rattle.hv_irq.proofs.Refusals.{alone, nothing, turned}
use Rattle.hv_irq.proofs.Recording.push_turn.Goals as goal

pub returns-then-count-eq0-clause-refused : goal.returns-then-count-eq0-clause-refused
returns-then-count-eq0-clause-refused c = rw c.if-count-eq0.true (rw (nothing c.args.self.now) tt)

pub returns-clause-refused : goal.returns-clause-refused
returns-clause-refused c =
    rw (turned c.args.hart c.args.count c.if-count-eq0.false) (rw (alone c.args.self.now _) c.push.ensures.refused)
