use Rattle.hv_fast.proofs.beside.Beside.after.Goals as goal

pub returns-clause-right : goal.returns-clause-right
returns-clause-right c = λ S R r right long all.
    c.spare_all.ensures.right S R c.args.hart r c.args.self.now (c.unpin.ensures.gone S R right) right long all
