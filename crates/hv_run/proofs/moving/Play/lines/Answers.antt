use Rattle.std.proofs.Common.{◌++◌, ◌∷◌, [], sym, subst}
use Rattle.hv_nest.specs.Move.{LinesOf}
use Rattle.hv_run.specs.Play.{Lined, Played}
use Rattle.hv_run.specs.Stands.{StandsFor}
use Rattle.hv_run.proofs.Moves.{stands_more}
use Rattle.hv_run.proofs.Promised.{follows_bare}
use Rattle.hv_run.proofs.Tells.{tells_lines}
use Rattle.hv_run.proofs.moving.Play.lines.Goals as goal

pub returns-clause-stands : goal.returns-clause-stands
returns-clause-stands g c =
    λ start moves watches stands is.
    let old = g.N.Nested.state c.args.nested.now in
    let new = g.N.Nested.state c.lines.new.self in
    let tells = tells_lines c.args.self.now.watching old new c.args.hart c.args.mask c.lines.ensures in
    let both = stands_more c.args.self.now start old moves watches (LinesOf c.args.hart c.args.mask) new Lined c.requires.mask tt tells stands is in
    (subst (λ (p : Played). StandsFor p start (moves ++ LinesOf c.args.hart c.args.mask ∷ []) watches) (sym c.tell_lines.ensures) both.0, both.1)

pub returns-clause-guests : goal.returns-clause-guests
returns-clause-guests g c =
    follows_bare c.args.self.now (g.N.Nested.state c.args.nested.now) _ _ (LinesOf c.args.hart c.args.mask ∷ []) (returns-clause-stands g c)
