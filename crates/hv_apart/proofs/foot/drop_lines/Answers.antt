-- Without a block there is no such word; else it is cleared.
use Rattle.std.proofs.Common.{ℕ, ◌+◌, ◌*◌, Option, subst}
use Rattle.hv_nest.specs.Watched.{but_lines}
use Rattle.hv_apart.specs.Marked.{SetOf}
use Rattle.hv_apart.proofs.Clearing.{set_cleared}
use Rattle.hv_apart.proofs.foot.drop_lines.Goals as goal

pub returns : goal.returns
returns c = λ xs marks.
    subst (λ (o : Option ℕ). SetOf c.clear.new.words (but_lines o xs)) c.in-Some.ensures.block
    (set_cleared c.args.words.now c.clear.new.words xs (1024 * c.in-Some.block + 42) c.clear.ensures.cleared marks)
