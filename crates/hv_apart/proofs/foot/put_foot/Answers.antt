-- All that the machine stands on, but the word with its lines.
use Rattle.hv_nest.specs.Watched.{foot, standing_places}
use Rattle.hv_apart.proofs.Clearing.{set_joined}
use Rattle.hv_apart.proofs.foot.put_foot.Goals as goal

pub returns : goal.returns
unfolding foot
returns c = λ none.
    c.drop_lines.ensures (standing_places c.args.store.now c.args.chain.now)
    (set_joined c.args.words.now c.put_places.new.words _ none c.put_places.ensures)
