-- The next word of the page.
use Rattle.std.proofs.Common.{◌+◌, ◌*◌, ◌∷◌, []}
use Rattle.std.specs.List.{range_with_len}
use Rattle.hv_nest.specs.Watched.{places}
use Rattle.hv_apart.proofs.Joining.{joined_one, joined_more}
use Rattle.hv_apart.proofs.Feet.{places-push}
use Rattle.hv_apart.proofs.foot.put_words.Goals as goal

pub loop-k-preserved : goal.loop-k-preserved
loop-k-preserved c =
    let at = 1024 * c.in-Some.page + (c.args.from + c.loop-k.k) in
    joined_more _ _ _ (places c.in-Some.page (range_with_len c.args.from c.loop-k.k)) (at ∷ []) _ c.loop-k.invariant
    (joined_one _ _ at c.set.ensures.set)
    (places-push c.in-Some.page c.args.from c.loop-k.k)
