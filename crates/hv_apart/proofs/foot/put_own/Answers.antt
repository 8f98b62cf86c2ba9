-- Words 0 to 41, 43 to 48, and 64.
use Rattle.std.proofs.Common.{◌++◌, ap, sym, ◌∙◌, refl}
use Rattle.std.specs.Option.{option_to_list}
use Rattle.hv_nest.specs.Watched.{own_places}
use Rattle.hv_apart.specs.Table.{places_in}
use Rattle.hv_apart.proofs.Joining.{joined_more}
use Rattle.hv_apart.proofs.Feet.{own-parts}
use Rattle.hv_apart.proofs.foot.put_own.Goals as goal

pub returns : goal.returns
returns c =
    let o = c.last_block-block.result in
    let first = places_in 0 42 (option_to_list o) in
    let second = places_in 43 6 (option_to_list o) in
    let third = places_in 64 1 (option_to_list o) in
    joined_more _ _ _ first (second ++ third) _ c.put_words.ensures
    (joined_more _ _ _ second third (second ++ third) c.put_words-2.ensures c.put_words-3.ensures refl)
    (ap own_places (sym c.last_block-block.ensures.block) ∙ own-parts o)
