-- The marks are those of the pages.
use Rattle.std.proofs.Common.{Bool, ◌||◌, ap₂, ◌∙◌, sym}
use Rattle.hv_map.specs.Apart.{blocks_of}
use Rattle.hv_map.specs.Chain.{map_along}
use Rattle.hv_isolate.specs.May.{foot_pages, own_pages, written_pages}
use Rattle.hv_isolate.proofs.Meeting.{any_marked}
use Rattle.hv_isolate.proofs.Staying.{untouched as stays}
use Rattle.hv_isolate.proofs.changing.may.Goals as goal

pub returns-clause-yes : goal.returns-clause-yes
returns-clause-yes c =
    let S = c.args.store.now in
    let foot = c.standing_pages-foot.result in
    let own = c.own_marks-own.result in
    ap₂ (λ (a b : Bool). a || b)
    (c.writes_into-writes.ensures ∙ any_marked foot.words (foot_pages S c.args.b.now) (written_pages (map_along S c.args.a.now)) c.standing_pages-foot.ensures.set)
    (c.has_block_in-has_block.ensures ∙ any_marked own.words (own_pages S c.args.b.now) (blocks_of c.args.a.now) c.own_marks-own.ensures.set)

pub returns-clause-untouched : goal.returns-clause-untouched
returns-clause-untouched c = λ no. stays c.args.store.now c.args.a.now c.args.b.now c.requires.first c.requires.second (sym (returns-clause-yes c) ∙ no)
