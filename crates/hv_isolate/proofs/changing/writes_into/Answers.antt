-- The next page, where it can be written and where not.
use Rattle.std.proofs.Common.{Bool, ◌||◌, ap, ◌∙◌}
use Rattle.hv_map.specs.Chain.{map_along}
use Rattle.hv_apart.specs.Marked.{is_marked}
use Rattle.hv_isolate.proofs.Meeting.{opened-more, shut-more}
use Rattle.hv_isolate.proofs.changing.writes_into.Goals as goal
use Rattle.hv_isolate.proofs.changing.writes_into.Goals.{in-Open, in_default}

pub loop-page-preserved : goal.loop-page-preserved
loop-page-preserved c =
    let p = is_marked c.args.marks.now.words in
    let F = map_along c.args.store.now c.args.chain.now in
    elim c.match-page_slot.branch [
      | in-Open w ↦
          w.found-is
          ∙ ap (λ (b : Bool). c.loop-page.found || b) w.has-found.ensures
          ∙ opened-more p F c.loop-page.page w.in-Open.host c.page_slot.result c.loop-page.found c.page_slot.ensures.slot w.in-Open.is c.loop-page.invariant
      | in_default w ↦
          w.found-is
          ∙ shut-more p F c.loop-page.page c.page_slot.result c.loop-page.found c.page_slot.ensures.slot w.in_default.not-Open c.loop-page.invariant
    ]
