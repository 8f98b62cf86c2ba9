-- The page that is added differs from those that were listed, and there was room for it.
use Rattle.std.proofs.Common.{◌≡◌, ◌<◌, length, length-set, ap, ◌∙◌, sym, arith}
use Rattle.hv_word.specs.Words.{has}
use Rattle.hv_map.specs.Gathered.{Listed, listed_limit}
use Rattle.hv_map.proofs.Lists.{distinct_set}
use Rattle.hv_map.proofs.pages.Pages.add.Goals as goal

pub invariant_of-self-2 : goal.invariant_of-self-2
invariant_of-self-2 c =
    let pages = c.self.inside.pages in
    let n = c.self.inside.len in
    let long : length pages ≡ listed_limit = c.self.invariant.1 in
    let room : n < length pages = omega (arith, c.self.invariant.0, c.if-self-eq-NOTED.false, long) in (
      omega (arith, room, long),
      length-set _ _ _ ∙ long,
      distinct_set pages n c.args.page room c.self.invariant.2 (ap (λ (p : Listed). has c.args.page p.pages) c.self.view_is ∙ sym c.contains.ensures ∙ c.if-contains.false),
      λ full. absurd (omega (arith, c.self.invariant.3 full, room, long)),
    )
