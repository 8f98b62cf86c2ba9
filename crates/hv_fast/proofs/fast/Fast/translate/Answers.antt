-- On the bare machine a slot opens the page itself; else it is found, or held.
use Rattle.std.proofs.Common.{◌≡◌, ◌↔◌, ◌<◌, ◌∙◌, false, true, List, length, Some, sym, ap, subst, arith}
use Rattle.std.proofs.lemmas.Option.{same_Some}
use Rattle.hv_map.specs.Chain.{pin_of}
use Rattle.hv_map.specs.Item.{Item}
use Rattle.hv_nest.specs.Move.{running_of}
use Rattle.hv_fast.specs.Engine.{Engine}
use Rattle.hv_fast.specs.Holds.{is_known, pages_for}
use Rattle.hv_fast.specs.declared.translations.Kept.TheVariants.{Wide}
use Rattle.hv_fast.proofs.Keeping.{some_reads}
use Rattle.hv_fast.proofs.Knowing.{bare_page, engine_runs, none_long, wide_at}
use Rattle.hv_fast.proofs.fast.Fast.translate.Goals as goal

pub returns-then-len-eq0-clause-slot : goal.returns-then-len-eq0-clause-slot
returns-then-len-eq0-clause-slot g c = λ F is.
    let runs = engine_runs c.args.self.now _ c.args.hart c.at.result.now c.path-path.result c.self.view_is c.at.ensures
    (c.path-path.ensures c.self.inside.harts c.at.ensures c.self.invariant.right) in
    let empty = runs ∙ none_long c.path-path.result (omega (arith, c.if-len-eq0.true, c.len.ensures.len)) in
    let whole = same_Some c.requires.page.0 F (sym c.requires.page.1 ∙ is) in
    let inside : c.args.page < length F = omega (arith, c.requires.page.2, ap length whole) in
    bare_page c.args.self.now.state.storage (running_of c.args.self.now.state c.args.hart) F c.args.page c.bare_slot.result empty is inside c.bare_slot.ensures

pub returns-then-len-eq0-clause-ticks : goal.returns-then-len-eq0-clause-ticks
returns-then-len-eq0-clause-ticks g c = λ items pinned. let some = some_reads items in omega (arith, some)

pub returns-clause-wide : goal.returns-clause-wide
returns-clause-wide g c =
    subst
    (λ (x : Engine).
    (items : List Item)
    → pin_of x.state.storage (running_of x.state c.args.hart) ≡ Some items
    → (c.translate.result.kept ≡ Wide)
    ↔ ((is_known x.paths x.entries (running_of x.state c.args.hart) c.args.page ≡ false)
    × ((pages_for x.state.storage items c.args.page).full ≡ true)))
    c.self.view_is
    (wide_at c.self.inside.store c.self.inside.harts c.self.inside.beside.ids c.self.inside.beside.cache.entries c.args.hart c.at.result.now
    c.path-path.result c.args.page c.translate.result.kept c.at.ensures
    (c.path-path.ensures c.self.inside.harts c.at.ensures c.self.invariant.right)
    (λ empty. let long = ap length empty in omega (arith, c.if-len-eq0.false, c.len.ensures.len, long))
    c.translate.ensures.wide)
