-- There is an entry under the number of a path where its page is held.
use Rattle.std.proofs.Common.{◌∙◌, sym}
use Rattle.hv_fast.proofs.Keeping.{found_held, new_none}
use Rattle.hv_fast.proofs.translations.holds.Goals as goal

pub returns-in-Some : goal.returns-in-Some
returns-in-Some c =
    c.holds.ensures.holds
    ∙ found_held c.args.ids.now c.args.cache.now.entries c.in-Some.number c.args.path.now c.args.page c.in-Some.ensures.numbered c.in-Some.ensures.found

pub returns-in-None : goal.returns-in-None
returns-in-None c = sym (new_none c.args.ids.now c.args.cache.now.entries c.args.path.now c.args.page c.in-None.ensures.found)
