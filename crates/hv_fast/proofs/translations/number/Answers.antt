-- Where all paths keep their numbers, what was held stays; where none has one, nothing is held.
use Rattle.std.proofs.Common.{◌∙◌}
use Rattle.hv_fast.proofs.Keeping.{entries_stay, held_stays}
use Rattle.hv_fast.proofs.translations.number.Goals as goal

pub returns-in-Ok-clause-right : goal.returns-in-Ok-clause-right
returns-in-Ok-clause-right c = λ S right.
    entries_stay S c.args.ids.now c.given.new.ids c.args.cache.now.entries c.given.ensures.stay right

pub returns-in-Ok-clause-held : goal.returns-in-Ok-clause-held
returns-in-Ok-clause-held c = λ S page right none.
    held_stays S c.args.ids.now c.given.new.ids c.args.cache.now.entries c.args.path.now page c.given.ensures.stay right ∙ none

pub returns-in-Err-Memory-clause-right : goal.returns-in-Err-Memory-clause-right
returns-in-Err-Memory-clause-right c = λ S right.
    entries_stay S c.args.ids.now c.given.new.ids c.args.cache.now.entries c.given.ensures.stay right

pub returns-in-Err-Memory-clause-held : goal.returns-in-Err-Memory-clause-held
returns-in-Err-Memory-clause-held c = λ S page right none.
    held_stays S c.args.ids.now c.given.new.ids c.args.cache.now.entries c.args.path.now page c.given.ensures.stay right ∙ none
