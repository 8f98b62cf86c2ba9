-- What is found under the number of a path is what is held of it.
use Rattle.std.proofs.Common.{◌∙◌, is_some, sym, ap, subst}
use Rattle.hv_cache.specs.Holding.{Holding, same}
use Rattle.hv_fast.specs.Beside.{EntriesAreRight, EntryIsRight}
use Rattle.hv_fast.specs.Holds.{is_held}
use Rattle.hv_fast.proofs.Keeping.{all_promoted, held_promoted, looks, new_none, slot_found}
use Rattle.hv_fast.proofs.translations.look.Goals as goal

pub returns-in_err-find-clause-some : goal.returns-in_err-find-clause-some
returns-in_err-find-clause-some c =
    ap is_some c.from_residual.ensures
    ∙ sym (new_none c.args.ids.now c.args.cache.now.entries c.args.path.now c.args.page c.in_err-find.ensures.found)

pub returns-clause-some : goal.returns-clause-some
returns-clause-some c =
    ap is_some c.look.ensures.found
    ∙ looks c.args.ids.now c.args.cache.now.entries c.in_ok-find.field-0 c.args.path.now c.args.page c.in_ok-find.ensures.numbered c.in_ok-find.ensures.found

pub returns-clause-slot : goal.returns-clause-slot
returns-clause-slot c = λ S items slot right pinned found.
    slot_found S c.args.ids.now c.args.cache.now.entries c.in_ok-find.field-0 c.args.path.now c.args.page items slot c.in_ok-find.ensures.found
    right pinned (sym c.look.ensures.found ∙ found)

pub returns-clause-right : goal.returns-clause-right
returns-clause-right c = λ S right.
    subst (EntriesAreRight S c.args.ids.now) (sym (ap (λ (h : Holding). h.entries) c.look.ensures.entries))
    (all_promoted (EntryIsRight S c.args.ids.now) (same (c.in_ok-find.field-0, c.args.page)) c.args.cache.now.entries right)

pub returns-clause-held : goal.returns-clause-held
returns-clause-held c =
    ap (λ (h : Holding). is_held c.args.ids.now h.entries c.args.path.now c.args.page) c.look.ensures.entries
    ∙ held_promoted c.args.ids.now (same (c.in_ok-find.field-0, c.args.page)) c.args.cache.now.entries c.args.path.now c.args.page
