use Rattle.std.proofs.Common.{◌≡◌, true, false, ◌∙◌, sym, subst}
use Rattle.std.specs.List.{AllByRecursion}
use Rattle.hv_cache.specs.Holding.{Holding}
use Rattle.hv_fast.specs.Beside.{IsSpared}
use Rattle.hv_fast.proofs.Dropping.{still_unless, spared_unwatched, spared_still, spared_forgotten}
use Rattle.hv_fast.proofs.beside.forget.Goals as goal
use Rattle.hv_fast.proofs.beside.forget.Goals.{else-watched-via-then-watched+else-not-is_block_still, then-table_watched, else-table_watched, else-watched-via-else-watched}

pub returns-then-not-is_block_still-clause-spared : goal.returns-then-not-is_block_still-clause-spared
returns-then-not-is_block_still-clause-spared c =
    subst (λ (h : Holding). AllByRecursion (IsSpared c.args.store.now c.args.at) h.entries) (sym c.forget_page.ensures)
    (spared_forgotten c.args.store.now c.args.at c.args.cache.now.entries)

pub returns-else-watched-clause-spared : goal.returns-else-watched-clause-spared
returns-else-watched-clause-spared c =
    elim c.else-watched.branch as (λ _. AllByRecursion (IsSpared c.args.store.now c.args.at) c.args.cache.now.entries) [
      | else-watched-via-then-watched+else-not-is_block_still w ↦
          elim w.if-table_watched.branch as (λ _. AllByRecursion (IsSpared c.args.store.now c.args.at) c.args.cache.now.entries) [
            | then-table_watched v ↦
                absurd (let f : false ≡ true = sym w.if-not-is_block_still.false ∙ v.value-is ∙ v.if-table_watched.true in cc)
            | else-table_watched v ↦
                spared_still c.args.store.now c.args.at c.args.cache.now.entries (sym w.table_watched.ensures ∙ v.if-table_watched.false)
                (v.is_block_still.ensures (still_unless v.is_block_still.result (sym v.value-is ∙ w.if-not-is_block_still.false)))
          ]
      | else-watched-via-else-watched w ↦
          spared_unwatched c.args.store.now c.args.at c.args.cache.now.entries (sym c.watched.ensures ∙ w.if-watched.false)
    ]
