-- Each look-up adds what is read for it.
use Rattle.std.proofs.Common.{◌≡◌, ◌+◌, ◌-◌, ◌≤◌, ◌==◌, ℕ, List, length, ap, ◌∙◌, sym, arith}
use Rattle.std.proofs.lemmas.Bool.{ne_eqb}
use Rattle.hv_map.specs.Item.{Item}
use Rattle.hv_map.specs.Levels.{map_at}
use Rattle.hv_map.specs.Gathered.{Listed, Gathered, gathered_at, pages_read, with_pages}
use Rattle.hv_map.proofs.Listing.{lists_bare, lists_child, lists_past, lists_outside, lists_shut, lists_word, lists_no_directory, lists_no_table, lists_table, lists_no_target, lists_target}
use Rattle.hv_map.proofs.gathering.+gathering.Goals as goal

moved : (p q : Listed) (N : List Gathered) (u w : ℕ) → u ≡ w → q ≡ with_pages p (pages_read N u) → q ≡ with_pages p (pages_read N w)
moved p q N u w e l = l ∙ ap (λ (v : ℕ). with_pages p (pages_read N v)) e

pub gather_at-returns-then-level-eq0-clause-tables : goal.gather_at-returns-then-level-eq0-clause-tables
gather_at-returns-then-level-eq0-clause-tables g t c =
    lists_bare c.args.store.now c.args.chain.now c.args.level c.args.tables.now c.args.page c.if-level-eq0.true

pub gather_at-returns-clause-tables : goal.gather_at-returns-clause-tables
gather_at-returns-clause-tables g t c =
    let deeper : c.args.level ≡ c.args.level - 1 + 1 = omega arith in
    lists_child c.args.store.now c.args.chain.now (c.args.level - 1) c.args.tables.now _ c.args.level c.args.page c.link.result c.link.ensures.item deeper c.requires.page c.gather_child.ensures.tables

pub gather_child-returns-in-Err-clause-tables : goal.gather_child-returns-in-Err-clause-tables
gather_child-returns-in-Err-clause-tables g t c =
    lists_no_target c.args.store.now c.args.chain.now c.args.level c.args.tables.now _ c.args.child c.args.page c.in-Err.way c.in-Err.ensures.entry c.in-Err.ensures.tables

pub gather_child-returns-in-None-clause-tables : goal.gather_child-returns-in-None-clause-tables
gather_child-returns-in-None-clause-tables g t c =
    let N = gathered_at c.args.store.now c.args.chain.now c.args.level in
    lists_target c.args.store.now c.args.chain.now c.args.level c.args.tables.now c.gather_entry.new.tables _ c.args.child c.args.page c.in-Ok.entry c.in-Ok.ensures.entry c.in-Ok.ensures.tables
    (moved c.gather_entry.new.tables _ N _ _ (c.from.ensures ∙ c.field.ensures) c.gather_page.ensures.tables)

pub gather_child-returns-in-Some-clause-tables : goal.gather_child-returns-in-Some-clause-tables
gather_child-returns-in-Some-clause-tables g t c =
    let N = gathered_at c.args.store.now c.args.chain.now c.args.level in
    lists_target c.args.store.now c.args.chain.now c.args.level c.args.tables.now c.gather_entry.new.tables _ c.args.child c.args.page c.in-Ok.entry c.in-Ok.ensures.entry c.in-Ok.ensures.tables
    (moved c.gather_entry.new.tables _ N _ _ (c.from.ensures ∙ c.field.ensures) c.gather_page.ensures.tables)

pub gather_entry-returns-in_err-table-clause-tables : goal.gather_entry-returns-in_err-table-clause-tables
gather_entry-returns-in_err-table-clause-tables g t c =
    lists_no_table c.args.store.now c.args.chain.now c.args.level c.args.tables.now _ c.args.child c.args.page c.in_err-table.field-0.0 c.in_err-table.ensures.table c.in_err-table.ensures.tables

pub gather_entry-returns-clause-tables : goal.gather_entry-returns-clause-tables
gather_entry-returns-clause-tables g t c =
    lists_table c.args.store.now c.args.chain.now c.args.level c.args.tables.now c.gather_table.new.tables _ c.args.child c.args.page c.in_ok-table.table c.in_ok-table.ensures.table c.in_ok-table.ensures.tables c.gather_word.ensures.tables

pub gather_page-returns-then-page-from-clause-tables : goal.gather_page-returns-then-page-from-clause-tables
gather_page-returns-then-page-from-clause-tables g t c =
    let past : length (map_at c.args.store.now c.args.chain.now c.args.level) ≤ c.args.page =
    omega (arith, c.if-page-from.true, c.from.ensures, c.pages_at.ensures.pages)
    in
    lists_past c.args.store.now c.args.chain.now c.args.level c.args.tables.now c.args.page past

pub gather_table-returns-else-child-eq2-clause-tables : goal.gather_table-returns-else-child-eq2-clause-tables
gather_table-returns-else-child-eq2-clause-tables g t c =
    lists_no_directory c.args.store.now c.args.chain.now c.args.level c.args.tables.now c.args.child.table c.args.child.version
    (ap (λ (x : Item). x.version == 2) (sym c.child.view_is) ∙ ne_eqb _ _ c.if-child-eq2.false)

pub gather_word-returns-in_default-clause-tables : goal.gather_word-returns-in_default-clause-tables
gather_word-returns-in_default-clause-tables g t c =
    lists_outside c.args.store.now c.args.chain.now c.args.level c.args.tables.now _ c.args.table (sym c.in_default.is ∙ c.gather_page.ensures.slot) c.gather_page.ensures.tables

pub gather_word-returns-in-Open-clause-tables : goal.gather_word-returns-in-Open-clause-tables
gather_word-returns-in-Open-clause-tables g t c =
    lists_word c.args.store.now c.args.chain.now c.args.level c.args.tables.now c.gather_page.new.tables _ c.args.table c.in-Open.host c.in-Some.slot c.in-Some.ensures.slot c.in-Open.is c.gather_page.ensures.tables c.add.ensures

pub gather_word-returns-in-Shut-clause-tables : goal.gather_word-returns-in-Shut-clause-tables
gather_word-returns-in-Shut-clause-tables g t c =
    lists_shut c.args.store.now c.args.chain.now c.args.level c.args.tables.now _ c.args.table c.in-Shut.level c.in-Shut.cause c.in-Shut.page c.in-Shut.asked c.in-Some.slot c.in-Some.ensures.slot c.in-Shut.is c.gather_page.ensures.tables
