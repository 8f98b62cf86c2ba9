-- A page is read where its entry leads, in the page of the table that was found or kept.
use Rattle.std.proofs.Common.{◌≡◌, ◌+◌, ◌-◌, ◌<◌, ◌≤◌, ◌∙◌, length, arith}
use Rattle.hv_map.specs.Levels.{map_at}
use Rattle.hv_map.proofs.Caching.{item_at, read_past, read_bare, read_no_table, read_no_entry, read_deeper, table_hidden, table_found}
use Rattle.hv_map.proofs.tables.TableCache.+reading.Goals as goal

pub read_at-returns-then-page-from-clause-page : goal.read_at-returns-then-page-from-clause-page
read_at-returns-then-page-from-clause-page t c =
    let past : length (map_at c.args.store.now c.args.chain.now c.args.level) ≤ c.args.page =
    omega (arith, c.if-page-from.true, c.from.ensures, c.pages_at.ensures.pages)
    in
    read_past c.args.store.now c.args.chain.now c.args.level c.args.page past

pub read_at-returns-then-level-eq0-clause-page : goal.read_at-returns-then-level-eq0-clause-page
read_at-returns-then-level-eq0-clause-page t c =
    let inside : c.args.page < length (map_at c.args.store.now c.args.chain.now c.args.level) =
    omega (arith, c.if-page-from.false, c.from.ensures, c.pages_at.ensures.pages)
    in
    read_bare c.args.store.now c.args.chain.now c.args.level c.args.page c.if-level-eq0.true inside

pub read_at-returns-in_err-table-clause-page : goal.read_at-returns-in_err-table-clause-page
read_at-returns-in_err-table-clause-page t c =
    let inside : c.args.page < length (map_at c.args.store.now c.args.chain.now c.args.level) =
    omega (arith, c.if-page-from.false, c.from.ensures, c.pages_at.ensures.pages)
    in
    let deeper : c.args.level ≡ c.args.level - 1 + 1 = omega (arith, c.if-level-eq0.false) in
    let x = item_at c.args.chain.now (c.args.level - 1) (omega (arith, c.if-level-eq0.false, c.requires.level)) in
    read_no_table c.args.store.now c.args.chain.now (c.args.level - 1) c.args.level c.args.page x.0 x.1 deeper inside c.from_residual.result c.from_residual.ensures c.in_err-table.ensures.page

pub read_at-returns-in_err-entry-clause-page : goal.read_at-returns-in_err-entry-clause-page
read_at-returns-in_err-entry-clause-page t c =
    let inside : c.args.page < length (map_at c.args.store.now c.args.chain.now c.args.level) =
    omega (arith, c.if-page-from.false, c.from.ensures, c.pages_at.ensures.pages)
    in
    let deeper : c.args.level ≡ c.args.level - 1 + 1 = omega (arith, c.if-level-eq0.false) in
    let x = item_at c.args.chain.now (c.args.level - 1) (omega (arith, c.if-level-eq0.false, c.requires.level)) in
    read_no_entry c.args.store.now c.args.chain.now (c.args.level - 1) c.args.level c.args.page x.0 x.1 deeper inside c.from_residual-in_err-entry.result c.in_ok-table.table c.from_residual-in_err-entry.ensures c.in_ok-table.ensures.page c.in_err-entry.ensures

pub read_at-returns-clause-page : goal.read_at-returns-clause-page
read_at-returns-clause-page t c =
    let inside : c.args.page < length (map_at c.args.store.now c.args.chain.now c.args.level) =
    omega (arith, c.if-page-from.false, c.from.ensures, c.pages_at.ensures.pages)
    in
    let deeper : c.args.level ≡ c.args.level - 1 + 1 = omega (arith, c.if-level-eq0.false) in
    let x = item_at c.args.chain.now (c.args.level - 1) (omega (arith, c.if-level-eq0.false, c.requires.level)) in
    read_deeper c.args.store.now c.args.chain.now (c.args.level - 1) c.args.level c.args.page x.0 x.1 deeper inside c.in_ok-table.table c.in_ok-entry.entry c.from-2.result c.read_at.result c.in_ok-table.ensures.page c.in_ok-entry.ensures (c.from-2.ensures ∙ c.field.ensures) c.read_at.ensures.page

pub found_table-returns-in_err-page-clause-page : goal.found_table-returns-in_err-page-clause-page
found_table-returns-in_err-page-clause-page t c =
    table_hidden c.args.store.now c.args.chain.now c.args.level c.args.number c.link.result c.link.ensures.item c.from_residual.result c.from_residual.ensures c.in_err-page.ensures.page

pub found_table-returns-clause-page : goal.found_table-returns-clause-page
found_table-returns-clause-page t c =
    table_found c.args.store.now c.args.chain.now c.args.level c.args.number c.link.result c.link.ensures.item c.in_ok-page.page c.read_at.result c.in_ok-page.ensures.page c.read_at.ensures.page c.read_at.ensures.bound

pub table-returns-in-Some-clause-page : goal.table-returns-in-Some-clause-page
table-returns-in-Some-clause-page t c = c.in-Some.ensures c.args.store.now c.args.chain.now c.requires.cache

pub table-returns-in-None-clause-cache : goal.table-returns-in-None-clause-cache
table-returns-in-None-clause-cache t c =
    c.keep.ensures c.args.store.now c.args.chain.now c.found_table-host.ensures.cache c.found_table-host.ensures.page
