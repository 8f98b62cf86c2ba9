use Rattle.std.proofs.Common.{sym}
use Rattle.std.proofs.lemmas.Result.{err_from_is_err_and}
use Rattle.hv_line.specs.Statements.{machine_directive_of}
use Rattle.hv_line.proofs.Shapes.{texts_eleven}
use Rattle.hv_line.proofs.directives.machine_directive.Goals as goal

pub returns-in_err-name : goal.returns-in_err-name
unfolding machine_directive_of
returns-in_err-name c =
    let p = err_from_is_err_and c.from_residual.result c.from_residual.ensures.1 in
    rw (p.1, p.2, texts_eleven c.args.behind.now c.in-len11.len_at_least c.in-len11.len_below) (simp (sym c.in_err-name.ensures))

pub returns-in_err-fixed : goal.returns-in_err-fixed
unfolding machine_directive_of
returns-in_err-fixed c =
    let p = err_from_is_err_and c.from_residual-in_err-fixed.result c.from_residual-in_err-fixed.ensures.1 in
    rw (p.1, p.2, texts_eleven c.args.behind.now c.in-len11.len_at_least c.in-len11.len_below) (simp (sym c.in_ok-name.ensures, sym c.in_err-fixed.ensures))

pub returns-in_err-parent : goal.returns-in_err-parent
unfolding machine_directive_of
returns-in_err-parent c =
    let p = err_from_is_err_and c.from_residual-in_err-parent.result c.from_residual-in_err-parent.ensures.1 in
    rw (p.1, p.2, texts_eleven c.args.behind.now c.in-len11.len_at_least c.in-len11.len_below) (simp (sym c.in_ok-name.ensures, sym c.in_ok-fixed.ensures, sym c.in_err-parent.ensures))

pub returns-in_err-fixed-2 : goal.returns-in_err-fixed-2
unfolding machine_directive_of
returns-in_err-fixed-2 c =
    let p = err_from_is_err_and c.from_residual-in_err-fixed-2.result c.from_residual-in_err-fixed-2.ensures.1 in
    rw (p.1, p.2, texts_eleven c.args.behind.now c.in-len11.len_at_least c.in-len11.len_below) (simp (sym c.in_ok-name.ensures, sym c.in_ok-fixed.ensures, sym c.in_ok-parent.ensures, sym c.in_err-fixed-2.ensures))

pub returns-in_err-block : goal.returns-in_err-block
unfolding machine_directive_of
returns-in_err-block c =
    let p = err_from_is_err_and c.from_residual-in_err-block.result c.from_residual-in_err-block.ensures.1 in
    rw (p.1, p.2, texts_eleven c.args.behind.now c.in-len11.len_at_least c.in-len11.len_below) (simp (sym c.in_ok-name.ensures, sym c.in_ok-fixed.ensures, sym c.in_ok-parent.ensures, sym c.in_ok-fixed-2.ensures, sym c.in_err-block.ensures))

pub returns-in_err-fixed-3 : goal.returns-in_err-fixed-3
unfolding machine_directive_of
returns-in_err-fixed-3 c =
    let p = err_from_is_err_and c.from_residual-in_err-fixed-3.result c.from_residual-in_err-fixed-3.ensures.1 in
    rw (p.1, p.2, texts_eleven c.args.behind.now c.in-len11.len_at_least c.in-len11.len_below) (simp (sym c.in_ok-name.ensures, sym c.in_ok-fixed.ensures, sym c.in_ok-parent.ensures, sym c.in_ok-fixed-2.ensures, sym c.in_ok-block.ensures, sym c.in_err-fixed-3.ensures))

pub returns-in_err-pages : goal.returns-in_err-pages
unfolding machine_directive_of
returns-in_err-pages c =
    let p = err_from_is_err_and c.from_residual-in_err-pages.result c.from_residual-in_err-pages.ensures.1 in
    rw (p.1, p.2, texts_eleven c.args.behind.now c.in-len11.len_at_least c.in-len11.len_below) (simp (sym c.in_ok-name.ensures, sym c.in_ok-fixed.ensures, sym c.in_ok-parent.ensures, sym c.in_ok-fixed-2.ensures, sym c.in_ok-block.ensures, sym c.in_ok-fixed-3.ensures, sym c.in_err-pages.ensures))

pub returns-in_err-fixed-4 : goal.returns-in_err-fixed-4
unfolding machine_directive_of
returns-in_err-fixed-4 c =
    let p = err_from_is_err_and c.from_residual-in_err-fixed-4.result c.from_residual-in_err-fixed-4.ensures.1 in
    rw (p.1, p.2, texts_eleven c.args.behind.now c.in-len11.len_at_least c.in-len11.len_below) (simp (sym c.in_ok-name.ensures, sym c.in_ok-fixed.ensures, sym c.in_ok-parent.ensures, sym c.in_ok-fixed-2.ensures, sym c.in_ok-block.ensures, sym c.in_ok-fixed-3.ensures, sym c.in_ok-pages.ensures, sym c.in_err-fixed-4.ensures))

pub returns-in_err-table : goal.returns-in_err-table
unfolding machine_directive_of
returns-in_err-table c =
    let p = err_from_is_err_and c.from_residual-in_err-table.result c.from_residual-in_err-table.ensures.1 in
    rw (p.1, p.2, texts_eleven c.args.behind.now c.in-len11.len_at_least c.in-len11.len_below) (simp (sym c.in_ok-name.ensures, sym c.in_ok-fixed.ensures, sym c.in_ok-parent.ensures, sym c.in_ok-fixed-2.ensures, sym c.in_ok-block.ensures, sym c.in_ok-fixed-3.ensures, sym c.in_ok-pages.ensures, sym c.in_ok-fixed-4.ensures, sym c.in_err-table.ensures.value))

pub returns-in_err-fixed-5 : goal.returns-in_err-fixed-5
unfolding machine_directive_of
returns-in_err-fixed-5 c =
    let p = err_from_is_err_and c.from_residual-in_err-fixed-5.result c.from_residual-in_err-fixed-5.ensures.1 in
    rw (p.1, p.2, texts_eleven c.args.behind.now c.in-len11.len_at_least c.in-len11.len_below) (simp (sym c.in_ok-name.ensures, sym c.in_ok-fixed.ensures, sym c.in_ok-parent.ensures, sym c.in_ok-fixed-2.ensures, sym c.in_ok-block.ensures, sym c.in_ok-fixed-3.ensures, sym c.in_ok-pages.ensures, sym c.in_ok-fixed-4.ensures, sym c.in_ok-table.ensures.value, sym c.in_err-fixed-5.ensures))

pub returns-in_err-at : goal.returns-in_err-at
unfolding machine_directive_of
returns-in_err-at c =
    let p = err_from_is_err_and c.from_residual-in_err-at.result c.from_residual-in_err-at.ensures.1 in
    rw (p.1, p.2, texts_eleven c.args.behind.now c.in-len11.len_at_least c.in-len11.len_below) (simp (sym c.in_ok-name.ensures, sym c.in_ok-fixed.ensures, sym c.in_ok-parent.ensures, sym c.in_ok-fixed-2.ensures, sym c.in_ok-block.ensures, sym c.in_ok-fixed-3.ensures, sym c.in_ok-pages.ensures, sym c.in_ok-fixed-4.ensures, sym c.in_ok-table.ensures.value, sym c.in_ok-fixed-5.ensures, sym c.in_err-at.ensures.value))

pub returns : goal.returns
unfolding machine_directive_of
returns c = rw (texts_eleven c.args.behind.now c.in-len11.len_at_least c.in-len11.len_below) (simp (sym c.in_ok-name.ensures, sym c.in_ok-fixed.ensures, sym c.in_ok-parent.ensures, sym c.in_ok-fixed-2.ensures, sym c.in_ok-block.ensures, sym c.in_ok-fixed-3.ensures, sym c.in_ok-pages.ensures, sym c.in_ok-fixed-4.ensures, sym c.in_ok-table.ensures.value, sym c.in_ok-fixed-5.ensures, sym c.in_ok-at.ensures.value))
