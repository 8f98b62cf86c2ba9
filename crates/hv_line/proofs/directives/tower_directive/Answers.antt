use Rattle.std.proofs.Common.{sym}
use Rattle.std.proofs.lemmas.Result.{err_from_is_err_and}
use Rattle.hv_line.specs.Statements.{tower_directive_of}
use Rattle.hv_line.proofs.Shapes.{texts_three, texts_four}
use Rattle.hv_line.proofs.directives.tower_directive.Goals as goal

pub returns-in_err-depth-in-len3 : goal.returns-in_err-depth-in-len3
unfolding tower_directive_of
returns-in_err-depth-in-len3 c =
    let p = err_from_is_err_and c.from_residual.result c.from_residual.ensures.1 in
    rw (p.1, p.2, texts_three c.args.behind.now c.in-len3.len_at_least c.in-len3.len_below) (simp (sym c.in_err-depth-in-len3.ensures))

pub returns-in_err-fixed-in-len3 : goal.returns-in_err-fixed-in-len3
unfolding tower_directive_of
returns-in_err-fixed-in-len3 c =
    let p = err_from_is_err_and c.from_residual-in_err-fixed-in-len3.result c.from_residual-in_err-fixed-in-len3.ensures.1 in
    rw (p.1, p.2, texts_three c.args.behind.now c.in-len3.len_at_least c.in-len3.len_below) (simp (sym c.in_ok-depth-in-len3.ensures, sym c.in_err-fixed-in-len3.ensures))

pub returns-in_err-depth-in-len4 : goal.returns-in_err-depth-in-len4
unfolding tower_directive_of
returns-in_err-depth-in-len4 c =
    let p = err_from_is_err_and c.from_residual-in_err-depth-in-len4.result c.from_residual-in_err-depth-in-len4.ensures.1 in
    rw (p.1, p.2, texts_four c.args.behind.now c.in-len4.len_at_least c.in-len4.len_below) (simp (sym c.in_err-depth-in-len4.ensures))

pub returns-in_err-fixed-in-len4 : goal.returns-in_err-fixed-in-len4
unfolding tower_directive_of
returns-in_err-fixed-in-len4 c =
    let p = err_from_is_err_and c.from_residual-in_err-fixed-in-len4.result c.from_residual-in_err-fixed-in-len4.ensures.1 in
    rw (p.1, p.2, texts_four c.args.behind.now c.in-len4.len_at_least c.in-len4.len_below) (simp (sym c.in_ok-depth-in-len4.ensures, sym c.in_err-fixed-in-len4.ensures))

pub returns-in_err-pages-in-len4 : goal.returns-in_err-pages-in-len4
unfolding tower_directive_of
returns-in_err-pages-in-len4 c =
    let p = err_from_is_err_and c.from_residual-in_err-pages-in-len4.result c.from_residual-in_err-pages-in-len4.ensures.1 in
    rw (p.1, p.2, texts_four c.args.behind.now c.in-len4.len_at_least c.in-len4.len_below) (simp (sym c.in_ok-depth-in-len4.ensures, sym c.in_ok-fixed-in-len4.ensures, sym c.in_err-pages-in-len4.ensures))
