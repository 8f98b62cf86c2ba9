use Rattle.std.proofs.Common.{sym}
use Rattle.std.proofs.lemmas.Result.{err_from_is_err_and}
use Rattle.hv_line.specs.Statements.{sample_directive_of}
use Rattle.hv_line.proofs.Shapes.{texts_three}
use Rattle.hv_line.proofs.directives.sample_directive.Goals as goal

pub returns-in_err-name : goal.returns-in_err-name
unfolding sample_directive_of
returns-in_err-name c =
    let p = err_from_is_err_and c.from_residual.result c.from_residual.ensures.1 in
    rw (p.1, p.2, texts_three c.args.behind.now c.in-len3.len_at_least c.in-len3.len_below) (simp (sym c.in_err-name.ensures))

pub returns-in_err-at : goal.returns-in_err-at
unfolding sample_directive_of
returns-in_err-at c =
    let p = err_from_is_err_and c.from_residual-in_err-at.result c.from_residual-in_err-at.ensures.1 in
    rw (p.1, p.2, texts_three c.args.behind.now c.in-len3.len_at_least c.in-len3.len_below) (simp (sym c.in_ok-name.ensures, sym c.in_err-at.ensures))
