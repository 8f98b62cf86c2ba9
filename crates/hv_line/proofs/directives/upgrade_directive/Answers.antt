use Rattle.std.proofs.Common.{sym}
use Rattle.std.proofs.lemmas.Result.{err_from_is_err_and}
use Rattle.hv_line.specs.Statements.{upgrade_directive_of}
use Rattle.hv_line.proofs.Shapes.{texts_two}
use Rattle.hv_line.proofs.directives.upgrade_directive.Goals as goal

pub returns-in_err-name : goal.returns-in_err-name
unfolding upgrade_directive_of
returns-in_err-name c =
    let p = err_from_is_err_and c.from_residual.result c.from_residual.ensures.1 in
    rw (p.1, p.2, texts_two c.args.behind.now c.in-len2.len_at_least c.in-len2.len_below) (simp (sym c.in_err-name.ensures))
