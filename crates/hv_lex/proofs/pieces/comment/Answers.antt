use Rattle.std.proofs.Common.{[], refl}
use Rattle.std.proofs.lemmas.Result.{err_from_is_err_and}
use Rattle.hv_lex.proofs.Cutting.{lexed_comment, lexed_ok, lexed_err}
use Rattle.hv_lex.proofs.pieces.comment.Goals as goal

pub returns-in_err-check_comment-clause-refused : goal.returns-in_err-check_comment-clause-refused
returns-in_err-check_comment-clause-refused c =
    let p = err_from_is_err_and c.from_residual.result c.from_residual.ensures.1 in rw (p.1, p.2)
    (lexed_err _ _ _ _ _ (lexed_comment c.args.at _ c.args.behind.now refl) c.in_err-check_comment.ensures)

pub returns-clause-found : goal.returns-clause-found
returns-clause-found c = lexed_ok _ _ _ _ [] (lexed_comment c.args.at _ c.args.behind.now refl) c.in_ok-check_comment.ensures
