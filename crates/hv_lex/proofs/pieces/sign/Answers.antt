use Rattle.std.proofs.lemmas.Result.{err_from_is_err_and}
use Rattle.hv_lex.proofs.Cutting.{lexed_sign, lexed_ok, lexed_err}
use Rattle.hv_lex.proofs.pieces.sign.Goals as goal

pub returns-in_err-token-clause-refused : goal.returns-in_err-token-clause-refused
returns-in_err-token-clause-refused c =
    let p = err_from_is_err_and c.from_residual.result c.from_residual.ensures.1 in rw (p.1, p.2)
    (lexed_err _ _ _ _ _ (lexed_sign c.args.at c.args.byte c.args.behind.now c.requires.letter c.requires.comment c.requires.minus) c.in_err-token.ensures.value)

pub returns-clause-found : goal.returns-clause-found
returns-clause-found c =
    lexed_ok _ _ _ _ _ (lexed_sign c.args.at c.args.byte c.args.behind.now c.requires.letter c.requires.comment c.requires.minus) c.in_ok-token.ensures.value
