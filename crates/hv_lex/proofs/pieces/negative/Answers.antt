use Rattle.std.proofs.Common.{refl, rules}
use Rattle.std.proofs.lemmas.Result.{err_from_is_err_and}
use Rattle.hv_lex.proofs.Cutting.{minus_alone, minus_number, lexed_ok, lexed_err}
use Rattle.hv_lex.proofs.pieces.negative.Goals as goal

pub returns-then-not-begins_number-clause-refused : goal.returns-then-not-begins_number-clause-refused
returns-then-not-begins_number-clause-refused c = minus_alone c.args.at c.letters-size.result c.args.behind.now c.split_at.result.0.now c.letters-size.ensures.within c.letters-size.ensures.letters c.letters-size.ensures.ends c.split_at.ensures.front (search rules)

pub returns-in_err-token-clause-refused : goal.returns-in_err-token-clause-refused
returns-in_err-token-clause-refused c =
    let p = err_from_is_err_and c.from_residual.result c.from_residual.ensures.1 in rw (p.1, p.2)
    (lexed_err _ _ _ _ _ (minus_number c.args.at c.letters-size.result c.args.behind.now c.split_at.result.0.now c.letters-size.ensures.within c.letters-size.ensures.letters c.letters-size.ensures.ends c.split_at.ensures.front (search rules) _ c.in_err-token.ensures.value) refl)

pub returns-clause-found : goal.returns-clause-found
returns-clause-found c = lexed_ok _ _ _ _ _ (minus_number c.args.at c.letters-size.result c.args.behind.now c.split_at.result.0.now c.letters-size.ensures.within c.letters-size.ensures.letters c.letters-size.ensures.ends c.split_at.ensures.front (search rules) _ c.in_ok-token.ensures.value) refl
