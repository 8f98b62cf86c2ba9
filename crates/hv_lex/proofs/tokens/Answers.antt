use Rattle.std.proofs.Common.{◌∙◌, ap, rules, arith}
use Rattle.std.proofs.lemmas.Result.{err_from_is_err_and}
use Rattle.hv_lex.specs.Tokens.{lexed_at, with_front}
use Rattle.hv_lex.proofs.Cutting.{refuses, told_refused, told_more, told_all, none_in_front, rise_none, rise_more, rise_end}
use Rattle.hv_lex.proofs.tokens.Goals as goal

pub loop-rest-init : goal.loop-rest-init
loop-rest-init c = record {
  place = omega arith;
  rise = rise_none _ _ c.new-tokens.ensures.items;
  told = ap (λ ts. with_front ts (lexed_at 0 c.args.line.now)) c.new-tokens.ensures.items ∙ none_in_front (lexed_at 0 c.args.line.now);
}

pub returns-in_err-piece-clause-tokens : goal.returns-in_err-piece-clause-tokens
returns-in_err-piece-clause-tokens c =
    let p = err_from_is_err_and c.from_residual.result c.from_residual.ensures.1 in rw (p.1, p.2)
    (refuses _ _ (told_refused c.loop-rest.at c.loop-rest.tokens.items c.loop-rest.rest.now _ _ c.loop-rest.invariant.told c.in_err-piece.ensures.refused))

pub loop-rest-preserved : goal.loop-rest-preserved
loop-rest-preserved c = record {
  place = omega (arith, c.split_at.ensures.back_len);
  rise = rise_more _ _ _ _ _ c.loop-rest.invariant.rise c.in_ok-piece.ensures.stands c.in_ok-push_found.ensures;
  told =
      told_more c.loop-rest.at c.in_ok-piece.piece.size c.loop-rest.tokens.items _ c.push_found.new.tokens.items c.loop-rest.rest.now c.split_at.result.1.now _
      c.loop-rest.invariant.told c.in_ok-piece.ensures.found c.in_ok-push_found.ensures c.split_at.ensures.back;
}

pub returns-clause-tokens : goal.returns-clause-tokens
returns-clause-tokens c = told_all c.loop-rest.at c.loop-rest.tokens.items c.loop-rest.rest.now _ (search rules) c.loop-rest.invariant.told

pub returns-clause-rise : goal.returns-clause-rise
returns-clause-rise c = rise_end _ _ _ _ c.loop-rest.invariant.rise (omega arith)
