use Rattle.hv_irq.proofs.Refusals.{passes_on, never_many, first_told, second_told, third_told, none_told}
use Rattle.hv_irq.proofs.raise_at.Goals as goal

pub returns-in_err-push_turn-clause-refused : goal.returns-in_err-push_turn-clause-refused
returns-in_err-push_turn-clause-refused c =
    passes_on c.from_residual.result c.in_err-push_turn.field-0.0 _ c.from_residual.ensures.1
    (first_told c.args.total c.args.at c.args.hart c.args.mask c.new-recording.result c.in_err-push_turn.field-0.0 c.new-recording.ensures
    c.in_err-push_turn.ensures.refused)

pub returns-in_err-push-clause-refused : goal.returns-in_err-push-clause-refused
returns-in_err-push-clause-refused c =
    passes_on c.from_residual-in_err-push.result c.in_err-push.field-0.0 _ c.from_residual-in_err-push.ensures.1
    (second_told c.args.total c.args.at c.args.hart c.args.mask c.new-recording.result c.push_turn.new.self c.in_err-push.field-0.0
    c.new-recording.ensures c.in_ok-push_turn.ensures.refused c.in_ok-push_turn.ensures.ok c.in_err-push.ensures.refused)

pub returns-in_err-push_turn-2-clause-refused : goal.returns-in_err-push_turn-2-clause-refused
returns-in_err-push_turn-2-clause-refused c =
    passes_on c.from_residual-in_err-push_turn-2.result c.in_err-push_turn-2.field-0.0 _ c.from_residual-in_err-push_turn-2.ensures.1
    (third_told c.args.total c.args.at c.args.hart c.args.mask c.new-recording.result c.push_turn.new.self c.push.new.self
    c.in_err-push_turn-2.field-0.0 c.new-recording.ensures c.in_ok-push_turn.ensures.refused c.in_ok-push_turn.ensures.ok
    c.in_ok-push.ensures.refused c.in_ok-push.ensures.ok c.in_err-push_turn-2.ensures.refused)

pub returns-in_err-push_turn-clause-few : goal.returns-in_err-push_turn-clause-few
returns-in_err-push_turn-clause-few c =
    never_many c.args.total c.args.at c.args.hart c.args.mask c.from_residual.result (returns-in_err-push_turn-clause-refused c)

pub returns-in_err-push_turn-2-clause-few : goal.returns-in_err-push_turn-2-clause-few
returns-in_err-push_turn-2-clause-few c =
    never_many c.args.total c.args.at c.args.hart c.args.mask c.from_residual-in_err-push_turn-2.result
    (returns-in_err-push_turn-2-clause-refused c)

pub returns-clause-ok : goal.returns-clause-ok
returns-clause-ok c =
    none_told c.args.total c.args.at c.args.hart c.args.mask c.new-recording.result c.push_turn.new.self c.push.new.self
    c.new-recording.ensures c.in_ok-push_turn.ensures.refused c.in_ok-push_turn.ensures.ok
    c.in_ok-push.ensures.refused c.in_ok-push.ensures.ok c.in_ok-push_turn-2.ensures.refused
