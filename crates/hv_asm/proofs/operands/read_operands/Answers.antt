use Rattle.std.proofs.Common.{◌∙◌, List, Option, sym, ap, rules}
use Rattle.std.specs.Option.{option_copied}
use denote.Ref.{Bor}
use Rattle.hv_lex.specs.declared.Token.{Token}
use Rattle.hv_asm.specs.Operands.{groups_behind, operands_from}
use Rattle.hv_asm.proofs.Grouping.{operands_stop, operands_more, operands_end, operands_some, operands_none}
use Rattle.hv_asm.proofs.operands.read_operands.Goals as goal

pub returns-then-is_empty-clause-value : goal.returns-then-is_empty-clause-value
returns-then-is_empty-clause-value c = operands_none c.args.tokens.now c.new-operands.result.items (search rules) c.new-operands.ensures.items

pub returns-in_default-clause-value : goal.returns-in_default-clause-value
returns-in_default-clause-value c =
    operands_stop c.loop-operand.operands.items c.loop-operand.rest.now c.first_group.result.0.now
    (groups_behind (option_copied c.first_group.result.1)) _ c.first_group.ensures.cut (search rules) c.loop-operand.invariant.told
    ∙ operands_some c.args.tokens.now (search rules)

pub returns-in_default-more-clause-value : goal.returns-in_default-more-clause-value
returns-in_default-more-clause-value c =
    operands_end c.push.new.self.items
    ∙ ap (λ (o : Option (Bor (List Token))). operands_from c.push.new.self.items (groups_behind (option_copied o))) (sym c.in_default-more.is)
    ∙ operands_more c.loop-operand.operands.items c.push.new.self.items c.in-Some.operand c.loop-operand.rest.now c.first_group.result.0.now
    (groups_behind (option_copied c.first_group.result.1)) _ c.first_group.ensures.cut (search rules) c.in_ok-push.ensures.items
    c.loop-operand.invariant.told
    ∙ operands_some c.args.tokens.now (search rules)

pub loop-operand-preserved : goal.loop-operand-preserved
loop-operand-preserved c = record {
  told =
      ap (λ (o : Option (Bor (List Token))). operands_from c.push.new.self.items (groups_behind (option_copied o))) (sym c.in-Some-more.is)
      ∙ operands_more c.loop-operand.operands.items c.push.new.self.items c.in-Some.operand c.loop-operand.rest.now c.first_group.result.0.now
      (groups_behind (option_copied c.first_group.result.1)) _ c.first_group.ensures.cut (search rules) c.in_ok-push.ensures.items
      c.loop-operand.invariant.told;
  count = search rules;
}
