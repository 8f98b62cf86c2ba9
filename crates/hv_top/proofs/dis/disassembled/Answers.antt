use Rattle.std.proofs.Common.{◌≡◌, ℕ, List, ap, ◌∙◌, subst, arith, rules, IfOk}
use Rattle.hv_top.specs.Answer.{output_in}
use Rattle.hv_top.specs.Output.{Output, in_front}
use Rattle.hv_top.proofs.Lines.{lines_more, lines_stop, lines_end, lines_start}
use Rattle.hv_top.specs.Dis.{dis_from}
use Rattle.hv_lex.specs.Lines.{lines_of}
use Rattle.hv_top.proofs.dis.disassembled.Goals as goal

pub loop-rest-init : goal.loop-rest-init
loop-rest-init c = record {
  line = omega arith;
  told =
      ap (λ (front : List ℕ). in_front front (dis_from 1 (lines_of c.args.input.now))) c.new-text.ensures.items
      ∙ lines_start (dis_from 1 (lines_of c.args.input.now));
}

pub loop-rest-preserved : goal.loop-rest-preserved
loop-rest-preserved c = record {
  line = omega (arith, c.first_line.ensures.behind, c.loop-rest.invariant.line);
  told =
      lines_more c.loop-rest.number c.in-Some.word c.loop-rest.text.items c.put_instruction.new.out.items c.loop-rest.rest.now
      c.first_line.result.0.now c.first_line.result.1.now _ c.first_line.ensures.cut c.in-Some.ensures
      c.in_ok-put_instruction.ensures c.loop-rest.invariant.told;
}

pub returns-in_default : goal.returns-in_default
returns-in_default c =
    subst (λ (o : Output). IfOk c.refused.result (λ answer. output_in answer ≡ o))
    (lines_stop c.loop-rest.number c.loop-rest.text.items c.loop-rest.rest.now c.first_line.result.0.now
    c.first_line.result.1.now _ c.first_line.ensures.cut c.in_default.ensures c.loop-rest.invariant.told)
    c.refused.ensures

pub returns : goal.returns
returns c =
    c.written.ensures.output
    ∙ lines_end c.loop-rest.number c.loop-rest.text.items c.loop-rest.rest.now _ (search rules) c.loop-rest.invariant.told
