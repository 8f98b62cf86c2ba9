use Rattle.std.proofs.Common.{refl, arith, rules}
use Rattle.std.proofs.lemmas.Result.{err_from_is_err_and}
use Rattle.hv_lex.specs.Lines.{lines_of}
use Rattle.hv_asm.specs.Labels.{place_in}
use Rattle.hv_asm.specs.Operands.{read_of}
use Rattle.hv_asm.proofs.Placing.{idle_behind, none_behind}
use Rattle.hv_asm.proofs.Telling.{told_more, told_none, told_refused, told_end}
use Rattle.hv_asm.proofs.assemble_lines.Goals as goal

pub loop-rest-init : goal.loop-rest-init
loop-rest-init c = record {
  some = omega arith;
  line = omega arith;
  at = omega arith;
  told = rw (c.new-words.ensures.items, c.from-at.ensures) (told_none _);
  none = c.requires.distinct;
  idle = rw c.as_slice-flags.ensures.value c.requires.idle;
}

pub assemble_line-requires-clause-length : goal.assemble_line-requires-clause-length
assemble_line-requires-clause-length c = omega (arith, c.first_line.ensures.shorter, c.loop-rest.invariant.line, c.loop-rest.invariant.some, c.requires.length)

pub assemble_line-requires-clause-at : goal.assemble_line-requires-clause-at
assemble_line-requires-clause-at c = omega (arith, c.loop-rest.invariant.at, c.requires.length)

pub assemble_line-requires-clause-distinct : goal.assemble_line-requires-clause-distinct
assemble_line-requires-clause-distinct c = λ distinct.
    (none_behind (place_in c.args.outline.now.labels) c.loop-rest.number c.first_line.result.0.now c.loop-rest.rest.now c.first_line.result.1.now (read_of c.first_line.result.0.now) c.first_line.ensures.cut refl (c.loop-rest.invariant.none distinct)).0

pub assemble_line-requires-clause-idle : goal.assemble_line-requires-clause-idle
assemble_line-requires-clause-idle c =
    (c.first_flag-idle.ensures c.first_line.result.0.now (lines_of c.first_line.result.1.now) (idle_behind c.loop-rest.flags.now c.first_line.result.0.now c.loop-rest.rest.now c.first_line.result.1.now c.first_line.ensures.cut c.loop-rest.invariant.idle)).0

pub returns-in_err-size : goal.returns-in_err-size
returns-in_err-size c =
    let p = err_from_is_err_and c.from_residual.result c.from_residual.ensures.1 in rw (p.1, p.2)
    (told_refused (place_in c.args.outline.now.labels) c.args.base c.loop-rest.number c.loop-rest.at _ c.first_line.result.0.now c.loop-rest.rest.now c.first_line.result.1.now (read_of c.first_line.result.0.now) c.first_line.ensures.cut refl refl c.loop-rest.words.items c.assemble_line.new.words.items _ c.in_err-size.field-0.0 c.in_err-size.ensures.words c.loop-rest.invariant.told)

pub loop-rest-preserved : goal.loop-rest-preserved
loop-rest-preserved c = record {
  some = omega arith;
  line = omega (arith, c.first_line.ensures.behind, c.loop-rest.invariant.line);
  at =
      omega (arith, c.loop-rest.invariant.at, c.first_line.ensures.behind, c.first_line.ensures.shorter, c.in_ok-size.ensures.most);
  told =
      told_more (place_in c.args.outline.now.labels) c.args.base c.loop-rest.number c.loop-rest.at c.in_ok-size.size c.first_line.result.0.now c.loop-rest.rest.now c.first_line.result.1.now (read_of c.first_line.result.0.now) c.first_line.ensures.cut refl c.in_ok-size.ensures.size c.loop-rest.words.items c.assemble_line.new.words.items _ c.in_ok-size.ensures.words c.loop-rest.invariant.told;
  none = λ distinct.
      (none_behind (place_in c.args.outline.now.labels) c.loop-rest.number c.first_line.result.0.now c.loop-rest.rest.now c.first_line.result.1.now (read_of c.first_line.result.0.now) c.first_line.ensures.cut refl (c.loop-rest.invariant.none distinct)).1;
  idle =
      (c.first_flag-idle.ensures c.first_line.result.0.now (lines_of c.first_line.result.1.now) (idle_behind c.loop-rest.flags.now c.first_line.result.0.now c.loop-rest.rest.now c.first_line.result.1.now c.first_line.ensures.cut c.loop-rest.invariant.idle)).1;
}

pub returns : goal.returns
returns c = told_end (place_in c.args.outline.now.labels) c.args.base c.loop-rest.number c.loop-rest.at c.loop-rest.rest.now c.loop-rest.words.items _ (search rules) c.loop-rest.invariant.told
