use Rattle.std.proofs.Common.{arith, rules}
use Rattle.hv_job.proofs.Following.{body_end, body_ended, body_more, body_refused, body_stopped, passes_on}
use Rattle.hv_job.proofs.body.read_body.Goals as goal

pub returns-in_err-commands : goal.returns-in_err-commands
returns-in_err-commands c =
    passes_on c.from_residual.result c.in_err-commands.field-0.0 _ c.from_residual.ensures.1
    (body_stopped c.loop-rest.draft c.loop-rest.number c.loop-rest.rest.now c.first_line.result.0.now c.first_line.result.1.now _
    c.first_line.ensures.cut c.loop-rest.invariant.told (search rules) c.in_err-commands.field-0.0 c.in_err-commands.ensures)

pub returns-then-is_debug : goal.returns-then-is_debug
returns-then-is_debug c =
    rw c.into_job.ensures
    (body_ended c.loop-rest.draft c.loop-rest.number c.loop-rest.rest.now c.first_line.result.0.now c.first_line.result.1.now _
    c.first_line.ensures.cut c.loop-rest.invariant.told (search rules) c.in_ok-commands.commands c.in_ok-commands.ensures)

pub returns-in_err-next : goal.returns-in_err-next
returns-in_err-next c =
    passes_on c.from_residual-in_err-next.result c.in_err-next.field-0.0 _ c.from_residual-in_err-next.ensures.1
    (body_refused c.loop-rest.draft c.loop-rest.number c.loop-rest.rest.now c.first_line.result.0.now c.first_line.result.1.now _
    c.first_line.ensures.cut c.loop-rest.invariant.told (search rules) c.in_err-next.field-0.0 c.in_err-next.ensures.draft)

pub loop-rest-preserved : goal.loop-rest-preserved
loop-rest-preserved c = record {
  size = omega (arith, c.loop-rest.invariant.size, c.in_ok-next.ensures.size, c.first_line.ensures.behind);
  told =
      body_more c.loop-rest.draft c.loop-rest.number c.loop-rest.rest.now c.first_line.result.0.now c.first_line.result.1.now _
      c.first_line.ensures.cut c.loop-rest.invariant.told (search rules) c.read_line.new.draft c.in_ok-next.next.number c.in_ok-next.next.text.now
      c.in_ok-next.ensures.draft c.in_ok-next.ensures.rest;
}

pub returns : goal.returns
returns c =
    body_end c.loop-rest.draft c.loop-rest.number c.loop-rest.rest.now _ _ _ (search rules) c.loop-rest.invariant.told c.into_job-2.ensures (search rules)
