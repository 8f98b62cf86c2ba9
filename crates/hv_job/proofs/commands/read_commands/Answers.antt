use Rattle.std.proofs.Common.{arith, rules}
use Rattle.hv_job.proofs.Commanding.{commands_end, commands_more, commands_refused}
use Rattle.hv_job.proofs.commands.read_commands.Goals as goal

pub returns-in-Err : goal.returns-in-Err
returns-in-Err c =
    rw c.at_line.ensures
    (commands_refused c.args.version c.loop-rest.commands c.loop-rest.number c.loop-rest.rest.now c.first_line.result.0.now c.first_line.result.1.now _
    c.first_line.ensures.cut c.loop-rest.invariant.told c.in-Err.end c.in-Err.ensures)

pub loop-rest-preserved : goal.loop-rest-preserved
loop-rest-preserved c = record {
  size = omega (arith, c.loop-rest.invariant.size, c.first_line.ensures.behind);
  told =
      commands_more c.args.version c.loop-rest.commands c.loop-rest.number c.loop-rest.rest.now c.first_line.result.0.now c.first_line.result.1.now _
      c.first_line.ensures.cut c.loop-rest.invariant.told c.add.new.self c.in_default.ensures;
}

pub returns : goal.returns
returns c =
    rw c.into_items.ensures (commands_end c.args.version c.loop-rest.commands c.loop-rest.number c.loop-rest.rest.now _ (search rules) c.loop-rest.invariant.told)
