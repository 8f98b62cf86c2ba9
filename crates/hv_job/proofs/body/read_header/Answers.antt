use Rattle.std.proofs.Common.{arith, rules}
use Rattle.hv_job.proofs.Following.{header_end, header_byte, header_skip, header_other, header_found}
use Rattle.hv_job.proofs.body.read_header.Goals as goal

pub returns-then-not-has_allowed_bytes-clause-rest : goal.returns-then-not-has_allowed_bytes-clause-rest
returns-then-not-has_allowed_bytes-clause-rest c =
    rw c.refused.ensures
    (header_byte c.loop-rest.number c.loop-rest.rest.now c.first_line.result.0.now c.first_line.result.1.now _ c.first_line.ensures.cut
    c.loop-rest.invariant.told (search rules))

pub returns-in_default-clause-rest : goal.returns-in_default-clause-rest
returns-in_default-clause-rest c =
    rw c.refused-in_default.ensures
    (header_other c.loop-rest.number c.loop-rest.rest.now c.first_line.result.0.now c.first_line.result.1.now _ c.first_line.ensures.cut
    c.loop-rest.invariant.told (search rules) (search rules) (search rules))

pub returns-then-has_words-clause-rest : goal.returns-then-has_words-clause-rest
returns-then-has_words-clause-rest c =
    header_found c.loop-rest.number c.loop-rest.rest.now c.first_line.result.0.now c.first_line.result.1.now _ c.first_line.ensures.cut
    c.in-Some.version c.loop-rest.invariant.told (search rules) (search rules) (search rules)

pub loop-rest-preserved : goal.loop-rest-preserved
loop-rest-preserved c = record {
  size = omega (arith, c.loop-rest.invariant.size, c.first_line.ensures.behind);
  told =
      header_skip c.loop-rest.number c.loop-rest.rest.now c.first_line.result.0.now c.first_line.result.1.now _ c.first_line.ensures.cut
      c.loop-rest.invariant.told (search rules) (search rules);
}

pub returns-clause-rest : goal.returns-clause-rest
returns-clause-rest c =
    rw c.refused-2.ensures (header_end c.loop-rest.number c.loop-rest.rest.now _ (search rules) c.loop-rest.invariant.told)
