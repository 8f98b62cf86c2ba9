use Rattle.std.proofs.Common.{arith, rules}
use Rattle.hv_job.proofs.Following.{storage_end, storage_byte, storage_skip, storage_refused, storage_found}
use Rattle.hv_job.proofs.body.read_storage.Goals as goal

pub returns-then-not-has_allowed_bytes-clause-rest : goal.returns-then-not-has_allowed_bytes-clause-rest
returns-then-not-has_allowed_bytes-clause-rest c = λ version.
    rw c.refused.ensures
    (storage_byte version c.loop-rest.number c.loop-rest.rest.now c.first_line.result.0.now c.first_line.result.1.now _ c.first_line.ensures.cut
    (c.loop-rest.invariant.told version) (search rules))

pub returns-in-Ok-clause-rest : goal.returns-in-Ok-clause-rest
returns-in-Ok-clause-rest c = λ version.
    storage_found version c.loop-rest.number c.loop-rest.rest.now c.first_line.result.0.now c.first_line.result.1.now _ c.first_line.ensures.cut
    c.in-Ok.pages (c.loop-rest.invariant.told version) (search rules) (search rules) (search rules)

pub returns-in-Err-clause-rest : goal.returns-in-Err-clause-rest
returns-in-Err-clause-rest c = λ version.
    rw c.refused-in-Err.ensures
    (storage_refused version c.loop-rest.number c.loop-rest.rest.now c.first_line.result.0.now c.first_line.result.1.now _ c.first_line.ensures.cut
    c.in-Err.kind (c.loop-rest.invariant.told version) (search rules) (search rules) (search rules))

pub loop-rest-preserved : goal.loop-rest-preserved
loop-rest-preserved c = record {
  size = omega (arith, c.loop-rest.invariant.size, c.first_line.ensures.behind);
  told = λ version.
      storage_skip version c.loop-rest.number c.loop-rest.rest.now c.first_line.result.0.now c.first_line.result.1.now _ c.first_line.ensures.cut
      (c.loop-rest.invariant.told version) (search rules) (search rules);
}

pub returns-clause-rest : goal.returns-clause-rest
returns-clause-rest c = λ version.
    rw c.refused-2.ensures (storage_end version c.loop-rest.number c.loop-rest.rest.now _ (search rules) (c.loop-rest.invariant.told version))
