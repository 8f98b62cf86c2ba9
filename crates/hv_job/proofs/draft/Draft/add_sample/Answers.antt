use Rattle.std.proofs.Common.{◌≡◌, length, ap, ◌∙◌, arith}
use Rattle.hv_samples.specs.Samples.{sample_text}
use Rattle.hv_job.proofs.Sampling.{sample_short, sampled}
use Rattle.hv_job.proofs.draft.Draft.add_sample.Goals as goal

pub assemble-requires-clause-length : goal.assemble-requires-clause-length
assemble-requires-clause-length c =
    let is : c.as_bytes.result.now ≡ sample_text c.args.which = c.as_bytes.ensures.value ∙ c.sample.ensures in
    omega (arith, ap length is, sample_short c.args.which)

pub returns-in-Ok : goal.returns-in-Ok
returns-in-Ok c =
    sampled c.args.self.now c.place.new.self c.args.line c.args.at c.args.name c.as_bytes.result.now c.args.which c.in-Ok.image c.place.result
    (c.as_bytes.ensures.value ∙ c.sample.ensures) c.in-Ok.ensures.0 c.in-Ok.ensures.1 c.place.ensures
