use Rattle.std.proofs.Common.{◌∙◌}
use Rattle.hv_load.proofs.Samples.{never_refused, short_text}
use Rattle.hv_load.proofs.levels.sample_image.Goals as goal

pub assemble-requires-clause-length : goal.assemble-requires-clause-length
assemble-requires-clause-length c = short_text c.args.which c.as_bytes.result.now (c.as_bytes.ensures.value ∙ c.sample.ensures)

pub unreachable-requires : goal.unreachable-requires
unreachable-requires c =
    never_refused c.args.which c.as_bytes.result.now (c.in-Err-AsmFault.field-0-0, c.in-Err-AsmFault.field-0-1) c.requires (c.as_bytes.ensures.value ∙ c.sample.ensures)
    (rw c.in-Err-AsmFault.field-0-is at c.in-Err-AsmFault.ensures)
