use Rattle.std.proofs.Common.{◌∙◌}
use Rattle.hv_load.proofs.Generated.{IsJob-made}
use Rattle.hv_load.proofs.generating.gen_job.Goals as goal

pub returns-clause-limits : goal.returns-clause-limits
returns-clause-limits c =
    IsJob-made c.args.number c.in_ok-kernel.kernel c.in_ok-recording.recording c.events.result.now c.new.result c.new-3.result
    c.in_ok-kernel.ensures c.in_ok-recording.ensures c.events.ensures.events (c.new.ensures ∙ c.in_ok-lines.ensures)
    (c.new-3.ensures ∙ c.new-2.ensures.items)
