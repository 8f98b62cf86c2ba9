use Rattle.hv_run.specs.Record.{schedule}
use Rattle.hv_top.proofs.Saved.{first_hart}
use Rattle.hv_top.proofs.saving.saved_by.Goals as goal

pub watch_saved-requires : goal.watch_saved-requires
watch_saved-requires g c =
    first_hart (g.N.Nested.state c.args.nested.now) (g.N.Nested.state c.play_out.new.nested) (schedule c.args.job.now.recording)
    c.args.plan.now.watches c.as_slice.result.now c.watch-item.result c.as_slice.ensures c.requires.ready.watches
    c.in_ok-play_out.ensures.state c.watch-item.is c.in-len1-up.len_at_least
