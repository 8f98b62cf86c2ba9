use Rattle.std.proofs.Common.{◌≡◌, List, sym, ap, ◌∙◌, subst}
use Rattle.std.specs.List.{All}
use Rattle.hv_nest.specs.State.{State}
use Rattle.hv_run.specs.Record.{PlayRecord, WatchRecord}
use Rattle.hv_top.specs.Check.{IsRow, built_state, start_state}
use Rattle.hv_top.specs.Run.{state_of}
use Rattle.hv_top.proofs.check.compared.Goals as goal

pub put_watches-requires-clause-rows : goal.put_watches-requires-clause-rows
unfolding start_state
put_watches-requires-clause-rows c =
    let played = c.in_ok-record in
    let begun : start_state c.args.job.now ≡ state_of c.args.start = ap built_state c.requires.built in
    let watches : c.as_slice.result.now ≡ played.record.watches = c.as_slice.ensures ∙ ap (λ (t : PlayRecord). t.watches) c.record.view_is in
    subst (λ (st : State). All (IsRow st) c.as_slice.result.now) (sym begun)
    (subst (λ (ws : List WatchRecord). All (IsRow (state_of c.args.start)) ws) (sym watches) played.ensures.rows)
