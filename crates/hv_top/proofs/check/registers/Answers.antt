use Rattle.std.proofs.Common.{◌≡◌, Some, sym, ap, ◌∙◌}
use Rattle.hv_run.specs.Record.{WatchRecord}
use Rattle.hv_top.proofs.Twins.{parked_inside, parked_there, parked_next, idle_next, hart_idle}
use Rattle.hv_top.proofs.check.registers.Goals as goal

pub parked-requires-clause-page : goal.parked-requires-clause-page
parked-requires-clause-page c =
    let w = c.args.watch.now in
    let told : Some c.in-Some.page ≡ w.block = sym c.in-Some.is ∙ ap (λ (v : WatchRecord). v.block) c.watch.view_is in
    parked_inside c.args.start.now.store w.path c.in-Some.page w.block c.requires.row.machine told

pub parked-requires-clause-block : goal.parked-requires-clause-block
parked-requires-clause-block c =
    let w = c.args.watch.now in
    let told : Some c.in-Some.page ≡ w.block = sym c.in-Some.is ∙ ap (λ (v : WatchRecord). v.block) c.watch.view_is in
    parked_there c.args.start.now.store w.path c.in-Some.page w.block c.requires.row.machine told

pub returns-in-Some-clause-next : goal.returns-in-Some-clause-next
returns-in-Some-clause-next c =
    let w = c.args.watch.now in
    let told : Some c.in-Some.page ≡ w.block = sym c.in-Some.is ∙ ap (λ (v : WatchRecord). v.block) c.watch.view_is in
    parked_next c.args.start.now.store w.path c.in-Some.page w.block c.parked.result c.requires.row.machine told c.parked.ensures.next

pub returns-in-None-clause-next : goal.returns-in-None-clause-next
returns-in-None-clause-next c =
    let start = c.args.start.now in
    idle_next start.store c.args.watch.now.path c.get.result
    (hart_idle start.harts c.watch.inside.hart c.get.result c.requires.idle c.get.ensures)
