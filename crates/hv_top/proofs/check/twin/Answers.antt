use Rattle.std.proofs.Common.{◌≡◌, Some, sym, ap, ◌∙◌}
use Rattle.hv_map.proofs.Machines.{pinned_own}
use Rattle.hv_map.specs.Chain.{pin_of}
use Rattle.hv_run.specs.Record.{WatchRecord}
use Rattle.hv_top.proofs.Twins.{next_there}
use Rattle.hv_top.proofs.check.twin.Goals as goal

pub seen-requires-clause-pinned : goal.seen-requires-clause-pinned
seen-requires-clause-pinned c = pinned_own c.args.start.store c.watch.inside.path c.in-Some.chain (sym c.in-Some.ensures)

pub returns-clause-next : goal.returns-clause-next
returns-clause-next c =
    let S = c.args.start.store in
    let there : Some c.in-Some.chain ≡ pin_of S c.args.watch.now.path =
    c.in-Some.ensures ∙ ap (λ (w : WatchRecord). pin_of S w.path) c.watch.view_is
    in
    next_there S c.args.watch.now.path c.in-Some.chain c.in_ok-store.store c.registers-cpu.result there c.in_ok-store.ensures c.registers-cpu.ensures.next
