use Rattle.std.proofs.Common.{◌≡◌, List, ℕ, Some, ap, sym, ◌∙◌}
use Rattle.hv_map.proofs.Machines.{pinned_own}
use Rattle.hv_map.specs.Chain.{pin_of}
use Rattle.hv_run.proofs.starting.start.Goals as goal

pub start_on-requires : goal.start_on-requires
start_on-requires g c =
    let S = (g.N.Nested.state c.args.nested.now).storage in
    let path = c.args.watch.now.path in
    let is : pin_of S path ≡ Some c.in-Some.chain = ap (λ (T : List ℕ). pin_of T path) (sym c.parked.ensures) ∙ sym c.in-Some.ensures in
    pinned_own S path c.in-Some.chain is
