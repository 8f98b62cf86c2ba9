use Rattle.std.proofs.Common.{ℕ, ◌+◌, ◌-◌, ◌/◌, ◌≡◌, ◌∙◌, ap, arith}
use Rattle.std.proofs.lemmas.Result.{err_from_is_err_and}
use Rattle.hv_load.specs.Finding.{found_by}
use Rattle.hv_load.proofs.Placing.{next_placed, stop_placed, length_more, all_more}
use Rattle.hv_load.proofs.finding.Finding.places.Goals as goal

pub returns-in_err-host-clause-places : goal.returns-in_err-host-clause-places
returns-in_err-host-clause-places c =
    let p = err_from_is_err_and c.from_residual-in_err-host.result c.from_residual-in_err-host.ensures.1 in rw (p.1, p.2)
    (stop_placed (found_by c.args.self.now.store.now c.args.self.now.marks.now c.args.self.now.chain c.args.self.now.limit c.args.self.now.free) c.loop-i.places.items c.args.first c.loop-i.i c.args.count (c.from.result + c.loop-i.i) c.in_err-host.field-0.0 _ c.loop-i-test.true (omega arith) c.in_err-host.ensures.page c.loop-i.invariant.left)

pub loop-i-preserved : goal.loop-i-preserved
loop-i-preserved c =
    let before : c.from.result + c.loop-i.i ≡ c.args.first + (c.loop-i.i + 1) - 1 = omega arith in
    record {
      left = next_placed (found_by c.args.self.now.store.now c.args.self.now.marks.now c.args.self.now.chain c.args.self.now.limit c.args.self.now.free) c.loop-i.places.items c.push.new.self.items c.args.first c.loop-i.i c.args.count c.in_ok-host.host c.place.result (c.from.result + c.loop-i.i) _ c.loop-i-test.true (omega arith) c.in_ok-host.ensures.page c.place.ensures.place c.in_ok-push.ensures.items c.loop-i.invariant.left;
      number = length_more c.loop-i.places.items c.push.new.self.items c.place.result c.loop-i.i c.in_ok-push.ensures.items c.loop-i.invariant.number;
      within = all_more _ c.loop-i.places.items c.push.new.self.items c.place.result c.in_ok-push.ensures.items c.loop-i.invariant.within c.place.ensures.within;
      host = c.in_ok-host.ensures.within;
      held =
          c.in_ok-host.ensures.page
          ∙ ap
          (λ (q : ℕ). found_by c.args.self.now.store.now c.args.self.now.marks.now c.args.self.now.chain c.args.self.now.limit c.args.self.now.free (q / 1024))
          before;
    }
