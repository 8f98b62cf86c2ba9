use Rattle.std.proofs.Common.{◌≡◌, ◌+◌, ◌++◌, length, take, drop, ap, sym, subst, arith}
use Rattle.std.proofs.lemmas.List.{length-map}
use Rattle.hv_run.specs.Play.{Lined, all_after, watched_after, TellsWithin}
use Rattle.hv_run.proofs.Inside.{inside_after}
use Rattle.hv_run.proofs.Within.{all_within, told_back}
use Rattle.hv_run.proofs.moving.Play.tell_lines.Goals as goal

pub invariant_of-self : goal.invariant_of-self
invariant_of-self g c =
    let h = Lined in
    let st = g.N.Nested.state c.args.nested.now in
    let old = c.self.inside.watched.items in
    let all = take c.self.inside.watched.len (c.line_all.new.watched ++ drop (length c.line_all.new.watched) old) in
    let same : all ≡ all_after h st old = told_back c.self.inside.watched.len h st c.line_all.new.watched c.deref_mut.result.now old c.line_all.ensures c.deref_mut.ensures.value (omega arith) in (
      (omega arith, omega arith, omega arith),
      subst (TellsWithin (c.self.inside.calls + 1)) (sym same) (all_within c.self.inside.calls h st old c.self.invariant.1),
      c.self.invariant.2,
      omega (arith, ap length same, length-map old (watched_after h st)),
      inside_after c.self.inside.running.path h st old all c.self.inside.running.inside.items same c.self.invariant.4,
    )
