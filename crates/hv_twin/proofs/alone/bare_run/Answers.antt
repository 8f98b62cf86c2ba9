use Rattle.std.proofs.Common.{◌≡◌, ◌∙◌, ◌+◌, List, ◌∷◌, drop, ap, sym, subst}
use Rattle.std.proofs.lemmas.List.{drop_all}
use Rattle.hv_word.specs.Storage.{page_count}
use Rattle.hv_cpu.specs.Regs.{Regs}
use Rattle.hv_nest.specs.Bare.{alone, bare_of, bare_moves}
use Rattle.hv_nest.specs.Kinds.{NextBelow}
use Rattle.hv_nest.specs.Move.{last_of}
use Rattle.hv_nest.specs.Watched.{LineChange}
use Rattle.hv_twin.specs.Twin.{NeverFallsFrom}
use Rattle.hv_twin.proofs.Moves.{passed, change_at, moves_end, moves_over}
use Rattle.hv_twin.proofs.alone.bare_run.Goals as goal
use Rattle.hv_twin.proofs.alone.bare_run.Goals.{else-loop-line-test, then-loop-line-test+then-line-steps}

pub loop-line-preserved : goal.loop-line-preserved
loop-line-preserved c =
    let lines = c.args.lines.now in
    let i = c.loop-line.line-index in
    let l : LineChange = record { count = c.line.inside.count; bits = c.line.inside.bits } in
    let ls = drop (i + 1) lines in
    let before = alone c.loop-line.store c.loop-line.cpu in
    let S = c.run.new.store in
    let is : l ≡ c.line-item.result = c.line.view_is in
    let left : drop i lines ≡ l ∷ ls = change_at lines i c.line-item.result c.loop-line-test.true c.line-item.is ∙ ap (λ x. x ∷ ls) (sym is) in
    let counts = subst (NeverFallsFrom c.loop-line.made) left c.loop-line.invariant.counts in
    record {
      rest =
          ap (λ (r : Regs). last_of (alone S r) (bare_moves l.count ls c.args.steps)) c.set_lines.ensures
          ∙ passed before (alone S c.run.new.cpu) c.loop-line.made c.args.steps l ls c.if-line-steps.false c.run.ensures.state
          ∙ ap (λ (xs : List LineChange). last_of before (bare_moves c.loop-line.made xs c.args.steps)) (sym left)
          ∙ c.loop-line.invariant.rest;
      made = c.if-line-steps.false;
      counts = counts.1;
      next = subst (NextBelow (page_count S)) (sym c.set_lines.ensures) c.run.ensures.next;
      len = c.run.ensures.len ∙ c.loop-line.invariant.len;
    }

pub returns-clause-state : goal.returns-clause-state
unfolding bare_of
returns-clause-state c =
    let lines = c.args.lines.now in
    let i = c.loop-line.line-index in
    let made = c.loop-line.made in
    let m = c.args.steps in
    let before = alone c.loop-line.store c.loop-line.cpu in
    c.run-2.ensures.state
    ∙ ap (last_of before)
    (elim c.loop-line-test.branch [
      | else-loop-line-test w ↦ sym (moves_end made m) ∙ ap (λ xs. bare_moves made xs m) (sym (drop_all i lines w.loop-line-test.false))
      | then-loop-line-test+then-line-steps w ↦
          let l : LineChange = record { count = w.line.inside.count; bits = w.line.inside.bits } in
          let ls = drop (i + 1) lines in
          let is : l ≡ w.line-item.result = w.line.view_is in
          let left : drop i lines ≡ l ∷ ls = change_at lines i w.line-item.result w.loop-line-test.true w.line-item.is ∙ ap (λ x. x ∷ ls) (sym is) in
          sym (moves_over made m l ls w.if-line-steps.true) ∙ ap (λ xs. bare_moves made xs m) (sym left)
    ])
    ∙ c.loop-line.invariant.rest
