use Rattle.std.proofs.Common.{◌≡◌, ◌∙◌, ◌++◌, ℕ, ap, arith}
use Rattle.hv_report.specs.Dumps.{first_lines}
use Rattle.hv_report.proofs.dumps.put_page.Goals as goal

pub returns : goal.returns
returns c =
    let all : c.loop-line.line ≡ 128 = omega (arith, c.loop-line.auto.line-end, c.loop-line-test.false) in
    c.loop-line.invariant ∙ ap (λ (n : ℕ). c.args.out.now.items ++ first_lines c.args.store.now c.args.host n) all
