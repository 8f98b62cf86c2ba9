use Rattle.std.proofs.Common.{◌≡◌, ◌+◌, Bool, false, IfOk, sym, ap, subst, rules}
use Rattle.hv_lex.specs.Lines.{lines_of}
use Rattle.hv_job.specs.JobOf.{body_from}
use Rattle.hv_line.specs.Lines.{words_of}
use Rattle.hv_line.proofs.Ranging.{statement_ranged}
use Rattle.hv_job.proofs.Following.{begins, skipped}
use Rattle.hv_job.proofs.body.read_line.Goals as goal

pub returns-then-not-has_words-clause-rest : goal.returns-then-not-has_words-clause-rest
returns-then-not-has_words-clause-rest c =
    ap (λ b. body_from c.args.draft.now b (c.args.number + 1) (lines_of c.args.behind.now)) (skipped c.args.draft.now.version c.args.line.now (search rules))

pub add-requires-clause-statement : goal.add-requires-clause-statement
add-requires-clause-statement c = statement_ranged c.args.draft.now.version (words_of c.args.line.now) c.in-Ok.statement c.in-Ok.ensures

pub returns-in-Ok-clause-rest : goal.returns-in-Ok-clause-rest
returns-in-Ok-clause-rest c =
    subst
    (λ (b : Bool). IfOk c.add.result (λ rest. body_from c.add.new.draft b (c.args.number + 1) (lines_of c.args.behind.now) ≡ body_from c.add.new.draft false rest.number (lines_of rest.text.now)))
    (begins c.args.draft.now.version c.args.line.now c.in-Ok.statement (sym c.in-Ok.ensures)) c.add.ensures.rest
