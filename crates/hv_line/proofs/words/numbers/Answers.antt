use Rattle.std.proofs.Common.{◌≡◌, ◌++◌, ◌∷◌, [], ℕ, List, Result, Ok, sym, ap, ◌∙◌, rules}
use Rattle.hv_line.specs.Statements.{numbers}
use Rattle.hv_line.specs.Texts.{texts}
use Rattle.hv_line.specs.declared.kinds.JobKind.{JobKind}
use Rattle.hv_line.specs.declared.kinds.JobLineEnd.TheVariants as line
use Rattle.hv_line.proofs.Answering.{gives_end}
use Rattle.hv_line.proofs.Numbering.{numbers_stop, numbers_more, numbers_end}
use Rattle.hv_line.proofs.words.numbers.Goals as goal

pub returns-in_err-number : goal.returns-in_err-number
returns-in_err-number c =
    gives_end c.from_residual.result (line.Fault c.in_err-number.field-0.0) (numbers (texts c.args.words.now)) c.from_residual.ensures.1
    (numbers_stop c.args.words.now c.loop-word.numbers.items c.loop-word.word-index _ _ c.loop-word-test.true c.in_err-number.ensures c.loop-word.invariant)

pub loop-word-preserved : goal.loop-word-preserved
loop-word-preserved c =
    let e : c.push.new.self.items ≡ c.loop-word.numbers.items ++ c.in_ok-number.number ∷ [] = search rules in
    rw e
    (numbers_more c.args.words.now c.loop-word.numbers.items c.loop-word.word-index c.in_ok-number.number _ c.loop-word-test.true c.in_ok-number.ensures
    c.loop-word.invariant)

pub returns : goal.returns
returns c =
    numbers_end c.args.words.now c.loop-word.numbers.items c.loop-word.word-index _ c.loop-word-test.false c.loop-word.invariant
    ∙ ap (λ (ns : List ℕ). let r : Result (List ℕ) JobKind = Ok ns in r) (sym c.new.ensures)
