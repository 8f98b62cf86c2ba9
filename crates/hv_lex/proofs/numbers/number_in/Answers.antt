use Rattle.std.proofs.Common.{◌∙◌, sym, rules}
use Rattle.hv_lex.proofs.Numerals.{number_none, number_stops, number_over, number_ends}
use Rattle.hv_lex.proofs.numbers.number_in.Goals as goal

pub returns-then-is_empty : goal.returns-then-is_empty
returns-then-is_empty c = number_none c.args.base c.args.digits.now (search rules)

pub returns-in_err-digit : goal.returns-in_err-digit
returns-in_err-digit c =
    c.from_residual.ensures
    ∙ number_stops c.args.base c.loop-byte.value c.loop-byte.byte-index c.args.digits.now (search rules) c.loop-byte-test.true
    c.loop-byte.invariant.rest (sym c.in_err-digit.ensures.value)

pub returns-then-value-from : goal.returns-then-value-from
returns-then-value-from c =
    number_over c.args.base c.loop-byte.value c.loop-byte.byte-index c.in_ok-digit.digit c.args.digits.now c.requires.some (search rules)
    c.loop-byte-test.true c.loop-byte.invariant.rest (sym c.in_ok-digit.ensures.value) (search rules)

pub returns : goal.returns
returns c =
    number_ends c.args.base c.loop-byte.value c.loop-byte.byte-index c.args.digits.now (search rules) c.loop-byte-test.false
    c.loop-byte.invariant.fits c.loop-byte.invariant.rest
