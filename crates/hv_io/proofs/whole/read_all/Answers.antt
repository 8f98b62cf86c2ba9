-- The bytes given are those read before this turn and those of this turn.
use Rattle.std.proofs.Common.{◌≡◌, ℕ, ◌+◌, ◌≤◌, take, arith}
use Rattle.std.proofs.lemmas.List.{length-take}
use Rattle.hv_io.specs.Whole.{IsCountAt}
use Rattle.hv_limits.specs.Limits.{input_limit}
use Rattle.hv_io.proofs.Fronts.{IsCountAt-memory, Gives-more}
use Rattle.hv_io.proofs.whole.read_all.Goals as goal

pub returns-then-count-room-clause-given : goal.returns-then-count-room-clause-given
returns-then-count-room-clause-given g c =
    Gives-more _ _ _ c.loop-bytes.bytes.items (take c.in_ok-count.count c.take.new.buf) (λ n. n ≡ input_limit + 1) c.loop-bytes.invariant.given c.in_ok-count.ensures.bytes.0 (omega (arith, c.in_ok-count.ensures.bound))

pub returns-then-count-room-clause-taken : goal.returns-then-count-room-clause-taken
returns-then-count-room-clause-taken g c =
    Gives-more _ _ _ c.loop-bytes.bytes.items (take c.in_ok-count.count c.take.new.buf) (λ n. n ≤ input_limit + 1) c.loop-bytes.invariant.given c.in_ok-count.ensures.bytes.0 (omega (arith, c.in_ok-count.ensures.bound))

pub returns-in_err-extend_from_slice-clause-given : goal.returns-in_err-extend_from_slice-clause-given
returns-in_err-extend_from_slice-clause-given g c =
    Gives-more _ _ _ c.loop-bytes.bytes.items (take c.in_ok-count.count c.take.new.buf) (IsCountAt c.from_residual-in_err-extend_from_slice.result) c.loop-bytes.invariant.given c.in_ok-count.ensures.bytes.0
    (IsCountAt-memory _ _ c.from_residual-in_err-extend_from_slice.ensures.1 (omega (arith, c.in_ok-count.ensures.bound, c.take.auto.buf, length-take {A = ℕ})))

pub returns-in_err-extend_from_slice-clause-taken : goal.returns-in_err-extend_from_slice-clause-taken
returns-in_err-extend_from_slice-clause-taken g c =
    Gives-more _ _ _ c.loop-bytes.bytes.items (take c.in_ok-count.count c.take.new.buf) (λ n. n ≤ input_limit + 1) c.loop-bytes.invariant.given c.in_ok-count.ensures.bytes.0 (omega (arith, c.in_ok-count.ensures.bound, c.take.auto.buf, length-take {A = ℕ}))
