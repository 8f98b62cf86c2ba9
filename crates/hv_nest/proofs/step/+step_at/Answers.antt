-- Each way out is a row of a step.
use Rattle.std.proofs.Common.{◌≡◌, ℕ, ◌<◌, List, length, ap, ◌∙◌, sym, arith}
use Rattle.hv_map.specs.Chain.{map_along}
use Rattle.hv_limits.specs.Limits.{depth_limit}
use Rattle.hv_nest.specs.Step.{Barred, interrupt_of, put_back, tell_of, malformed}
use Rattle.hv_nest.specs.Notes.{undone}
use Rattle.hv_nest.proofs.Follows.{child_regs}
use Rattle.hv_nest.proofs.Undone.{length_noted}
use Rattle.hv_nest.proofs.Counts.{child_count}
use Rattle.hv_nest.proofs.Rows.{row_pending, chain_deepest, chain_refused, chain_malformed, chain_child, chain_longer, chain_next, put_ok}
use Rattle.hv_nest.proofs.step.+step_at.Goals as goal

pub returns-in-Some-clause-steps : goal.returns-in-Some-clause-steps
returns-in-Some-clause-steps t c =
    c.interrupt.ensures.does c.args.store.now
    ∙ ap (λ (j : ℕ). interrupt_of c.args.store.now j c.args.cpu.now c.in-Some.cause) c.len-level.ensures.len
    ∙ sym (row_pending _ _ _ _ _ _ _ c.in-Some.ensures.takes)

pub returns-then-level-eq-DEPTH-clause-steps : goal.returns-then-level-eq-DEPTH-clause-steps
returns-then-level-eq-DEPTH-clause-steps t c =
    ap Barred c.too_deep.ensures
    ∙ sym (chain_deepest c.args.store.now c.args.chain.now c.args.hart c.args.cpu.now c.in-Some-entered.page (sym c.len-level.ensures.len ∙ c.if-level-eq-DEPTH.true) c.in_default.ensures.takes c.in-Some-entered.ensures.some c.in-Some-entered.ensures.real)

pub step_at-requires : goal.step_at-requires
step_at-requires t c =
    let shallow : length c.args.chain.now < depth_limit = omega (arith, c.len-level.ensures.len, c.len-level.ensures.bound, c.if-level-eq-DEPTH.false) in
    (omega (arith, c.decreases, chain_longer c.args.chain.now c.deeper-deeper.result c.in-Some-entered.page c.in-Child.host c.in-Child.block shallow c.deeper-deeper.ensures), (c.requires.fresh, chain_next c.args.store.now c.args.chain.now c.deeper-deeper.result c.in-Some-entered.page c.in-Child.host c.in-Child.block c.in-Child.ensures.within.3 c.deeper-deeper.ensures))

pub returns-in-Ok-clause-steps : goal.returns-in-Ok-clause-steps
returns-in-Ok-clause-steps t c =
    let shallow : length c.args.chain.now < depth_limit = omega (arith, c.len-level.ensures.len, c.len-level.ensures.bound, c.if-level-eq-DEPTH.false) in
    put_ok c.args.store.now c.step_at.new.store c.put_cpu.new.store (length c.args.chain.now) c.args.cpu.now c.step_at.new.cpu c.in-Child.host c.in-Ok.kind c.put_cpu.ensures.put
    ∙ ap (put_back c.args.store.now (length c.args.chain.now) c.args.cpu.now c.in-Child.host) c.in-Ok.ensures.steps
    ∙ sym (chain_child c.args.store.now c.args.chain.now c.deeper-deeper.result c.args.hart c.args.cpu.now c.in-Some-entered.page c.in-Child.host c.in-Child.block shallow c.in_default.ensures.takes c.in-Some-entered.ensures.some c.in-Some-entered.ensures.real c.in-Child.ensures.found c.deeper-deeper.ensures)

pub returns-in-Err-clause-steps : goal.returns-in-Err-clause-steps
returns-in-Err-clause-steps t c =
    let shallow : length c.args.chain.now < depth_limit = omega (arith, c.len-level.ensures.len, c.len-level.ensures.bound, c.if-level-eq-DEPTH.false) in
    c.tell.ensures.tells
    ∙ ap (λ (S : List ℕ). tell_of S c.len-level.result c.args.cpu.now c.in-Child.host c.in-Err.refusal) c.in-Err.ensures.err.storage
    ∙ ap (λ (j : ℕ). tell_of c.args.store.now j c.args.cpu.now c.in-Child.host c.in-Err.refusal) c.len-level.ensures.len
    ∙ ap (put_back c.args.store.now (length c.args.chain.now) c.args.cpu.now c.in-Child.host) c.in-Err.ensures.steps
    ∙ sym (chain_child c.args.store.now c.args.chain.now c.deeper-deeper.result c.args.hart c.args.cpu.now c.in-Some-entered.page c.in-Child.host c.in-Child.block shallow c.in_default.ensures.takes c.in-Some-entered.ensures.some c.in-Some-entered.ensures.real c.in-Child.ensures.found c.deeper-deeper.ensures)

pub returns-in-Malformed-clause-steps : goal.returns-in-Malformed-clause-steps
returns-in-Malformed-clause-steps t c =
    let shallow : length c.args.chain.now < depth_limit = omega (arith, c.len-level.ensures.len, c.len-level.ensures.bound, c.if-level-eq-DEPTH.false) in
    c.tell-in-Malformed.ensures.tells
    ∙ ap (tell_of c.args.store.now c.len-level.result c.args.cpu.now c.in-Malformed.host) c.malformed.ensures
    ∙ ap (λ (j : ℕ). tell_of c.args.store.now j c.args.cpu.now c.in-Malformed.host (malformed j c.in-Some-entered.page)) c.len-level.ensures.len
    ∙ sym (chain_malformed c.args.store.now c.args.chain.now c.args.hart c.args.cpu.now c.in-Some-entered.page c.in-Malformed.host shallow c.in_default.ensures.takes c.in-Some-entered.ensures.some c.in-Some-entered.ensures.real c.in-Malformed.ensures.found)

pub returns-in-Refused-clause-steps : goal.returns-in-Refused-clause-steps
returns-in-Refused-clause-steps t c =
    let shallow : length c.args.chain.now < depth_limit = omega (arith, c.len-level.ensures.len, c.len-level.ensures.bound, c.if-level-eq-DEPTH.false) in
    sym (chain_refused c.args.store.now c.args.chain.now c.args.hart c.args.cpu.now c.in-Some-entered.page c.in-Refused.refusal shallow c.in_default.ensures.takes c.in-Some-entered.ensures.some c.in-Some-entered.ensures.real c.in-Refused.ensures.found)

pub returns-in-Ok-clause-noted : goal.returns-in-Ok-clause-noted
returns-in-Ok-clause-noted t c =
    let origin : undone c.put_cpu.new.store c.put_cpu.new.notes ≡ c.args.store.now =
    c.put_cpu.ensures.origin ∙ c.step_at.ensures.noted.origin in
    record {
      len = length_noted c.args.store.now c.put_cpu.new.store c.put_cpu.new.notes origin;
      origin = origin;
      count = child_count c.args.store.now (undone c.step_at.new.store c.step_at.new.notes) c.in-Child.host (length c.put_cpu.new.notes) (length c.step_at.new.notes) c.in-Child.block.cpu c.step_at.new.cpu c.args.cpu.now c.step_at.ensures.noted.origin (child_regs c.args.store.now (map_along c.args.store.now c.args.chain.now) c.in-Some-entered.page c.in-Child.host c.in-Child.block c.in-Child.ensures.found) c.step_at.ensures.noted.count c.put_cpu.ensures.count;
    }
