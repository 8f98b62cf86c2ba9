use Rattle.std.proofs.Common.{◌≡◌, ◌*◌, ◌∙◌, ap, arith, length}
use Rattle.std.proofs.lemmas.List.{length-replicate}
use Rattle.hv_store.specs.Zeros.{zeros}
use Rattle.hv_load.proofs.builder.Builder.new.Goals as goal

pub invariant_of-result : goal.invariant_of-result
unfolding zeros
invariant_of-result c =
    let words : length c.in_ok-new.field-0 ≡ 1024 * c.args.pages = ap length c.in_ok-new.ensures ∙ length-replicate (1024 * c.args.pages) 0 in
    omega (arith, words, c.in_ok-vec.ensures.len, c.in_ok-vec.field-0.ok.0)
