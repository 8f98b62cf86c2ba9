use Rattle.std.proofs.Common.{◌≡◌, ℕ, ◌<◌, [], ◌∷◌, Some, refl, subst, rules, arith}
use Rattle.hv_csr.specs.Access.{csr_write_of}
use Rattle.hv_exec.specs.Touched.{AreAsBut}
use Rattle.hv_exec.proofs.Leaves.{csr_leaves}
use Rattle.hv_exec.proofs.system.update_csr.Goals as goal

pub returns-in_default-updated-clause-touches : goal.returns-in_default-updated-clause-touches
returns-in_default-updated-clause-touches c =
    let r = c.args.cpu.now in
    let q = c.put.new.cpu in
    subst (λ (i : ℕ). (i < 32) × (0 < 49) × AreAsBut (0 ∷ i ∷ 0 ∷ []) r q) c.rd-register.ensures.field (
      c.rd-register.ensures.register,
      omega arith,
      csr_leaves r r q c.rd-register.result 0 c.in-Ok.old (λ k ne. refl) c.put.ensures.gives,
    )

pub returns-clause-touches : goal.returns-clause-touches
returns-clause-touches c =
    let r = c.args.cpu.now in
    let p = c.csr_write.new.cpu in
    let q = c.put-2.new.cpu in
    let w = c.word_written.result in
    let wrote : csr_write_of r c.csr_number-number.result c.in-Some.value ≡ Some p = search rules in
    subst (λ (i : ℕ). (i < 32) × (w < 49) × AreAsBut (0 ∷ i ∷ w ∷ []) r q) c.rd-register.ensures.field (
      c.rd-register.ensures.register,
      c.word_written.ensures.below,
      csr_leaves r p q c.rd-register.result w c.in-Ok.old (λ k. c.word_written.ensures.others r p c.in-Some.value k wrote) c.put-2.ensures.gives,
    )
