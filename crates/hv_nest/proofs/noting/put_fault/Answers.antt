-- The three places are different.
use Rattle.std.proofs.Common.{◌≡◌, ◌≢◌, ℕ, ◌+◌, ◌*◌, false, ap, ◌∙◌, arith}
use Rattle.hv_nest.specs.Notes.{is_noted, is_exact}
use Rattle.hv_nest.proofs.noting.put_fault.Goals as goal

pub returns-clause-exact : goal.returns-clause-exact
unfolding is_exact
returns-clause-exact c =
    let none : (a : ℕ) → is_noted a c.args.notes.now ≡ false = λ a. ap (is_noted a) c.requires.fresh in
    let a : ℕ = 1024 * c.args.page in
    let second : a + 73 ≢ a + 72 = omega arith in
    let third : a + 74 ≢ a + 72 = omega arith in
    let apart : a + 74 ≢ a + 73 = omega arith in
    c.put-3.ensures.exact
    (c.put-2.ensures.apart (a + 74) apart ∙ c.put.ensures.apart (a + 74) third ∙ none (a + 74))
    (c.put-2.ensures.exact
    (c.put.ensures.apart (a + 73) second ∙ none (a + 73))
    (c.put.ensures.exact (none (a + 72)) (ap (is_exact c.args.store.now) c.requires.fresh)))
