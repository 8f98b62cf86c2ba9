-- A hart that is in the state keeps its next below the number of pages, of which there is one at least.
use Rattle.std.proofs.Common.{◌≡◌, ◌≢◌, ℕ, zero, suc, ◌<◌, ◌≤◌, List, Option, Some, None, IfSome, slice_get, refl, subst, arith}
use Rattle.std.specs.Prelude.{All}
use Rattle.std.proofs.lemmas.Option.{slice_get_within, get_or_from_slice_get}
use Rattle.hv_word.specs.Storage.{page_count}
use Rattle.hv_cpu.specs.Regs.{Regs}
use Rattle.hv_nest.specs.State.{State, IsNextInside}
use Rattle.hv_nest.specs.Kinds.{NextBelow}
use Rattle.hv_nest.proofs.plain.PlainNested.step_into.Goals as goal

below : (n s : ℕ) → 1 ≤ n → (s ≢ 0 → s < n) → s < n
below n zero some b = omega (arith, some)
below n (suc s) some b = b (λ e. absurd (omega (arith, e)))

at : (n : ℕ) (rs : List Regs) (h : ℕ) (o : Option Regs) → 1 ≤ n → All (NextBelow n) rs → slice_get rs h ≡ o → IfSome o (λ r. r.next < n)
at n rs h None some all e = tt
at n rs h (Some r) some all e =
    below n r.next some (subst (NextBelow n) (get_or_from_slice_get rs h r r e) (all h r (slice_get_within rs h r e)))

inside : (n : ℕ) (rs : List Regs) (h : ℕ) → 1 ≤ n → All (NextBelow n) rs → IfSome (slice_get rs h) (λ r. r.next < n)
inside n rs h some all = at n rs h (slice_get rs h) some all refl

pub returns-clause-next : goal.returns-clause-next
returns-clause-next c =
    let store = c.self.inside.store in
    let some : 1 ≤ page_count store = omega (arith, c.pages-pages.ensures.some, c.pages-pages.ensures.count) in
    subst (λ (st : State). IsNextInside st c.args.hart) c.self.view_is
    (inside (page_count store) c.self.inside.harts c.args.hart some c.self.invariant)
