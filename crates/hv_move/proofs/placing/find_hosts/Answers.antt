-- The first page that can't be written, and all of them.
use Rattle.std.proofs.Common.{◌≡◌, ℕ, List, Result, Ok, Err, refl, ap, sym, subst, arith}
use Rattle.std.specs.Prelude.{IsOk, MatchOption}
use Rattle.std.specs.Option.{is_none}
use Rattle.hv_map.specs.Chain.{map_along}
use Rattle.hv_move.specs.declared.placing.PlaceEnd.{PlaceEnd}
use Rattle.hv_move.specs.declared.placing.PlaceEnd.TheVariants as end
use Rattle.hv_move.proofs.Writing.{shut_here, shut_nowhere}
use Rattle.hv_move.proofs.placing.find_hosts.Goals as goal

pub returns-in_default-clause-shut : goal.returns-in_default-clause-shut
returns-in_default-clause-shut c =
    let F = map_along c.args.store.now c.args.chain.now in
    let k = c.loop-page.page in
    let r : Result (List ℕ) PlaceEnd = Err (end.Shut k) in
    let first = shut_here F k (omega (arith, c.loop-page-test.true, c.pages-page-end.ensures.pages)) (λ m low. ap is_none (c.loop-page.invariant.found m low)) (sym c.in_default.ensures.page) in
    subst (λ o. MatchOption o (IsOk r) (λ page. r ≡ Err (end.Shut page))) (sym first) refl

pub returns-clause-shut : goal.returns-clause-shut
returns-clause-shut c =
    let F = map_along c.args.store.now c.args.chain.now in
    let r : Result (List ℕ) PlaceEnd = Ok c.loop-page.hosts in
    let none = shut_nowhere F (λ m low. ap is_none (c.loop-page.invariant.found m (omega (arith, low, c.loop-page-test.false, c.pages-page-end.ensures.pages)))) in
    subst (λ o. MatchOption o (IsOk r) (λ page. r ≡ Err (end.Shut page))) (sym none) refl
