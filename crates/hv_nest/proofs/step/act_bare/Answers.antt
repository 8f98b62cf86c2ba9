-- Before the instruction nothing is noted.
use Rattle.std.proofs.Common.{◌<◌, ℕ, ap, subst}
use Rattle.hv_word.specs.Storage.{page_count}
use Rattle.hv_store.proofs.Identity.{length-identity}
use Rattle.hv_nest.specs.Notes.{is_exact}
use Rattle.hv_nest.proofs.step.act_bare.Goals as goal

pub invariant_of-noting : goal.invariant_of-noting
unfolding is_exact
invariant_of-noting c = record { exact = ap (is_exact c.args.store.now) c.requires.fresh }

pub returns-clause-next : goal.returns-clause-next
returns-clause-next c =
    λ real. subst (λ (n : ℕ). c.act.new.cpu.next < n) (length-identity (page_count c.args.store.now)) (c.act.ensures.next real)
