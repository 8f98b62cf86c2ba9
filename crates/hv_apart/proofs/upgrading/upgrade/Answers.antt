-- What is written is the upgrade, and all else stays.
use Rattle.std.proofs.Common.{◌≡◌, ℕ, List, Option, None, Result, Ok, map, subst, sym, ◌∙◌, refl}
use Rattle.std.specs.Prelude.{IfSome}
use Rattle.hv_map.specs.Item.{Item}
use Rattle.hv_map.specs.Links.{syllable_of}
use Rattle.hv_apart.specs.Upgrade.{Stays, parent_map, upgrade_refusal}
use Rattle.hv_apart.specs.declared.upgrading.Plan.{Plan}
use Rattle.hv_apart.specs.declared.upgrading.UpgradeEnd.{UpgradeEnd}
use Rattle.hv_apart.proofs.Plans.{written_out}
use Rattle.hv_apart.proofs.Refusals.{accepted}
use Rattle.hv_apart.proofs.Upgraded.{words_law}
use Rattle.hv_apart.proofs.upgrading.upgrade.Goals as goal

pub returns-clause-ok : goal.returns-clause-ok
returns-clause-ok c = c.write.ensures ∙ written_out c.args.store.now c.args.chain.now c.args.dir c.in_ok-plan.plan c.in_ok-plan.ensures.plan

pub returns-clause-stays : goal.returns-clause-stays
returns-clause-stays c =
    let S = c.args.store.now in
    let items = c.args.chain.now in
    let dir = c.args.dir in
    let ready = c.in_ok-plan.ensures.plan in
    let r : Result Plan UpgradeEnd = Ok c.in_ok-plan.plan in
    let none : upgrade_refusal S items dir ≡ None = accepted (upgrade_refusal S items dir) r c.in_ok-plan.plan refl c.in_ok-plan.ensures.refused in
    let law = words_law S (map syllable_of items) items ready.item dir c.requires.pinned ready.last none in
    let written = c.write.ensures ∙ written_out S items dir c.in_ok-plan.plan ready in
    subst (λ (o : Option Item). IfSome o (λ x. Stays S c.write.new.store (parent_map S items) x dir)) (sym ready.last)
    (subst (λ (T : List ℕ). Stays S T (parent_map S items) ready.item dir) (sym written) law.stays)
