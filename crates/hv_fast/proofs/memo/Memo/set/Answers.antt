-- What was held is held still, and so is the entry that is set.
use Rattle.std.proofs.Common.{◌≡◌, sym, subst}
use Rattle.hv_store.specs.declared.access.Access.{Access}
use Rattle.hv_store.specs.declared.access.Access.TheVariants.{Fetch, Read, Write}
use Rattle.hv_store.specs.declared.access.Way.TheVariants.{Open}
use Rattle.hv_store.specs.Access.{way_for}
use Rattle.hv_fast.specs.Memo.{Entries, IsRightMemo}
use Rattle.hv_fast.proofs.Remembering.{set_right}
use Rattle.hv_fast.proofs.memo.Memo.set.Goals as goal

pub returns-in-Fetch-clause-right : goal.returns-in-Fetch-clause-right
returns-in-Fetch-clause-right c = λ S items gs slot right held opens.
    let m : Entries = record { fetches = c.self.inside.fetches; reads = c.self.inside.reads; writes = c.self.inside.writes } in
    set_right m Fetch c.args.page c.args.host S items gs slot (subst (IsRightMemo S items gs) (sym c.self.view_is) right) held
    (subst (λ (a : Access). way_for slot a ≡ Open c.args.host) c.in-Fetch.is opens)

pub returns-in-Read-clause-right : goal.returns-in-Read-clause-right
returns-in-Read-clause-right c = λ S items gs slot right held opens.
    let m : Entries = record { fetches = c.self.inside.fetches; reads = c.self.inside.reads; writes = c.self.inside.writes } in
    set_right m Read c.args.page c.args.host S items gs slot (subst (IsRightMemo S items gs) (sym c.self.view_is) right) held
    (subst (λ (a : Access). way_for slot a ≡ Open c.args.host) c.in-Read.is opens)

pub returns-in-Write-clause-right : goal.returns-in-Write-clause-right
returns-in-Write-clause-right c = λ S items gs slot right held opens.
    let m : Entries = record { fetches = c.self.inside.fetches; reads = c.self.inside.reads; writes = c.self.inside.writes } in
    set_right m Write c.args.page c.args.host S items gs slot (subst (IsRightMemo S items gs) (sym c.self.view_is) right) held
    (subst (λ (a : Access). way_for slot a ≡ Open c.args.host) c.in-Write.is opens)
