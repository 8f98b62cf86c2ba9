-- Each entry is the one that is repeated.
use Rattle.std.proofs.Common.{◌≡◌, refl}
use Rattle.std.proofs.lemmas.List.Elements.{All-replicate}
use Rattle.hv_fast.specs.Memo.{nothing, ways}
use Rattle.hv_fast.specs.declared.memo.Entry.{Entry}
use Rattle.hv_fast.proofs.memo.no_entries.Goals as goal

pub returns-clause-nothing : goal.returns-clause-nothing
returns-clause-nothing c = All-replicate (λ (e : Entry). e.page ≡ nothing) ways (record { page = nothing; host = 0 }) refl
