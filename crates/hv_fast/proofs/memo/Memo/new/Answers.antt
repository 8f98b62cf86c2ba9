-- Nothing is held for any access.
use Rattle.hv_fast.specs.Memo.{Entries, IsEmpty}
use Rattle.hv_fast.proofs.Remembering.{empty_all, empty_right}
use Rattle.hv_fast.proofs.memo.Memo.new.Goals as goal

pub returns : goal.returns
returns c =
    let m : Entries = record { fetches = c.no_entries-fetches.result; reads = c.no_entries-reads.result; writes = c.no_entries-writes.result } in
    let empty : IsEmpty m = empty_all m c.no_entries-fetches.ensures.nothing c.no_entries-reads.ensures.nothing c.no_entries-writes.ensures.nothing in
    record { empty = empty; right = empty_right m empty }
