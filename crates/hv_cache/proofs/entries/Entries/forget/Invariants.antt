-- Of the entries that rest on the page those are left whose keys are still to come, and of the others all.
use Rattle.std.proofs.Common.{◌≡◌, drop}
use Rattle.std.specs.List.{IsDistinct, filter}
use Rattle.std.specs.Map.{keys_of}
use Rattle.hv_cache.specs.Kept.{rests_on}
use Rattle.hv_cache.specs.Holding.{Entry, same, without_page}
use Rattle.hv_cache.proofs.entries.Entries.forget.Given as goal

abbrev pub invariant-loop-key : goal.invariant-loop-key
invariant-loop-key l = record {
  keys : keys_of (filter (λ (e : Entry). rests_on l.page e.1) l.self.entries) ≡ drop l.key-index l.key-items;
  left : without_page l.page l.self.entries ≡ without_page l.page l.fn.self.entries;
  distinct : IsDistinct same (keys_of l.self.entries);
  cap : l.self.cap ≡ l.fn.self.cap;
}
