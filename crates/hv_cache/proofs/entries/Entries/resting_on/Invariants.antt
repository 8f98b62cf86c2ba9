-- The keys so far, with those of what is left, are the keys of all; and there is room for what is left.
use Rattle.std.proofs.Common.{◌≡◌, ◌≤◌, ◌+◌, ◌++◌, length, vec_capacity, vec_len}
use Rattle.std.specs.List.{filter}
use Rattle.std.specs.Map.{keys_of}
use Rattle.hv_cache.specs.Kept.{rests_on}
use Rattle.hv_cache.specs.Holding.{Entry}
use Rattle.hv_cache.proofs.entries.Entries.resting_on.Given as goal

abbrev pub invariant-loop-key : goal.invariant-loop-key
invariant-loop-key l = record {
  can_next : (goal.iterator-loop-key).can_next l.key-iterator;
  finite : (goal.iterator-loop-key).is_finite l.key-iterator;
  keys : l.keys.items ++ keys_of (filter (λ (e : Entry). rests_on l.page e.1) l.key-iterator) ≡ keys_of (filter (λ (e : Entry). rests_on l.page e.1) l.self.entries);
  room : vec_len l.keys + length l.key-iterator ≤ vec_capacity l.keys;
  wide : vec_capacity l.fn.keys ≤ vec_capacity l.keys;
}
