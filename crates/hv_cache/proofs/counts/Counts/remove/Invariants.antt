-- The pages so far are counted no more.
use Rattle.std.proofs.Common.{◌≡◌, ◌+◌, ℕ, length, slice_index, take}
use Rattle.hv_cache.specs.Counting.{occurrences}
use Rattle.hv_cache.proofs.counts.Counts.remove.Given as goal

abbrev pub invariant-loop-page : goal.invariant-loop-page
invariant-loop-page l = record {
  counted : (g : ℕ) → slice_index l.self-inside.counts.items g + occurrences g (take l.page-index l.pages) ≡ slice_index l.fn.self g;
  long : length l.self-inside.counts.items ≡ length l.fn.self;
}
