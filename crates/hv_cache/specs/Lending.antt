-- What a cache is once a reference into it has ended.
use Rattle.std.specs.Prelude.{◌≡◌, List, ⊤}
use Rattle.std.specs.Borrow.{Fml, MutBor, follows_so}
use mathlib.Core.Option.{none}
use Rattle.lru.specs.LruCache.{lru_cache}
use Rattle.hv_cache.specs.Holding.{Entry, Holding}
use Rattle.hv_cache.specs.contracts.entries.Entries.{the_row as entries_row}
use Rattle.hv_cache.specs.contracts.cache.MapCache.{the_row as cache_row}

-- it has the entries es; the same of the entries within it
abbrev pub CacheEndsAs : MutBor Holding → List Entry → Fml
CacheEndsAs c es = follows_so cache_row cache_row c.ghost_name none (λ _ _. ⊤) (λ n. n ≡ lru_cache es c.now.cap)

abbrev pub EntriesEndAs : MutBor Holding → List Entry → Fml
EntriesEndAs c es = follows_so entries_row entries_row c.ghost_name none (λ _ _. ⊤) (λ n. n ≡ lru_cache es c.now.cap)
