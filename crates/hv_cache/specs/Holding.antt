-- What a cache of translations holds: entries from the most to the least recently used, each under the number of a path
-- and a page of the machine there, and how many entries it can hold.
use Rattle.std.specs.Prelude.{ℕ, ◌-◌, Bool, not, ◌&&◌, List, ◌∷◌, nat_eq, take}
use Rattle.std.specs.List.{filter, list_any}
use Rattle.std.specs.Map.{remove_entry}
use Rattle.lru.specs.LruCache.{LruCache}
use Rattle.hv_word.specs.Words.{has}
use Rattle.hv_cache.specs.Kept.{Kept, rests_on}

abbrev pub Key : Type 0
Key = ℕ × ℕ

abbrev pub Entry : Type 0
Entry = Key × Kept

abbrev pub Holding : Type 0
Holding = LruCache Key Kept

-- how many entries a cache can be made for
abbrev pub entries_limit : ℕ
entries_limit = 4096

-- whether two keys are the same
abbrev pub same : Key → Key → Bool
same a b = nat_eq a.0 b.0 && nat_eq a.1 b.1

-- The entries after one is kept: it comes first, then the others in their order, without the one that had its key, as
-- many as can be held.
abbrev pub with_entry : Holding → Key → Kept → List Entry
with_entry c key kept = (key, kept) ∷ take (c.cap - 1) (remove_entry (same key) c.entries)

-- the entries that don't rest on the bare page g
abbrev pub without_page : ℕ → List Entry → List Entry
without_page g es = filter (λ e. not (rests_on g e.1)) es

-- whether an entry rests on the bare page g, and whether one has it among its tables
abbrev pub any_rests_on : ℕ → List Entry → Bool
any_rests_on g es = list_any (λ e. rests_on g e.1) es

abbrev pub any_has_table : ℕ → List Entry → Bool
any_has_table g es = list_any (λ e. has g e.1.tables) es
