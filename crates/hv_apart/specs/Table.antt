-- What is told of a machine on a chain, by what its control block says.
use Rattle.std.specs.Prelude.{ℕ, ◌+◌, ◌*◌, ◌%◌, List, map}
use Rattle.std.specs.List.{range_with_len, flat_map}
use Rattle.hv_store.specs.declared.access.Slot.{Slot}
use Rattle.hv_map.specs.Apart.{table_open}
use Rattle.hv_map.specs.Compose.{reading, table_of}
use Rattle.hv_map.specs.Item.{Item}
use Rattle.hv_nest.specs.Watched.{places}
use Rattle.hv_map.specs.declared.chain.ChainItem.{ChainItem}

-- such a machine; its syllable, which nothing here reads, is 0
abbrev pub item_of_chain : ChainItem → Item
item_of_chain c = record { syllable = 0; block = c.block; pages = c.pages; table = c.table; version = c.version }

-- the bare pages of the first n pages of a child's table, where F is its parent's map, at level j
abbrev pub first_tables : List ℕ → List Slot → ℕ → Item → ℕ → List ℕ
first_tables S F j x n =
    flat_map (λ k. table_open F (table_of S (reading F) j x.table x.version (1024 * k))) (range_with_len 0 n)

-- the places of the table words of its first n pages
abbrev pub table_places : List ℕ → List Slot → ℕ → Item → ℕ → List ℕ
table_places S F j x n =
    flat_map
    (λ i. map (λ g. 1024 * g + i % 1024) (table_open F (table_of S (reading F) j x.table x.version i)))
    (range_with_len 0 n)

-- the places of n words of each of some bare pages, from word k on
abbrev pub places_in : ℕ → ℕ → List ℕ → List ℕ
places_in k n gs = flat_map (λ g. places g (range_with_len k n)) gs
