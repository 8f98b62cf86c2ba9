-- The maps along a chain, level by level, and how many table words it may take to find a page's slot in them.
use Rattle.std.specs.Prelude.{ℕ, ◌*◌, ◌^◌, ◌<◌, Bool, not, ◌==◌, IfSome, nat_lt, if◌then◌else◌, List, reverse, take}
use Rattle.std.specs.Prelude.{count_by, Result, Ok, Err, Option, Some, None}
use Rattle.hv_word.specs.Words.{field_of}
use Rattle.hv_word.specs.Storage.{page_count}
use Rattle.hv_store.specs.declared.access.Slot.{Slot}
use Rattle.hv_store.specs.declared.access.Way.{Way}
use Rattle.hv_store.specs.declared.access.Way.TheVariants.{Open, Shut}
use Rattle.hv_map.specs.Item.{Item}
use Rattle.hv_map.specs.Compose.{Looked, Named, Stopped, reading, table_of, entry_of, slot_of}
use Rattle.hv_map.specs.Chain.{map_along}
use Rattle.hv_map.specs.Trail.{trail_pages}

-- the map of the machine at level k
unfoldable pub map_at : List ℕ → List Item → ℕ → List Slot
map_at S items k = map_along S (take k items)

-- for page i of a child of the machine at level k, which x describes: the page of that machine where its table word is,
-- the table word, and the page's slot
abbrev pub table_at : List ℕ → List Item → ℕ → Item → ℕ → Looked
table_at S items k x i = table_of S (reading (map_at S items k)) k x.table x.version i

-- the entry of page i of a child x of the machine at level k
abbrev pub entry_at : List ℕ → List Item → ℕ → Item → ℕ → Looked
entry_at S items k x i = entry_of S (reading (map_at S items k)) k x.table x.version i

-- the slot of that page
abbrev pub child_slot_at : List ℕ → List Item → ℕ → Item → ℕ → Slot
child_slot_at S items k x i = slot_of (map_at S items k) k x.version i (entry_at S items k x i)

-- whether the words of a machine's tables are found through a directory
abbrev pub has_directory : Item → Bool
has_directory x = x.version == 2

-- whether they are found without one
abbrev pub has_table_alone : Item → Bool
has_table_alone x = not (x.version == 2)

-- One more than the most table words that are read for a page of the last of these machines. A table word and the page
-- that it names are each found in the parent's map, and so is a directory word.
abbrev pub reads_bound : List Item → ℕ
reads_bound items = 2 ^ count_by has_table_alone items * 3 ^ count_by has_directory items

-- the same of the first k machines
unfoldable pub reads_at : List Item → ℕ → ℕ
reads_at items k = reads_bound (take k items)

-- a way opens a bare page below P, or is shut at a level below k, for a page and a word that have a byte address
abbrev pub IsWayWithin : ℕ → ℕ → Way → Type 0
IsWayWithin P k (Open g) = g < P
IsWayWithin P k (Shut l c p w) = (l < k) × (p < 2 ^ 20) × IfSome w (λ n. n < 1024)

-- the same of the three ways of a slot
abbrev pub IsSlotWithin : ℕ → ℕ → Slot → Type 0
IsSlotWithin P k s = IsWayWithin P k s.read × IsWayWithin P k s.write × IsWayWithin P k s.fetch

-- what a function that looks a word up answers
abbrev pub looked : Result ℕ Way → Looked
looked (Ok n) = Named n
looked (Err way) = Stopped way

-- the pages of the trail for reading of page i of the machine at level k
unfoldable pub pages_from : List ℕ → List Item → ℕ → ℕ → List ℕ
pages_from S items k i = trail_pages S (page_count S) (reverse (take k items)) i

-- the page that an entry names, where the parent has m pages and it is one of them
abbrev pub page_out : ℕ → Looked → Option ℕ
page_out m (Named e) = if nat_lt (field_of e 12 20) m then Some (field_of e 12 20) else None
page_out m (Stopped way) = None
