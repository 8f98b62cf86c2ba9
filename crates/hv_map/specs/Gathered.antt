-- Maps with gathered pages: beside the slot of each page stand the bare pages of tables and directories whose words are
-- read to find it. And the lists in which such pages are gathered.
use Rattle.std.specs.Prelude.{ℕ, ◌+◌, Bool, true, false, ◌==◌, if◌then◌else◌, List, [], ◌∷◌, ◌++◌, map, length, take}
use Rattle.std.specs.Prelude.{Option, Some, None, slice_get}
use Rattle.std.specs.List.{range_with_len}
use Rattle.hv_word.specs.Words.{field_of, has}
use Rattle.hv_word.specs.Storage.{page_count}
use Rattle.hv_store.specs.declared.access.Slot.{Slot}
use Rattle.hv_store.specs.declared.access.Way.{Way}
use Rattle.hv_store.specs.declared.access.Way.TheVariants.{Open, Shut}
use Rattle.hv_store.specs.Access.{open_at}
use Rattle.hv_map.specs.Item.{Item}
use Rattle.hv_map.specs.Compose.{Looked, Named, Stopped, compose_slot, entry_of, reading, table_of}

-- a slot, and the bare table and directory pages that are read to find it, in the order of reading
pub record Gathered : Type 0 where
  pub slot : Slot
  pub pages : List ℕ

-- the map without the gathered pages
abbrev pub slots_of : List Gathered → List Slot
slots_of N = map (λ (n : Gathered). n.slot) N

-- what is read to find a page of the machine with the map N, nothing where it has no such page
abbrev pub pages_gathered : Option Gathered → List ℕ
pages_gathered None = []
pages_gathered (Some n) = n.pages

-- what is read to find page u of the machine with the map N
abbrev pub pages_read : List Gathered → ℕ → List ℕ
pages_read N u = pages_gathered (slice_get N u)

-- what is read for a word of it: the same, and then the page itself where it can be read
abbrev pub pages_through : List ℕ → Option Way → List ℕ
pages_through gs None = gs
pages_through gs (Some (Open g)) = gs ++ g ∷ []
pages_through gs (Some (Shut l c p w)) = gs

-- what is read for a word of page u of it
abbrev pub word_pages : List Gathered → ℕ → List ℕ
word_pages N u = pages_through (pages_read N u) (reading (slots_of N) u)

-- What is read for the table word of page i of a child with the table t and the version v, where N is the map of its
-- parent, at level j: first the directory word, if there is one, and then the table word, if it is named.
abbrev pub directory_pages : List Gathered → ℕ → ℕ → List ℕ
directory_pages N t v = if v == 2 then word_pages N t else []

-- what is read for the table word once its page is named
abbrev pub table_word_pages : List Gathered → Looked → List ℕ
table_word_pages N (Named u) = word_pages N u
table_word_pages N (Stopped way) = []

-- both, in the order of reading
abbrev pub entry_pages : List ℕ → List Gathered → ℕ → ℕ → ℕ → ℕ → List ℕ
entry_pages S N j t v i =
    directory_pages N t v ++ table_word_pages N (table_of S (reading (slots_of N)) j t v i)

-- what is read for the page that an entry names
abbrev pub target_pages : List Gathered → Looked → List ℕ
target_pages N (Named e) = pages_read N (field_of e 12 20)
target_pages N (Stopped way) = []

-- the slot of that page of the child, with what is read to find it
abbrev pub gathered_slot : List ℕ → List Gathered → ℕ → ℕ → ℕ → ℕ → Gathered
gathered_slot S N j t v i = record {
  slot = compose_slot S (slots_of N) j t v i;
  pages = entry_pages S N j t v i ++ target_pages N (entry_of S (reading (slots_of N)) j t v i);
}

-- the map of such a child with n pages
unfoldable pub gathered_map : List ℕ → List Gathered → ℕ → ℕ → ℕ → ℕ → List Gathered
gathered_map S N j n t v = map (gathered_slot S N j t v) (range_with_len 0 n)

-- the map of the bare machine: for a page of its own nothing is read
abbrev pub bare_gathered : ℕ → Gathered
bare_gathered g = record { slot = open_at g; pages = [] }

-- the map of the bare machine with P pages
unfoldable pub bare_gathered_map : ℕ → List Gathered
bare_gathered_map P = map bare_gathered (range_with_len 0 P)

-- the map of the machine at the end of the items, where N is the map of the machine before the first, at level j
unfoldable pub gathered_from : List ℕ → List Gathered → ℕ → List Item → List Gathered
gathered_from S N j [] = N
gathered_from S N j (x ∷ xs) = gathered_from S (gathered_map S N j x.pages x.table x.version) (j + 1) xs

-- the same from the bare machine on
unfoldable pub gathered_along : List ℕ → List Item → List Gathered
gathered_along S items = gathered_from S (bare_gathered_map (page_count S)) 0 items

-- the map of the machine at level k
unfoldable pub gathered_at : List ℕ → List Item → ℕ → List Gathered
gathered_at S items k = gathered_along S (take k items)

-- what is read to find the blocks of the items, each on its page of the one before
unfoldable pub block_pages : List ℕ → List Gathered → ℕ → List Item → List ℕ
block_pages S N j [] = []
block_pages S N j (x ∷ xs) =
    pages_read N x.syllable ++ block_pages S (gathered_map S N j x.pages x.table x.version) (j + 1) xs

-- the same from the bare machine on
unfoldable pub pin_pages : List ℕ → List Item → List ℕ
pin_pages S items = block_pages S (bare_gathered_map (page_count S)) 0 items

-- how many pages can be listed
abbrev pub listed_limit : ℕ
listed_limit = 255

-- pages that were listed, and whether a further one was to be listed for which there was no room
pub record Listed : Type 0 where
  pub pages : List ℕ
  pub full : Bool

-- the list before any page is added
abbrev pub no_pages : Listed
no_pages = record { pages = []; full = false }

-- the list with one page more, where it isn't there yet
abbrev pub with_page : Listed → ℕ → Listed
with_page p g =
    if has g p.pages then p
    else (if length p.pages == listed_limit then record p { full = true } else record p { pages = p.pages ++ g ∷ [] })

-- and with some, one after the other
unfoldable pub with_pages : Listed → List ℕ → Listed
with_pages p [] = p
with_pages p (g ∷ gs) = with_pages (with_page p g) gs
