-- Which bare pages a machine stands on, and whether they are all different.
use Rattle.std.specs.Prelude.{ℕ, ◌+◌, ◌*◌, ◌/◌, Bool, true, not, ◌&&◌, ◌==◌, if◌then◌else◌, List, [], ◌∷◌}
use Rattle.std.specs.Prelude.{◌++◌, map, Option, Some, None}
use Rattle.std.specs.List.{range_with_len, flat_map}
use Rattle.hv_word.specs.Words.{has}
use Rattle.hv_word.specs.Storage.{page_count}
use Rattle.hv_store.specs.declared.access.Slot.{Slot}
use Rattle.hv_store.specs.declared.access.Way.{Way}
use Rattle.hv_store.specs.declared.access.Way.TheVariants.{Open, Shut}
use Rattle.hv_store.specs.Access.{identity}
use Rattle.hv_map.specs.Item.{Item}
use Rattle.hv_map.specs.Compose.{Looked, Named, Stopped, compose, reading, table_of}
use Rattle.hv_map.specs.Chain.{map_along}

-- whether no number stands twice in a list
unfoldable pub are_distinct : List ℕ → Bool
are_distinct [] = true
are_distinct (a ∷ rest) = not (has a rest) && are_distinct rest

-- the bare page that a way opens, if it does
abbrev pub open_page : Way → List ℕ
open_page (Open g) = g ∷ []
open_page (Shut l c p w) = []

-- the same of a way, if there is one
abbrev pub open_page_if : Option Way → List ℕ
open_page_if None = []
open_page_if (Some way) = open_page way

-- the bare pages that a map opens for reading, one for each such page of the machine
abbrev pub open_pages : List Slot → List ℕ
open_pages F = flat_map (λ (s : Slot). open_page s.read) F

-- how many pages of table n pages of a child need
abbrev pub table_pages : ℕ → ℕ
table_pages n = (n + 1023) / 1024

-- the bare page in which the parent with the map F reads a page of the child's table, if it is named and can be read
abbrev pub table_open : List Slot → Looked → List ℕ
table_open F (Named u) = open_page_if (reading F u)
table_open F (Stopped way) = []

-- The bare pages of a child's table that its parent can read, where F is the parent's map, at level j. In version 2
-- they are those that the present words of its directory name, one for each such word.
abbrev pub tables_of : List ℕ → List Slot → ℕ → Item → List ℕ
tables_of S F j x =
    flat_map
    (λ k. table_open F (table_of S (reading F) j x.table x.version (1024 * k)))
    (range_with_len 0 (table_pages x.pages))

-- in version 2 the bare page of its directory, if its parent can read it
abbrev pub directory_of : List Slot → Item → List ℕ
directory_of F x = if x.version == 2 then open_page_if (reading F x.table) else []

-- the same of all machines on the way from a machine with the map F, at level j
unfoldable pub tables_along : List ℕ → List Slot → ℕ → List Item → List ℕ
tables_along S F j [] = []
tables_along S F j (x ∷ xs) =
    (directory_of F x ++ tables_of S F j x) ++ tables_along S (compose S F j x.pages x.table x.version) (j + 1) xs

-- the bare pages of the blocks of the machines on the way
abbrev pub blocks_of : List Item → List ℕ
blocks_of items = map (λ (x : Item). x.block) items

-- the pages that the machine at the end of the items can read lie in different bare pages
abbrev pub is_one : List ℕ → List Item → Bool
is_one S items = are_distinct (open_pages (map_along S items))

-- every bare page that the machine at the end of the items stands on: the blocks of the machines on the way, their
-- tables and directories as far as they can be read, and the pages that the machine can read
abbrev pub standing_on : List ℕ → List Item → List ℕ
standing_on S items =
    blocks_of items ++ (tables_along S (identity (page_count S)) 0 items ++ open_pages (map_along S items))

-- Those are all different. (Then the pages that can be read are different too.)
abbrev pub is_apart : List ℕ → List Item → Bool
is_apart S items = are_distinct (standing_on S items)
