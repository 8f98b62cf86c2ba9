-- Whether the steps of one machine may change what another one stands on.
use Rattle.std.specs.Prelude.{ℕ, Bool, ◌||◌, List, ◌++◌}
use Rattle.std.specs.List.{flat_map, list_any}
use Rattle.std.specs.Option.{option_to_list}
use Rattle.hv_word.specs.Words.{has}
use Rattle.hv_word.specs.Storage.{page_count}
use Rattle.hv_store.specs.declared.access.Slot.{Slot}
use Rattle.hv_store.specs.Access.{identity}
use Rattle.hv_map.specs.Apart.{blocks_of, open_page, open_pages, standing_on, tables_along}
use Rattle.hv_map.specs.Chain.{map_along}
use Rattle.hv_map.specs.Item.{Item}
use Rattle.hv_map.specs.Links.{last_block}

-- The foot pages of the machine at the end of the items: the bare pages of the blocks of the machines on the way, of
-- their tables and directories as far as they can be read, and of the pages that the machine can read.
abbrev pub foot_pages : List ℕ → List Item → List ℕ
foot_pages S items = standing_on S items

-- those of them that aren't there for a block alone, beside the machine's own block
abbrev pub own_pages : List ℕ → List Item → List ℕ
own_pages S items =
    option_to_list (last_block items)
    ++ (tables_along S (identity (page_count S)) 0 items ++ open_pages (map_along S items))

-- the bare pages that a map opens for writing, one for each such page of the machine
abbrev pub written_pages : List Slot → List ℕ
written_pages F = flat_map (λ (s : Slot). open_page s.write) F

-- whether two lists have a page in common
abbrev pub meet : List ℕ → List ℕ → Bool
meet pages others = list_any (λ g. has g others) pages

-- A step of the machine at the end of the items `a` may change what the machine at the end of the items `b` stands on:
-- a page that a's map opens for writing is a foot page of b, or the block of a machine on the way to a lies in the page
-- of b's own block, of a readable table or directory on the way to b, or of a readable page of b.
abbrev pub is_may : List ℕ → List Item → List Item → Bool
is_may S a b = meet (written_pages (map_along S a)) (foot_pages S b) || meet (blocks_of a) (own_pages S b)
