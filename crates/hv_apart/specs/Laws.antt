-- The laws of an upgrade, as statements. The items are the machines on a path, and the last of them isn't refused.
-- (That a storage has at most 2 ^ 20 pages hides no case: none has more than 16384.)
use Rattle.std.specs.Prelude.{◌≡◌, ℕ, ◌^◌, ◌≤◌, List, [], ◌∷◌, ◌++◌, Some, None}
use Rattle.hv_word.specs.Storage.{page_count}
use Rattle.hv_map.specs.Chain.{map_of, pin_of}
use Rattle.hv_map.specs.Item.{Item}
use Rattle.hv_apart.specs.Upgrade.{IsUpgraded, last_item, outer_items, parent_map, upgrade_refusal, upgraded}

-- the listed words become what is said of them, each by itself, and no other word changes
abbrev pub WordsLaw : Type 0
WordsLaw =
    (S path : List ℕ) (items : List Item) (x : Item) (dir : ℕ)
    → pin_of S path ≡ Some items
    → last_item items ≡ Some x
    → upgrade_refusal S items dir ≡ None
    → IsUpgraded S (upgraded S items dir) (parent_map S items) x dir

-- the machines on the path stay where they are, the last one with a directory and version 2
abbrev pub PathLaw : Type 0
PathLaw =
    (S path : List ℕ) (items : List Item) (x : Item) (dir : ℕ)
    → page_count S ≤ 2 ^ 20
    → pin_of S path ≡ Some items
    → last_item items ≡ Some x
    → upgrade_refusal S items dir ≡ None
    → pin_of (upgraded S items dir) path ≡ Some (outer_items items ++ record x { table = dir; version = 2 } ∷ [])

-- the map of the machine has the same slots as before
abbrev pub MapLaw : Type 0
MapLaw =
    (S path : List ℕ) (items : List Item) (dir : ℕ)
    → page_count S ≤ 2 ^ 20
    → pin_of S path ≡ Some items
    → upgrade_refusal S items dir ≡ None
    → map_of (upgraded S items dir) path ≡ map_of S path
