-- The bare pages of the tables of machines, as far as a cache keeps them.
use Rattle.std.specs.Prelude.{◌≡◌, ℕ, ◌*◌, ◌/◌, ◌%◌, ◌<◌, ◌==◌, if◌then◌else◌, IfSome, List}
use Rattle.std.specs.Prelude.{Option, Some, None, slice_get}
use Rattle.std.specs.Option.{option_to_list}
use Rattle.hv_word.specs.Storage.{page_count}
use Rattle.hv_map.specs.Apart.{table_open}
use Rattle.hv_map.specs.Compose.{Looked, Named, Stopped}
use Rattle.hv_map.specs.Item.{Item}
use Rattle.hv_map.specs.Levels.{map_at, table_at}
use Rattle.hv_map.specs.declared.tables.TableCache.{TableCache}
use Rattle.hv_map.specs.declared.tables.TablePage.{TablePage}

-- what a look-up names, if it names something
abbrev pub named : Looked → Option ℕ
named (Named n) = Some n
named (Stopped way) = None

-- a directory or table word, if its bit 0 says that it is present
abbrev pub if_present : ℕ → Option ℕ
if_present w = if w % 2 == 0 then None else Some w

-- The host is the bare page in which the machine at level k reads page n of its child's table, where the child is one
-- of the items; it is none where that page can't be read.
pub record IsTablePage (S : List ℕ) (items : List Item) (k n : ℕ) (host : Option ℕ) : Type 0 where
  pub page :
      (x : Item)
      → slice_get items k ≡ Some x
      → option_to_list host ≡ table_open (map_at S items k) (table_at S items k x (1024 * n))
  pub bound : IfSome host (λ g. g < page_count S)

-- each page that is kept is one of the table of an item: the places 16 * k to 16 * k + 15 are for the child of the
-- machine at level k
pub record IsCacheOf (S : List ℕ) (items : List Item) (cache : TableCache) : Type 0 where
  pub each :
      (i : ℕ) (page : TablePage)
      → slice_get cache.pages i ≡ Some (Some page)
      → IsTablePage S items (i / 16) page.number page.host
