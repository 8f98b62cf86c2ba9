-- What the code keeps of an upgrade between its tests and its writes.
use Rattle.std.specs.Prelude.{◌≡◌, ℕ, ◌+◌, ◌<◌, ◌≤◌, ◌^◌, List, Some, slice_index}
use Rattle.hv_word.specs.Storage.{page_count}
use Rattle.hv_store.specs.declared.access.Slot.{Slot}
use Rattle.hv_map.specs.Apart.{table_pages}
use Rattle.hv_map.specs.Item.{Item}
use Rattle.hv_map.specs.Links.{chain_item}
use Rattle.hv_apart.specs.Upgrade.{last_item, parent_map, written_in}
use Rattle.hv_apart.specs.declared.upgrading.Plan.{Plan}

-- the bare pages are those in which a parent with the map F writes the page of the directory and the pages of the table
pub record IsPlanOf (F : List Slot) (dir : ℕ) (p : Plan) : Type 0 where
  pub directory : written_in F dir ≡ Some p.directory
  pub tables :
      (k : ℕ) → k < table_pages p.child.pages → written_in F (p.child.table + k) ≡ Some (slice_index p.tables k)

-- all places that are written are in the storage, and the names of the table's pages fit in a word
pub record FitsStore (S : List ℕ) (p : Plan) : Type 0 where
  pub block : p.child.block < page_count S
  pub directory : p.directory < page_count S
  pub tables : (k : ℕ) → k < table_pages p.child.pages → slice_index p.tables k < page_count S
  pub pages : p.child.pages ≤ 2 ^ 20
  pub names : p.child.table + table_pages p.child.pages ≤ 2 ^ 20

-- the plan is that of the machine at the end of the items, and fits
pub record IsPlanned (S : List ℕ) (items : List Item) (dir : ℕ) (p : Plan) : Type 0 where
  pub item : Item
  pub last : last_item items ≡ Some item
  pub said : chain_item item ≡ p.child
  pub plan : IsPlanOf (parent_map S items) dir p
  pub fits : FitsStore S p
