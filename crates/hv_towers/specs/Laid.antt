-- How a tower of machines lies in the bare storage. The pages of each machine are bare pages in their order: its
-- program on page 0, the block of its child on page 1, the table of its child from page 2 on, and then the pages of
-- its child.
use Rattle.std.specs.Prelude.{◌≡◌, ℕ, ◌+◌, ◌*◌, ◌<◌, ◌≤◌, true, List, [], ◌∷◌, length, map, replicate, Some}
use Rattle.std.specs.List.{range_with_len}
use Rattle.hv_word.specs.Storage.{page_count, word_at}
use Rattle.hv_cpu.specs.Regs.{reset_regs}
use Rattle.hv_store.specs.declared.access.Slot.{Slot}
use Rattle.hv_store.specs.Access.{open_at}
use Rattle.hv_block.specs.Block.{regs_at}
use Rattle.hv_map.specs.Item.{Item}
use Rattle.hv_map.specs.Compose.{compose}
use Rattle.hv_map.specs.Chain.{map_along, pin_of}
use Rattle.hv_limits.specs.Limits.{depth_limit}
use Rattle.hv_map.specs.Apart.{is_apart, table_pages}
use Rattle.hv_map.specs.Seen.{seen}

-- the map of a machine whose n pages are bare pages in their order, from page `base` on
unfoldable pub from_base : ℕ → ℕ → List Slot
from_base base n = map (λ i. open_at (base + i)) (range_with_len 0 n)

-- the page where the pages of the child begin, which has n pages
abbrev pub child_base : ℕ → ℕ → ℕ
child_base base n = base + (2 + table_pages n)

-- The program of a monitor that enters its child on page 1 for ever, at address 0:
-- lui x5, 1; addi x5, x5, 0; vmenter x5; jal x0, -4
pub record HasPass (S : List ℕ) (page : ℕ) : Type 0 where
  pub lui : word_at S page 0 ≡ 0x000012b7
  pub addi : word_at S page 1 ≡ 0x00028293
  pub vmenter : word_at S page 2 ≡ 0x0002800b
  pub jal : word_at S page 3 ≡ 0xffdff06f

-- a monitor at level j with n pages from bare page `base` on, and its child x; it may have more pages than it needs for
-- that
pub record LaidAt (S : List ℕ) (j base n : ℕ) (x : Item) : Type 0 where
  pub syllable : x.syllable ≡ 1
  pub block : x.block ≡ base + 1
  pub table : x.table ≡ 2
  pub version : x.version ≡ 0
  pub some : 0 < x.pages
  pub size : 2 + table_pages x.pages + x.pages ≤ n
  pub slots : compose S (from_base base n) j x.pages x.table x.version ≡ from_base (child_base base x.pages) x.pages
  pub program : HasPass S base
  pub regs : regs_at S x.block ≡ reset_regs

-- the same of each monitor, from the one at level j on
abbrev pub LaidFrom : List ℕ → ℕ → ℕ → ℕ → List Item → Type 0
LaidFrom S j base n [] = Unit {0}
LaidFrom S j base n (x ∷ xs) = LaidAt S j base n x × LaidFrom S (j + 1) (child_base base x.pages) x.pages xs

-- D monitors, and the machine at the end, with N pages; S is the whole storage, and T what the last machine sees of it
pub record Laid (D N : ℕ) (S T : List ℕ) (items : List Item) : Type 0 where
  pub deep : 1 ≤ D
  pub short : D ≤ depth_limit
  pub pins : pin_of S (replicate D 1) ≡ Some items
  pub apart : is_apart S items ≡ true
  pub levels : LaidFrom S 0 0 (page_count S) items
  pub sees : seen S (map_along S items) ≡ T
  pub size : length T ≡ 1024 * N
