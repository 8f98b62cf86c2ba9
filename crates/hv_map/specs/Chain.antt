-- Paths of machines inside machines, and their maps. A path is a list of numbers, from the outside in: each is the page
-- on which the parent has the child's control block. The machine at the end of a path of length j is at level j.
use Rattle.std.specs.Prelude.{ℕ, zero, suc, ◌+◌, ◌≤◌, List, [], ◌∷◌, length, Option, Some, None, slice_get}
use Rattle.std.specs.Option.{option_map, option_and_then}
use Rattle.hv_limits.specs.Limits.{depth_limit, pages_limit}
use Rattle.hv_word.specs.Storage.{page_count}
use Rattle.hv_cpu.specs.Regs.{Regs}
use Rattle.hv_store.specs.declared.access.Slot.{Slot}
use Rattle.hv_store.specs.declared.access.Way.{Way}
use Rattle.hv_store.specs.declared.access.Way.TheVariants.{Open, Shut}
use Rattle.hv_store.specs.Access.{identity}
use Rattle.hv_block.specs.Block.{Contents, block_of, regs_at}
use Rattle.hv_map.specs.Item.{Item}
use Rattle.hv_map.specs.Compose.{compose}

-- the map of the machine at the end of the items, where F is the map of the machine before the first, at level j
unfoldable pub along : List ℕ → List Slot → ℕ → List Item → List Slot
along S F j [] = F
along S F j (x ∷ xs) = along S (compose S F j x.pages x.table x.version) (j + 1) xs

-- the same from the bare machine on
unfoldable pub map_along : List ℕ → List Item → List Slot
map_along S items = along S (identity (page_count S)) 0 items

-- the child whose block is in bare page g, page s of its parent, if that block is well formed
abbrev pub child_with : ℕ → ℕ → Option Contents → Option Item
child_with s g None = None
child_with s g (Some contents) =
    Some record { syllable = s; block = g; pages = contents.pages; table = contents.table; version = contents.version }

-- the child whose block is behind a parent's way for writing, where that is open
abbrev pub child_through : List ℕ → ℕ → Way → Option Item
child_through S s (Open g) = child_with s g (block_of S g)
child_through S s (Shut l c p w) = None

-- the same with the slot of the block's page, where the parent has that page
abbrev pub child_at : List ℕ → ℕ → Option Slot → Option Item
child_at S s None = None
child_at S s (Some slot) = child_through S s slot.write

-- The child on page s of a machine with the map F: there is one where the machine has that page, can write it, and
-- finds a well-formed block in it.
abbrev pub child_of : List ℕ → List Slot → ℕ → Option Item
child_of S F s = child_at S s (slice_get F s)

-- one machine in front of those further in, if these are there
abbrev pub option_cons : Item → Option (List Item) → Option (List Item)
option_cons x None = None
option_cons x (Some xs) = Some (x ∷ xs)

-- the machines on a path that goes on from a machine with the map F, at level j; none where one of them isn't there
unfoldable pub machines : List ℕ → List Slot → ℕ → List ℕ → Option (List Item)
machines S F j [] = Some []
machines S F j (s ∷ path) =
    option_and_then
    (λ (x : Item). option_cons x (machines S (compose S F j x.pages x.table x.version) (j + 1) path))
    (child_of S F s)

-- the machines on a path from the bare machine on
unfoldable pub pin_of : List ℕ → List ℕ → Option (List Item)
pin_of S path = machines S (identity (page_count S)) 0 path

-- the machines on a path are there, and the last of them has at most as many pages as a storage can have
abbrev pub IsThere : List ℕ → Option (List Item) → Type 0
IsThere S None = ⊥
IsThere S (Some items) = length (map_along S items) ≤ pages_limit

-- the map of the machine at the end of a path, if there is one
abbrev pub map_of : List ℕ → List ℕ → Option (List Slot)
map_of S path = option_map (map_along S) (pin_of S path)

-- the child that a machine runs whose next is given, if there is one that can run; next 0 stands for none
abbrev pub child_next : List ℕ → List Slot → ℕ → Option Item
child_next S F zero = None
child_next S F (suc s) = child_of S F (suc s)

-- the path from a machine on: empty where it runs no child, else the child's page and the path from the child on
abbrev pub run_on : (List ℕ → List Slot → ℕ → Regs → List ℕ) → List ℕ → List Slot → ℕ → Option Item → List ℕ
run_on deeper S F j None = []
run_on deeper S F j (Some x) =
    x.syllable ∷ deeper S (compose S F j x.pages x.table x.version) (j + 1) (regs_at S x.block)

-- The path that is found by following next from the registers r of a machine with the map F, at level j, at most n
-- further.
unfoldable pub running : ℕ → List ℕ → List Slot → ℕ → Regs → List ℕ
running zero S F j r = []
running (suc n) S F j r = run_on (running n) S F j (child_next S F r.next)

-- the path of the machine that a hart with the registers r runs
abbrev pub running_path : List ℕ → Regs → List ℕ
running_path S r = running depth_limit S (identity (page_count S)) 0 r
