-- What a machine finds on one of its pages, for running a child from it.
use Rattle.std.specs.Prelude.{ℕ, ◌^◌, ◌<◌, ◌≤◌, List, Option, Some, None, slice_get}
use Rattle.hv_store.specs.declared.access.Access.TheVariants.{Write}
use Rattle.hv_store.specs.declared.access.Slot.{Slot}
use Rattle.hv_store.specs.declared.access.Way.{Way}
use Rattle.hv_store.specs.declared.access.Way.TheVariants.{Open, Shut}
use Rattle.hv_store.specs.Access.{refused}
use Rattle.hv_block.specs.declared.Block.{Block}
use Rattle.hv_block.specs.Block.{Contents, block_of}
use Rattle.hv_map.specs.Item.{Item}
use Rattle.hv_map.specs.declared.found.Found.{Found}
use Rattle.hv_map.specs.declared.found.Found.TheVariants.{Child, Malformed, Refused}

-- in bare page g, where the block in it is given, if there is a well-formed one
abbrev pub found_in : ℕ → Option Contents → Found
found_in g None = Malformed g
found_in g (Some contents) =
    Child g record { cpu = contents.regs; pages = contents.pages; table = contents.table; version = contents.version }

-- what is found behind a way for writing: a child, or the refusal of that way
abbrev pub found_through : List ℕ → Way → Found
found_through S (Open g) = found_in g (block_of S g)
found_through S (Shut l c p w) = Refused (refused l c p w 0 Write)

-- the same with the slot of the page, none where there is no such page
abbrev pub found_at : List ℕ → Option Slot → Option Found
found_at S None = None
found_at S (Some slot) = Some (found_through S slot.write)

-- on page s of a machine with the map F, where the machine has that page
abbrev pub found_on : List ℕ → List Slot → ℕ → Option Found
found_on S F s = found_at S (slice_get F s)

-- it is in a bare page below P, with a size and a next that are in range, or is refused at a level below k
abbrev pub IsFoundWithin : ℕ → ℕ → Found → Type 0
IsFoundWithin P k (Child g b) = (g < P) × (1 ≤ b.pages) × (b.pages ≤ 2 ^ 20) × (b.cpu.next < b.pages)
IsFoundWithin P k (Malformed g) = g < P
IsFoundWithin P k (Refused e) = e.level < k

-- that child as one machine on a path
abbrev pub item_of : ℕ → ℕ → Block → Item
item_of s g b = record { syllable = s; block = g; pages = b.pages; table = b.table; version = b.version }
