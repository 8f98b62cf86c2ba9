-- The laws of riding, as statements.
use Rattle.std.specs.Prelude.{◌≡◌, ℕ, true, List, Some, None}
use Rattle.hv_word.specs.Storage.{word_at}
use Rattle.hv_cpu.specs.Regs.{Regs}
use Rattle.hv_csr.specs.Interrupts.{pending_of}
use Rattle.hv_store.specs.declared.access.Slot.{Slot}
use Rattle.hv_exec.specs.Act.{Done, act_of}
use Rattle.hv_block.specs.Block.{is_block, regs_at}
use Rattle.hv_map.specs.Chain.{map_along}
use Rattle.hv_map.specs.Held.{IsHeld, IsPin, SaysItem}
use Rattle.hv_map.specs.Item.{Item}
use Rattle.hv_map.specs.Links.{last_block}
use Rattle.hv_nest.specs.Step.{Worked, host_step_of}
use Rattle.hv_fast.specs.Marked.{BlocksIn, IsMore, Marked, listed}
use Rattle.hv_fast.specs.Rides.{IsRidden, Quiet, QuietBlocks}

-- One step of a hart is one instruction of the machine at the end of its path, where no interrupt can be taken on the
-- way or there, the instruction changes no word of a page that is marked, as are the pages on which the path rests, and
-- the block there lies in no page that is marked as a table's: then its registers are put into its block, and nothing
-- else changes.
abbrev pub RideLaw : Type 0
RideLaw =
    (S T U : List ℕ) (hart : ℕ) (r q : Regs) (items : List Item) (m : Marked) (g : ℕ)
    → IsPin S r items (listed m.tables)
    → BlocksIn m.blocks items
    → Quiet S r items
    → last_block items ≡ Some g
    → pending_of (regs_at S g) ≡ None
    → act_of S (map_along S items) 0 (regs_at S g) ≡ Done T q
    → IsRidden S T U m g q
    → host_step_of S hart r ≡ Worked U r

-- A pin stays while a hart rides that runs no other machine then, be it the pin's own hart or another, and its machines
-- stay quiet.
abbrev pub PinRidesLaw : Type 0
PinRidesLaw =
    (S T U : List ℕ) (r q : Regs) (items : List Item) (m : Marked) (g : ℕ)
    → IsRidden S T U m g q
    → word_at S g 64 ≡ 0
    → q.next ≡ 0
    → BlocksIn m.blocks items
    → IsPin S r items (listed m.tables)
    → IsPin U r items (listed m.tables)

abbrev pub QuietRidesLaw : Type 0
QuietRidesLaw =
    (S T U : List ℕ) (r q : Regs) (items : List Item) (m : Marked) (g : ℕ)
    → IsRidden S T U m g q
    → word_at S g 64 ≡ 0
    → BlocksIn m.blocks items
    → IsPin S r items (listed m.tables)
    → QuietBlocks S items
    → QuietBlocks U items

-- a held translation stays while a hart rides
abbrev pub HeldRidesLaw : Type 0
HeldRidesLaw =
    (S T U : List ℕ) (q : Regs) (items : List Item) (m : Marked) (g page : ℕ) (slot : Slot)
    → IsRidden S T U m g q
    → BlocksIn m.blocks items
    → IsHeld S items (listed m.tables) page slot
    → IsHeld U items (listed m.tables) page slot

-- a block says the same of its machine, if it is well formed, where its words 65 to 67 are the same
abbrev pub StillSaysLaw : Type 0
StillSaysLaw =
    (S T : List ℕ) (x : Item)
    → SaysItem S x
    → word_at T x.block 65 ≡ word_at S x.block 65
    → word_at T x.block 66 ≡ word_at S x.block 66
    → word_at T x.block 67 ≡ word_at S x.block 67
    → is_block T x.block ≡ true
    → SaysItem T x

-- what rests on some pages rests on more
abbrev pub PinMoreLaw : Type 0
PinMoreLaw =
    (S : List ℕ) (r : Regs) (items : List Item) (m n : Marked)
    → IsMore m n
    → IsPin S r items (listed m.tables)
    → IsPin S r items (listed n.tables)

abbrev pub HeldMoreLaw : Type 0
HeldMoreLaw =
    (S : List ℕ) (items : List Item) (m n : Marked) (page : ℕ) (slot : Slot)
    → IsMore m n
    → IsHeld S items (listed m.tables) page slot
    → IsHeld S items (listed n.tables) page slot

abbrev pub BlocksMoreLaw : Type 0
BlocksMoreLaw =
    (items : List Item) (m n : Marked) → IsMore m n → BlocksIn m.blocks items → BlocksIn n.blocks items

-- a pin's machines are found on its path, and the last of them is where its block is
abbrev pub PinEndsLaw : Type 0
PinEndsLaw =
    (S : List ℕ) (r : Regs) (items : List Item) (m : Marked) (g : ℕ)
    → IsPin S r items (listed m.tables)
    → last_block items ≡ Some g
    → (is_block S g ≡ true) × ((regs_at S g).next ≡ 0)
