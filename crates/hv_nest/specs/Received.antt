-- What a step changes that was refused, or after which a machine got control back for an interrupt: nothing but the
-- next of the machine that received it, and of the words that tell of a fault those of one block.
use Rattle.std.specs.Prelude.{◌≡◌, ℕ, zero, suc, ◌<◌, ◌≤◌, ◌⊎◌, IsSomeAnd, List, length, take, Some, slice_get}
use Rattle.hv_word.specs.Storage.{page_count, word_at}
use Rattle.hv_cpu.specs.Regs.{Regs}
use Rattle.hv_store.specs.declared.access.Access.{Access}
use Rattle.hv_store.specs.declared.access.Slot.{Slot}
use Rattle.hv_store.specs.declared.access.Way.TheVariants.{Open}
use Rattle.hv_block.specs.Block.{access_word}
use Rattle.hv_map.specs.Item.{Item}
use Rattle.hv_map.specs.Chain.{map_along, pin_of, running_path}
use Rattle.hv_nest.specs.Step.{Stepped, Worked, Recalled, Faulted, Barred, idle, host_step_of}
use Rattle.hv_nest.specs.Routing.{regs_along}

-- no word of T differs from S but those that P names, each a page and a word in it
pub record ChangesOnly (P : ℕ → ℕ → Type 0) (S T : List ℕ) : Type 0 where
  pub size : length T ≡ length S
  pub others : (g w : ℕ) → w < 1024 → (P g w → ⊥) → word_at T g w ≡ word_at S g w

-- the word of its block that keeps the next of the machine at level l; the bare machine's is in its hart
abbrev pub IsNextOf : List Item → ℕ → ℕ → ℕ → Type 0
IsNextOf items zero g w = ⊥
IsNextOf items (suc l) g w = IsSomeAnd (slice_get items l) (λ x. (g ≡ x.block) × (w ≡ 64))

-- the words that tell of a fault in the block in page b
abbrev pub IsFaultWord : ℕ → ℕ → ℕ → Type 0
IsFaultWord b g w = (g ≡ b) × (72 ≤ w) × (w ≤ 74)

-- the hart runs no child any more where the bare machine is the receiver
abbrev pub hart_after : ℕ → Regs → Regs
hart_after zero r = idle r
hart_after (suc l) r = r

-- the machine at level l, one of those on the path, got control back; beside its next the words that P names may change
pub record GetsBack (S : List ℕ) (items : List Item) (r : Regs) (l : ℕ) (P : ℕ → ℕ → Type 0) (T : List ℕ) (q : Regs)
    : Type 0 where
  pub there : l ≤ length items
  pub changes : ChangesOnly (λ g w. IsNextOf items l g w ⊎ P g w) S T
  pub hart : q ≡ hart_after l r

-- b is the bare page in which a machine with the map F has the block of its child on page s
pub record HasBlock (F : List Slot) (s b : ℕ) : Type 0 where
  pub slot : Slot
  pub there : slice_get F s ≡ Some slot
  pub writes : slot.write ≡ Open b

-- the block in page b tells of the fault
pub record Tells (T : List ℕ) (b cause address : ℕ) (a : Access) : Type 0 where
  pub cause_word : word_at T b 72 ≡ cause
  pub address_word : word_at T b 73 ≡ address
  pub kind_word : word_at T b 74 ≡ access_word a

-- The step of a hart with the registers r, over the storage S, where the items are the machines on its running path. A
-- fault is told in the block of the receiver's child. No refusal passes the bare machine.
abbrev pub IsReceived : List ℕ → List Item → Regs → Stepped → Type 0
IsReceived S items r (Worked T q) = Unit {0}
IsReceived S items r (Recalled l T q) = GetsBack S items r l (λ g w. ⊥) T q
IsReceived S items r (Faulted l cause address a T q) =
    (b : ℕ)
    × GetsBack S items r l (IsFaultWord b) T q
    × HasBlock (map_along S (take l items)) (regs_along S (take l items) r).next b
    × Tells T b cause address a
IsReceived S items r (Barred e) = ⊥

-- each machine keeps its next below the number of its pages
abbrev pub ReceivedLaw : Type 0
ReceivedLaw =
    (S : List ℕ) (hart : ℕ) (r : Regs)
    → r.next < page_count S
    → (items : List Item)
    × (pin_of S (running_path S r) ≡ Some items)
    × IsReceived S items r (host_step_of S hart r)
