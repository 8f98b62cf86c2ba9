-- Held translations: what was found of a page, and of the machines on a path, stays true as long as the words of the
-- listed pages stay, and the blocks on the way still say what they did.
use Rattle.std.specs.Prelude.{◌≡◌, ℕ, ◌<◌, ◌≤◌, ◌+◌, ◌^◌, false, true, List, [], ◌∷◌, length, Some, slice_get}
use Rattle.std.specs.List.{AllByRecursion}
use Rattle.hv_limits.specs.Limits.{depth_limit}
use Rattle.hv_word.specs.Storage.{page_count, word_at}
use Rattle.hv_cpu.specs.Regs.{Regs}
use Rattle.hv_store.specs.declared.access.Slot.{Slot}
use Rattle.hv_store.specs.declared.access.Way.TheVariants.{Open}
use Rattle.hv_block.specs.Block.{block_of, regs_at}
use Rattle.hv_word.specs.Words.{has}
use Rattle.hv_map.specs.Chain.{child_with, map_along, map_of, pin_of, running_path}
use Rattle.hv_map.specs.Item.{Item}
use Rattle.hv_map.specs.Gathered.{Gathered, Listed, bare_gathered_map, gathered_along, gathered_map, pin_pages}
use Rattle.hv_map.specs.Gathered.{slots_of, with_pages}
use Rattle.hv_map.specs.Words.{syllables}

-- each of some pages is listed
abbrev pub Lists : Listed → List ℕ → Type 0
Lists p gs = AllByRecursion (λ g. has g p.pages ≡ true) gs

-- the words of a page are the same in two storages, and so are those of each of some pages
abbrev pub SamePage : List ℕ → List ℕ → ℕ → Type 0
SamePage S T g = (k : ℕ) → k < 1024 → word_at S g k ≡ word_at T g k

-- each of some pages has the same words in two storages
abbrev pub SamePages : List ℕ → List ℕ → List ℕ → Type 0
SamePages S T gs = AllByRecursion (SamePage S T) gs

-- the block of x is well formed, and says what x does; and so does each of the items' blocks
abbrev pub SaysItem : List ℕ → Item → Type 0
SaysItem S x = child_with x.syllable x.block (block_of S x.block) ≡ Some x

-- each item's block says what the item does
abbrev pub SaysItems : List ℕ → List Item → Type 0
SaysItems S items = AllByRecursion (SaysItem S) items

-- the next in each of the items' blocks is the same in two storages
abbrev pub SameNexts : List ℕ → List ℕ → List Item → Type 0
SameNexts S T items = AllByRecursion (λ (x : Item). word_at S x.block 64 ≡ word_at T x.block 64) items

-- x is the child on its page of a machine with the map N, and what is read to find its block is listed
pub record IsPlaced (S : List ℕ) (N : List Gathered) (p : Listed) (x : Item) : Type 0 where
  pub gathered : Gathered
  pub found : slice_get N x.syllable ≡ Some gathered
  pub opens : gathered.slot.write ≡ Open x.block
  pub listed : Lists p gathered.pages
  pub says : SaysItem S x

-- the same of each of the items, where N is the map of the machine before the first, at level j
abbrev pub Placed : List ℕ → List Gathered → Listed → ℕ → List Item → Type 0
Placed S N p j [] = Unit {0}
Placed S N p j (x ∷ xs) = IsPlaced S N p x × Placed S (gathered_map S N j x.pages x.table x.version) p (j + 1) xs

-- the items are the machines that are found by following next from the registers r on, and the last has no next
abbrev pub Nexts : List ℕ → Regs → List Item → Type 0
Nexts S r [] = r.next ≡ 0
Nexts S r (x ∷ xs) = IsNext r x × Nexts S (regs_at S x.block) xs
  where
    IsNext : Regs → Item → Type 0
    IsNext r x = (r.next ≡ x.syllable) × (0 < x.syllable)

-- the items are the machines on the path that a hart with the registers r runs, and what they are found by is listed
pub record IsPin (S : List ℕ) (r : Regs) (items : List Item) (p : Listed) : Type 0 where
  pub short : length items ≤ depth_limit
  pub placed : Placed S (bare_gathered_map (page_count S)) p 0 items
  pub nexts : Nexts S r items

-- the items are the machines on a path, the page of the last of them has the slot, and what that is found by is listed
pub record IsHeld (S : List ℕ) (items : List Item) (p : Listed) (page : ℕ) (slot : Slot) : Type 0 where
  pub placed : Placed S (bare_gathered_map (page_count S)) p 0 items
  pub gathered : Gathered
  pub found : slice_get (gathered_along S items) page ≡ Some gathered
  pub same : gathered.slot ≡ slot
  pub listed : Lists p gathered.pages

-- a map with gathered pages is the map, where these are left out
abbrev pub GatheredMapLaw : Type 0
GatheredMapLaw = (S : List ℕ) (items : List Item) → slots_of (gathered_along S items) ≡ map_along S items

-- A slot depends on nothing but the words of the pages that are gathered beside it: two storages of one length that
-- agree on these have it alike, with the same pages. (A machine has at most 2 ^ 20 pages, as every well-formed block
-- says.)
abbrev pub GatheredSlotLaw : Type 0
GatheredSlotLaw =
    (S T : List ℕ) (items : List Item) (page : ℕ) (n : Gathered)
    → length S ≡ length T
    → AllByRecursion (λ (x : Item). x.pages ≤ 2 ^ 20) items
    → slice_get (gathered_along S items) page ≡ Some n
    → SamePages S T n.pages
    → slice_get (gathered_along T items) page ≡ Some n

-- a list that isn't full has all pages that were added
abbrev pub ListedLaw : Type 0
ListedLaw = (p : Listed) (gs : List ℕ) → (with_pages p gs).full ≡ false → Lists (with_pages p gs) gs

-- adding pages to a list keeps those that were there
abbrev pub ListKeepsLaw : Type 0
ListKeepsLaw = (p : Listed) (gs hs : List ℕ) → Lists p hs → Lists (with_pages p gs) hs

-- the machines on a path are placed where what is read to find their blocks is listed
abbrev pub PlacedLaw : Type 0
PlacedLaw =
    (S path : List ℕ) (items : List Item) (p : Listed)
    → pin_of S path ≡ Some items
    → Lists p (pin_pages S items)
    → Placed S (bare_gathered_map (page_count S)) p 0 items

-- A held translation, of a page of the machine on a path, is right: the path has a map, and the page this slot in it.
abbrev pub IsRight : List ℕ → List ℕ → ℕ → Slot → Type 0
IsRight S path page slot = (F : List Slot) × (map_of S path ≡ Some F) × (slice_get F page ≡ Some slot)

-- what is held is right, and its items are the machines on their path
abbrev pub HeldIsRightLaw : Type 0
HeldIsRightLaw =
    (S : List ℕ) (items : List Item) (p : Listed) (page : ℕ) (slot : Slot)
    → IsHeld S items p page slot
    → (pin_of S (syllables items) ≡ Some items) × IsRight S (syllables items) page slot

-- a pin is right: its machines are those on the running path
abbrev pub PinIsRightLaw : Type 0
PinIsRightLaw =
    (S : List ℕ) (r : Regs) (items : List Item) (p : Listed)
    → IsPin S r items p
    → (running_path S r ≡ syllables items) × (pin_of S (running_path S r) ≡ Some items)

-- what is held stays while the words of the listed pages stay, and the blocks of its machines say what they did
abbrev pub HeldStaysLaw : Type 0
HeldStaysLaw =
    (S T : List ℕ) (items : List Item) (p : Listed) (page : ℕ) (slot : Slot)
    → length S ≡ length T
    → SamePages S T p.pages
    → SaysItems T items
    → IsHeld S items p page slot
    → IsHeld T items p page slot

-- and so does a pin, while the hart's next and those in the blocks stay too
abbrev pub PinStaysLaw : Type 0
PinStaysLaw =
    (S T : List ℕ) (r q : Regs) (items : List Item) (p : Listed)
    → length S ≡ length T
    → SamePages S T p.pages
    → SaysItems T items
    → SameNexts S T items
    → q.next ≡ r.next
    → IsPin S r items p
    → IsPin T q items p
