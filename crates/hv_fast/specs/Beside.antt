-- What is kept beside the state of the bare machine, and when it is right.
use Rattle.std.specs.Prelude.{◌≡◌, ◌≢◌, ◌⊎◌, ℕ, ◌/◌, ◌%◌, true, false, All, List, [], length}
use Rattle.std.specs.Prelude.{None, Some, IfSome, slice_get}
use Rattle.std.specs.List.{AllByRecursion}
use Rattle.hv_cpu.specs.Regs.{Regs}
use Rattle.hv_block.specs.Block.{is_block, regs_at}
use Rattle.hv_word.specs.Words.{has}
use Rattle.hv_map.specs.Apart.{blocks_of}
use Rattle.hv_map.specs.Held.{IsHeld, IsPin}
use Rattle.hv_map.specs.Item.{Item}
use Rattle.hv_map.specs.Links.{last_block}
use Rattle.hv_map.specs.Words.{syllables}
use Rattle.hv_cache.specs.Holding.{Entry, without_page}
use Rattle.hv_fast.specs.declared.beside.Beside.{Beside}
use Rattle.hv_fast.specs.declared.pin.Pin.{Pin}
use Rattle.hv_fast.specs.Marked.{BlocksIn, Marked, has_mark, listed}
use Rattle.hv_fast.specs.Memo.{IsRightMemo}
use Rattle.hv_fast.specs.Rides.{QuietBlocks}

-- The pin is that of a hart with the registers r: its machines are those on the path that the hart runs, it names that
-- path and the block of the last, the machines outside that are quiet, each translation at hand is right, and what all
-- this rests on is marked.
pub record IsReady (S : List ℕ) (r : Regs) (m : Marked) (p : Pin) : Type 0 where
  pub pin : IsPin S r p.chain (listed m.tables)
  pub path : p.path ≡ syllables p.chain
  pub ends : last_block p.chain ≡ Some p.block
  pub blocks : BlocksIn m.blocks p.chain
  pub quiet : QuietBlocks S p.chain
  pub memo : IsRightMemo S p.chain m.tables p.memo

-- A held translation is right: its number is that of a path, and the page has this slot in the map of the machine
-- there. It rests on the pages that are kept with it.
pub record EntryIsRight (S : List ℕ) (paths : List (List ℕ)) (e : Entry) : Type 0 where
  pub items : List Item
  pub named : slice_get paths (e.0).0 ≡ Some (syllables items)
  pub blocks : (e.1).blocks ≡ blocks_of items
  pub held : IsHeld S items (listed (e.1).tables) (e.0).1 (e.1).slot

abbrev pub EntriesAreRight : List ℕ → List (List ℕ) → List Entry → Type 0
EntriesAreRight S paths es = AllByRecursion (EntryIsRight S paths) es

-- The pin is that of the hart that rode last: it is in use, and the registers at hand are those in its block. (That
-- the block is in a page of the storage, and that no machine runs there, is so of each pin that is ready.)
pub record IsMounted (S : List ℕ) (p : Pin) (inner : Regs) : Type 0 where
  pub live : p.live ≡ true
  pub regs : regs_at S p.block ≡ inner

-- With the storage S and the harts R everything is right: each pin that is in use, the registers of the machine at the
-- end of the pin of the hart that rode last, and each held translation.
pub record IsRightBeside (S : List ℕ) (R : List Regs) (b : Beside) : Type 0 where
  pub count : length b.pins.items ≡ length R
  pub pins :
      (h : ℕ) (r : Regs) (p : Pin)
      → slice_get R h ≡ Some r
      → slice_get b.pins.items h ≡ Some p
      → p.live ≡ true
      → IsReady S r b.marks p
  pub rider :
      (h : ℕ) (p : Pin)
      → b.rider ≡ Some h
      → slice_get b.pins.items h ≡ Some p
      → IsMounted S p b.inner
  pub held : EntriesAreRight S b.ids b.cache.entries

-- no pin is in use, and nothing is marked; numbers and held translations are as before
pub record NoPins (b c : Beside) : Type 0 where
  pub none : All (λ (p : Pin). p.live ≡ false) c.pins.items
  pub count : length c.pins.items ≡ length b.pins.items
  pub marks : c.marks ≡ record { tables = []; blocks = [] }
  pub rider : c.rider ≡ None
  pub ids : c.ids ≡ b.ids
  pub cache : c.cache ≡ b.cache

-- the pin of hart h isn't in use; what is kept for the others is as before
pub record IsUnpinned (h : ℕ) (b c : Beside) : Type 0 where
  pub count : length c.pins.items ≡ length b.pins.items
  pub own : IfSome (slice_get c.pins.items h) (λ (p : Pin). p.live ≡ false)
  pub others : (k : ℕ) → k ≢ h → slice_get c.pins.items k ≡ slice_get b.pins.items k
  pub marks : c.marks ≡ b.marks
  pub rider : (c.rider ≡ None) ⊎ ((c.rider ≡ b.rider) × (c.rider ≢ Some h))
  pub ids : c.ids ≡ b.ids
  pub cache : c.cache ≡ b.cache
  pub inner : c.inner ≡ b.inner

-- word k of a page isn't one by which a block says what its machine is, and there is a well-formed block in the page
pub record IsBlockStill (T : List ℕ) (g k : ℕ) : Type 0 where
  pub pages : k ≢ 65
  pub table : k ≢ 66
  pub version : k ≢ 67
  pub block : is_block T g ≡ true

-- what an entry rests on is as it was although the word at place a changed
pub record IsSpared (T : List ℕ) (a : ℕ) (e : Entry) : Type 0 where
  pub tables : has (a / 1024) (e.1).tables ≡ false
  pub blocks : has (a / 1024) (e.1).blocks ≡ true → IsBlockStill T (a / 1024) (a % 1024)

-- pins and marks are the same
pub record SamePins (b c : Beside) : Type 0 where
  pub pins : c.pins ≡ b.pins
  pub marks : c.marks ≡ b.marks
  pub rider : c.rider ≡ b.rider
  pub inner : c.inner ≡ b.inner

-- What is kept after the word at place a changed: the pins and the marks, where nothing that is marked rests on its
-- page, or none; and of the entries those alone that are spared.
pub record WordIsSpared (T : List ℕ) (a : ℕ) (b c : Beside) : Type 0 where
  pub ids : c.ids ≡ b.ids
  pub count : length c.pins.items ≡ length b.pins.items
  pub pins : SamePins b c ⊎ (All (λ (p : Pin). p.live ≡ false) c.pins.items × (c.rider ≡ None))
  pub unmarked : has_mark c.marks (a / 1024) ≡ false
  pub spared : AllByRecursion (IsSpared T a) c.cache.entries
  pub fewer : (c.cache.entries ≡ b.cache.entries) ⊎ (c.cache.entries ≡ without_page (a / 1024) b.cache.entries)
