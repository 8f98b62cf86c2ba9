-- What holds of a watched machine over a whole run: it has the registers and the pages that a bare machine has which
-- began with its registers and with what it saw, and made as many steps as were counted for it, with the same changes
-- of its lines.
use Rattle.std.specs.Prelude.{◌≡◌, ℕ, ◌<◌, ◌≤◌, ◌*◌, false, true, List, [], ◌∷◌, length, Some, slice_get, bit_and}
use Rattle.hv_word.specs.Storage.{page_count}
use Rattle.hv_cpu.specs.Regs.{Regs}
use Rattle.hv_limits.specs.Limits.{lines_mask, depth_limit}
use Rattle.hv_store.specs.declared.access.Slot.{Slot}
use Rattle.hv_block.specs.Block.{regs_at}
use Rattle.hv_map.specs.Item.{Item}
use Rattle.hv_map.specs.Chain.{map_along, pin_of}
use Rattle.hv_map.specs.Apart.{is_apart}
use Rattle.hv_map.specs.Carried.{Agree}
use Rattle.hv_map.specs.Seen.{seen}
use Rattle.hv_nest.specs.State.{State, hart_regs}
use Rattle.hv_nest.specs.Move.{Move, StepOf, LinesOf, last_of}
use Rattle.hv_nest.specs.Routing.{regs_along}
use Rattle.hv_nest.specs.Watched.{Tally, no_tally, tally_of, last_block, foot}
use Rattle.hv_nest.specs.Bare.{alone, bare_of}

-- the registers of hart h
abbrev pub regs_of : ℕ → State → Regs
regs_of h st = hart_regs (slice_get st.harts h)

-- the registers of the machine at the end of the items on hart h: those in the last one's block, or the hart's where
-- there is no item
abbrev pub own : ℕ → List Item → State → Regs
own h items st = regs_along st.storage items (regs_of h st)

-- The machine at the end of the items on hart h, whose map at the start was F, is in st as the bare machine is in the
-- state `bare`: it has the registers of the bare machine's one hart, and the bare machine has as many pages as F has
-- slots, and has in each page the same words as the bare page that F opens for reading there.
pub record Alike (h : ℕ) (items : List Item) (F : List Slot) (st bare : State) : Type 0 where
  pub regs : bare.harts ≡ own h items st ∷ []
  pub size : length bare.storage ≡ 1024 * length F
  pub pages : Agree F st.storage bare.storage

-- a change of lines names no other bits
abbrev pub IsMasked : Move → Type 0
IsMasked (StepOf hart) = Unit {0}
IsMasked (LinesOf hart mask) = bit_and mask lines_mask ≡ mask

-- that holds of each move
abbrev pub AreMasked : List Move → Type 0
AreMasked [] = Unit {0}
AreMasked (move ∷ moves) = IsMasked move × AreMasked moves

-- Hart h and a path are watched from the start on, t is what the watch tells after some moves, and no step has touched.
-- If the machine stands apart at the start, it is then as the bare machine is that began with what it saw and its
-- registers, after as many steps as were counted and the changes of lines that are told. (The bare machine itself, with
-- the empty path, is watched as hart 0.)
abbrev pub WholeRunLaw : Type 0
WholeRunLaw =
    (h : ℕ) (path : List ℕ) (items : List Item) (start : State) (moves : List Move) (t : Tally)
    → h < length start.harts
    → (path ≡ [] → h ≡ 0)
    → AreMasked moves
    → length path ≤ depth_limit
    → pin_of start.storage path ≡ Some items
    → is_apart start.storage items ≡ true
    → t ≡ tally_of h path items (foot start.storage items) start moves no_tally
    → t.touched ≡ false
    → Alike h items (map_along start.storage items) (last_of start moves)
    (bare_of (seen start.storage (map_along start.storage items)) (own h items start) t.changes t.count)

-- The same where the bare machine itself is watched, as hart 0, and no step of another hart has touched: the whole
-- storage and the hart are then those of a bare machine with one hart, which began with the same storage.
abbrev pub RootRunLaw : Type 0
RootRunLaw =
    (start : State) (moves : List Move) (t : Tally)
    → 0 < length start.harts
    → AreMasked moves
    → length start.storage ≡ 1024 * page_count start.storage
    → t ≡ tally_of 0 [] [] (foot start.storage []) start moves no_tally
    → t.touched ≡ false
    → bare_of start.storage (regs_of 0 start) t.changes t.count
    ≡ alone (last_of start moves).storage (regs_of 0 (last_of start moves))

-- The registers of a machine inside another are those in its block, the last one.
abbrev pub BlockLaw : Type 0
BlockLaw =
    (h : ℕ) (items : List Item) (st : State) (g : ℕ)
    → last_block items ≡ Some g
    → own h items st ≡ regs_at st.storage g
