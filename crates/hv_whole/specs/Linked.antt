-- How a watched machine and the bare machine that stands for it are linked at each moment. The machines on the path,
-- the items, are those of the start; so is the map F of the last of them, however the storage changes.
use Rattle.std.specs.Prelude.{◌≡◌, ◌≢◌, ℕ, ◌<◌, ◌≤◌, ◌⊎◌, false, ◌==◌, if◌then◌else◌, List, [], ◌∷◌, ◌++◌, length}
use Rattle.std.specs.Prelude.{Some, slice_get}
use Rattle.hv_word.specs.Storage.{page_count, word_at}
use Rattle.hv_cpu.specs.Regs.{Regs}
use Rattle.hv_cpu.specs.Lines.{lined_of}
use Rattle.hv_store.specs.declared.access.Slot.{Slot}
use Rattle.hv_store.specs.declared.access.Access.TheVariants.{Read}
use Rattle.hv_store.specs.declared.access.Way.TheVariants.{Open}
use Rattle.hv_store.specs.Access.{identity}
use Rattle.hv_block.specs.Block.{IsOther}
use Rattle.hv_map.specs.Item.{Item}
use Rattle.hv_map.specs.Compose.{reading}
use Rattle.hv_map.specs.Chain.{along}
use Rattle.hv_limits.specs.Limits.{depth_limit}
use Rattle.hv_map.specs.Words.{Chained, EachChain}
use Rattle.hv_map.specs.Carried.{Opens}
use Rattle.hv_nest.specs.State.{State}
use Rattle.hv_nest.specs.Simulation.{Sees}
use Rattle.hv_nest.specs.Move.{Move, StepOf, LinesOf, state_after}
use Rattle.hv_nest.specs.Watched.{is_counted, lines_of}
use Rattle.hv_whole.specs.Whole.{own}

-- P holds of the bare page of each block
abbrev pub EachBlock : (ℕ → Type 0) → List Item → Type 0
EachBlock P [] = Unit {0}
EachBlock P (x ∷ xs) = P x.block × EachBlock P xs

-- no two blocks lie in one bare page
abbrev pub BlocksDiffer : List Item → Type 0
BlocksDiffer [] = Unit {0}
BlocksDiffer (x ∷ xs) = EachBlock (λ b. x.block ≢ b) xs × BlocksDiffer xs

-- F opens bare page g for reading nowhere
abbrev pub Unread : List Slot → ℕ → Type 0
Unread F g = Opens F Read g → ⊥

-- word w of bare page g is none that the machine at the end of the items reads, nor a word for registers in one of the
-- blocks
abbrev pub Aside : List Slot → List Item → ℕ → ℕ → Type 0
Aside F items g w = (w < 1024) × Unread F g × EachBlock (λ b. (g ≢ b) ⊎ IsOther w) items

-- F opens no bare page for reading twice
abbrev pub IsOneToOne : List Slot → Type 0
IsOneToOne F = (y z x : ℕ) → reading F y ≡ Some (Open x) → reading F z ≡ Some (Open x) → y ≡ z

-- what holds of the start, where S is its storage, of machines that stand apart, where F is the map of the last
pub record Alone (S : List ℕ) (items : List Item) (F : List Slot) : Type 0 where
  pub map : along S (identity (page_count S)) 0 items ≡ F
  pub chained : Chained S (identity (page_count S)) 0 items
  pub chain : EachChain (Aside F items) S (identity (page_count S)) 0 items
  pub unread : EachBlock (Unread F) items
  pub blocks : BlocksDiffer items
  pub inside : EachBlock (λ b. b < page_count S) items
  pub one : IsOneToOne F
  pub short : length items ≤ depth_limit

-- In the state st, T and c are the storage and the registers of the bare machine: the words that F is read from are
-- those of the storage A of the start, T is what the machine sees, and c is its registers.
pub record Linked (h : ℕ) (items : List Item) (A : List ℕ) (F : List Slot) (st : State) (T : List ℕ) (c : Regs)
    : Type 0 where
  pub chain : EachChain (λ g w. word_at A g w ≡ word_at st.storage g w) A (identity (page_count A)) 0 items
  pub len : length st.storage ≡ length A
  pub sees : Sees (length items) F st.storage T
  pub regs : own h items st ≡ c

-- what a move from st to next leaves as it was where it doesn't count and doesn't touch
pub record LeavesLinked (h : ℕ) (items : List Item) (A : List ℕ) (F : List Slot) (st next : State) : Type 0 where
  pub chain : EachChain (λ g w. word_at st.storage g w ≡ word_at next.storage g w) A (identity (page_count A)) 0 items
  pub len : length next.storage ≡ length st.storage
  pub pages : (y x w : ℕ) (s : Slot)
      → slice_get F y ≡ Some s
      → s.read ≡ Open x
      → w < 1024
      → word_at st.storage x w ≡ word_at next.storage x w
  pub regs : own h items next ≡ lined_of (own h items st) (lines_of h items next)
  pub same : lines_of h items st ≡ lines_of h items next → own h items next ≡ own h items st

-- each move of a run that doesn't count leaves that as it was
abbrev pub RunKeeps : ℕ → List ℕ → List Item → List ℕ → List Slot → State → List Move → Type 0
RunKeeps h p items A F st [] = Unit {0}
RunKeeps h p items A F st (move ∷ moves) =
    (is_counted h p st move ≡ false → LeavesLinked h items A F st (state_after st move))
    × RunKeeps h p items A F (state_after st move) moves

-- what the bare machine does for a move: a step where it counts, and else a change of its lines if they are others
abbrev pub bare_move : ℕ → List ℕ → List Item → State → Move → List Move
bare_move h p items st move =
    if is_counted h p st move then StepOf 0 ∷ []
    else (if lines_of h items st == lines_of h items (state_after st move) then []
    else LinesOf 0 (lines_of h items (state_after st move)) ∷ [])

-- the same of some moves
unfoldable pub bare_run : ℕ → List ℕ → List Item → State → List Move → List Move
bare_run h p items st [] = []
bare_run h p items st (move ∷ moves) = bare_move h p items st move ++ bare_run h p items (state_after st move) moves
