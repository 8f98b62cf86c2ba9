-- The state of the bare machine.
use Rattle.std.specs.Prelude.{ℕ, ◌<◌, IfSome, List, Option, Some, None, slice_get}
use Rattle.hv_word.specs.Storage.{page_count}
use Rattle.hv_cpu.specs.Regs.{Regs, reset_regs}

-- the words of its storage, and the registers of its harts
pub record State : Type 0 where
  pub storage : List ℕ
  pub harts : List Regs

-- the registers of a hart: those that it has, or those of a reset where there is no such hart
abbrev pub hart_regs : Option Regs → Regs
hart_regs None = reset_regs
hart_regs (Some r) = r

-- the machine that a hart runs, if any, is on one of the pages of the storage
abbrev pub IsNextInside : State → ℕ → Type 0
IsNextInside st hart = IfSome (slice_get st.harts hart) (λ r. r.next < page_count st.storage)
