-- The meaning of the fast engine.
use Rattle.std.specs.Prelude.{ℕ, All, List}
use Rattle.hv_word.specs.Storage.{page_count}
use Rattle.hv_cpu.specs.Regs.{Regs}
use Rattle.hv_nest.specs.Kinds.{NextBelow}
use Rattle.hv_nest.specs.State.{State}
use Rattle.hv_cache.specs.Holding.{Entry}
use Rattle.hv_fast.specs.declared.beside.Beside.{Beside}
use Rattle.hv_fast.specs.Beside.{IsRightBeside}

-- the state of the bare machine, the paths that have numbers, and the translations that are held by these
pub record Engine : Type 0 where
  pub state : State
  pub paths : List (List ℕ)
  pub entries : List Entry

-- the machine that each hart runs, if any, is on a page of the storage, and all that is kept beside the state is right
pub record IsFast (S : List ℕ) (R : List Regs) (b : Beside) : Type 0 where
  pub next : All (NextBelow (page_count S)) R
  pub right : IsRightBeside S R b
