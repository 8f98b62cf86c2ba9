-- What an instruction leaves as it was.
use Rattle.std.specs.Prelude.{◌≡◌}
use Rattle.hv_cpu.specs.Regs.{Regs}
use Rattle.hv_store.specs.declared.space.Space.{Ghosts}

-- A refused instruction changed nothing: the storage and the map that a space stands for, and the registers, are those
-- before it.
pub record ChangedNothing {A : Type 0} (g : Ghosts A) (old new : A) (before after : Regs) : Type 0 where
  pub storage : g.storage new ≡ g.storage old
  pub slots : g.slots new ≡ g.slots old
  pub cpu : after ≡ before
