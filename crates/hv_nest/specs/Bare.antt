-- A bare machine that runs alone: one hart, number 0, and changes of its interrupt lines that are told by how many
-- steps it has made before each.
use Rattle.std.specs.Prelude.{ℕ, ◌-◌, nat_le, if◌then◌else◌, List, [], ◌∷◌, ◌++◌, replicate}
use Rattle.hv_cpu.specs.Regs.{Regs}
use Rattle.hv_nest.specs.State.{State}
use Rattle.hv_nest.specs.Move.{Move, StepOf, LinesOf, last_of}
use Rattle.hv_nest.specs.Watched.{LineChange}

-- What happens to it from step i on until it has made m steps: each change is made when its count is reached, in their
-- order, and those with the count m are made too. The counts don't fall.
unfoldable pub bare_moves : ℕ → List LineChange → ℕ → List Move
bare_moves i [] m = replicate (m - i) (StepOf 0)
bare_moves i (l ∷ ls) m =
    if nat_le l.count m then replicate (l.count - i) (StepOf 0) ++ LinesOf 0 l.bits ∷ bare_moves l.count ls m
    else replicate (m - i) (StepOf 0)

-- a storage and one hart
abbrev pub alone : List ℕ → Regs → State
alone T c = record { storage = T; harts = c ∷ [] }

-- its state after m steps, from the storage T and the registers c on, with these changes of its lines
unfoldable pub bare_of : List ℕ → Regs → List LineChange → ℕ → State
bare_of T c changes m = last_of (alone T c) (bare_moves 0 changes m)
