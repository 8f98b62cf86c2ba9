-- The storage as it was before a step, by what the step wrote.
use Rattle.std.specs.Prelude.{ℕ, ◌+◌, List, slice_set}
use Rattle.hv_trace.specs.declared.flat.Written.{Written}
use Rattle.hv_trace.specs.declared.flat.Written.TheVariants.{Nothing, Word, Fault}

-- what was written last is put back first
abbrev pub undone : List ℕ → Written → List ℕ
undone T Nothing = T
undone T (Word at before) = slice_set T at before
undone T (Fault at cause address access) =
    slice_set (slice_set (slice_set T (at + 2) access) (at + 1) address) at cause

-- one write can be told
abbrev pub room_of : Written → ℕ
room_of Nothing = 1
room_of (Word at before) = 0
room_of (Fault at cause address access) = 0

-- the first place behind what was written
abbrev pub reach : Written → ℕ
reach Nothing = 0
reach (Word at before) = at + 1
reach (Fault at cause address access) = at + 3
