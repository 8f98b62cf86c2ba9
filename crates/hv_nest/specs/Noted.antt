-- What the notes of a step say of it.
use Rattle.std.specs.Prelude.{◌≡◌, ℕ, ◌+◌, ◌≤◌, if◌then◌else◌, not, ◌&&◌, ◌==◌, nat_lt, List, [], length, drop, take}
use Rattle.std.specs.Prelude.{slice_index}
use Rattle.hv_cpu.specs.Regs.{Regs, spelled}
use Rattle.hv_exec.specs.Changes.{changed_regs}
use Rattle.hv_nest.specs.declared.changed.ChangedRow.{ChangedRow}
use Rattle.hv_nest.specs.declared.notes.Note.{Note}
use Rattle.hv_nest.specs.Notes.{undone}
use Rattle.hv_nest.specs.Rows.{with_row}

-- From the storage S and the registers r to T and q: each changed word is noted as it was, and few words are noted and
-- few registers changed.
pub record AreNoted (S T : List ℕ) (r q : Regs) (notes : List Note) : Type 0 where
  pub len : length T ≡ length S
  pub origin : undone T notes ≡ S
  pub count : length notes + changed_regs r q ≤ 6

-- storage, registers and notes are as before the step
pub record NothingDone (S T : List ℕ) (r q : Regs) (notes : List Note) : Type 0 where
  pub storage : T ≡ S
  pub cpu : q ≡ r
  pub none : notes ≡ []

-- the mode and the control registers, in the order of the words of a block
abbrev pub control_of : Regs → List ℕ
control_of r = take 17 (drop 32 (spelled r))

-- rows with the noted word among them too, where it is in the storage T and is another there
unfoldable pub told_too : List ℕ → Note → List ChangedRow → List ChangedRow
told_too T n rows =
    if nat_lt n.at (length T) && not (n.before == slice_index T n.at)
    then with_row record { at = n.at; value = slice_index T n.at } rows
    else rows
