-- What one instruction asks for, before any address is translated.
use Rattle.std.specs.Prelude.{◌≡◌, ℕ, ◌%◌, ◌<◌, ◌==◌, Bool, if◌then◌else◌, Option, Some, None}
use Rattle.hv_cpu.specs.Regs.{Regs, with_reg}
use Rattle.hv_exec.specs.Arithmetic.{sum_of}
use Rattle.hv_exec.specs.declared.answer.Width.{Width}
use Rattle.hv_exec.specs.declared.answer.Task.{Task}
use Rattle.hv_exec.specs.declared.answer.Task.TheVariants.{Done as DoneTask, Trap as TrapTask, Load as LoadTask}
use Rattle.hv_exec.specs.declared.answer.Task.TheVariants.{Store as StoreTask, Enter as EnterTask}
use Rattle.hv_exec.specs.Touched.{Touches}

pub data Answer : Type 0 where
  -- the registers after it, with the program counter already on the next instruction or on the jump's target
  Next : (r : Regs) → Answer
  -- an exception
  Trap : (cause tval : ℕ) → Answer
  -- the word, half or byte at an aligned address is to go to rd, with its sign or with zeros above it
  Load : (address : ℕ) (width : Width) (signed : Bool) (rd : ℕ) → Answer
  -- the low bits of a value are to go to an aligned address
  Store : (address : ℕ) (width : Width) (value : ℕ) → Answer
  -- the machine whose block is in the page at that address is to run
  Enter : (value : ℕ) → Answer

-- the registers on the next instruction
unfoldable pub advanced : Regs → Regs
advanced r = record r { pc = sum_of r.pc 4 }

-- the same, with the value v in rd
unfoldable pub given : Regs → ℕ → ℕ → Regs
given r rd v = advanced (with_reg r rd v)

-- an instruction that is illegal, or illegal in this mode, raises cause 2 with its word
-- (Privileged Architecture, section 3.1.16)
abbrev pub illegal_of : ℕ → Answer
illegal_of w = Trap 2 w

-- an instruction with the word w that is illegal where it tells nothing, and else done with the registers r
abbrev pub done_unless_illegal : Option ℕ → ℕ → Regs → Answer
done_unless_illegal None w r = illegal_of w
done_unless_illegal (Some _) w r = Next r

-- an instruction that only goes on, where it is allowed
abbrev pub passed : Bool → ℕ → Regs → Answer
passed allowed w r = if allowed then Next (advanced r) else illegal_of w

-- Jumps go to a multiple of 4; any other target raises cause 0 at the jump, with the target, and rd stays
-- (Unprivileged ISA, section 2.5; Privileged Architecture, section 3.1.15).
abbrev pub at_target : Regs → ℕ → Answer
at_target r target = if target % 4 == 0 then Next (record r { pc = target }) else Trap 0 target

-- rd gets the address of the instruction after the jump
unfoldable pub jumped : Regs → ℕ → ℕ → Answer
jumped r rd target = at_target (with_reg r rd (sum_of r.pc 4)) target

-- the target counts only where the branch is taken
unfoldable pub branched : Regs → Bool → ℕ → Answer
branched r taken target = if taken then at_target r target else Next (advanced r)

-- what the code keeps of an answer beside the registers
abbrev pub answered : Task → Regs → Answer
answered (DoneTask _) r = Next r
answered (TrapTask cause tval) r = Trap cause tval
answered (LoadTask address width signed rd) r = Load address width signed rd
answered (StoreTask address width value) r = Store address width value
answered (EnterTask value) r = Enter value

-- the registers change only where the instruction is done
abbrev pub KeepsUnlessDone : Task → Regs → Regs → Type 0
KeepsUnlessDone (DoneTask _) before after = Unit {0}
KeepsUnlessDone (TrapTask _ _) before after = after ≡ before
KeepsUnlessDone (LoadTask _ _ _ _) before after = after ≡ before
KeepsUnlessDone (StoreTask _ _ _) before after = after ≡ before
KeepsUnlessDone (EnterTask _) before after = after ≡ before

-- what a done instruction tells of the registers holds: it changed no other word of them
abbrev pub TouchesAsTold : Task → Regs → Regs → Type 0
TouchesAsTold (DoneTask touched) before after = Touches touched before after
TouchesAsTold (TrapTask _ _) before after = Unit {0}
TouchesAsTold (LoadTask _ _ _ _) before after = Unit {0}
TouchesAsTold (StoreTask _ _ _) before after = Unit {0}
TouchesAsTold (EnterTask _) before after = Unit {0}

-- the numbers in it are in range
abbrev pub IsInRange : Task → Type 0
IsInRange (DoneTask _) = Unit {0}
IsInRange (TrapTask cause _) = cause < 16
IsInRange (LoadTask _ _ _ rd) = rd < 32
IsInRange (StoreTask _ _ _) = Unit {0}
IsInRange (EnterTask _) = Unit {0}
