-- One step of a machine at level j, with the machines inside it. The registers name by `next` the page of the child
-- that the machine runs, 0 for none; then the child makes the step. A machine's map is the list of its slots, and is
-- composed anew for each child; the child's registers are read from its block before the step and put back after it.
use Rattle.std.specs.Prelude.{ℕ, zero, suc, ◌+◌, ◌*◌, ◌==◌, true, if◌then◌else◌, List, Option, Some, None, slice_get}
use Rattle.hv_word.specs.Storage.{page_count}
use Rattle.hv_cpu.specs.Regs.{Regs}
use Rattle.hv_csr.specs.Traps.{take_trap_of}
use Rattle.hv_csr.specs.Interrupts.{pending_of}
use Rattle.hv_store.specs.declared.access.Access.{Access}
use Rattle.hv_store.specs.declared.access.Access.TheVariants.{Read, Write}
use Rattle.hv_store.specs.declared.access.Refusal.{Refusal}
use Rattle.hv_store.specs.declared.access.Slot.{Slot}
use Rattle.hv_store.specs.declared.access.Way.{Way}
use Rattle.hv_store.specs.declared.access.Way.TheVariants.{Open, Shut}
use Rattle.hv_store.specs.Access.{identity, refused}
use Rattle.hv_exec.specs.Act.{Acted, Done, Refused, act_of}
use Rattle.hv_block.specs.Block.{Contents, block_of, put_regs, with_fault, access_word}
use Rattle.hv_limits.specs.Limits.{depth_limit}
use Rattle.hv_map.specs.Compose.{compose}

-- what a step comes to
pub data Stepped : Type 0 where
  -- an instruction was executed, or its trap or an interrupt taken
  Worked : (S : List ℕ) (r : Regs) → Stepped
  -- the machine at that level got control back, for an interrupt of its own
  Recalled : (level : ℕ) (S : List ℕ) (r : Regs) → Stepped
  -- a map refused, or a child couldn't run, and the machine at that level was told
  Faulted : (level cause address : ℕ) (access : Access) (S : List ℕ) (r : Regs) → Stepped
  -- the refusal is for a machine further out
  Barred : (refusal : Refusal) → Stepped

-- storage, map, level, hart and registers of a machine, to its step
abbrev pub Machine : Type 0
Machine = List ℕ → List Slot → ℕ → ℕ → Regs → Stepped

-- the registers with no child to run
abbrev pub idle : Regs → Regs
idle r = record r { next = 0 }

-- an interrupt is taken; where a child runs, the machine gets control back first
abbrev pub interrupt_of : List ℕ → ℕ → Regs → ℕ → Stepped
interrupt_of S j r k = if r.next == 0 then Worked S (take_trap_of r k true 0) else Recalled j S (idle r)

-- an instruction as a step of the machine that makes it
abbrev pub act_step : Acted → Stepped
act_step (Done S r) = Worked S r
act_step (Refused e) = Barred e

-- A refusal for the machine at level j, whose child's block is in bare page g, is told in that block, and the machine
-- gets control back; one for a machine further out is passed on.
abbrev pub tell_of : List ℕ → ℕ → Regs → ℕ → Refusal → Stepped
tell_of S j r g e =
    if e.level == j
    then Faulted j e.cause e.address e.access (with_fault S g e.cause e.address (access_word e.access)) (idle r)
    else Barred e

-- the child's step, with its registers put back into its block; the parent's registers stay
abbrev pub put_back : List ℕ → ℕ → Regs → ℕ → Stepped → Stepped
put_back S j r g (Worked T q) = Worked (put_regs T g q) r
put_back S j r g (Recalled l T q) = Recalled l (put_regs T g q) r
put_back S j r g (Faulted l c address a T q) = Faulted l c address a (put_regs T g q) r
put_back S j r g (Barred e) = tell_of S j r g e

-- a malformed block is a refusal for the machine that holds it
abbrev pub malformed : ℕ → ℕ → Refusal
malformed j s = record { level = j; cause = 6; address = 4096 * s; access = Read }

-- a machine that may not have a child to run, being at the deepest level, is a refusal for the bare machine
abbrev pub too_deep : ℕ → Refusal
too_deep s = record { level = 0; cause = 5; address = 4096 * s; access = Read }

-- the child whose block is in bare page g makes the step; it is hart 0 of its machine
abbrev pub child_step : Machine → List ℕ → List Slot → ℕ → Regs → ℕ → Option Contents → Stepped
child_step deeper S F j r g None = tell_of S j r g (malformed j r.next)
child_step deeper S F j r g (Some contents) =
    put_back S j r g (deeper S (compose S F j contents.pages contents.table contents.version) (j + 1) 0 contents.regs)

-- the same through the way for writing of the block's page, which may be shut
abbrev pub child_step_through : Machine → List ℕ → List Slot → ℕ → Regs → Way → Stepped
child_step_through deeper S F j r (Open g) = child_step deeper S F j r g (block_of S g)
child_step_through deeper S F j r (Shut l c p w) = Barred (refused l c p w 0 Write)

-- The page of the block must be one that the machine may write. (A machine keeps its next below its number of pages,
-- so the case of a page that it hasn't is never reached.)
abbrev pub child_step_at : Machine → List ℕ → List Slot → ℕ → Regs → Option Slot → Stepped
child_step_at deeper S F j r None = Barred (too_deep r.next)
child_step_at deeper S F j r (Some slot) = child_step_through deeper S F j r slot.write

-- the child makes the step, unless the machine is at the deepest level
abbrev pub next_step : Option Machine → List ℕ → List Slot → ℕ → Regs → Stepped
next_step None S F j r = Barred (too_deep r.next)
next_step (Some deeper) S F j r = child_step_at deeper S F j r (slice_get F r.next)

-- a step without an interrupt: an instruction of the machine's own, or the step of its child
abbrev pub quiet_step : Option Machine → List ℕ → List Slot → ℕ → ℕ → Regs → Stepped
quiet_step deeper S F j hart r =
    if r.next == 0 then act_step (act_of S F hart r) else next_step deeper S F j r

-- a step where the pending interrupt is given, if there is one
abbrev pub step_on : Option Machine → List ℕ → List Slot → ℕ → ℕ → Regs → Option ℕ → Stepped
step_on deeper S F j hart r (Some k) = interrupt_of S j r k
step_on deeper S F j hart r None = quiet_step deeper S F j hart r

-- a step of a machine, where `deeper` makes those of its children
abbrev pub step_with : Option Machine → Machine
step_with deeper S F j hart r = step_on deeper S F j hart r (pending_of r)

-- the step of a machine below which there may be n more levels
unfoldable pub step_of : ℕ → Machine
step_of zero = step_with None
step_of (suc n) = step_with (Some (step_of n))

-- one step of a hart of the bare machine
unfoldable pub host_step_of : List ℕ → ℕ → Regs → Stepped
host_step_of S hart r = step_of depth_limit S (identity (page_count S)) 0 hart r
