-- What holds of what a line says: its values are in their ranges. The ranges are those of a `job 2`, within which those
-- of a `job 1` are.
use Rattle.std.specs.Prelude.{◌≡◌, ◌⊎◌, ℕ, ◌+◌, ◌*◌, ◌%◌, ◌^◌, ◌<◌, ◌≤◌, Bool, true, false, length}
use Rattle.hv_asm.specs.Limits.{image_limit}
use Rattle.hv_asm.specs.declared.Image.{Image}
use Rattle.hv_irq.specs.Events.{hart_of}
use Rattle.hv_limits.specs.Limits.{pages_limit, steps_limit}
use Rattle.hv_samples.specs.declared.choice.Sample.TheVariants.{Pass, Forward}
use Rattle.hv_line.specs.JobLimits.{job_depth, job_harts, job_values}
use Rattle.hv_line.specs.declared.types.DebugCommand.{DebugCommand}
use Rattle.hv_line.specs.declared.types.DebugCommand.TheVariants as command
use Rattle.hv_line.specs.declared.types.Directive.{Directive}
use Rattle.hv_line.specs.declared.types.Directive.TheVariants as directive
use Rattle.hv_line.specs.declared.types.Statement.{Statement}
use Rattle.hv_line.specs.declared.types.Statement.TheVariants as states

-- an address of a word
abbrev pub IsAligned : ℕ → Type 0
IsAligned at = at % 4 ≡ 0

-- a number of a page
abbrev pub IsPage : ℕ → Type 0
IsPage page = page < 2 ^ 20

-- a number of pages that a storage may have
abbrev pub IsSize : ℕ → Type 0
IsSize pages = (1 ≤ pages) × (pages ≤ pages_limit)

-- the words are few enough, and the last one is at most at address 2 ^ 32 - 4
pub record IsImage (image : Image) : Type 0 where
  pub aligned : IsAligned image.base
  pub ends : image.base + 4 * length image.words ≤ 2 ^ 32
  pub count : 4 * length image.words ≤ image_limit

-- the values of a directive are in their ranges
abbrev pub IsRanged : Directive → Type 0
IsRanged (directive.Hart hart pc) = (hart < job_harts) × IsAligned pc
IsRanged (directive.Machine name parent block pages table at) =
    (1 ≤ block) × IsPage block × IsSize pages × IsPage table × IsPage at
IsRanged (directive.Map name page entry) = IsPage page
IsRanged (directive.Start name pc) = IsAligned pc
IsRanged (directive.Image name image) = IsImage image
IsRanged (directive.Sample name image) = IsImage image
IsRanged (directive.Word name at values) = IsAligned at × (1 ≤ length values) × (length values ≤ job_values)
IsRanged (directive.Tower depth pages which) =
    (depth ≤ job_depth) × IsSize pages × ((which ≡ Pass) ⊎ (which ≡ Forward))
IsRanged (directive.Turn hart) = hart < job_harts
IsRanged (directive.Lines hart) = hart < job_harts
IsRanged (directive.Watch hart name) = hart < job_harts
IsRanged (directive.Dump name page) = IsPage page
IsRanged (directive.Upgrade name dir) = IsPage dir

-- a directive that has an event in the schedule
abbrev pub has_event : Directive → Bool
has_event (directive.Turn hart) = true
has_event (directive.Lines hart) = true
has_event _ = false

-- the values of what a line says are in their ranges, and a directive that is said at once has no event
abbrev pub IsStatement : Statement → Type 0
IsStatement (states.Harts harts) = (1 ≤ harts) × (harts ≤ job_harts)
IsStatement (states.Image name at) = IsAligned at × (at < 2 ^ 32)
IsStatement (states.Sample name at which) = IsAligned at × (at < 2 ^ 32)
IsStatement (states.Event event) = hart_of event < job_harts
IsStatement (states.Directive what) = IsRanged what × (has_event what ≡ false)

-- the values of a command of the debugger are in their ranges
abbrev pub IsCommand : DebugCommand → Type 0
IsCommand (command.Step count) = (1 ≤ count) × (count ≤ steps_limit)
IsCommand (command.Break name at) = Unit {0}
IsCommand (command.Regs name) = Unit {0}
IsCommand (command.Mem name at) = IsAligned at
IsCommand (command.Path hart) = hart < job_harts
IsCommand (command.Map name page) = IsPage page
IsCommand command.Faults = Unit {0}
