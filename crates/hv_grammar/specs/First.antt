-- What a `job 1` can say: a part of what a `job 2` can, by the same words.
use Rattle.std.specs.Prelude.{◌≡◌, ◌↔◌, ℕ, ◌/◌, ◌%◌, ◌<◌, ◌≤◌, List, Ok}
use Rattle.hv_irq.specs.Events.{hart_of}
use Rattle.hv_line.specs.Commands.{command_of}
use Rattle.hv_line.specs.JobLimits.{depth_in, harts_in}
use Rattle.hv_line.specs.Statements.{statement_of}
use Rattle.hv_line.specs.declared.types.DebugCommand.{DebugCommand}
use Rattle.hv_line.specs.declared.types.DebugCommand.TheVariants as command
use Rattle.hv_line.specs.declared.types.Directive.{Directive}
use Rattle.hv_line.specs.declared.types.Directive.TheVariants as directive
use Rattle.hv_line.specs.declared.types.Statement.{Statement}
use Rattle.hv_line.specs.declared.types.Statement.TheVariants as states
use Rattle.hv_line.specs.declared.version.JobVersion.TheVariants.{One, Two}

-- A directive of a `job 1` names no hart and no depth beyond its ranges, sets no entry's bit 2, by which a page may be
-- fetched from, and upgrades no machine.
abbrev pub IsFirstDirective : Directive → Type 0
IsFirstDirective (directive.Hart hart pc) = hart < harts_in One
IsFirstDirective (directive.Map name page entry) = entry / 4 % 2 ≡ 0
IsFirstDirective (directive.Tower depth pages which) = depth ≤ depth_in One
IsFirstDirective (directive.Turn hart) = hart < harts_in One
IsFirstDirective (directive.Lines hart) = hart < harts_in One
IsFirstDirective (directive.Watch hart name) = hart < harts_in One
IsFirstDirective (directive.Upgrade name dir) = ⊥
IsFirstDirective _ = Unit {0}

-- the same of what a line says
abbrev pub IsFirst : Statement → Type 0
IsFirst (states.Harts harts) = harts ≤ harts_in One
IsFirst (states.Image name at) = Unit {0}
IsFirst (states.Sample name at which) = Unit {0}
IsFirst (states.Event event) = hart_of event < harts_in One
IsFirst (states.Directive what) = IsFirstDirective what

-- a line of a `job 1` says exactly what the same words say in a `job 2`, where a `job 1` can say it
abbrev pub FirstLineLaw : Type 0
FirstLineLaw =
    (words : List (List ℕ)) (what : Statement)
    → (statement_of One words ≡ Ok what) ↔ ((statement_of Two words ≡ Ok what) × IsFirst what)

-- a command of a `job 1` names no hart beyond its range
abbrev pub IsFirstCommand : DebugCommand → Type 0
IsFirstCommand (command.Path hart) = hart < harts_in One
IsFirstCommand _ = Unit {0}

-- a line is a command of a `job 1` exactly where the same words are it in a `job 2`, and a `job 1` can have it
abbrev pub FirstCommandLaw : Type 0
FirstCommandLaw =
    (words : List (List ℕ)) (what : DebugCommand)
    → (command_of One words ≡ Ok what) ↔ ((command_of Two words ≡ Ok what) × IsFirstCommand what)
