-- A job built: its directives in the order of their lines, then the commands of the debugger, and last the watches.
use Rattle.std.specs.Prelude.{◌≡◌, ℕ, Bool, true, false, ◌||◌, nat_le, if◌then◌else◌, List, [], ◌∷◌, ◌++◌, length}
use Rattle.std.specs.Prelude.{map, is_some, Option, Some, None, Result, Ok, Err, codes}
use Rattle.hv_limits.specs.Limits.{pages_limit}
use Rattle.hv_store.specs.declared.access.Slot.{Slot}
use Rattle.hv_line.specs.declared.types.DebugCommand.{DebugCommand}
use Rattle.hv_line.specs.declared.types.DebugCommand.TheVariants as command
use Rattle.hv_job.specs.declared.job.DebugLine.{DebugLine}
use Rattle.hv_line.specs.declared.types.Directive.{Directive}
use Rattle.hv_line.specs.declared.types.Directive.TheVariants as directive
use Rattle.hv_job.specs.declared.job.Job.{Job}
use Rattle.hv_job.specs.declared.job.Placed.{Placed}
use Rattle.hv_map.specs.Chain.{map_of}
use Rattle.hv_map.specs.declared.path.Watch.{Watch}
use Rattle.hv_samples.specs.declared.choice.Sample.{Sample}
use Rattle.hv_load.specs.declared.ends.BuildEnd.{BuildEnd}
use Rattle.hv_load.specs.declared.ends.BuildEnd.TheVariants.{BuildFault, Memory}
use Rattle.hv_load.specs.declared.ends.BuildKind.{BuildKind}
use Rattle.hv_load.specs.declared.ends.BuildKind.TheVariants as kind
use Rattle.hv_load.specs.declared.parts.PlacedWatch.{PlacedWatch}
use Rattle.hv_load.specs.declared.start.Named.{Named}
use Rattle.hv_load.specs.declared.start.Plan.{Plan}
use Rattle.hv_load.specs.declared.start.Start.{Start}
use Rattle.hv_load.specs.Building.{Building, Known, known, named, nothing_built}
use Rattle.hv_load.specs.Directives.{dump_of, event_of, hart_of, image_of, machine_of, mapped_of, started_of}
use Rattle.hv_load.specs.Directives.{upgraded_of, watch_of, words_of}
use Rattle.hv_load.specs.Tower.{level_name, tower_of}
use Rattle.hv_lex.specs.Refusing.{◌>>=◌, at_line}

-- a part of a tower, which is a machine or a sample
abbrev pub part_of : Building → Directive → Result Building BuildKind
part_of b (directive.Machine name parent block pages table at) = machine_of b name parent block pages table at
part_of b (directive.Sample name image) = image_of b name image
part_of b _ = Ok b

-- the parts of a tower in order, or the first refusal
abbrev pub parts_of : Building → List Placed → Result Building BuildKind
parts_of b [] = Ok b
parts_of b (placed ∷ parts) = part_of b placed.what >>= λ next. parts_of next parts

-- the machine at the top of a tower has the name `top` too
abbrev pub with_top : Building → Known → Building
with_top b k = record b { names = b.names ++ record k { name = codes "top" } ∷ []; towered = true }

-- the same of the last machine of a tower, which is found by the name of its level
abbrev pub top_of : Building → (depth : ℕ) → Result Building BuildKind
top_of b depth = known (level_name depth) b.names >>= λ k. Ok (with_top b k)

-- `tower`
abbrev pub towered_of : Building → (line depth pages : ℕ) → Sample → Result Building BuildKind
towered_of b line depth pages which =
    if b.towered || is_some (named (codes "top") b.names) then Err kind.Repeat
    else parts_of b (tower_of depth pages which line) >>= λ next. top_of next depth

-- one directive
abbrev pub done_of : Building → (line : ℕ) → Directive → Result Building BuildKind
done_of b line (directive.Hart hart pc) = hart_of b hart pc
done_of b line (directive.Machine name parent block pages table at) = machine_of b name parent block pages table at
done_of b line (directive.Map name page entry) = mapped_of b name page entry
done_of b line (directive.Upgrade name dir) = upgraded_of b name dir
done_of b line (directive.Start name pc) = started_of b name pc
done_of b line (directive.Image name image) = image_of b name image
done_of b line (directive.Sample name image) = image_of b name image
done_of b line (directive.Word name at values) = words_of b name at values
done_of b line (directive.Tower depth pages which) = towered_of b line depth pages which
done_of b line (directive.Turn hart) = event_of b hart
done_of b line (directive.Lines hart) = event_of b hart
done_of b line (directive.Watch hart name) = watch_of b line hart name
done_of b line (directive.Dump name page) = dump_of b name page

-- all directives in order, or the first that is refused
unfoldable pub built_from : Building → List Placed → Result Building (ℕ × BuildKind)
built_from b [] = Ok b
built_from b (placed ∷ lines) =
    at_line placed.line (done_of b placed.line placed.what) >>= λ next. built_from next lines

-- a command of the debugger names a machine or a hart that is there
abbrev pub command_of : Building → DebugCommand → Result Building BuildKind
command_of b (command.Step count) = Ok b
command_of b (command.Break name at) = known name b.names >>= λ k. Ok b
command_of b (command.Regs name) = known name b.names >>= λ k. Ok b
command_of b (command.Mem name at) = known name b.names >>= λ k. Ok b
command_of b (command.Path hart) = event_of b hart
command_of b (command.Map name page) = known name b.names >>= λ k. Ok b
command_of b command.Faults = Ok b

-- the first fault of some lines: that of this one, else that of the rest
abbrev pub fault_or : {A : Type 0} → ℕ → Result A BuildKind → Option (ℕ × BuildKind) → Option (ℕ × BuildKind)
fault_or line (Ok x) rest = rest
fault_or line (Err why) rest = Some (line, why)

-- the first command that is refused
abbrev pub command_fault : Building → List DebugLine → Option (ℕ × BuildKind)
command_fault b [] = None
command_fault b (line ∷ lines) = fault_or line.line (command_of b line.what) (command_fault b lines)

-- the map of a machine that can be watched has at most as many pages as the storage can have
abbrev pub can_watch : Option (List Slot) → Bool
can_watch None = false
can_watch (Some F) = nat_le (length F) pages_limit

-- the first line whose watch can't be
abbrev pub watch_fault : List ℕ → List PlacedWatch → Option ℕ
watch_fault S [] = None
watch_fault S (asked ∷ rest) =
    if can_watch (map_of S asked.watch.path) then watch_fault S rest else Some asked.line

-- a machine without its pages
abbrev pub named_of : Known → Named
named_of k = record { name = k.name; path = k.path }

-- a watch without its line
abbrev pub watch_asked : PlacedWatch → Watch
watch_asked asked = asked.watch

-- the names, the watches and the dumps that a job has come to
abbrev pub plan_of : Building → Plan
plan_of b = record { names = map named_of b.names; watches = map watch_asked b.watches; dumps = b.dumps }

-- the start of a job in which all is built
abbrev pub start_of : Building → Start
start_of b = record { store = b.storage; harts = b.harts; plan = plan_of b }

-- the same, if each watch can be
abbrev pub unless_fault : Building → Option ℕ → Result Start (ℕ × BuildKind)
unless_fault b None = Ok (start_of b)
unless_fault b (Some line) = Err (line, kind.Watch)

-- the start of a job, or the line of the first watch that can't be played
abbrev pub finish_of : Building → Result Start (ℕ × BuildKind)
finish_of b = unless_fault b (watch_fault b.storage b.watches)

-- the same, if no command is refused
abbrev pub unless_refused : Building → Option (ℕ × BuildKind) → Result Start (ℕ × BuildKind)
unless_refused b None = finish_of b
unless_refused b (Some end) = Err end

-- after all directives come the commands, and last the watches
abbrev pub end_of : List DebugLine → Building → Result Start (ℕ × BuildKind)
end_of commands b = unless_refused b (command_fault b commands)

-- the start of a job, or the line that is refused and why
unfoldable pub build_of : Job → Result Start (ℕ × BuildKind)
build_of job = built_from (nothing_built job.pages job.harts) job.lines >>= end_of job.commands

-- what `build` answers; memory may be wanting whatever the job is
abbrev pub GivesStart : Result Start BuildEnd → Result Start (ℕ × BuildKind) → Type 0
GivesStart (Ok start) built = built ≡ Ok start
GivesStart (Err (BuildFault line why)) built = built ≡ Err (line, why)
GivesStart (Err Memory) built = Unit {0}
