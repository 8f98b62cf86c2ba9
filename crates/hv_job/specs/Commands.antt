-- The commands of the debugger, which stand behind the directives.
use Rattle.std.specs.Prelude.{ℕ, ◌+◌, ◌||◌, nat_le, not, Bool, if◌then◌else◌, List, [], ◌∷◌, ◌++◌, length, Result, Ok}
use Rattle.std.specs.Prelude.{Err}
use Rattle.hv_line.specs.Commands.{command_of, join_words_of}
use Rattle.hv_line.specs.JobLimits.{job_breaks, job_commands}
use Rattle.hv_line.specs.Lines.{has_words, is_allowed, words_of}
use Rattle.hv_line.specs.declared.kinds.JobKind.{JobKind}
use Rattle.hv_line.specs.declared.kinds.JobKind.TheVariants as fault
use Rattle.hv_line.specs.declared.types.DebugCommand.{DebugCommand}
use Rattle.hv_line.specs.declared.types.DebugCommand.TheVariants as command
use Rattle.hv_line.specs.declared.version.JobVersion.{JobVersion}
use Rattle.hv_job.specs.IsJob.{breaks_in}
use Rattle.hv_job.specs.declared.job.DebugLine.{DebugLine}
use Rattle.hv_lex.specs.Refusing.{◌>>=◌}

-- a limit that a command behind these passes
unfoldable pub is_over : List DebugLine → DebugCommand → Bool
is_over commands (command.Break name at) =
    nat_le job_commands (length commands) || nat_le job_breaks (breaks_in commands)
is_over commands _ = nat_le job_commands (length commands)

-- the commands with one on the line of this number behind them
abbrev pub commands_with : List DebugLine → ℕ → List ℕ → DebugCommand → List DebugLine
commands_with commands number words what = commands ++ record { line = number; words = words; what = what } ∷ []

-- the same, unless there are too many commands then, or too many breakpoints
abbrev pub new_commands : List DebugLine → ℕ → List (List ℕ) → DebugCommand → Result (List DebugLine) JobKind
new_commands commands number words what =
    if is_over commands what then Err fault.Many else Ok (commands_with commands number (join_words_of words) what)

-- the commands with that of a line, which may have no words
unfoldable pub line_commands : JobVersion → List DebugLine → ℕ → List ℕ → Result (List DebugLine) JobKind
line_commands version commands number line =
    if not (is_allowed line) then Err fault.Byte
    else if not (has_words line) then Ok commands
    else command_of version (words_of line) >>= new_commands commands number (words_of line)

-- what follows where the line was no fault
abbrev pub commands_then :
    ℕ → Result (List DebugLine) JobKind
    → (List DebugLine → Result (List DebugLine) (ℕ × JobKind)) → Result (List DebugLine) (ℕ × JobKind)
commands_then number (Ok commands) next = next commands
commands_then number (Err kind) next = Err (number, kind)

-- these commands and those of the lines behind, the first of which has this number
unfoldable pub commands_from :
    JobVersion → List DebugLine → ℕ → List (List ℕ) → Result (List DebugLine) (ℕ × JobKind)
commands_from version commands number [] = Ok commands
commands_from version commands number (line ∷ lines) =
    commands_then number (line_commands version commands number line)
    (λ next. commands_from version next (number + 1) lines)
