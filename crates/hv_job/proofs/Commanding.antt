-- The commands of the debugger, one line more at a time.
use Rattle.std.proofs.Common.{◌≡◌, ℕ, ◌+◌, ◌≤◌, false, cond, List, [], ◌∷◌, length, Result, Ok, sym, ap, ◌∙◌, arith, zero-add}
use Rattle.std.proofs.lemmas.List.Sums.{sum_by-append}
use Rattle.std.proofs.lemmas.Bool.Decides.{nat_tests}
use Rattle.hv_lex.specs.Lines.{lines_of}
use Rattle.hv_line.specs.Answers.{LineRefuses}
use Rattle.hv_line.specs.JobLimits.{job_breaks, job_commands}
use Rattle.hv_line.specs.declared.kinds.JobKind.{JobKind}
use Rattle.hv_line.specs.declared.kinds.JobLineEnd.{JobLineEnd}
use Rattle.hv_line.specs.declared.kinds.JobLineEnd.TheVariants as lined
use Rattle.hv_line.specs.declared.types.DebugCommand.{DebugCommand}
use Rattle.hv_line.specs.declared.types.DebugCommand.TheVariants as command
use Rattle.hv_line.specs.declared.version.JobVersion.{JobVersion}
use Rattle.hv_job.specs.Commands.{commands_from, commands_then, commands_with, is_over, line_commands}
use Rattle.hv_job.specs.Drafted.{Refuses, end_at}
use Rattle.hv_job.specs.IsJob.{breaks_in, is_break}
use Rattle.hv_job.specs.declared.job.DebugLine.{DebugLine}
use Rattle.hv_job.proofs.Ending.{no_lines}

-- counts of breakpoints, with one command more behind
pub breaks_more : (commands : List DebugLine) (number : ℕ) (words : List ℕ) (what : DebugCommand) → breaks_in (commands_with commands number words what) ≡ breaks_in commands + cond (is_break what) 1 0
breaks_more commands number words what =
    sum_by-append (λ line. cond (is_break line.what) 1 0) commands (record { line = number; words = words; what = what } ∷ [])
    ∙ ap (λ n. breaks_in commands + n) (zero-add (cond (is_break what) 1 0))

pub room_breaks : (commands : List DebugLine) (what : DebugCommand) → is_over commands what ≡ false → breaks_in commands ≤ job_breaks → breaks_in commands + cond (is_break what) 1 0 ≤ job_breaks
unfolding is_over
room_breaks commands (command.Break name at) few le = grind (arith, nat_tests)
room_breaks commands _ few le = omega arith

pub room_commands : (commands : List DebugLine) (what : DebugCommand) → is_over commands what ≡ false → length commands + 1 ≤ job_commands
unfolding is_over
room_commands commands (command.Break name at) few = grind (arith, nat_tests)
room_commands commands _ few = grind (arith, nat_tests)

-- one more line
abbrev Commanded : Type 0
Commanded = Result (List DebugLine) (ℕ × JobKind)

pub commands_end : (version : JobVersion) (commands : List DebugLine) (n : ℕ) (s : List ℕ) (all : Commanded) → length s ≡ 0 → commands_from version commands n (lines_of s) ≡ all → all ≡ Ok commands
unfolding commands_from
commands_end version commands n s all none told = sym told ∙ ap (commands_from version commands n) (no_lines s none)

module _ (version : JobVersion) (commands : List DebugLine) (n : ℕ) (s line behind : List ℕ) (all : Commanded) (cut : lines_of s ≡ line ∷ lines_of behind) (told : commands_from version commands n (lines_of s) ≡ all) where
  abbrev next : List DebugLine → Commanded
  next new = commands_from version new (n + 1) (lines_of behind)

  commands_is : commands_from version commands n (lines_of s) ≡ commands_then n (line_commands version commands n line) next
  unfolding commands_from
  commands_is = ap (commands_from version commands n) cut

  pub commands_more : (new : List DebugLine) → line_commands version commands n line ≡ Ok new → commands_from version new (n + 1) (lines_of behind) ≡ all
  commands_more new made = sym (ap (λ r. commands_then n r next) made) ∙ sym commands_is ∙ told

  pub commands_refused : (end : JobLineEnd) → LineRefuses end (line_commands version commands n line) → Refuses (end_at end n) all
  commands_refused (lined.Fault kind) made = sym told ∙ commands_is ∙ ap (λ r. commands_then n r next) made
  commands_refused lined.Memory made = tt
