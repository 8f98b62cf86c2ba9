-- What each command writes for an input, and what is promised of it.
use Rattle.std.specs.Prelude.{ℕ, Bool, true, false, List, [], Option, IfSome, Result, Ok, Err}
use Rattle.hv_load.specs.Generator.{gen_job_of}
use Rattle.hv_words.specs.declared.Command.{Command}
use Rattle.hv_words.specs.declared.Command.TheVariants.{Run, Check, Asm, Dis, Debug, Save, Gen}
use Rattle.hv_words.specs.declared.Usage.{Usage}
use Rattle.hv_top.specs.Output.{Output}
use Rattle.hv_top.specs.Asm.{asm_output}
use Rattle.hv_top.specs.Check.{check_output}
use Rattle.hv_top.specs.Debug.{debug_output}
use Rattle.hv_top.specs.Dis.{dis_output}
use Rattle.hv_top.specs.Gen.{gen_output}
use Rattle.hv_top.specs.Run.{run_output, JobIsPromised, TextIsPromised}
use Rattle.hv_top.specs.Save.{save_output}

-- what is written for an input
unfoldable pub output_of : Command → List ℕ → Output
output_of (Run plain) input = run_output input
output_of Check input = check_output input
output_of Asm input = asm_output input
output_of Dis input = dis_output input
output_of Debug input = debug_output input
output_of Save input = save_output input
output_of (Gen number) input = gen_output number

-- a command reads an input, unless it makes its own job
abbrev pub reads_input : Command → Bool
reads_input (Run plain) = true
reads_input Check = true
reads_input Asm = true
reads_input Dis = true
reads_input Debug = true
reads_input Save = true
reads_input (Gen number) = false

-- the words name a command that reads an input
abbrev pub reads : Result Command Usage → Bool
reads (Ok command) = reads_input command
reads (Err usage) = false

-- P holds of what is read for a command: of the input, or of nothing
abbrev pub OnReadInput : Bool → Option (List ℕ) → (List ℕ → Type 0) → Type 0
OnReadInput true left P = IfSome left P
OnReadInput false left P = P []

-- P of the input of a command: of the bytes that its source has left, where it tells them, or of none if the command
-- reads nothing
abbrev pub OnInput : Command → Option (List ℕ) → (List ℕ → Type 0) → Type 0
OnInput command left P = OnReadInput (reads_input command) left P

-- what is promised of the machines that a command plays
unfoldable pub IsPromised : Command → List ℕ → Type 0
IsPromised (Run plain) input = TextIsPromised input
IsPromised Check input = TextIsPromised input
IsPromised Asm input = Unit {0}
IsPromised Dis input = Unit {0}
IsPromised Debug input = Unit {0}
IsPromised Save input = TextIsPromised input
IsPromised (Gen number) input = JobIsPromised (gen_job_of number)
