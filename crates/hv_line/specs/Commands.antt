-- The commands of the debugger. Each has a definition of its own: the number of words behind the first, and then the
-- tests of these words, from the left.
use Rattle.std.specs.Prelude.{ℕ, if◌then◌else◌, List, [], ◌∷◌, ◌++◌, codes, Result, Ok, Err}
use Rattle.std.specs.Str.{bytes_eq}
use Rattle.hv_limits.specs.Limits.{steps_limit}
use Rattle.hv_line.specs.Statements.{address, between, hart, named, number, page}
use Rattle.hv_line.specs.declared.kinds.JobKind.{JobKind}
use Rattle.hv_line.specs.declared.kinds.JobKind.TheVariants as fault
use Rattle.hv_line.specs.declared.types.DebugCommand.{DebugCommand}
use Rattle.hv_line.specs.declared.types.DebugCommand.TheVariants as command
use Rattle.hv_line.specs.declared.version.JobVersion.{JobVersion}
use Rattle.hv_lex.specs.Refusing.{◌>>=◌}

-- step N
unfoldable pub step_command_of : List (List ℕ) → Result DebugCommand JobKind
step_command_of (n ∷ []) = do
  n ← between 1 steps_limit n
  Ok (command.Step n)
step_command_of _ = Err fault.Words

-- break NAME A
unfoldable pub break_command_of : List (List ℕ) → Result DebugCommand JobKind
break_command_of (name ∷ a ∷ []) = do
  name ← named name
  a ← number a
  Ok (command.Break name a)
break_command_of _ = Err fault.Words

-- regs NAME
unfoldable pub regs_command_of : List (List ℕ) → Result DebugCommand JobKind
regs_command_of (name ∷ []) = do
  name ← named name
  Ok (command.Regs name)
regs_command_of _ = Err fault.Words

-- mem NAME A
unfoldable pub mem_command_of : List (List ℕ) → Result DebugCommand JobKind
mem_command_of (name ∷ a ∷ []) = do
  name ← named name
  a ← address a
  Ok (command.Mem name a)
mem_command_of _ = Err fault.Words

-- path H
unfoldable pub path_command_of : JobVersion → List (List ℕ) → Result DebugCommand JobKind
path_command_of version (h ∷ []) = do
  h ← hart version h
  Ok (command.Path h)
path_command_of version _ = Err fault.Words

-- map NAME I
unfoldable pub map_command_of : List (List ℕ) → Result DebugCommand JobKind
map_command_of (name ∷ i ∷ []) = do
  name ← named name
  i ← page i
  Ok (command.Map name i)
map_command_of _ = Err fault.Words

-- faults
unfoldable pub faults_command_of : List (List ℕ) → Result DebugCommand JobKind
faults_command_of [] = Ok command.Faults
faults_command_of _ = Err fault.Words

-- the command with this first word, with these words behind it
unfoldable pub command_with : JobVersion → List ℕ → List (List ℕ) → Result DebugCommand JobKind
command_with version first words =
    if bytes_eq first (codes "step") then step_command_of words
    else if bytes_eq first (codes "break") then break_command_of words
    else if bytes_eq first (codes "regs") then regs_command_of words
    else if bytes_eq first (codes "mem") then mem_command_of words
    else if bytes_eq first (codes "path") then path_command_of version words
    else if bytes_eq first (codes "map") then map_command_of words
    else if bytes_eq first (codes "faults") then faults_command_of words
    else Err fault.Directive

-- the command that the words of a line are
unfoldable pub command_of : JobVersion → List (List ℕ) → Result DebugCommand JobKind
command_of version [] = Err fault.Directive
command_of version (first ∷ words) = command_with version first words

-- words, each behind a blank, byte 32
unfoldable pub behind_blanks : List (List ℕ) → List ℕ
behind_blanks [] = []
behind_blanks (word ∷ words) = 32 ∷ word ++ behind_blanks words

-- words with one blank between them
unfoldable pub join_words_of : List (List ℕ) → List ℕ
join_words_of [] = []
join_words_of (word ∷ words) = word ++ behind_blanks words
