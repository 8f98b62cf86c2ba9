-- What a line of a job may be, as it is written: one form for each line of the table, with its words and its ranges.
-- Which forms and ranges there are says the first line with words, `job 1` or `job 2`.
use Rattle.std.specs.Prelude.{◌≡◌, ◌⊎◌, ◌↔◌, ℕ, ◌+◌, ◌*◌, ◌%◌, ◌^◌, ◌<◌, ◌≤◌, true, bit_and, List, [], ◌∷◌, map}
use Rattle.std.specs.Prelude.{length, codes, Some, Ok}
use Rattle.hv_irq.specs.declared.Event.TheVariants as event
use Rattle.hv_lex.specs.Numbers.{number_of}
use Rattle.hv_limits.specs.Limits.{lines_mask, pages_limit, steps_limit}
use Rattle.hv_samples.specs.declared.choice.Sample.{Sample}
use Rattle.hv_samples.specs.declared.choice.Sample.TheVariants.{Pass, Slicer, Forward, Pager}
use Rattle.hv_line.specs.Commands.{command_of}
use Rattle.hv_line.specs.JobLimits.{depth_in, harts_in, job_values}
use Rattle.hv_line.specs.Names.{is_name}
use Rattle.hv_line.specs.Statements.{statement_of, storage_line_of}
use Rattle.hv_line.specs.declared.types.DebugCommand.{DebugCommand}
use Rattle.hv_line.specs.declared.types.DebugCommand.TheVariants as command
use Rattle.hv_line.specs.declared.types.Directive.TheVariants as directive
use Rattle.hv_line.specs.declared.types.Statement.{Statement}
use Rattle.hv_line.specs.declared.types.Statement.TheVariants as states
use Rattle.hv_line.specs.declared.version.JobVersion.{JobVersion}
use Rattle.hv_line.specs.declared.version.JobVersion.TheVariants.{Two}

-- a word of a form: this text, this name, or this number, decimal or in hexadecimal behind `0x`
pub data Word : Type 0 where
  Fixed : (text : List ℕ) → Word
  Named : (name : List ℕ) → Word
  Spelt : (n : ℕ) → Word

-- a word is one of this form
abbrev pub IsWord : Word → List ℕ → Type 0
IsWord (Fixed text) word = word ≡ text
IsWord (Named name) word = (word ≡ name) × (is_name word ≡ true)
IsWord (Spelt n) word = number_of word ≡ Some n

-- one word for each
abbrev pub AreWords : List Word → List (List ℕ) → Type 0
AreWords [] [] = Unit {0}
AreWords (is ∷ rest) (word ∷ words) = IsWord is word × AreWords rest words
AreWords _ _ = ⊥

-- the words of a line `storage P`, with P in its range
pub record IsStorageLine (words : List (List ℕ)) (pages : ℕ) : Type 0 where
  pub range : (1 ≤ pages) × (pages ≤ pages_limit)
  pub written : AreWords (Fixed (codes "storage") ∷ Spelt pages ∷ []) words

-- the second line of a job with words has these pages exactly where its words are `storage` and their number
abbrev pub StorageFormLaw : Type 0
StorageFormLaw = (words : List (List ℕ)) (pages : ℕ) → (storage_line_of words ≡ Ok pages) ↔ IsStorageLine words pages

-- A line among the directives as it is written.
pub data Form : Type 0 where
  -- harts N
  Harts : (harts : ℕ) → Form
  -- hart H A
  Hart : (hart at : ℕ) → Form
  -- machine NAME in PARENT block B pages N table T at P
  Machine : (name parent : List ℕ) (block pages table at : ℕ) → Form
  -- map NAME I none
  MapNone : (name : List ℕ) (page : ℕ) → Form
  -- map NAME I ro P
  MapRead : (name : List ℕ) (page at : ℕ) → Form
  -- map NAME I rw P
  MapWrite : (name : List ℕ) (page at : ℕ) → Form
  -- map NAME I rx P
  MapFetch : (name : List ℕ) (page at : ℕ) → Form
  -- map NAME I rwx P
  MapAll : (name : List ℕ) (page at : ℕ) → Form
  -- start NAME A
  Start : (name : List ℕ) (at : ℕ) → Form
  -- image NAME A
  Image : (name : List ℕ) (at : ℕ) → Form
  -- sample NAME A WHICH
  Sampled : (name : List ℕ) (at : ℕ) (which : Sample) → Form
  -- word NAME A V ...
  Words : (name : List ℕ) (at : ℕ) (values : List ℕ) → Form
  -- tower D pages N
  Tower : (depth pages : ℕ) → Form
  -- tower D pages N WHICH
  TowerOf : (depth pages : ℕ) (which : Sample) → Form
  -- turn H N
  Turn : (hart count : ℕ) → Form
  -- lines H M
  Lines : (hart mask : ℕ) → Form
  -- watch H NAME
  Watch : (hart : ℕ) (name : List ℕ) → Form
  -- dump NAME I
  Dump : (name : List ℕ) (page : ℕ) → Form
  -- upgrade NAME D
  Upgrade : (name : List ℕ) (dir : ℕ) → Form

-- the name of a sample
abbrev pub sample_word : Sample → List ℕ
sample_word Pass = codes "pass"
sample_word Slicer = codes "slicer"
sample_word Forward = codes "forward"
sample_word Pager = codes "pager"

-- the words of a directive's form
abbrev pub form_words : Form → List Word
form_words (Harts harts) = Fixed (codes "harts") ∷ Spelt harts ∷ []
form_words (Hart hart at) = Fixed (codes "hart") ∷ Spelt hart ∷ Spelt at ∷ []
form_words (Machine name parent block pages table at) =
    Fixed (codes "machine") ∷ Named name ∷ Fixed (codes "in") ∷ Named parent ∷ Fixed (codes "block") ∷ Spelt block ∷
    Fixed (codes "pages") ∷ Spelt pages ∷ Fixed (codes "table") ∷ Spelt table ∷ Fixed (codes "at") ∷ Spelt at ∷ []
form_words (MapNone name page) = Fixed (codes "map") ∷ Named name ∷ Spelt page ∷ Fixed (codes "none") ∷ []
form_words (MapRead name page at) = Fixed (codes "map") ∷ Named name ∷ Spelt page ∷ Fixed (codes "ro") ∷ Spelt at ∷ []
form_words (MapWrite name page at) = Fixed (codes "map") ∷ Named name ∷ Spelt page ∷ Fixed (codes "rw") ∷ Spelt at ∷ []
form_words (MapFetch name page at) = Fixed (codes "map") ∷ Named name ∷ Spelt page ∷ Fixed (codes "rx") ∷ Spelt at ∷ []
form_words (MapAll name page at) = Fixed (codes "map") ∷ Named name ∷ Spelt page ∷ Fixed (codes "rwx") ∷ Spelt at ∷ []
form_words (Start name at) = Fixed (codes "start") ∷ Named name ∷ Spelt at ∷ []
form_words (Image name at) = Fixed (codes "image") ∷ Named name ∷ Spelt at ∷ []
form_words (Sampled name at which) = Fixed (codes "sample") ∷ Named name ∷ Spelt at ∷ Fixed (sample_word which) ∷ []
form_words (Words name at values) = Fixed (codes "word") ∷ Named name ∷ Spelt at ∷ map Spelt values
form_words (Tower depth pages) = Fixed (codes "tower") ∷ Spelt depth ∷ Fixed (codes "pages") ∷ Spelt pages ∷ []
form_words (TowerOf depth pages which) =
    Fixed (codes "tower") ∷ Spelt depth ∷ Fixed (codes "pages") ∷ Spelt pages ∷ Fixed (sample_word which) ∷ []
form_words (Turn hart count) = Fixed (codes "turn") ∷ Spelt hart ∷ Spelt count ∷ []
form_words (Lines hart mask) = Fixed (codes "lines") ∷ Spelt hart ∷ Spelt mask ∷ []
form_words (Watch hart name) = Fixed (codes "watch") ∷ Spelt hart ∷ Named name ∷ []
form_words (Dump name page) = Fixed (codes "dump") ∷ Named name ∷ Spelt page ∷ []
form_words (Upgrade name dir) = Fixed (codes "upgrade") ∷ Named name ∷ Spelt dir ∷ []

-- the values are in the ranges of this version, which has this form
abbrev pub IsInRange : JobVersion → Form → Type 0
IsInRange version (Harts harts) = (1 ≤ harts) × (harts ≤ harts_in version)
IsInRange version (Hart hart at) = (hart < harts_in version) × (at % 4 ≡ 0)
IsInRange version (Machine name parent block pages table at) =
    (1 ≤ block) × (block < 2 ^ 20) × (1 ≤ pages) × (pages ≤ pages_limit) × (table < 2 ^ 20) × (at < 2 ^ 20)
IsInRange version (MapNone name page) = page < 2 ^ 20
IsInRange version (MapRead name page at) = (page < 2 ^ 20) × (at < 2 ^ 20)
IsInRange version (MapWrite name page at) = (page < 2 ^ 20) × (at < 2 ^ 20)
IsInRange version (MapFetch name page at) = (version ≡ Two) × (page < 2 ^ 20) × (at < 2 ^ 20)
IsInRange version (MapAll name page at) = (version ≡ Two) × (page < 2 ^ 20) × (at < 2 ^ 20)
IsInRange version (Start name at) = at % 4 ≡ 0
IsInRange version (Image name at) = at % 4 ≡ 0
IsInRange version (Sampled name at which) = at % 4 ≡ 0
IsInRange version (Words name at values) = (at % 4 ≡ 0) × (1 ≤ length values) × (length values ≤ job_values)
IsInRange version (Tower depth pages) = (depth ≤ depth_in version) × (1 ≤ pages) × (pages ≤ pages_limit)
IsInRange version (TowerOf depth pages which) =
    (depth ≤ depth_in version) × (1 ≤ pages) × (pages ≤ pages_limit) × ((which ≡ Pass) ⊎ (which ≡ Forward))
IsInRange version (Turn hart count) = (hart < harts_in version) × (1 ≤ count) × (count ≤ steps_limit)
IsInRange version (Lines hart mask) = (hart < harts_in version) × (bit_and mask lines_mask ≡ mask)
IsInRange version (Watch hart name) = hart < harts_in version
IsInRange version (Dump name page) = page < 2 ^ 20
IsInRange version (Upgrade name dir) = (version ≡ Two) × (dir < 2 ^ 20)

-- words of a form that this version has, in its range
pub record IsLine (version : JobVersion) (words : List (List ℕ)) (form : Form) : Type 0 where
  pub range : IsInRange version form
  pub written : AreWords (form_words form) words

-- What a form says. An entry of a map has its bit 0 set where the page is there, its bit 1 where it may be written, and
-- its bit 2 where it may be fetched from.
abbrev pub states_for : Form → Statement
states_for (Harts harts) = states.Harts harts
states_for (Hart hart at) = states.Directive (directive.Hart hart at)
states_for (Machine name parent block pages table at) =
    states.Directive (directive.Machine name parent block pages table at)
states_for (MapNone name page) = states.Directive (directive.Map name page 0)
states_for (MapRead name page at) = states.Directive (directive.Map name page (at * 4096 + 1))
states_for (MapWrite name page at) = states.Directive (directive.Map name page (at * 4096 + 3))
states_for (MapFetch name page at) = states.Directive (directive.Map name page (at * 4096 + 5))
states_for (MapAll name page at) = states.Directive (directive.Map name page (at * 4096 + 7))
states_for (Start name at) = states.Directive (directive.Start name at)
states_for (Image name at) = states.Image name at
states_for (Sampled name at which) = states.Sample name at which
states_for (Words name at values) = states.Directive (directive.Word name at values)
states_for (Tower depth pages) = states.Directive (directive.Tower depth pages Pass)
states_for (TowerOf depth pages which) = states.Directive (directive.Tower depth pages which)
states_for (Turn hart count) = states.Event (event.Turn hart count)
states_for (Lines hart mask) = states.Event (event.Lines hart mask)
states_for (Watch hart name) = states.Directive (directive.Watch hart name)
states_for (Dump name page) = states.Directive (directive.Dump name page)
states_for (Upgrade name dir) = states.Directive (directive.Upgrade name dir)

-- words that say this
pub record IsSaying (version : JobVersion) (words : List (List ℕ)) (what : Statement) : Type 0 where
  pub form : Form
  pub line : IsLine version words form
  pub states : states_for form ≡ what

-- a line says something exactly where its words are those of a form that says it
abbrev pub LineFormLaw : Type 0
LineFormLaw =
    (version : JobVersion) (words : List (List ℕ)) (what : Statement)
    → (statement_of version words ≡ Ok what) ↔ IsSaying version words what

-- A command of the debugger as it is written.
pub data Call : Type 0 where
  -- step N
  StepCall : (count : ℕ) → Call
  -- break NAME A
  BreakCall : (name : List ℕ) (at : ℕ) → Call
  -- regs NAME
  RegsCall : (name : List ℕ) → Call
  -- mem NAME A
  MemCall : (name : List ℕ) (at : ℕ) → Call
  -- path H
  PathCall : (hart : ℕ) → Call
  -- map NAME I
  MapCall : (name : List ℕ) (page : ℕ) → Call
  -- faults
  FaultsCall : Call

-- the words of a command's form
abbrev pub call_words : Call → List Word
call_words (StepCall count) = Fixed (codes "step") ∷ Spelt count ∷ []
call_words (BreakCall name at) = Fixed (codes "break") ∷ Named name ∷ Spelt at ∷ []
call_words (RegsCall name) = Fixed (codes "regs") ∷ Named name ∷ []
call_words (MemCall name at) = Fixed (codes "mem") ∷ Named name ∷ Spelt at ∷ []
call_words (PathCall hart) = Fixed (codes "path") ∷ Spelt hart ∷ []
call_words (MapCall name page) = Fixed (codes "map") ∷ Named name ∷ Spelt page ∷ []
call_words FaultsCall = Fixed (codes "faults") ∷ []

-- the values of a command that this version allows
abbrev pub IsCallInRange : JobVersion → Call → Type 0
IsCallInRange version (StepCall count) = (1 ≤ count) × (count ≤ steps_limit)
IsCallInRange version (BreakCall name at) = Unit {0}
IsCallInRange version (RegsCall name) = Unit {0}
IsCallInRange version (MemCall name at) = at % 4 ≡ 0
IsCallInRange version (PathCall hart) = hart < harts_in version
IsCallInRange version (MapCall name page) = page < 2 ^ 20
IsCallInRange version FaultsCall = Unit {0}

-- the command that a form calls for
abbrev pub calls_for : Call → DebugCommand
calls_for (StepCall count) = command.Step count
calls_for (BreakCall name at) = command.Break name at
calls_for (RegsCall name) = command.Regs name
calls_for (MemCall name at) = command.Mem name at
calls_for (PathCall hart) = command.Path hart
calls_for (MapCall name page) = command.Map name page
calls_for FaultsCall = command.Faults

-- words that are this command
pub record IsCall (version : JobVersion) (words : List (List ℕ)) (what : DebugCommand) : Type 0 where
  pub call : Call
  pub range : IsCallInRange version call
  pub written : AreWords (call_words call) words
  pub calls : calls_for call ≡ what

-- a line is a command exactly where its words are those of a form of that command
abbrev pub CommandFormLaw : Type 0
CommandFormLaw =
    (version : JobVersion) (words : List (List ℕ)) (what : DebugCommand)
    → (command_of version words ≡ Ok what) ↔ IsCall version words what
