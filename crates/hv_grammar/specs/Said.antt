-- What the lines of a text say, and the job of all that.
use Rattle.std.specs.Prelude.{ℕ, ◌+◌, List, [], ◌∷◌, ◌++◌, unwrap_or, Option, Some, None, Result, Ok, Err, IsOk}
use Rattle.hv_asm.specs.Assembly.{asm_of}
use Rattle.hv_asm.specs.declared.AsmKind.{AsmKind}
use Rattle.hv_irq.specs.declared.Event.{Event}
use Rattle.hv_samples.specs.Samples.{sample_text}
use Rattle.hv_line.specs.Commands.{join_words_of}
use Rattle.hv_job.specs.JobOf.{event_directive, image_words}
use Rattle.hv_line.specs.declared.types.DebugCommand.{DebugCommand}
use Rattle.hv_job.specs.declared.job.DebugLine.{DebugLine}
use Rattle.hv_line.specs.declared.types.Directive.{Directive}
use Rattle.hv_line.specs.declared.types.Directive.TheVariants as directive
use Rattle.hv_line.specs.declared.types.Statement.{Statement}
use Rattle.hv_line.specs.declared.types.Statement.TheVariants as states
use Rattle.hv_job.specs.declared.job.Job.{Job}
use Rattle.hv_job.specs.declared.job.Placed.{Placed}
use Rattle.hv_grammar.specs.Forms.{Form, Harts, Image, Sampled, states_for}

-- What a line says.
pub data Said : Type 0 where
  -- nothing, as the header, the end of an image, `debug` and a line without words do
  Nothing : Said
  -- the storage
  StorageOf : (pages : ℕ) → Said
  -- a directive
  Directed : (form : Form) → Said
  -- a line of assembly
  Inner : (line : List ℕ) → Said
  -- a command of the debugger
  Called : (words : List (List ℕ)) (what : DebugCommand) → Said

-- the words that were assembled
abbrev pub assembled : Result (List ℕ) (ℕ × AsmKind) → List ℕ
assembled (Ok words) = words
assembled (Err refusal) = []

-- the lines of assembly that come first
abbrev pub inner_lines : List Said → List (List ℕ)
inner_lines (Inner line ∷ says) = line ∷ inner_lines says
inner_lines [] = []
inner_lines (Nothing ∷ says) = []
inner_lines (StorageOf pages ∷ says) = []
inner_lines (Directed form ∷ says) = []
inner_lines (Called words what ∷ says) = []

-- the directives of what a line says; what is said behind it has the lines of its image
abbrev pub directives_in : Statement → List Said → List Directive
directives_in (states.Harts harts) behind = []
directives_in (states.Image name at) behind =
    directive.Image name (record { base = at; words = assembled (image_words at (inner_lines behind)) }) ∷ []
directives_in (states.Sample name at which) behind =
    directive.Sample name (record { base = at; words = assembled (asm_of (sample_text which) at) }) ∷ []
directives_in (states.Event event) behind = event_directive event ∷ []
directives_in (states.Directive what) behind = what ∷ []

abbrev pub directives_by : Form → List Said → List Directive
directives_by form behind = directives_in (states_for form) behind

-- its image, or its sample, is assembled
abbrev pub FormAssembles : Form → List Said → Type 0
FormAssembles (Image name at) behind = IsOk (image_words at (inner_lines behind))
FormAssembles (Sampled name at which) behind = IsOk (asm_of (sample_text which) at)
FormAssembles _ behind = Unit {0}

-- the same of what a line says
abbrev pub AssemblesWith : Said → List Said → Type 0
AssemblesWith (Directed form) behind = FormAssembles form behind
AssemblesWith _ behind = Unit {0}

-- all images and samples are assembled
abbrev pub AreAssembled : List Said → Type 0
AreAssembled [] = Unit {0}
AreAssembled (said ∷ says) = AssemblesWith said says × AreAssembled says

-- each on the line of this number
abbrev pub on_line : ℕ → List Directive → List Placed
on_line number [] = []
on_line number (what ∷ rest) = record { line = number; what = what } ∷ on_line number rest

-- the directives of one line, with its number
abbrev pub placed_by : ℕ → Said → List Said → List Placed
placed_by number (Directed form) behind = on_line number (directives_by form behind)
placed_by number _ behind = []

-- the directives of what is said, from the line of this number on
abbrev pub placed_said : ℕ → List Said → List Placed
placed_said number [] = []
placed_said number (said ∷ says) = placed_by number said says ++ placed_said (number + 1) says

-- the event of what a line says
abbrev pub events_in : Statement → List Event
events_in (states.Event event) = event ∷ []
events_in _ = []

abbrev pub events_by : Said → List Event
events_by (Directed form) = events_in (states_for form)
events_by _ = []

-- the schedule
abbrev pub events_said : List Said → List Event
events_said [] = []
events_said (said ∷ says) = events_by said ++ events_said says

-- the pages of the storage, by one line and those behind it
abbrev pub pages_by : Said → ℕ → ℕ
pages_by (StorageOf pages) behind = pages
pages_by _ behind = behind

-- the pages of the storage
abbrev pub pages_said : List Said → ℕ
pages_said [] = 0
pages_said (said ∷ says) = pages_by said (pages_said says)

-- the number of harts, by one line and those behind it
abbrev pub harts_by : Said → Option ℕ → Option ℕ
harts_by (Directed (Harts harts)) behind = Some harts
harts_by _ behind = behind

-- the number of harts, if a line gives it
abbrev pub harts_said : List Said → Option ℕ
harts_said [] = None
harts_said (said ∷ says) = harts_by said (harts_said says)

-- the commands of one line, with its number
abbrev pub commands_by : ℕ → Said → List DebugLine
commands_by number (Called words what) = record { line = number; words = join_words_of words; what = what } ∷ []
commands_by number _ = []

-- the commands, from the line of this number on
abbrev pub commands_said : ℕ → List Said → List DebugLine
commands_said number [] = []
commands_said number (said ∷ says) = commands_by number said ++ commands_said (number + 1) says

-- the job of what is said, from the line of this number on
abbrev pub job_said : ℕ → List Said → Job
job_said number says = record {
  pages = pages_said says;
  harts = unwrap_or (harts_said says) 1;
  lines = placed_said number says;
  recording = events_said says;
  commands = commands_said number says;
}
