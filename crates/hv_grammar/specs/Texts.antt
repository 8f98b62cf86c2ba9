-- The way of a text through its places, line by line: the header, which says the version, the storage, the directives
-- with the images among them, and then the commands of the debugger.
use Rattle.std.specs.Prelude.{◌≡◌, ◌≢◌, ◌↔◌, ℕ, ◌-◌, ◌≤◌, true, List, [], ◌∷◌, length, take, codes, Ok, Err}
use Rattle.hv_lex.specs.Lines.{lines_of}
use Rattle.hv_job.specs.JobOf.{job_of}
use Rattle.hv_line.specs.Lines.{is_allowed, words_of}
use Rattle.hv_line.specs.declared.kinds.JobKind.{JobKind}
use Rattle.hv_line.specs.declared.kinds.JobKind.TheVariants as fault
use Rattle.hv_line.specs.declared.types.DebugCommand.{DebugCommand}
use Rattle.hv_line.specs.declared.version.JobVersion.{JobVersion}
use Rattle.hv_line.specs.declared.version.JobVersion.TheVariants.{One, Two}
use Rattle.hv_job.specs.declared.job.Job.{Job}
use Rattle.hv_grammar.specs.Said.{AreAssembled, Said, Called, Directed, Inner, Nothing, StorageOf, job_said}
use Rattle.hv_grammar.specs.Within.{IsWithinLimits}
use Rattle.hv_grammar.specs.Forms.{Form, Image, IsCall, IsLine, IsStorageLine}

-- the word behind `job` in the header of a version
abbrev pub version_word : JobVersion → List ℕ
version_word One = codes "1"
version_word Two = codes "2"

-- where a line stands, and behind the header in which version
pub data Place : Type 0 where
  BeforeHeader : Place
  BeforeStorage : (version : JobVersion) → Place
  AmongDirectives : (version : JobVersion) → Place
  InsideImage : (version : JobVersion) → Place
  AmongCommands : (version : JobVersion) → Place

-- not inside an image, whose lines are those of assembly
abbrev pub IsOutside : Place → Type 0
IsOutside (InsideImage version) = ⊥
IsOutside _ = Unit {0}

-- a directive on one line
abbrev pub IsPlain : Form → Type 0
IsPlain (Image name at) = ⊥
IsPlain _ = Unit {0}

-- printable bytes of ASCII, and tabs
abbrev pub IsAllowed : List ℕ → Type 0
IsAllowed line = is_allowed line ≡ true

-- the one word of the line is this text
abbrev pub IsAlone : List ℕ → List ℕ → Type 0
IsAlone text line = words_of line ≡ text ∷ []

-- from which place a line goes to which, and what it says
pub data Goes : Place → List ℕ → Said → Place → Type 0 where
  -- blanks, or a comment
  NoWords : {place : Place} {line : List ℕ} → IsOutside place → IsAllowed line → words_of line ≡ []
      → Goes place line Nothing place
  -- job 1, or job 2
  Header : {line : List ℕ} (version : JobVersion) → IsAllowed line
      → words_of line ≡ codes "job" ∷ version_word version ∷ []
      → Goes BeforeHeader line Nothing (BeforeStorage version)
  -- storage P
  StorageLine : {version : JobVersion} {line : List ℕ} (pages : ℕ) → IsAllowed line
      → IsStorageLine (words_of line) pages
      → Goes (BeforeStorage version) line (StorageOf pages) (AmongDirectives version)
  -- any other directive but an image
  DirectiveLine : {version : JobVersion} {line : List ℕ} (form : Form) → IsPlain form → IsAllowed line
      → IsLine version (words_of line) form
      → Goes (AmongDirectives version) line (Directed form) (AmongDirectives version)
  -- image NAME A
  ImageLine : {version : JobVersion} {line : List ℕ} (name : List ℕ) (at : ℕ) → IsAllowed line
      → IsLine version (words_of line) (Image name at)
      → Goes (AmongDirectives version) line (Directed (Image name at)) (InsideImage version)
  -- a line of assembly
  InnerLine : {version : JobVersion} {line : List ℕ} → words_of line ≢ codes "end" ∷ []
      → Goes (InsideImage version) line (Inner line) (InsideImage version)
  -- end
  EndLine : {version : JobVersion} {line : List ℕ} → IsAllowed line → IsAlone (codes "end") line
      → Goes (InsideImage version) line Nothing (AmongDirectives version)
  -- debug
  DebugLine : {version : JobVersion} {line : List ℕ} → IsAllowed line → IsAlone (codes "debug") line
      → Goes (AmongDirectives version) line Nothing (AmongCommands version)
  -- a command
  CommandLine : {version : JobVersion} {line : List ℕ} (what : DebugCommand) → IsAllowed line
      → IsCall version (words_of line) what
      → Goes (AmongCommands version) line (Called (words_of line) what) (AmongCommands version)

-- from which place lines go to which, one after another, and what they say
abbrev pub GoesOn : Place → List (List ℕ) → List Said → Place → Type 0
GoesOn from [] [] to = from ≡ to
GoesOn from (line ∷ lines) (said ∷ says) to = (next : Place) × Goes from line said next × GoesOn next lines says to
GoesOn _ _ _ _ = ⊥

-- a text may end here
abbrev pub IsOver : Place → Type 0
IsOver (AmongDirectives version) = Unit {0}
IsOver (AmongCommands version) = Unit {0}
IsOver _ = ⊥

-- the lines go through the places from the header on, what they assemble is assembled, the limits are kept, and the
-- job is what they say
pub record IsTold (lines : List (List ℕ)) (job : Job) : Type 0 where
  pub says : List Said
  pub place : Place
  pub goes_on : GoesOn BeforeHeader lines says place
  pub over : IsOver place
  pub assembled : AreAssembled says
  pub within : IsWithinLimits says
  pub is : job ≡ job_said 1 says

-- a text is a job exactly where its lines go all the way and say it, what they assemble is assembled, and the limits
-- are kept
abbrev pub JobTextLaw : Type 0
JobTextLaw = (text : List ℕ) (job : Job) → (job_of text ≡ Ok job) ↔ IsTold (lines_of text) job

-- The lines of a refused text in front of the line of this number, which is one of its lines, or would stand right
-- behind the last one.
pub record AreGoodBefore (lines : List (List ℕ)) (number : ℕ) : Type 0 where
  pub some : 1 ≤ number
  pub within : number - 1 ≤ length lines
  pub says : List Said
  pub place : Place
  pub goes_on : GoesOn BeforeHeader (take (number - 1) lines) says place

-- the lines before the refused one are good
abbrev pub RefusedTextLaw : Type 0
RefusedTextLaw =
    (text : List ℕ) (number : ℕ) (kind : JobKind)
    → job_of text ≡ Err (number, kind)
    → AreGoodBefore (lines_of text) number

-- what a text may still be refused for where all of its lines have their forms and places: a limit, a second number of
-- harts, and what its images and samples are assembled to
abbrev pub IsLate : JobKind → Type 0
IsLate fault.Many = Unit {0}
IsLate fault.Repeat = Unit {0}
IsLate fault.Range = Unit {0}
IsLate fault.Byte = Unit {0}
IsLate fault.Syntax = Unit {0}
IsLate fault.Mnemonic = Unit {0}
IsLate fault.Operand = Unit {0}
IsLate fault.Label = Unit {0}
IsLate _ = ⊥

-- a text whose lines go all the way is refused for nothing else
abbrev pub ThroughTextLaw : Type 0
ThroughTextLaw =
    (text : List ℕ) (says : List Said) (place : Place)
    → GoesOn BeforeHeader (lines_of text) says place
    → IsOver place
    → (number : ℕ) (kind : JobKind)
    → job_of text ≡ Err (number, kind)
    → IsLate kind
