-- The job of a text: the first refusal over all of its lines, or what they ask for.
use Rattle.std.specs.Prelude.{ℕ, ◌+◌, ◌&&◌, nat_lt, not, Bool, true, false, if◌then◌else◌, List, [], ◌∷◌, ◌++◌}
use Rattle.std.specs.Prelude.{length, codes, find, take_while, unwrap_or, Option, Some, None, Result, Ok, Err}
use Rattle.hv_asm.specs.Assembly.{asm_of, place_of, words_from}
use Rattle.hv_asm.specs.declared.AsmKind.{AsmKind}
use Rattle.hv_asm.specs.declared.AsmKind.TheVariants as asm
use Rattle.hv_irq.specs.Events.{refusal_of}
use Rattle.hv_irq.specs.declared.Event.{Event}
use Rattle.hv_irq.specs.declared.Event.TheVariants as event
use Rattle.hv_irq.specs.declared.PushEnd.{PushEnd}
use Rattle.hv_irq.specs.declared.PushEnd.TheVariants as pushed
use Rattle.hv_lex.specs.Lines.{lines_of}
use Rattle.hv_samples.specs.Samples.{sample_text}
use Rattle.hv_line.specs.Lines.{begins_with, has_words, is_allowed, is_only, version_of, words_of}
use Rattle.hv_line.specs.Statements.{statement_of, storage_line_of}
use Rattle.hv_line.specs.declared.kinds.JobKind.{JobKind}
use Rattle.hv_line.specs.declared.kinds.JobKind.TheVariants as fault
use Rattle.hv_line.specs.declared.types.Directive.{Directive}
use Rattle.hv_line.specs.declared.types.Directive.TheVariants as directive
use Rattle.hv_line.specs.declared.types.Statement.{Statement}
use Rattle.hv_line.specs.declared.types.Statement.TheVariants as states
use Rattle.hv_line.specs.declared.version.JobVersion.{JobVersion}
use Rattle.hv_job.specs.Commands.{commands_from}
use Rattle.hv_job.specs.Limited.{amount_of, limit_of, taken_by}
use Rattle.hv_job.specs.declared.draft.Draft.{Draft}
use Rattle.hv_job.specs.declared.job.DebugLine.{DebugLine}
use Rattle.hv_job.specs.declared.job.Job.{Job}
use Rattle.hv_job.specs.declared.job.Placed.{Placed}
use Rattle.hv_lex.specs.Refusing.{◌>>=◌, at_line}
use Rattle.hv_job.specs.declared.limited.Share.{Share}

-- a job, or the number of a line and why it is refused
abbrev pub ReadJob : Type 0
ReadJob = Result Job (ℕ × JobKind)

-- a line that ends an image
unfoldable pub is_end : List ℕ → Bool
is_end line = is_only (codes "end") (words_of line)

-- whether what is taken behind these lines is more than they leave of it
abbrev pub is_past : List Placed → Option Share → Bool
is_past lines None = false
is_past lines (Some share) = nat_lt (limit_of share.of) (amount_of share.of lines + share.amount)

-- a directive that takes more than these lines leave
unfoldable pub is_many : List Placed → Directive → Bool
is_many lines what = is_past lines (taken_by what)

-- the lines with a directive on the line of this number behind them
abbrev pub lines_with : List Placed → ℕ → Directive → List Placed
lines_with lines number what = lines ++ record { line = number; what = what } ∷ []

-- the draft with a directive
unfoldable pub directive_with : Draft → ℕ → Directive → Result Draft JobKind
directive_with draft number what =
    if is_many draft.lines what then Err fault.Many
    else Ok (record draft { lines = lines_with draft.lines number what })

-- the draft with the number of harts, which one line may give
abbrev pub harts_with : Draft → ℕ → Option ℕ → Result Draft JobKind
harts_with draft harts None = Ok (record draft { harts = Some harts })
harts_with draft harts (Some before) = Err fault.Repeat

-- an event that the schedule can't have is out of range, or one too many
abbrev pub push_kind : PushEnd → JobKind
push_kind pushed.Many = fault.Many
push_kind _ = fault.Range

-- the directive beside an event
abbrev pub event_directive : Event → Directive
event_directive (event.Turn hart count) = directive.Turn hart
event_directive (event.Lines hart mask) = directive.Lines hart

-- the draft with an event that the schedule takes, or the kind by which it refuses
abbrev pub event_with : Draft → ℕ → Event → Option PushEnd → Result Draft JobKind
event_with draft number event (Some refusal) = Err (push_kind refusal)
event_with draft number event None =
    Ok (record draft {
      lines = lines_with draft.lines number (event_directive event);
      recording = draft.recording ++ event ∷ [];
    })

-- the draft with an event of the schedule
unfoldable pub schedule_with : Draft → ℕ → Event → Result Draft JobKind
schedule_with draft number event = event_with draft number event (refusal_of draft.recording event)

-- the draft with a sample's words, or out of range where they can't be assembled there
abbrev pub sample_with : Draft → ℕ → List ℕ → ℕ → Result (List ℕ) (ℕ × AsmKind) → Result Draft JobKind
sample_with draft number name at (Err refusal) = Err fault.Range
sample_with draft number name at (Ok words) =
    directive_with draft number (directive.Sample name (record { base = at; words = words }))

-- the kind of a refusal of the assembler
abbrev pub asm_kind : AsmKind → JobKind
asm_kind asm.Byte = fault.Byte
asm_kind asm.Syntax = fault.Syntax
asm_kind asm.Repeat = fault.Repeat
asm_kind asm.Mnemonic = fault.Mnemonic
asm_kind asm.Operand = fault.Operand
asm_kind asm.Label = fault.Label
asm_kind asm.Range = fault.Range

-- the draft with an image that was assembled, whose end is this line
abbrev pub image_with :
    Draft → (number last : ℕ) → List ℕ → List ℕ → ℕ
    → Result (List ℕ) (ℕ × AsmKind) → Result Draft (ℕ × JobKind)
image_with draft number last line name base (Err (inner, kind)) = Err (number + inner, asm_kind kind)
image_with draft number last line name base (Ok words) =
    at_line last (
    if is_allowed line then directive_with draft number (directive.Image name (record { base = base; words = words }))
    else Err fault.Byte)

-- the words of the lines of an image
abbrev pub image_words : ℕ → List (List ℕ) → Result (List ℕ) (ℕ × AsmKind)
image_words base lines = words_from (place_of base lines) base 1 base lines

-- the lines of an image before its end
abbrev pub before_end : List (List ℕ) → List (List ℕ)
before_end lines = take_while (λ line. not (is_end line)) lines

-- the same where the end may be missing
abbrev pub image_of : Draft → ℕ → List ℕ → ℕ → List (List ℕ) → Option (List ℕ) → Result Draft (ℕ × JobKind)
image_of draft number name base inside None = Err (number, fault.Open)
image_of draft number name base inside (Some line) =
    image_with draft number (number + 1 + length inside) line name base (image_words base inside)

-- the draft with the image that a line begins; behind are the lines behind it
unfoldable pub image_lines_with : Draft → ℕ → List ℕ → ℕ → List (List ℕ) → Result Draft (ℕ × JobKind)
image_lines_with draft number name base behind =
    image_of draft number name base (before_end behind) (find is_end behind)

-- the draft with what a line says; behind are the lines behind it
abbrev pub draft_with : Draft → ℕ → List (List ℕ) → Statement → Result Draft (ℕ × JobKind)
draft_with draft number behind (states.Harts harts) = at_line number (harts_with draft harts draft.harts)
draft_with draft number behind (states.Image name at) = image_lines_with draft number name at behind
draft_with draft number behind (states.Sample name at which) =
    at_line number (sample_with draft number name at (asm_of (sample_text which) at))
draft_with draft number behind (states.Event event) = at_line number (schedule_with draft number event)
draft_with draft number behind (states.Directive what) = at_line number (directive_with draft number what)

-- the draft with what the words of a line say
abbrev pub words_with : Draft → ℕ → List (List ℕ) → Result Statement JobKind → Result Draft (ℕ × JobKind)
words_with draft number behind (Ok statement) = draft_with draft number behind statement
words_with draft number behind (Err kind) = Err (number, kind)

-- the line that ends the directives
unfoldable pub is_debug : List ℕ → Bool
is_debug line = is_only (codes "debug") (words_of line) && is_allowed line

-- the draft with a line of directives; behind are the lines behind it
unfoldable pub line_with : Draft → ℕ → List ℕ → List (List ℕ) → Result Draft (ℕ × JobKind)
line_with draft number line behind =
    if not (is_allowed line) then Err (number, fault.Byte)
    else if not (has_words line) then Ok draft
    else if begins_with (codes "debug") (words_of line) then Err (number, fault.Words)
    else words_with draft number behind (statement_of draft.version (words_of line))

-- whether a line begins an image
abbrev pub is_image : Result Statement JobKind → Bool
is_image (Ok (states.Image name at)) = true
is_image _ = false

-- the lines of an image come next
unfoldable pub begins_image : JobVersion → List ℕ → Bool
begins_image version line = is_image (statement_of version (words_of line))

-- the job of all directives and of the commands behind them
abbrev pub job_in : Draft → List DebugLine → Job
job_in draft commands = record {
  pages = draft.pages;
  harts = unwrap_or draft.harts 1;
  lines = draft.lines;
  recording = draft.recording;
  commands = commands;
}

-- the job with these commands, or the first line of them that is refused
abbrev pub job_with : Draft → Result (List DebugLine) (ℕ × JobKind) → ReadJob
job_with draft (Ok commands) = Ok (job_in draft commands)
job_with draft (Err refusal) = Err refusal

-- the job of a draft and the lines behind, the first of which has this number; the lines inside an image were read with
-- the line that began it
unfoldable pub body_from : Draft → Bool → ℕ → List (List ℕ) → ReadJob
body_from draft inside number [] = Ok (job_in draft [])
body_from draft true number (line ∷ lines) = body_from draft (not (is_end line)) (number + 1) lines
body_from draft false number (line ∷ lines) =
    if is_debug line then job_with draft (commands_from draft.version [] (number + 1) lines)
    else (do
      next ← line_with draft number line lines
      body_from next (begins_image draft.version line) (number + 1) lines)

-- nothing but the form of a text and its storage
abbrev pub draft_of : JobVersion → ℕ → Draft
draft_of version pages = record { version = version; pages = pages; harts = None; lines = []; recording = [] }

-- the job of the lines behind the storage's, or the refusal of that line
abbrev pub behind_storage : JobVersion → ℕ → List (List ℕ) → Result ℕ JobKind → ReadJob
behind_storage version number lines (Ok pages) = body_from (draft_of version pages) false (number + 1) lines
behind_storage version number lines (Err kind) = Err (number, kind)

-- the job of the lines behind the header
unfoldable pub storage_from : JobVersion → ℕ → List (List ℕ) → ReadJob
storage_from version number [] = Err (number, fault.Storage)
storage_from version number (line ∷ lines) =
    if not (is_allowed line) then Err (number, fault.Byte)
    else if not (has_words line) then storage_from version (number + 1) lines
    else behind_storage version number lines (storage_line_of (words_of line))

-- the job of the lines behind the header's, which says the form of the text, or the refusal of that line
abbrev pub behind_header : ℕ → List (List ℕ) → Option JobVersion → ReadJob
behind_header number lines (Some version) = storage_from version (number + 1) lines
behind_header number lines None = Err (number, fault.Header)

-- the job of the lines from its beginning
unfoldable pub header_from : ℕ → List (List ℕ) → ReadJob
header_from number [] = Err (number, fault.Header)
header_from number (line ∷ lines) =
    if not (is_allowed line) then Err (number, fault.Byte)
    else if not (has_words line) then header_from (number + 1) lines
    else behind_header number lines (version_of (words_of line))

-- the job of a text
unfoldable pub job_of : List ℕ → ReadJob
job_of text = header_from 1 (lines_of text)
