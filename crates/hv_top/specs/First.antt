-- The first watched machine of a job, and the line that asks for it.
use Rattle.std.specs.Prelude.{ℕ, ◌+◌, List, [], ◌∷◌, length, codes}
use Rattle.hv_job.specs.declared.job.Job.{Job}
use Rattle.hv_job.specs.declared.job.Placed.{Placed}
use Rattle.hv_lex.specs.Lines.{lines_of}
use Rattle.hv_line.specs.declared.types.Directive.{Directive}
use Rattle.hv_line.specs.declared.types.Directive.TheVariants as directive
use Rattle.hv_map.specs.declared.path.Watch.{Watch}
use Rattle.hv_top.specs.Output.{Output, refusal}

-- the number of a line that asks for a watch, or that of the first such line behind it
abbrev pub watching_line : (line : ℕ) → Directive → (behind : ℕ) → ℕ
watching_line line (directive.Watch hart name) behind = line
watching_line line (directive.Hart hart pc) behind = behind
watching_line line (directive.Machine name parent block pages table at) behind = behind
watching_line line (directive.Map name page entry) behind = behind
watching_line line (directive.Start name pc) behind = behind
watching_line line (directive.Image name image) behind = behind
watching_line line (directive.Sample name image) behind = behind
watching_line line (directive.Word name at values) behind = behind
watching_line line (directive.Tower depth pages which) behind = behind
watching_line line (directive.Turn hart) behind = behind
watching_line line (directive.Lines hart) behind = behind
watching_line line (directive.Dump name page) behind = behind
watching_line line (directive.Upgrade name dir) behind = behind

-- the number of the first line that asks for a watch, or 0 where none does
unfoldable pub first_watching : List Placed → ℕ
first_watching [] = 0
first_watching (placed ∷ lines) = watching_line placed.line placed.what (first_watching lines)

-- the same of a job
abbrev pub watch_line : Job → ℕ
watch_line job = first_watching job.lines

-- the number of the line behind the last of a text
abbrev pub line_behind : List ℕ → ℕ
line_behind text = length (lines_of text) + 1

-- what is answered for the first watch; where there is none, the line behind the last is refused
abbrev pub for_first : (behind : ℕ) → List Watch → (Watch → Output) → Output
for_first behind [] answer = refusal behind (codes "watch")
for_first behind (watch ∷ watches) answer = answer watch
