-- The job of a text, one line more at a time.
use Rattle.std.proofs.Common.{◌≡◌, ℕ, ◌+◌, ◌≤◌, Bool, true, false, not, cond, nat_lt, List, [], ◌∷◌, length, Option, Some, None, Result, Ok, Err, refl, sym, ap, ◌∙◌, subst, arith}
use Rattle.std.proofs.lemmas.Bool.{ltb-false}
use Rattle.hv_lex.specs.Lines.{lines_of}
use Rattle.std.specs.Prelude.{IsErrAnd}
use Rattle.hv_line.specs.Statements.{statement_of, storage_line_of}
use Rattle.hv_job.specs.Commands.{commands_from}
use Rattle.hv_job.specs.Drafted.{GivesJob, Refuses}
use Rattle.hv_job.specs.JobOf.{ReadJob, begins_image, body_from, draft_of, header_from, is_debug, is_image, job_in, job_with, line_with, storage_from, behind_header, behind_storage}
use Rattle.hv_line.specs.Lines.{has_words, is_allowed, version_of, words_of}
use Rattle.hv_line.specs.declared.types.Statement.{Statement}
use Rattle.hv_line.specs.declared.version.JobVersion.{JobVersion}
use Rattle.hv_job.specs.declared.draft.Draft.{Draft}
use Rattle.hv_job.specs.declared.ends.JobEnd.{JobEnd}
use Rattle.hv_job.specs.declared.ends.JobEnd.TheVariants.{JobFault, Memory}
use Rattle.hv_line.specs.declared.kinds.JobKind.{JobKind}
use Rattle.hv_line.specs.declared.kinds.JobKind.TheVariants as fault
use Rattle.hv_job.specs.declared.job.DebugLine.{DebugLine}
use Rattle.hv_job.specs.declared.job.Job.{Job}
use Rattle.hv_job.proofs.Ending.{no_lines}
use Rattle.hv_lex.specs.Refusing.{◌>>=◌}

-- the header
pub header_end : (n : ℕ) (s : List ℕ) (all : ReadJob) → length s ≡ 0 → header_from n (lines_of s) ≡ all → all ≡ Err (n, fault.Header)
unfolding header_from
header_end n s all none told = sym told ∙ ap (header_from n) (no_lines s none)

module _ (n : ℕ) (s line behind : List ℕ) (all : ReadJob) (cut : lines_of s ≡ line ∷ lines_of behind) where
  abbrev choice : (allowed words : Bool) → Option JobVersion → ReadJob
  choice allowed words form =
      cond (not allowed) (Err (n, fault.Byte)) (cond (not words) (header_from (n + 1) (lines_of behind)) (behind_header n (lines_of behind) form))

  header_is : (allowed words : Bool) (form : Option JobVersion) → is_allowed line ≡ allowed → has_words line ≡ words → version_of (words_of line) ≡ form → header_from n (lines_of s) ≡ choice allowed words form
  unfolding header_from
  header_is allowed words form a w h =
      ap (header_from n) cut ∙ ap (λ b. choice b (has_words line) (version_of (words_of line))) a ∙ ap (λ b. choice allowed b (version_of (words_of line))) w ∙ ap (choice allowed words) h

  pub header_byte : header_from n (lines_of s) ≡ all → is_allowed line ≡ false → all ≡ Err (n, fault.Byte)
  header_byte told a = sym told ∙ header_is false _ _ a refl refl

  pub header_skip : header_from n (lines_of s) ≡ all → is_allowed line ≡ true → has_words line ≡ false → header_from (n + 1) (lines_of behind) ≡ all
  header_skip told a w = sym (header_is true false _ a w refl) ∙ told

  pub header_other : header_from n (lines_of s) ≡ all → is_allowed line ≡ true → has_words line ≡ true → version_of (words_of line) ≡ None → all ≡ Err (n, fault.Header)
  header_other told a w h = sym told ∙ header_is true true None a w h

  pub header_found : (version : JobVersion) → header_from n (lines_of s) ≡ all → is_allowed line ≡ true → has_words line ≡ true → version_of (words_of line) ≡ Some version → all ≡ storage_from version (n + 1) (lines_of behind)
  header_found version told a w h = sym told ∙ header_is true true (Some version) a w h

-- the storage
pub storage_end : (version : JobVersion) (n : ℕ) (s : List ℕ) (all : ReadJob) → length s ≡ 0 → storage_from version n (lines_of s) ≡ all → all ≡ Err (n, fault.Storage)
unfolding storage_from
storage_end version n s all none told = sym told ∙ ap (storage_from version n) (no_lines s none)

module _ (version : JobVersion) (n : ℕ) (s line behind : List ℕ) (all : ReadJob) (cut : lines_of s ≡ line ∷ lines_of behind) where
  abbrev place : (allowed words : Bool) → ReadJob
  place allowed words =
      cond (not allowed) (Err (n, fault.Byte)) (cond (not words) (storage_from version (n + 1) (lines_of behind)) (behind_storage version n (lines_of behind) (storage_line_of (words_of line))))

  storage_is : (allowed words : Bool) → is_allowed line ≡ allowed → has_words line ≡ words → storage_from version n (lines_of s) ≡ place allowed words
  unfolding storage_from
  storage_is allowed words a w = ap (storage_from version n) cut ∙ ap (λ b. place b (has_words line)) a ∙ ap (place allowed) w

  pub storage_byte : storage_from version n (lines_of s) ≡ all → is_allowed line ≡ false → all ≡ Err (n, fault.Byte)
  storage_byte told a = sym told ∙ storage_is false _ a refl

  pub storage_skip : storage_from version n (lines_of s) ≡ all → is_allowed line ≡ true → has_words line ≡ false → storage_from version (n + 1) (lines_of behind) ≡ all
  storage_skip told a w = sym (storage_is true false a w) ∙ told

  pub storage_refused : (kind : JobKind) → storage_from version n (lines_of s) ≡ all → is_allowed line ≡ true → has_words line ≡ true → storage_line_of (words_of line) ≡ Err kind → all ≡ Err (n, kind)
  storage_refused kind told a w p = sym told ∙ storage_is true true a w ∙ ap (behind_storage version n (lines_of behind)) p

  pub storage_found : (pages : ℕ) → storage_from version n (lines_of s) ≡ all → is_allowed line ≡ true → has_words line ≡ true → storage_line_of (words_of line) ≡ Ok pages → all ≡ body_from (draft_of version pages) false (n + 1) (lines_of behind)
  storage_found pages told a w p = sym told ∙ storage_is true true a w ∙ ap (behind_storage version n (lines_of behind)) p

-- the lines behind it
pub body_end : (draft : Draft) (n : ℕ) (s : List ℕ) (all : ReadJob) (commands : List DebugLine) (job : Job) → length s ≡ 0 → body_from draft false n (lines_of s) ≡ all → job ≡ job_in draft commands → commands ≡ [] → all ≡ Ok job
unfolding body_from
body_end draft n s all commands job none told is empty =
    rw (is, empty) (sym told ∙ ap (body_from draft false n) (no_lines s none))

module _ (draft : Draft) (n : ℕ) (s line behind : List ℕ) (all : ReadJob) (cut : lines_of s ≡ line ∷ lines_of behind) (told : body_from draft false n (lines_of s) ≡ all) where
  abbrev next : Draft → ReadJob
  next new = body_from new (begins_image draft.version line) (n + 1) (lines_of behind)

  abbrev ended : ReadJob
  ended = job_with draft (commands_from draft.version [] (n + 1) (lines_of behind))

  body_is : (last : Bool) → is_debug line ≡ last → body_from draft false n (lines_of s) ≡ cond last ended ((line_with draft n line (lines_of behind)) >>= next)
  unfolding body_from
  body_is last d = ap (body_from draft false n) cut ∙ ap (λ b. cond b ended ((line_with draft n line (lines_of behind)) >>= next)) d

  pub body_more : is_debug line ≡ false → (new : Draft) (m : ℕ) (rest : List ℕ) → line_with draft n line (lines_of behind) ≡ Ok new → body_from new (begins_image draft.version line) (n + 1) (lines_of behind) ≡ body_from new false m (lines_of rest) → body_from new false m (lines_of rest) ≡ all
  body_more d new m rest made goes = sym goes ∙ sym (ap (λ r. (r >>= next)) made) ∙ sym (body_is false d) ∙ told

  pub body_refused : is_debug line ≡ false → (end : JobEnd) → Refuses end (line_with draft n line (lines_of behind)) → Refuses end all
  body_refused d (JobFault k kind) made = sym told ∙ body_is false d ∙ ap (λ r. (r >>= next)) made
  body_refused d Memory made = tt

  pub body_ended : is_debug line ≡ true → (commands : List DebugLine) → commands_from draft.version [] (n + 1) (lines_of behind) ≡ Ok commands → all ≡ Ok (job_in draft commands)
  body_ended d commands made = sym told ∙ body_is true d ∙ ap (job_with draft) made

  pub body_stopped : is_debug line ≡ true → (end : JobEnd) → Refuses end (commands_from draft.version [] (n + 1) (lines_of behind)) → Refuses end all
  body_stopped d (JobFault k kind) made = sym told ∙ body_is true d ∙ ap (job_with draft) made
  body_stopped d Memory made = tt

-- a line without words begins no image
no_words : (version : JobVersion) (words : List (List ℕ)) → nat_lt 0 (length words) ≡ false → is_image (statement_of version words) ≡ false
unfolding statement_of
no_words version [] e = refl
no_words version (w ∷ ws) e = let h : length (w ∷ ws) ≤ 0 = ltb-false 0 (length (w ∷ ws)) e in absurd (omega arith)

pub skipped : (version : JobVersion) (line : List ℕ) → has_words line ≡ false → begins_image version line ≡ false
unfolding begins_image
skipped version line e = no_words version (words_of line) e

pub begins : (version : JobVersion) (line : List ℕ) (statement : Statement) → Ok statement ≡ statement_of version (words_of line) → is_image (Ok statement) ≡ begins_image version line
unfolding begins_image
begins version line statement is = ap is_image is

-- a refusal that goes on as it is
pub passes_on : (r : Result Job JobEnd) (end : JobEnd) (text : ReadJob) → IsErrAnd r (λ given. given ≡ end) → Refuses end text → GivesJob r text
passes_on (Ok job) end text is refuses = elim is [ ]
passes_on (Err given) end text is refuses = subst (λ given. Refuses given text) (sym is) refuses
