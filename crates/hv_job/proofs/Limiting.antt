-- The job of a text keeps the ranges and the limits.
use Rattle.std.proofs.Common.{◌≡◌, ℕ, ◌+◌, ◌%◌, ◌^◌, ◌<◌, ◌≤◌, Bool, true, false, not, cond, codes, List, [], ◌∷◌, ◌++◌, length, map, Option, Some, None, Result, Ok, Err, refl, sym, ap, ◌∙◌, subst, arith, append-nil, length-append}
use Rattle.std.specs.Prelude.{All, IfOk, filter_map, find, unwrap_or}
use Rattle.std.specs.List.{cons_option}
use Rattle.std.proofs.lemmas.Bool.{leb-false, ltb-false}
use Rattle.std.proofs.lemmas.List.{map-append}
use Rattle.std.proofs.lemmas.List.Sums.{sum_by-append}
use Rattle.std.proofs.lemmas.List.Elements.{All-append, All-cons, All-nil, filter_map-append}
use Rattle.hv_asm.specs.Assembly.{asm_of}
use Rattle.hv_asm.specs.declared.AsmKind.{AsmKind}
use Rattle.hv_asm.proofs.Extent.{asm_extent, lines_extent}
use Rattle.hv_irq.specs.Events.{hart_of, refusal_of, steps_of, total_of}
use Rattle.hv_irq.specs.declared.Event.{Event}
use Rattle.hv_irq.specs.declared.Event.TheVariants as event
use Rattle.hv_irq.specs.declared.PushEnd.{PushEnd}
use Rattle.hv_irq.specs.declared.PushEnd.TheVariants as pushed
use Rattle.hv_limits.specs.Limits.{events_limit, steps_limit}
use Rattle.hv_lex.specs.Lines.{lines_of}
use Rattle.hv_samples.specs.Samples.{sample_text}
use Rattle.hv_line.specs.JobLimits.{job_harts}
use Rattle.hv_line.specs.Lines.{begins_with, has_words, is_allowed, version_of, words_of}
use Rattle.hv_line.specs.Ranges.{IsImage, IsRanged, IsSize, IsStatement, has_event}
use Rattle.hv_line.specs.Statements.{statement_of, storage_line_of}
use Rattle.hv_line.specs.declared.kinds.JobKind.{JobKind}
use Rattle.hv_line.specs.declared.kinds.JobKind.TheVariants as fault
use Rattle.hv_line.specs.declared.types.Directive.{Directive}
use Rattle.hv_line.specs.declared.types.Directive.TheVariants as directive
use Rattle.hv_line.specs.declared.types.Statement.{Statement}
use Rattle.hv_line.specs.declared.types.Statement.TheVariants as states
use Rattle.hv_line.specs.declared.version.JobVersion.{JobVersion}
use Rattle.hv_line.proofs.Ranging.{statement_ranged, storage_ranged}
use Rattle.hv_job.specs.Commands.{commands_from}
use Rattle.hv_job.specs.Drafted.{GivesJob}
use Rattle.hv_job.specs.IsJob.{IsJob, event_in, event_of, happening_of}
use Rattle.hv_job.specs.JobOf.{begins_image, before_end, behind_header, behind_storage, body_from, directive_with, draft_of, draft_with, event_directive, event_with, harts_with, header_from, image_lines_with, image_of, image_with, image_words, is_debug, is_end, is_many, job_in, job_of, job_with, line_with, lines_with, sample_with, schedule_with, storage_from, words_with}
use Rattle.hv_job.specs.Limited.{amount_of, limit_of}
use Rattle.hv_job.specs.declared.draft.Draft.{Draft}
use Rattle.hv_job.specs.declared.ends.JobEnd.{JobEnd}
use Rattle.hv_job.specs.declared.job.DebugLine.{DebugLine}
use Rattle.hv_job.specs.declared.job.Job.{Job}
use Rattle.hv_job.specs.declared.job.Placed.{Placed}
use Rattle.hv_job.specs.declared.limited.Limited.{Limited}
use Rattle.hv_job.proofs.Counting.{amount_more, room}
use Rattle.hv_job.proofs.Entering.{AreCommands, commands_are, no_commands}
use Rattle.hv_lex.specs.Refusing.{◌>>=◌, at_line}

-- what the lines so far keep
pub record IsDraft (draft : Draft) : Type 0 where
  pub pages : IsSize draft.pages
  pub harts : (n : ℕ) → draft.harts ≡ Some n → (1 ≤ n) × (n ≤ job_harts)
  pub lines : All (λ p. IsRanged p.what) draft.lines
  pub events : map happening_of draft.recording ≡ filter_map event_of draft.lines
  pub limits : (of : Limited) → amount_of of draft.lines ≤ limit_of of
  pub steps : total_of draft.recording ≤ steps_limit
  pub many : length draft.recording ≤ events_limit

draft_start : (version : JobVersion) (pages : ℕ) → IsSize pages → IsDraft (draft_of version pages)
draft_start version pages size = record {
  pages = size;
  harts = λ n is. cc;
  lines = All-nil (λ (p : Placed). IsRanged p.what);
  events = refl;
  limits = λ of. omega arith;
  steps = omega arith;
  many = omega arith;
}

all_one : (what : Directive) (n : ℕ) → IsRanged what → (lines : List Placed) → All (λ p. IsRanged p.what) lines → All (λ p. IsRanged p.what) (lines_with lines n what)
all_one what n ranged lines all =
    All-append (λ (p : Placed). IsRanged p.what) lines (record { line = n; what = what } ∷ []) all
    (All-cons (λ (p : Placed). IsRanged p.what) (record { line = n; what = what }) [] ranged (All-nil (λ (p : Placed). IsRanged p.what)))

-- one more directive
grown : (draft : Draft) (n : ℕ) (what : Directive) (recording : List Event) → IsDraft draft → is_many draft.lines what ≡ false → IsRanged what → map happening_of recording ≡ map happening_of draft.recording ++ cons_option (event_in what) [] → total_of recording ≤ steps_limit → length recording ≤ events_limit → IsDraft (record draft { lines = lines_with draft.lines n what; recording = recording })
grown draft n what recording is few ranged events steps many = record {
  pages = is.pages;
  harts = is.harts;
  lines = all_one what n ranged draft.lines is.lines;
  events =
      events ∙ ap (λ es. es ++ cons_option (event_in what) []) is.events
      ∙ sym (filter_map-append event_of draft.lines (record { line = n; what = what } ∷ []));
  limits = λ of. omega (arith, amount_more of draft.lines n what, room of draft.lines what few (is.limits of));
  steps = steps;
  many = many;
}

ok_draft : (x y : Draft) → (let r : Result Draft JobKind = Ok x in r) ≡ Ok y → x ≡ y
ok_draft x y is = cc

directive_is : (draft new : Draft) (n : ℕ) (what : Directive) → IsDraft draft → IsRanged what → event_in what ≡ None → directive_with draft n what ≡ Ok new → IsDraft new
unfolding directive_with
directive_is draft new n what is ranged none made =
    elim (is_many draft.lines what) as (λ b. is_many draft.lines what ≡ b → (let r : Result Draft JobKind = cond b (Err fault.Many) (Ok (record draft { lines = lines_with draft.lines n what })) in r) ≡ Ok new → IsDraft new) [
      | true ↦ λ many made. cc
      | false ↦ λ few made.
          subst IsDraft (ok_draft _ new made)
          (grown draft n what draft.recording is few ranged
          (sym (append-nil (map happening_of draft.recording)) ∙ ap (λ o. map happening_of draft.recording ++ cons_option o []) (sym none)) is.steps is.many)
    ] refl made

few_events : (lines : List Placed) (event : Event) → is_many lines (event_directive event) ≡ false
unfolding is_many
few_events lines (event.Turn hart count) = refl
few_events lines (event.Lines hart mask) = refl

beside : (event : Event) → event_in (event_directive event) ≡ Some (happening_of event)
beside (event.Turn hart count) = refl
beside (event.Lines hart mask) = refl

ranged_beside : (event : Event) → hart_of event < job_harts → IsRanged (event_directive event)
ranged_beside (event.Turn hart count) below = below
ranged_beside (event.Lines hart mask) below = below

-- an event that isn't refused keeps the limits of the schedule
no_refusal : (hart mask steps many : Bool) → (let o : Option PushEnd = cond hart (Some pushed.Hart) (cond (not mask) (Some pushed.Mask) (cond steps (Some pushed.Steps) (cond many (Some pushed.Many) None))) in o) ≡ None → (steps ≡ false) × (many ≡ false)
no_refusal true mask steps many is = cc
no_refusal false false steps many is = cc
no_refusal false true true many is = cc
no_refusal false true false true is = cc
no_refusal false true false false is = (refl, refl)

one_event : (events : List Event) (event : Event) → refusal_of events event ≡ None → (total_of (events ++ event ∷ []) ≤ steps_limit) × (length (events ++ event ∷ []) ≤ events_limit)
one_event events event is =
    let r = no_refusal _ _ _ _ is in
    let steps : total_of events + steps_of event ≤ steps_limit = ltb-false steps_limit (total_of events + steps_of event) r.0 in
    let many : length events < events_limit = leb-false events_limit (length events) r.1 in
    (omega (arith, steps, sum_by-append steps_of events (event ∷ [])), omega (arith, many, length-append events (event ∷ [])))

event_is : (draft new : Draft) (n : ℕ) (event : Event) (refusal : Option PushEnd) → refusal_of draft.recording event ≡ refusal → IsDraft draft → hart_of event < job_harts → event_with draft n event refusal ≡ Ok new → IsDraft new
event_is draft new n event (Some end) told is below made = cc
event_is draft new n event None told is below made =
    let fits = one_event draft.recording event told in
    subst IsDraft (ok_draft _ new made)
    (grown draft n (event_directive event) (draft.recording ++ event ∷ []) is (few_events draft.lines event) (ranged_beside event below)
    (map-append happening_of draft.recording (event ∷ []) ∙ ap (λ o. map happening_of draft.recording ++ cons_option o []) (sym (beside event))) fits.0 fits.1)

schedule_is : (draft new : Draft) (n : ℕ) (event : Event) → IsDraft draft → hart_of event < job_harts → schedule_with draft n event ≡ Ok new → IsDraft new
unfolding schedule_with
schedule_is draft new n event is below made = event_is draft new n event _ refl is below made

harts_is : (draft new : Draft) (harts : ℕ) (before : Option ℕ) → IsDraft draft → (1 ≤ harts) × (harts ≤ job_harts) → harts_with draft harts before ≡ Ok new → IsDraft new
harts_is draft new harts (Some m) is ranged made = cc
harts_is draft new harts None is ranged made =
    subst IsDraft (ok_draft _ new made) (record {
      pages = is.pages;
      harts = λ n same. let e : harts ≡ n = cc in (omega (arith, ranged.0), omega (arith, ranged.1));
      lines = is.lines;
      events = is.events;
      limits = is.limits;
      steps = is.steps;
      many = is.many;
    })

sample_is : (draft new : Draft) (n at : ℕ) (name text : List ℕ) (r : Result (List ℕ) (ℕ × AsmKind)) → IsDraft draft → at % 4 ≡ 0 → at < 2 ^ 32 → asm_of text at ≡ r → sample_with draft n name at r ≡ Ok new → IsDraft new
sample_is draft new n at name text (Err e) is aligned below words made = cc
sample_is draft new n at name text (Ok ws) is aligned below words made =
    let x = asm_extent text at ws below words in
    directive_is draft new n (directive.Sample name (record { base = at; words = ws })) is (record { aligned = aligned; ends = x.0; count = x.1 }) refl made

no_event : (what : Directive) → has_event what ≡ false → event_in what ≡ None
no_event (directive.Turn hart) none = cc
no_event (directive.Lines hart) none = cc
no_event _ none = refl

at_line_ok : (n : ℕ) (r : Result Draft JobKind) (new : Draft) → at_line n r ≡ Ok new → r ≡ Ok new
at_line_ok n (Ok draft) new made = let e : draft ≡ new = cc in ap (λ (d : Draft). let r : Result Draft JobKind = Ok d in r) e
at_line_ok n (Err kind) new made = cc

allowed_is : (b : Bool) (draft new : Draft) (n base : ℕ) (name ws : List ℕ) → IsDraft draft → IsImage (record { base = base; words = ws }) → cond b (directive_with draft n (directive.Image name (record { base = base; words = ws }))) (Err fault.Byte) ≡ Ok new → IsDraft new
allowed_is true draft new n base name ws is image made = directive_is draft new n (directive.Image name (record { base = base; words = ws })) is image refl made
allowed_is false draft new n base name ws is image made = cc

image_with_is : (draft new : Draft) (n last base : ℕ) (line name : List ℕ) (lines : List (List ℕ)) (r : Result (List ℕ) (ℕ × AsmKind)) → IsDraft draft → base % 4 ≡ 0 → base < 2 ^ 32 → image_words base lines ≡ r → image_with draft n last line name base r ≡ Ok new → IsDraft new
image_with_is draft new n last base line name lines (Err (inner, kind)) is aligned below words made = cc
image_with_is draft new n last base line name lines (Ok ws) is aligned below words made =
    let x = lines_extent lines base ws below words in
    allowed_is (is_allowed line) draft new n base name ws is (record { aligned = aligned; ends = x.0; count = x.1 })
    (at_line_ok last _ new made)

image_of_is : (draft new : Draft) (n base : ℕ) (name : List ℕ) (inside : List (List ℕ)) (last : Option (List ℕ)) → IsDraft draft → base % 4 ≡ 0 → base < 2 ^ 32 → image_of draft n name base inside last ≡ Ok new → IsDraft new
image_of_is draft new n base name inside None is aligned below made = cc
image_of_is draft new n base name inside (Some line) is aligned below made =
    image_with_is draft new n (n + 1 + length inside) base line name inside (image_words base inside) is aligned below refl made

image_lines_is : (draft new : Draft) (n base : ℕ) (name : List ℕ) (behind : List (List ℕ)) → IsDraft draft → base % 4 ≡ 0 → base < 2 ^ 32 → image_lines_with draft n name base behind ≡ Ok new → IsDraft new
unfolding image_lines_with
image_lines_is draft new n base name behind is aligned below made =
    image_of_is draft new n base name (before_end behind) (find is_end behind) is aligned below made

draft_is : (draft new : Draft) (n : ℕ) (behind : List (List ℕ)) (said : Statement) → IsDraft draft → IsStatement said → draft_with draft n behind said ≡ Ok new → IsDraft new
draft_is draft new n behind (states.Harts harts) is ranged made = harts_is draft new harts draft.harts is ranged (at_line_ok n _ new made)
draft_is draft new n behind (states.Image name at) is ranged made = image_lines_is draft new n at name behind is ranged.0 ranged.1 made
draft_is draft new n behind (states.Sample name at which) is ranged made =
    sample_is draft new n at name (sample_text which) (asm_of (sample_text which) at) is ranged.0 ranged.1 refl (at_line_ok n _ new made)
draft_is draft new n behind (states.Event event) is ranged made = schedule_is draft new n event is ranged (at_line_ok n _ new made)
draft_is draft new n behind (states.Directive what) is ranged made =
    directive_is draft new n what is ranged.0 (no_event what ranged.1) (at_line_ok n _ new made)

words_is : (draft new : Draft) (n : ℕ) (behind : List (List ℕ)) (r : Result Statement JobKind) → IsDraft draft → ((said : Statement) → r ≡ Ok said → IsStatement said) → words_with draft n behind r ≡ Ok new → IsDraft new
words_is draft new n behind (Ok said) is ranged made = draft_is draft new n behind said is (ranged said refl) made
words_is draft new n behind (Err kind) is ranged made = cc

abbrev Drafted : Type 0
Drafted = Result Draft (ℕ × JobKind)

line_choice : (allowed words debug : Bool) (draft new : Draft) (n : ℕ) (r : Drafted) → IsDraft draft → (r ≡ Ok new → IsDraft new) → cond (not allowed) (Err (n, fault.Byte)) (cond (not words) (Ok draft) (cond debug (Err (n, fault.Words)) r)) ≡ Ok new → IsDraft new
line_choice false words debug draft new n r is goes made = cc
line_choice true false debug draft new n r is goes made = let e : draft ≡ new = cc in subst IsDraft e is
line_choice true true true draft new n r is goes made = cc
line_choice true true false draft new n r is goes made = goes made

line_is : (draft new : Draft) (n : ℕ) (line : List ℕ) (behind : List (List ℕ)) → IsDraft draft → line_with draft n line behind ≡ Ok new → IsDraft new
unfolding line_with
line_is draft new n line behind is made =
    line_choice (is_allowed line) (has_words line) (begins_with (codes "debug") (words_of line)) draft new n
    (words_with draft n behind (statement_of draft.version (words_of line))) is
    (words_is draft new n behind (statement_of draft.version (words_of line)) is (statement_ranged draft.version (words_of line))) made

abbrev Answered : Type 0
Answered = Result Job (ℕ × JobKind)

next_ok : (r : Drafted) (next : Draft → Answered) (job : Job) → (r >>= next) ≡ Ok job → (new : Draft) × (r ≡ Ok new) × (next new ≡ Ok job)
next_ok (Ok new) next job made = (new, refl, made)
next_ok (Err e) next job made = cc

harts_kept : (o : Option ℕ) → ((n : ℕ) → o ≡ Some n → (1 ≤ n) × (n ≤ job_harts)) → (1 ≤ unwrap_or o 1) × (unwrap_or o 1 ≤ job_harts)
harts_kept (Some n) ranged = ranged n refl
harts_kept None ranged = (omega arith, omega arith)

-- the job of a text, whose schedule keeps its limits
pub record IsReadJob (job : Job) : Type 0 where
  pub is : IsJob job
  pub steps : total_of job.recording ≤ steps_limit
  pub many : length job.recording ≤ events_limit

job_in_is : (draft : Draft) (commands : List DebugLine) → IsDraft draft → AreCommands commands → IsReadJob (job_in draft commands)
job_in_is draft commands is are = record {
  steps = is.steps;
  many = is.many;
  is = record {
    pages = is.pages;
    harts = harts_kept draft.harts is.harts;
    lines = is.lines;
    events = is.events;
    limits = is.limits;
    commands = are.ranged;
    commanded = are.count;
    breaks = are.breaks;
  };
}

ok_job : (x y : Job) → (let r : Answered = Ok x in r) ≡ Ok y → x ≡ y
ok_job x y is = cc

found_or : (last : Bool) (end_at goes : Answered) (job : Job) → (end_at ≡ Ok job → IsReadJob job) → (goes ≡ Ok job → IsReadJob job) → cond last end_at goes ≡ Ok job → IsReadJob job
found_or true end_at goes job f g made = f made
found_or false end_at goes job f g made = g made

ended_is : (draft : Draft) (r : Result (List DebugLine) (ℕ × JobKind)) (job : Job) → IsDraft draft → ((commands : List DebugLine) → r ≡ Ok commands → AreCommands commands) → job_with draft r ≡ Ok job → IsReadJob job
ended_is draft (Ok commands) job is are made = subst IsReadJob (ok_job _ job made) (job_in_is draft commands is (are commands refl))
ended_is draft (Err e) job is are made = cc

body_is : (lines : List (List ℕ)) (draft : Draft) (inside : Bool) (n : ℕ) (job : Job) → IsDraft draft → body_from draft inside n lines ≡ Ok job → IsReadJob job
unfolding body_from
body_is [] draft inside n job is made = subst IsReadJob (ok_job _ job made) (job_in_is draft [] is no_commands)
body_is (line ∷ lines) draft true n job is made = body_is lines draft (not (is_end line)) (n + 1) job is made
body_is (line ∷ lines) draft false n job is made =
    found_or (is_debug line) (job_with draft (commands_from draft.version [] (n + 1) lines))
    ((line_with draft n line lines) >>= (λ next. body_from next (begins_image draft.version line) (n + 1) lines)) job
    (ended_is draft (commands_from draft.version [] (n + 1) lines) job is
    (λ commands told. commands_are draft.version lines [] commands (n + 1) no_commands told))
    (λ told.
    let s = next_ok (line_with draft n line lines) (λ next. body_from next (begins_image draft.version line) (n + 1) lines) job told in
    body_is lines s.0 (begins_image draft.version line) (n + 1) job (line_is draft s.0 n line lines is s.1) s.2) made

behind_storage_is : (version : JobVersion) (n : ℕ) (lines words : List (List ℕ)) (r : Result ℕ JobKind) (job : Job) → storage_line_of words ≡ r → behind_storage version n lines r ≡ Ok job → IsReadJob job
behind_storage_is version n lines words (Ok pages) job is made =
    body_is lines (draft_of version pages) false (n + 1) job (draft_start version pages (storage_ranged words pages is)) made
behind_storage_is version n lines words (Err kind) job is made = cc

storage_choice : (allowed words : Bool) (n : ℕ) (skip stored : Answered) (job : Job) → (skip ≡ Ok job → IsReadJob job) → (stored ≡ Ok job → IsReadJob job) → cond (not allowed) (Err (n, fault.Byte)) (cond (not words) skip stored) ≡ Ok job → IsReadJob job
storage_choice false words n skip stored job f g made = cc
storage_choice true false n skip stored job f g made = f made
storage_choice true true n skip stored job f g made = g made

storage_is : (version : JobVersion) (lines : List (List ℕ)) (n : ℕ) (job : Job) → storage_from version n lines ≡ Ok job → IsReadJob job
unfolding storage_from
storage_is version [] n job made = cc
storage_is version (line ∷ lines) n job made =
    storage_choice (is_allowed line) (has_words line) n (storage_from version (n + 1) lines)
    (behind_storage version n lines (storage_line_of (words_of line))) job
    (storage_is version lines (n + 1) job) (behind_storage_is version n lines (words_of line) (storage_line_of (words_of line)) job refl) made

behind_header_is : (n : ℕ) (lines : List (List ℕ)) (form : Option JobVersion) (job : Job) → behind_header n lines form ≡ Ok job → IsReadJob job
behind_header_is n lines (Some version) job made = storage_is version lines (n + 1) job made
behind_header_is n lines None job made = cc

header_is : (lines : List (List ℕ)) (n : ℕ) (job : Job) → header_from n lines ≡ Ok job → IsReadJob job
unfolding header_from
header_is [] n job made = cc
header_is (line ∷ lines) n job made =
    storage_choice (is_allowed line) (has_words line) n (header_from (n + 1) lines)
    (behind_header n lines (version_of (words_of line))) job
    (header_is lines (n + 1) job) (behind_header_is n lines (version_of (words_of line)) job) made

pub text_is : (text : List ℕ) (job : Job) → job_of text ≡ Ok job → IsReadJob job
unfolding job_of
text_is text job made = header_is (lines_of text) 1 job made

pub job_is : (text : List ℕ) (r : Result Job JobEnd) → GivesJob r (job_of text) → IfOk r IsJob
job_is text (Ok job) made = (text_is text job made).is
job_is text (Err end) made = tt
