-- The way of a text through its places, and what its lines say.
use Rattle.std.proofs.Common.{◌≡◌, ℕ, ◌+◌, ◌-◌, ◌≤◌, Bool, true, false, not, cond, codes, List, [], ◌∷◌, ◌++◌, length, take, unwrap_or, Option, Some, None, Result, Ok, Err, refl, sym, ap, ◌∙◌, subst, arith, append-nil, append_assoc}
use Rattle.hv_lex.specs.Lines.{lines_of}
use Rattle.hv_line.specs.Statements.{storage_line_of}
use Rattle.hv_line.specs.Commands.{command_of, join_words_of}
use Rattle.hv_job.specs.Commands.{line_commands, commands_from, commands_then, commands_with, new_commands, is_over}
use Rattle.hv_job.specs.JobOf.{before_end, begins_image, body_from, draft_of, header_from, is_debug, is_end, job_in, job_of, job_with, line_with, storage_from, behind_header, behind_storage}
use Rattle.hv_line.specs.Lines.{has_words, is_allowed, version_of, words_of}
use Rattle.hv_line.specs.declared.kinds.JobKind.{JobKind}
use Rattle.hv_line.specs.declared.kinds.JobKind.TheVariants as fault
use Rattle.hv_line.specs.declared.types.DebugCommand.{DebugCommand}
use Rattle.hv_line.specs.declared.version.JobVersion.{JobVersion}
use Rattle.hv_job.specs.declared.job.DebugLine.{DebugLine as Command}
use Rattle.hv_job.specs.declared.job.Job.{Job}
use Rattle.hv_line.proofs.Ranging.{then_ok}
use Rattle.hv_grammar.specs.Said.{AreAssembled, Said, Called, Inner, Nothing, StorageOf, commands_by, commands_said, events_by, events_said, harts_said, inner_lines, job_said, placed_by, placed_said}
use Rattle.hv_grammar.specs.Texts.{AreGoodBefore, Goes, GoesOn, IsAllowed, IsTold, RefusedTextLaw, AmongCommands, AmongDirectives, BeforeHeader, BeforeStorage, InsideImage, NoWords, Header, StorageLine, InnerLine, EndLine, DebugLine, CommandLine}
use Rattle.hv_grammar.proofs.Calls.{words_call}
use Rattle.hv_grammar.proofs.Deeds.{Draft}
use Rattle.hv_grammar.proofs.Formed.{storage_formed}
use Rattle.hv_grammar.proofs.Inside.{Ends, before_next, ends_here, ends_next, no_end}
use Rattle.hv_grammar.proofs.Steps.{Good, Stops, Whole, by_result, by_test, debug_says, end_says, goes_says, header_says, no_words, step, stops, unless}
use Rattle.hv_grammar.specs.Within.{IsWithinLimits, harts_lines}
use Rattle.hv_job.proofs.Limiting.{IsReadJob, text_is}
use Rattle.hv_grammar.proofs.Telling.{Says, Told, harts_count, line_says, or_first, place_in}
use Rattle.hv_lex.specs.Refusing.{◌>>=◌}

-- The commands: nothing else is said among them.
pub record AreCommands (commands : List Command) (n : ℕ) (all : List Command) (says : List Said) : Type 0 where
  pub is : all ≡ commands ++ commands_said n says
  pub placed : placed_said n says ≡ []
  pub events : events_said says ≡ []
  pub harts : harts_said says ≡ None
  pub counted : harts_lines says ≡ 0
  pub assembled : AreAssembled says

pub record IsCommanded (version : JobVersion) (commands next : List Command) (n : ℕ) (line : List ℕ) : Type 0 where
  pub said : Said
  pub goes : Goes (AmongCommands version) line said (AmongCommands version)
  pub is : next ≡ commands ++ commands_by n said
  pub more : (all : List Command) (says : List Said) → AreCommands next (n + 1) all says → AreCommands commands n all (said ∷ says)

pub longer : (commands next by : List Command) (n : ℕ) (all : List Command) (says : List Said) → next ≡ commands ++ by → all ≡ next ++ commands_said (n + 1) says → all ≡ commands ++ (by ++ commands_said (n + 1) says)
longer commands next by n all says next_is is =
    is ∙ ap (λ cs. cs ++ commands_said (n + 1) says) next_is ∙ append_assoc commands by (commands_said (n + 1) says)

module _ (version : JobVersion) (commands next : List Command) (n : ℕ) (line : List ℕ) where
  unfoldable pub skipped : IsAllowed line → words_of line ≡ [] → commands ≡ next → IsCommanded version commands next n line
  skipped allowed none same =
      let is : next ≡ commands ++ [] = sym same ∙ sym (append-nil commands) in
      record {
        said = Nothing;
        goes = NoWords tt allowed none;
        is = is;
        more = λ all says are. record {
          is = longer commands next [] n all says is are.is;
          placed = are.placed;
          events = are.events;
          harts = are.harts;
          counted = (let c : harts_lines says ≡ 0 = are.counted in omega (arith, c));
          assembled = (tt, are.assembled);
        };
      }

  unfoldable pub commanded : (what : DebugCommand) → IsAllowed line → command_of version (words_of line) ≡ Ok what → next ≡ commands_with commands n (join_words_of (words_of line)) what → IsCommanded version commands next n line
  commanded what allowed is made = record {
    said = Called (words_of line) what;
    goes = CommandLine what allowed (words_call version (words_of line) what is);
    is = made;
    more = λ all says are. record {
      is = longer commands next (commands_by n (Called (words_of line) what)) n all says made are.is;
      placed = are.placed;
      events = are.events;
      harts = are.harts;
      counted = (let c : harts_lines says ≡ 0 = are.counted in omega (arith, c));
      assembled = (tt, are.assembled);
    };
  }

  entered_is : (what : DebugCommand) (words : List (List ℕ)) (b : Bool) → (let r : Result (List Command) JobKind = cond b (Err fault.Many) (Ok (commands_with commands n (join_words_of words) what)) in r) ≡ Ok next → next ≡ commands_with commands n (join_words_of words) what
  entered_is what words true is = cc
  entered_is what words false is = cc

  command_is : line_commands version commands n line ≡ Ok next → IsCommanded version commands next n line
  unfolding line_commands
  command_is =
      let R = λ (r : Result (List Command) JobKind). r ≡ Ok next → IsCommanded version commands next n line in
      unless R (is_allowed line) (Err fault.Byte) _ (λ no is. cc) (λ allowed.
      unless R (has_words line) (Ok commands) _ (λ none is. let same : commands ≡ next = cc in skipped allowed (no_words line none) same) (λ some is.
      let s = then_ok (command_of version (words_of line)) (new_commands commands n (words_of line)) next is in
      commanded s.0 allowed s.1 (entered_is s.0 (words_of line) (is_over commands s.0) s.2)))

commands_good : (version : JobVersion) (lines : List (List ℕ)) (n : ℕ) (commands : List Command) → Good (AmongCommands version) n lines (AreCommands commands n) (commands_from version commands n lines)
unfolding commands_from
commands_good version [] n commands = record {
  says = [];
  place = AmongCommands version;
  goes_on = refl;
  over = tt;
  holds = record { is = sym (append-nil commands); placed = refl; events = refl; harts = refl; counted = refl; assembled = tt };
}
commands_good version (line ∷ lines) n commands =
    by_result (λ (r : Result (List Command) JobKind). Good (AmongCommands version) n (line ∷ lines) (AreCommands commands n) (commands_then n r (λ next. commands_from version next (n + 1) lines))) (line_commands version commands n line)
    (λ next is. let c = command_is version commands next n line is in
    step (AmongCommands version) (AmongCommands version) n line lines c.said (AreCommands commands n) (AreCommands next (n + 1)) c.goes c.more (commands_from version next (n + 1) lines) (commands_good version lines (n + 1) next))
    (λ kind is. stops (AmongCommands version) n (line ∷ lines))

-- the job of a draft and what is said behind it
abbrev pub job_behind : Draft → ℕ → List Said → Job
job_behind draft n says = record {
  pages = draft.pages;
  harts = unwrap_or (or_first draft.harts (harts_said says)) 1;
  lines = draft.lines ++ placed_said n says;
  recording = draft.recording ++ events_said says;
  commands = commands_said n says;
}

pub record IsBehind (draft : Draft) (inside : Bool) (lines : List (List ℕ)) (n : ℕ) (job : Job) (says : List Said) : Type 0 where
  pub is : job ≡ job_behind draft n says
  pub counted : harts_count draft.harts + harts_lines says ≤ 1
  pub assembled : AreAssembled says
  pub inner : inside ≡ true → inner_lines says ≡ before_end lines

at_most_one : (o : Option ℕ) → harts_count o ≤ 1
at_most_one (Some n) = omega arith
at_most_one None = omega arith

none_first : (o : Option ℕ) → or_first o None ≡ o
none_first (Some n) = refl
none_first None = refl

-- behind the line `debug`
pub debugged : (draft : Draft) (n : ℕ) (line : List ℕ) (lines : List (List ℕ)) (commands : List Command) (says : List Said) → AreCommands [] (n + 1) commands says → IsBehind draft false (line ∷ lines) n (job_in draft commands) (Nothing ∷ says)
debugged draft n line lines commands says are = record {
  is = λ i. record {
    pages = draft.pages;
    harts = (ap (λ o. unwrap_or o 1) (sym (none_first draft.harts) ∙ ap (or_first draft.harts) (sym are.harts))) i;
    lines = (sym (append-nil draft.lines) ∙ ap (λ ps. draft.lines ++ ps) (sym are.placed)) i;
    recording = (sym (append-nil draft.recording) ∙ ap (λ es. draft.recording ++ es) (sym are.events)) i;
    commands = are.is i;
  };
  counted = (let one = at_most_one draft.harts in omega (arith, one, are.counted));
  assembled = (tt, are.assembled);
  inner = λ image. cc;
}

-- a text may end among the directives
pub nothing_behind : (draft : Draft) (n : ℕ) → IsBehind draft false [] n (job_in draft []) []
nothing_behind draft n = record {
  is = λ i. record {
    pages = draft.pages;
    harts = (ap (λ o. unwrap_or o 1) (sym (none_first draft.harts))) i;
    lines = (sym (append-nil draft.lines)) i;
    recording = (sym (append-nil draft.recording)) i;
    commands = [];
  };
  counted = (let one = at_most_one draft.harts in omega (arith, one));
  assembled = tt;
  inner = λ image. cc;
}

ended : (draft : Draft) (n : ℕ) → Whole (AmongDirectives draft.version) [] (IsBehind draft false [] n (job_in draft []))
ended draft n = record {
  says = [];
  place = AmongDirectives draft.version;
  goes_on = refl;
  over = tt;
  holds = nothing_behind draft n;
}

-- the directives, where an image's lines may come first
abbrev pub Going : List (List ℕ) → Type 0
Going lines = (draft : Draft) (inside : Bool) (n : ℕ) → (inside ≡ true → Ends lines) → Good (place_in draft.version inside) n lines (IsBehind draft inside lines n) (body_from draft inside n lines)

module _ (line : List ℕ) (lines : List (List ℕ)) (rest : Going lines) (draft : Draft) (n : ℕ) where
  inside_step : Ends (line ∷ lines) → (b : Bool) → is_end line ≡ b → Good (InsideImage draft.version) n (line ∷ lines) (IsBehind draft true (line ∷ lines) n) (body_from draft (not b) (n + 1) lines)
  inside_step ends true is =
      step (InsideImage draft.version) (AmongDirectives draft.version) n line lines Nothing (IsBehind draft true (line ∷ lines) n) (IsBehind draft false lines (n + 1)) (EndLine (ends_here line lines is ends) (end_says line is))
      (λ job says behind. record {
        is = behind.is;
        counted = (let c : harts_count draft.harts + harts_lines says ≤ 1 = behind.counted in omega (arith, c));
        assembled = (tt, behind.assembled);
        inner = λ image. sym (before_next line lines ∙ ap (λ b. cond (not b) (line ∷ before_end lines) []) is);
      })
      (body_from draft false (n + 1) lines) (rest draft false (n + 1) (λ image. cc))
  inside_step ends false is =
      step (InsideImage draft.version) (InsideImage draft.version) n line lines (Inner line) (IsBehind draft true (line ∷ lines) n) (IsBehind draft true lines (n + 1)) (InnerLine (goes_says line is))
      (λ job says behind. record {
        is = behind.is;
        counted = (let c : harts_count draft.harts + harts_lines says ≤ 1 = behind.counted in omega (arith, c));
        assembled = (tt, behind.assembled);
        inner = λ image. ap (λ ls. line ∷ ls) (behind.inner refl) ∙ sym (before_next line lines ∙ ap (λ b. cond (not b) (line ∷ before_end lines) []) is);
      })
      (body_from draft true (n + 1) lines) (rest draft true (n + 1) (λ image. ends_next line lines is ends))

  pub told_step : (image : Bool) (next : Draft) (it : Said) → (t : Told draft n line lines image it next) → (job : Job) (says : List Said) → IsBehind next image lines (n + 1) job says → IsBehind draft false (line ∷ lines) n job (it ∷ says)
  told_step image next it t job says behind =
      let placed : next.lines ≡ draft.lines ++ placed_by n it says = t.directives says behind.inner in
      record {
        is = behind.is ∙ (λ i. record {
          pages = t.pages i;
          harts = unwrap_or (t.harts (harts_said says) i) 1;
          lines = (ap (λ ps. ps ++ placed_said (n + 1) says) placed ∙ append_assoc draft.lines (placed_by n it says) (placed_said (n + 1) says)) i;
          recording = (ap (λ es. es ++ events_said says) t.events ∙ append_assoc draft.recording (events_by it) (events_said says)) i;
          commands = (ap (λ cs. cs ++ commands_said (n + 1) says) (sym t.calls)) i;
        });
        counted = (let c = behind.counted in omega (arith, c, t.counted));
        assembled = (t.assembled says behind.inner, behind.assembled);
        inner = λ inside. cc;
      }

  said : (r : Result Draft (ℕ × JobKind)) → Says draft n line lines (begins_image draft.version line) r → Good (AmongDirectives draft.version) n (line ∷ lines) (IsBehind draft false (line ∷ lines) n) (r >>= (λ next. body_from next (begins_image draft.version line) (n + 1) lines))
  said (Ok next) (it, t) =
      let image = begins_image draft.version line in
      step (AmongDirectives draft.version) (place_in draft.version (begins_image draft.version line)) n line lines it (IsBehind draft false (line ∷ lines) n) (IsBehind next (begins_image draft.version line) lines (n + 1)) t.goes (told_step (begins_image draft.version line) next it t) (body_from next (begins_image draft.version line) (n + 1) lines)
      (subst (λ (v : JobVersion). Good (place_in v image) (n + 1) lines (IsBehind next image lines (n + 1)) (body_from next image (n + 1) lines)) t.version (rest next image (n + 1) t.ends))
  said (Err refusal) stop = stop

  debug_step : IsAllowed line → words_of line ≡ codes "debug" ∷ [] → (r : Result (List Command) (ℕ × JobKind)) → Good (AmongCommands draft.version) (n + 1) lines (AreCommands [] (n + 1)) r → Good (AmongDirectives draft.version) n (line ∷ lines) (IsBehind draft false (line ∷ lines) n) (job_with draft r)
  debug_step allowed is (Ok commands) whole = record {
    says = Nothing ∷ whole.says;
    place = whole.place;
    goes_on = (AmongCommands draft.version, DebugLine allowed is, whole.goes_on);
    over = whole.over;
    holds = debugged draft n line lines commands whole.says whole.holds;
  }
  debug_step allowed is (Err refusal) stop =
      step {A = Job} (AmongDirectives draft.version) (AmongCommands draft.version) n line lines Nothing (λ job says. Unit {0}) (λ job says. Unit {0}) (DebugLine allowed is) (λ job says u. tt) (Err refusal) stop

  directive_step : Good (AmongDirectives draft.version) n (line ∷ lines) (IsBehind draft false (line ∷ lines) n) (cond (is_debug line) (job_with draft (commands_from draft.version [] (n + 1) lines)) ((line_with draft n line lines) >>= (λ next. body_from next (begins_image draft.version line) (n + 1) lines)))
  directive_step =
      by_test (λ (r : Result Job (ℕ × JobKind)). Good (AmongDirectives draft.version) n (line ∷ lines) (IsBehind draft false (line ∷ lines) n) r) (is_debug line) _ _
      (λ debug. let d = debug_says line debug in debug_step d.1 d.0 (commands_from draft.version [] (n + 1) lines) (commands_good draft.version lines (n + 1) []))
      (λ other. said (line_with draft n line lines) (line_says draft n line lines))

pub body_good : (lines : List (List ℕ)) → Going lines
unfolding body_from
body_good [] draft true n ends = absurd (no_end (ends refl))
body_good [] draft false n ends = ended draft n
body_good (line ∷ lines) draft true n ends = inside_step line lines (body_good lines) draft n (ends refl) (is_end line) refl
body_good (line ∷ lines) draft false n ends = directive_step line lines (body_good lines) draft n

-- the job is what is said from a line on
pub record IsSaid (n : ℕ) (job : Job) (says : List Said) : Type 0 where
  pub is : job ≡ job_said n says
  pub counted : harts_lines says ≤ 1
  pub assembled : AreAssembled says

-- a line that says nothing
more_said : (n : ℕ) (job : Job) (says : List Said) → IsSaid (n + 1) job says → IsSaid n job (Nothing ∷ says)
more_said n job says is = record { is = is.is; counted = (let c : harts_lines says ≤ 1 = is.counted in omega (arith, c)); assembled = (tt, is.assembled) }

storage_good : (version : JobVersion) (lines : List (List ℕ)) (n : ℕ) → Good (BeforeStorage version) n lines (IsSaid n) (storage_from version n lines)
unfolding storage_from
storage_good version [] n = stops (BeforeStorage version) n []
storage_good version (line ∷ lines) n =
    let G = λ (r : Result Job (ℕ × JobKind)). Good (BeforeStorage version) n (line ∷ lines) (IsSaid n) r in
    unless G (is_allowed line) _ _ (λ no. stops (BeforeStorage version) n (line ∷ lines)) (λ allowed.
    unless G (has_words line) _ _ (λ none. step (BeforeStorage version) (BeforeStorage version) n line lines Nothing (IsSaid n) (IsSaid (n + 1)) (NoWords tt allowed (no_words line none)) (more_said n) (storage_from version (n + 1) lines) (storage_good version lines (n + 1))) (λ some.
    by_result (λ (r : Result ℕ JobKind). Good (BeforeStorage version) n (line ∷ lines) (IsSaid n) (behind_storage version n lines r)) (storage_line_of (words_of line))
    (λ pages is. step (BeforeStorage version) (AmongDirectives version) n line lines (StorageOf pages) (IsSaid n) (IsBehind (draft_of version pages) false lines (n + 1)) (StorageLine pages allowed (storage_formed (words_of line) pages is))
    (λ job says behind. record { is = behind.is; counted = (let c = behind.counted in omega (arith, c)); assembled = (tt, behind.assembled) })
    (body_from (draft_of version pages) false (n + 1) lines) (body_good lines (draft_of version pages) false (n + 1) (λ image. cc)))
    (λ kind is. stops (BeforeStorage version) n (line ∷ lines))))

-- the header
headed_good : (line : List ℕ) (lines : List (List ℕ)) (n : ℕ) → IsAllowed line → (o : Option JobVersion) → version_of (words_of line) ≡ o → Good BeforeHeader n (line ∷ lines) (IsSaid n) (behind_header n lines o)
headed_good line lines n allowed (Some version) is =
    step BeforeHeader (BeforeStorage version) n line lines Nothing (IsSaid n) (IsSaid (n + 1)) (Header version allowed (header_says (words_of line) version is)) (more_said n) (storage_from version (n + 1) lines) (storage_good version lines (n + 1))
headed_good line lines n allowed None is = stops BeforeHeader n (line ∷ lines)

header_good : (lines : List (List ℕ)) (n : ℕ) → Good BeforeHeader n lines (IsSaid n) (header_from n lines)
unfolding header_from
header_good [] n = stops BeforeHeader n []
header_good (line ∷ lines) n =
    let G = λ (r : Result Job (ℕ × JobKind)). Good BeforeHeader n (line ∷ lines) (IsSaid n) r in
    unless G (is_allowed line) _ _ (λ no. stops BeforeHeader n (line ∷ lines)) (λ allowed.
    unless G (has_words line) _ _ (λ none. step BeforeHeader BeforeHeader n line lines Nothing (IsSaid n) (IsSaid (n + 1)) (NoWords tt allowed (no_words line none)) (more_said n) (header_from (n + 1) lines) (header_good lines (n + 1))) (λ some.
    headed_good line lines n allowed (version_of (words_of line)) refl))

text_good : (text : List ℕ) → Good BeforeHeader 1 (lines_of text) (IsSaid 1) (job_of text)
unfolding job_of
text_good text = header_good (lines_of text) 1

within : (job : Job) (says : List Said) → job ≡ job_said 1 says → harts_lines says ≤ 1 → IsReadJob job → IsWithinLimits says
within job says is one read =
    let r = subst IsReadJob is read in
    record {
      harts = one;
      limits = r.is.limits;
      steps = r.steps;
      events = r.many;
      commands = r.is.commanded;
      breaks = r.is.breaks;
    }

told_of : (lines : List (List ℕ)) (job : Job) → IsReadJob job → Whole BeforeHeader lines (IsSaid 1 job) → IsTold lines job
told_of lines job read whole = record {
  says = whole.says;
  place = whole.place;
  goes_on = whole.goes_on;
  over = whole.over;
  assembled = whole.holds.assembled;
  within = within job whole.says whole.holds.is whole.holds.counted read;
  is = whole.holds.is;
}

pub accepted : (text : List ℕ) (job : Job) → job_of text ≡ Ok job → IsTold (lines_of text) job
accepted text job is =
    told_of (lines_of text) job (text_is text job is)
    (subst (λ (r : Result Job (ℕ × JobKind)). Good BeforeHeader 1 (lines_of text) (IsSaid 1) r) is (text_good text))

good_before : (lines : List (List ℕ)) (number : ℕ) → Stops BeforeHeader 1 lines number → AreGoodBefore lines number
good_before lines number stop =
    let is : number ≡ 1 + stop.k = stop.is in
    let k : stop.k ≡ number - 1 = omega (arith, is) in
    let within : stop.k ≤ length lines = stop.within in
    record {
      some = omega (arith, is);
      within = omega (arith, k, within);
      says = stop.says;
      place = stop.place;
      goes_on = subst (λ k. GoesOn BeforeHeader (take k lines) stop.says stop.place) k stop.goes_on;
    }

pub refused : RefusedTextLaw
refused text number kind is =
    good_before (lines_of text) number (subst (λ (r : Result Job (ℕ × JobKind)). Good BeforeHeader 1 (lines_of text) (IsSaid 1) r) is (text_good text))
