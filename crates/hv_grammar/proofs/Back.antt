-- A text whose lines go all the way, and keep the limits, is the job that they say.
use Rattle.std.proofs.Common.{◌≡◌, ◌≢◌, ℕ, ◌+◌, ◌≤◌, ◌<◌, Bool, true, false, not, cond, codes, List, [], ◌∷◌, ◌++◌, length, Option, Some, None, Result, Ok, Err, inl, inr, refl, sym, ap, ◌∙◌, subst, arith, append-nil, append_assoc}
use Rattle.std.specs.Result.{is_ok}
use Rattle.std.proofs.lemmas.Bool.{eq-eqb}
use Rattle.hv_asm.specs.Assembly.{asm_of}
use Rattle.hv_asm.specs.declared.AsmKind.{AsmKind}
use Rattle.hv_irq.specs.Events.{hart_of, is_line_mask, mask_of}
use Rattle.hv_irq.specs.declared.Event.{Event}
use Rattle.hv_irq.specs.declared.Event.TheVariants as event
use Rattle.hv_lex.specs.Lines.{lines_of}
use Rattle.hv_samples.specs.Samples.{sample_text}
use Rattle.hv_samples.specs.declared.choice.Sample.{Sample}
use Rattle.hv_line.specs.Commands.{command_of, join_words_of}
use Rattle.hv_line.specs.JobLimits.{harts_in, job_breaks, job_commands, job_harts}
use Rattle.hv_line.specs.Lines.{begins_with, has_words, is_allowed, words_of}
use Rattle.hv_line.specs.declared.kinds.JobKind.{JobKind}
use Rattle.hv_line.specs.declared.kinds.JobKind.TheVariants as fault
use Rattle.hv_line.proofs.Versions.{harts_within}
use Rattle.hv_line.specs.declared.types.DebugCommand.{DebugCommand}
use Rattle.hv_line.specs.declared.types.Directive.{Directive}
use Rattle.hv_line.specs.declared.types.Directive.TheVariants as directive
use Rattle.hv_job.specs.Commands.{commands_from, commands_then, commands_with, is_over, line_commands, new_commands}
use Rattle.hv_job.specs.IsJob.{breaks_in}
use Rattle.hv_job.specs.JobOf.{before_end, begins_image, behind_header, behind_storage, body_from, directive_with, draft_of, event_with, harts_with, header_from, image_lines_with, image_of, image_with, image_words, is_debug, job_in, job_of, job_with, line_with, lines_with, sample_with, schedule_with, storage_from, words_with}
use Rattle.hv_job.specs.declared.job.DebugLine.{DebugLine as Command}
use Rattle.hv_job.specs.declared.job.Job.{Job}
use Rattle.hv_line.specs.declared.version.JobVersion.{JobVersion}
use Rattle.hv_grammar.specs.Forms.{Form, IsInRange, IsLine, Harts, Image, Sampled, Turn, Lines}
use Rattle.hv_grammar.specs.Said.{AreAssembled, Said, Called, Directed, Inner, Nothing, StorageOf, FormAssembles, assembled, commands_by, commands_said, events_by, inner_lines, job_said, on_line, placed_by}
use Rattle.hv_grammar.specs.Texts.{GoesOn, IsAllowed, IsAlone, IsOver, IsPlain, IsTold, JobTextLaw, Place, AmongCommands, AmongDirectives, BeforeHeader, BeforeStorage, InsideImage}
use Rattle.hv_grammar.specs.Within.{IsWithinLimits, harts_by_line, harts_lines}
use Rattle.hv_grammar.proofs.Calls.{commands_are_calls}
use Rattle.hv_grammar.proofs.Deeds.{Draft, does}
use Rattle.hv_grammar.proofs.Inside.{Ends, before_next}
use Rattle.hv_grammar.proofs.Late.{begins_it, blank_begins, blank_has, blank_not_debug, fails, headed, holds, no_first, plain_begins, yes_first}
use Rattle.hv_grammar.proofs.Means.{form_means, is_image_form, storage_means}
use Rattle.hv_grammar.proofs.Room.{Room, few, room_command, room_next, schedulable}
use Rattle.hv_grammar.proofs.Saying.{SaidWay, inner_is, said_way}
use Rattle.hv_grammar.proofs.Steps.{header_is}
use Rattle.hv_grammar.proofs.Telling.{SaysThis, Told, does_says, harts_count, place_in, skipped as tells_nothing}
use Rattle.hv_grammar.proofs.Through.{AreCommands, IsBehind, accepted, body_good, commanded, debugged, nothing_behind, skipped, told_step}
use Rattle.hv_grammar.proofs.Ways.{IsBlank, ends_at, goes_not, is_debugged, is_ended, not_begun, not_debug, some_call, some_pages, some_words}
use Rattle.hv_lex.specs.Refusing.{◌>>=◌, at_line}

-- the commands
abbrev CommandsRead : JobVersion → List Command → ℕ → List (List ℕ) → List Said → Type 0
CommandsRead version commands n lines says = (all : List Command) × (commands_from version commands n lines ≡ Ok all) × AreCommands commands n all says

module _ (version : JobVersion) (line : List ℕ) (lines : List (List ℕ)) (says : List Said) (n : ℕ) (commands : List Command) where
  command_blank : IsBlank line → CommandsRead version commands (n + 1) lines says → CommandsRead version commands n (line ∷ lines) (Nothing ∷ says)
  unfolding commands_from line_commands skipped
  command_blank w rest =
      let M = λ (r : Result (List Command) JobKind). r ≡ Ok commands in
      let e : line_commands version commands n line ≡ Ok commands =
      holds M (is_allowed line) _ _ w.0 (fails M (has_words line) _ _ (blank_has line w.1) refl)
      in
      (rest.0, ap (λ r. commands_then n r (λ next. commands_from version next (n + 1) lines)) e ∙ rest.1, (skipped version commands commands n line w.0 w.1 refl).more rest.0 says rest.2)

  command_said : (what : DebugCommand) → IsAllowed line → has_words line ≡ true → command_of version (words_of line) ≡ Ok what → is_over commands what ≡ false → CommandsRead version (commands_with commands n (join_words_of (words_of line)) what) (n + 1) lines says → CommandsRead version commands n (line ∷ lines) (Called (words_of line) what ∷ says)
  unfolding commands_from line_commands commanded
  command_said what allowed some is room rest =
      let next = commands_with commands n (join_words_of (words_of line)) what in
      let M = λ (r : Result (List Command) JobKind). r ≡ Ok next in
      let e : line_commands version commands n line ≡ Ok next =
      holds M (is_allowed line) _ _ allowed (holds M (has_words line) _ _ some
      (ap (λ (r : Result DebugCommand JobKind). r >>= new_commands commands n (words_of line)) is
      ∙ ap (λ b. let r : Result (List Command) JobKind = cond b (Err fault.Many) (Ok next) in r) room))
      in
      (rest.0, ap (λ r. commands_then n r (λ next. commands_from version next (n + 1) lines)) e ∙ rest.1, (commanded version commands next n line what allowed is refl).more rest.0 says rest.2)

abbrev FitCommands : List Command → ℕ → List Said → Type 0
FitCommands commands n says = (length (commands ++ commands_said n says) ≤ job_commands) × (breaks_in (commands ++ commands_said n says) ≤ job_breaks)

module _ (version : JobVersion) (line : List ℕ) (lines : List (List ℕ)) (says : List Said) (to : Place) (n : ℕ) (commands : List Command) (rest : (commands : List Command) → GoesOn (AmongCommands version) lines says to → FitCommands commands (n + 1) says → CommandsRead version commands (n + 1) lines says) where
  command_step : (said : Said) (next : Place) → SaidWay (AmongCommands version) line said next → GoesOn next lines says to → FitCommands commands n (said ∷ says) → CommandsRead version commands n (line ∷ lines) (said ∷ says)
  command_step said next (inl w) on fit =
      let f : FitCommands commands n (Nothing ∷ says) = subst (λ s. FitCommands commands n (s ∷ says)) w.1 fit in
      subst (λ s. CommandsRead version commands n (line ∷ lines) (s ∷ says)) (sym w.1)
      (command_blank version line lines says n commands w.0 (rest commands (subst (λ (p : Place). GoesOn p lines says to) w.2 on) f))
  command_step said next (inr w) on fit =
      let words = join_words_of (words_of line) in
      let f : FitCommands commands n (Called (words_of line) w.0 ∷ says) = subst (λ s. FitCommands commands n (s ∷ says)) w.3 fit in
      let a : commands_with commands n words w.0 ++ commands_said (n + 1) says ≡ commands ++ record { line = n; words = words; what = w.0 } ∷ commands_said (n + 1) says = append_assoc commands (record { line = n; words = words; what = w.0 } ∷ []) (commands_said (n + 1) says) in
      subst (λ s. CommandsRead version commands n (line ∷ lines) (s ∷ says)) (sym w.3)
      (command_said version line lines says n commands w.0 w.1 (some_call version line w.0 w.2) ((commands_are_calls version (words_of line) w.0).1 w.2)
      (room_command commands n words w.0 (commands_said (n + 1) says) f.0 f.1)
      (rest (commands_with commands n words w.0) (subst (λ (p : Place). GoesOn p lines says to) w.4 on)
      (subst (λ (cs : List Command). length cs ≤ job_commands) (sym a) f.0, subst (λ (cs : List Command). breaks_in cs ≤ job_breaks) (sym a) f.1)))

commands_read : (version : JobVersion) (lines : List (List ℕ)) (says : List Said) (to : Place) (n : ℕ) (commands : List Command) → GoesOn (AmongCommands version) lines says to → FitCommands commands n says → CommandsRead version commands n lines says
unfolding commands_from
commands_read version [] [] to n commands on fit = (commands, refl, record { is = sym (append-nil commands); placed = refl; events = refl; harts = refl; counted = refl; assembled = tt })
commands_read version [] (said ∷ says) to n commands on fit = absurd on
commands_read version (line ∷ lines) [] to n commands on fit = absurd on
commands_read version (line ∷ lines) (said ∷ says) to n commands on fit =
    command_step version line lines says to n commands (λ next. commands_read version lines says to (n + 1) next) said on.0 (said_way (AmongCommands version) line said on.0 on.1) on.2 fit

-- a directive is done
abbrev DoneKind : Result Draft JobKind → Type 0
DoneKind r = (next : Draft) × (r ≡ Ok next)

abbrev DoneAt : Result Draft (ℕ × JobKind) → Type 0
DoneAt r = (next : Draft) × (r ≡ Ok next)

done_at : (n : ℕ) (r : Result Draft JobKind) → DoneKind r → DoneAt (at_line n r)
done_at n r done = (done.0, ap (at_line n) done.1)

harts_done : (draft : Draft) (harts : ℕ) (o : Option ℕ) → harts_count o ≡ 0 → DoneKind (harts_with draft harts o)
harts_done draft harts None none = (record draft { harts = Some harts }, refl)
harts_done draft harts (Some before) none = cc

some_hart : (version : JobVersion) (hart : ℕ) → hart < harts_in version → hart < job_harts
some_hart version hart below = let h : harts_in version ≤ job_harts = harts_within version in omega (arith, below, h)

module _ (draft : Draft) (n : ℕ) (says : List Said) where
  directive_done : (said : Said) (what : Directive) → placed_by n said says ≡ record { line = n; what = what } ∷ [] → Room draft n (said ∷ says) → DoneKind (directive_with draft n what)
  unfolding directive_with
  directive_done said what one room =
      (record draft { lines = lines_with draft.lines n what }, ap (λ b. let r : Result Draft JobKind = cond b (Err fault.Many) (Ok (record draft { lines = lines_with draft.lines n what })) in r) (few draft n said says what one room))

  event_done : (said : Said) (new : Event) → events_by said ≡ new ∷ [] → hart_of new < job_harts → is_line_mask (mask_of new) ≡ true → Room draft n (said ∷ says) → DoneKind (schedule_with draft n new)
  unfolding schedule_with
  event_done said new one below masked room = (_, ap (event_with draft n new) (schedulable draft n said says new one below masked room))

  sample_done : (name : List ℕ) (at : ℕ) (which : Sample) (r : Result (List ℕ) (ℕ × AsmKind)) → asm_of (sample_text which) at ≡ r → is_ok r ≡ true → Room draft n (Directed (Sampled name at which) ∷ says) → DoneKind (sample_with draft n name at r)
  sample_done name at which (Ok words) is ok room =
      directive_done (Directed (Sampled name at which)) (directive.Sample name (record { base = at; words = words }))
      (ap (λ (r : Result (List ℕ) (ℕ × AsmKind)). on_line n (directive.Sample name (record { base = at; words = assembled r }) ∷ [])) is) room
  sample_done name at which (Err e) is ok room = cc

  image_words_done : (name : List ℕ) (at : ℕ) (lines : List (List ℕ)) (last : List ℕ) (m : ℕ) (r : Result (List ℕ) (ℕ × AsmKind)) → inner_lines says ≡ before_end lines → image_words at (before_end lines) ≡ r → is_ok r ≡ true → IsAllowed last → Room draft n (Directed (Image name at) ∷ says) → DoneAt (image_with draft n m last name at r)
  image_words_done name at lines last m (Ok words) inner is ok allowed room =
      done_at m _
      (yes_first DoneKind (is_allowed last) _ _ allowed
      (directive_done (Directed (Image name at)) (directive.Image name (record { base = at; words = words }))
      (ap (λ (r : Result (List ℕ) (ℕ × AsmKind)). on_line n (directive.Image name (record { base = at; words = assembled r }) ∷ [])) (ap (image_words at) inner ∙ is)) room))
  image_words_done name at lines last m (Err e) inner is ok allowed room = cc

  image_done : (name : List ℕ) (at : ℕ) (lines : List (List ℕ)) (ends : Ends lines) → inner_lines says ≡ before_end lines → is_ok (image_words at (inner_lines says)) ≡ true → Room draft n (Directed (Image name at) ∷ says) → DoneAt (image_lines_with draft n name at lines)
  unfolding image_lines_with
  image_done name at lines ends inner ok room =
      subst (λ o. DoneAt (image_of draft n name at (before_end lines) o)) (sym ends.is)
      (image_words_done name at lines ends.last (n + 1 + length (before_end lines)) (image_words at (before_end lines)) inner refl (ap (λ ls. is_ok (image_words at ls)) (sym inner) ∙ ok) ends.allowed room)

  form_done : (lines : List (List ℕ)) (form : Form) → IsPlain form → IsInRange draft.version form → Room draft n (Directed form ∷ says) → FormAssembles form says → DoneAt (does draft n lines form)
  form_done lines (Image name at) plain range room ok = absurd plain
  form_done lines (Harts harts) plain range room ok =
      let h : harts_count draft.harts + harts_lines (Directed (Harts harts) ∷ says) ≤ 1 = room.harts in
      done_at n _ (harts_done draft harts draft.harts (omega (arith, h)))
  form_done lines (Sampled name at which) plain range room ok = done_at n _ (sample_done name at which (asm_of (sample_text which) at) refl ok room)
  form_done lines (Turn hart count) plain range room ok = done_at n _ (event_done (Directed (Turn hart count)) (event.Turn hart count) refl (some_hart draft.version hart range.0) refl room)
  form_done lines (Lines hart mask) plain range room ok =
      done_at n _ (event_done (Directed (Lines hart mask)) (event.Lines hart mask) refl (some_hart draft.version hart range.0) (eq-eqb _ _ range.1) room)
  form_done lines form plain range room ok = done_at n _ (directive_done (Directed form) _ refl room)

-- what is said has its room, and is assembled
record Holds (draft : Draft) (n : ℕ) (says : List Said) : Type 0 where
  assembled : AreAssembled says
  room : Room draft n says
  commands : FitCommands [] n says

-- the lines are read as the job that they say
record Reads (draft : Draft) (inside : Bool) (lines : List (List ℕ)) (n : ℕ) (says : List Said) : Type 0 where
  job : Job
  is : body_from draft inside n lines ≡ Ok job
  behind : IsBehind draft inside lines n job says

-- behind a line that says nothing to the draft
holds_next : (draft : Draft) (n : ℕ) (said : Said) (says : List Said) → harts_by_line said ≡ 0 → placed_by n said says ≡ [] → events_by said ≡ [] → commands_by n said ≡ [] → Holds draft n (said ∷ says) → Holds draft (n + 1) says
holds_next draft n said says none no_lines no_events no_commands held = record {
  assembled = held.assembled.1;
  room =
      room_next draft draft n said says (omega (arith, none))
      (sym (append-nil draft.lines) ∙ ap (λ ps. draft.lines ++ ps) (sym no_lines))
      (sym (append-nil draft.recording) ∙ ap (λ es. draft.recording ++ es) (sym no_events)) held.room;
  commands = subst (λ (cs : List Command). (length (cs ++ commands_said (n + 1) says) ≤ job_commands) × (breaks_in (cs ++ commands_said (n + 1) says) ≤ job_breaks)) no_commands held.commands;
}

abbrev Rest : List (List ℕ) → List Said → Place → Type 0
Rest lines says to = (draft : Draft) (inside : Bool) (n : ℕ) → GoesOn (place_in draft.version inside) lines says to → Holds draft n says → Reads draft inside lines n says

module _ (line : List ℕ) (lines : List (List ℕ)) (says : List Said) (to : Place) (draft : Draft) (n : ℕ) where
  -- inside an image
  inner_read : words_of line ≢ codes "end" ∷ [] → Reads draft true lines (n + 1) says → Reads draft true (line ∷ lines) n (Inner line ∷ says)
  unfolding body_from
  inner_read goes rest =
      let c : harts_count draft.harts + harts_lines says ≤ 1 = rest.behind.counted in
      record {
        job = rest.job;
        is = ap (λ b. body_from draft (not b) (n + 1) lines) (goes_not line goes) ∙ rest.is;
        behind = record {
          is = rest.behind.is;
          counted = omega (arith, c);
          assembled = (tt, rest.behind.assembled);
          inner = λ image. ap (λ ls. line ∷ ls) (rest.behind.inner refl) ∙ sym (before_next line lines ∙ ap (λ b. cond (not b) (line ∷ before_end lines) []) (goes_not line goes));
        };
      }

  end_read : IsAlone (codes "end") line → Reads draft false lines (n + 1) says → Reads draft true (line ∷ lines) n (Nothing ∷ says)
  unfolding body_from
  end_read alone rest =
      let c : harts_count draft.harts + harts_lines says ≤ 1 = rest.behind.counted in
      record {
        job = rest.job;
        is = ap (λ b. body_from draft (not b) (n + 1) lines) (is_ended line alone) ∙ rest.is;
        behind = record {
          is = rest.behind.is;
          counted = omega (arith, c);
          assembled = (tt, rest.behind.assembled);
          inner = λ image. sym (before_next line lines ∙ ap (λ b. cond (not b) (line ∷ before_end lines) []) (is_ended line alone));
        };
      }

  inside_read : (said : Said) (next : Place) → Rest lines says to → SaidWay (InsideImage draft.version) line said next → GoesOn next lines says to → Holds draft n (said ∷ says) → Reads draft true (line ∷ lines) n (said ∷ says)
  inside_read said next rest (inl w) on held =
      let h : Holds draft n (Inner line ∷ says) = subst (λ s. Holds draft n (s ∷ says)) w.1 held in
      subst (λ s. Reads draft true (line ∷ lines) n (s ∷ says)) (sym w.1)
      (inner_read w.0 (rest draft true (n + 1) (subst (λ (p : Place). GoesOn p lines says to) w.2 on) (holds_next draft n (Inner line) says refl refl refl refl h)))
  inside_read said next rest (inr w) on held =
      let h : Holds draft n (Nothing ∷ says) = subst (λ s. Holds draft n (s ∷ says)) w.2 held in
      subst (λ s. Reads draft true (line ∷ lines) n (s ∷ says)) (sym w.2)
      (end_read w.1 (rest draft false (n + 1) (subst (λ (p : Place). GoesOn p lines says to) w.3 on) (holds_next draft n Nothing says refl refl refl refl h)))

  -- among the directives
  line_read : (said : Said) (next : Draft) (image : Bool) → is_debug line ≡ false → begins_image draft.version line ≡ image → line_with draft n line lines ≡ Ok next → Told draft n line lines image said next → Reads next image lines (n + 1) says → Reads draft false (line ∷ lines) n (said ∷ says)
  unfolding body_from
  line_read said next image other begins made told rest = record {
    job = rest.job;
    is =
        ap (λ b. cond b (job_with draft (commands_from draft.version [] (n + 1) lines)) ((line_with draft n line lines) >>= (λ next. body_from next (begins_image draft.version line) (n + 1) lines))) other
        ∙ ap (λ r. (r >>= (λ next. body_from next (begins_image draft.version line) (n + 1) lines))) made
        ∙ ap (λ b. body_from next b (n + 1) lines) begins ∙ rest.is;
    behind = told_step line lines (body_good lines) draft n image next said told rest.job says rest.behind;
  }

  line_form : (form : Form) → IsAllowed line → IsLine draft.version (words_of line) form → line_with draft n line lines ≡ does draft n lines form
  unfolding line_with
  line_form form allowed is =
      let M = λ (r : Result Draft (ℕ × JobKind)). r ≡ does draft n lines form in
      holds M (is_allowed line) _ _ allowed (
      holds M (has_words line) _ _ (some_words draft.version line form is) (
      no_first M (begins_with (codes "debug") (words_of line)) _ _ (not_begun form (words_of line) is.written) (
      ap (words_with draft n lines) (form_means draft.version form (words_of line) is))))

  told_is : (form : Form) (next : Draft) → IsAllowed line → IsLine draft.version (words_of line) form → does draft n lines form ≡ Ok next → Told draft n line lines (is_image_form form) (Directed form) next
  told_is form next allowed is made = subst (SaysThis draft n line lines (is_image_form form) (Directed form)) made (does_says draft n line lines form allowed is)

  -- what is left holds behind a directive
  holds_behind : (form : Form) (next : Draft) (image : Bool) → (image ≡ true → inner_lines says ≡ before_end lines) → Told draft n line lines image (Directed form) next → Holds draft n (Directed form ∷ says) → Holds next (n + 1) says
  holds_behind form next image inner told held = record {
    assembled = held.assembled.1;
    room = room_next draft next n (Directed form) says told.counted (told.directives says inner) told.events held.room;
    commands = held.commands;
  }

  -- the version stays
  goes_from : (next : Draft) (image : Bool) → next.version ≡ draft.version → GoesOn (place_in draft.version image) lines says to → GoesOn (place_in next.version image) lines says to
  goes_from next image same on = subst (λ (v : JobVersion). GoesOn (place_in v image) lines says to) (sym same) on

  debug_read : IsAllowed line → IsAlone (codes "debug") line → CommandsRead draft.version [] (n + 1) lines says → Reads draft false (line ∷ lines) n (Nothing ∷ says)
  unfolding body_from
  debug_read allowed alone rest = record {
    job = job_in draft rest.0;
    is =
        ap (λ b. cond b (job_with draft (commands_from draft.version [] (n + 1) lines)) ((line_with draft n line lines) >>= (λ next. body_from next (begins_image draft.version line) (n + 1) lines))) (is_debugged line allowed alone)
        ∙ ap (job_with draft) rest.1;
    behind = debugged draft n line lines rest.0 says rest.2;
  }

  blank_line : IsBlank line → line_with draft n line lines ≡ Ok draft
  unfolding line_with
  blank_line w =
      let M = λ (r : Result Draft (ℕ × JobKind)). r ≡ Ok draft in
      holds M (is_allowed line) _ _ w.0 (fails M (has_words line) _ _ (blank_has line w.1) refl)

  directive_read : (said : Said) (next : Place) → IsOver to → Rest lines says to → SaidWay (AmongDirectives draft.version) line said next → GoesOn next lines says to → Holds draft n (said ∷ says) → Reads draft false (line ∷ lines) n (said ∷ says)
  directive_read said next over rest (inl w) on held =
      let h : Holds draft n (Nothing ∷ says) = subst (λ s. Holds draft n (s ∷ says)) w.1 held in
      let begins = blank_begins draft n line lines w.0.1 in
      subst (λ s. Reads draft false (line ∷ lines) n (s ∷ says)) (sym w.1)
      (line_read Nothing draft false (blank_not_debug line w.0.1) begins (blank_line w.0)
      (subst (λ b. Told draft n line lines b Nothing draft) begins (tells_nothing draft n line lines w.0.0 w.0.1))
      (rest draft false (n + 1) (subst (λ (p : Place). GoesOn p lines says to) w.2 on) (holds_next draft n Nothing says refl refl refl refl h)))
  directive_read said next over rest (inr (inl w)) on held =
      let h : Holds draft n (Directed w.0 ∷ says) = subst (λ s. Holds draft n (s ∷ says)) w.4 held in
      let d = form_done draft n says lines w.0 w.1 w.3.range h.room h.assembled.0 in
      let plain = plain_begins w.0 w.1 in
      let told : Told draft n line lines false (Directed w.0) d.0 = subst (λ b. Told draft n line lines b (Directed w.0) d.0) plain (told_is w.0 d.0 w.2 w.3 d.1) in
      subst (λ s. Reads draft false (line ∷ lines) n (s ∷ says)) (sym w.4)
      (line_read (Directed w.0) d.0 false (not_debug line (not_begun w.0 (words_of line) w.3.written)) (begins_it draft n line lines w.0 w.3 ∙ plain) (line_form w.0 w.2 w.3 ∙ d.1) told
      (rest d.0 false (n + 1) (goes_from d.0 false told.version (subst (λ (p : Place). GoesOn p lines says to) w.5 on)) (holds_behind w.0 d.0 false (λ image. cc) told h)))
  directive_read said next over rest (inr (inr (inl w))) on held =
      let form = Image w.0 w.1 in
      let h : Holds draft n (Directed (Image w.0 w.1) ∷ says) = subst (λ s. Holds draft n (s ∷ says)) w.4 held in
      let goes : GoesOn (InsideImage draft.version) lines says to = subst (λ (p : Place). GoesOn p lines says to) w.5 on in
      let inner = inner_is draft.version lines says to over goes in
      let d = image_done draft n says w.0 w.1 lines (ends_at draft.version lines says to over goes) inner h.assembled.0 h.room in
      let told : Told draft n line lines true (Directed (Image w.0 w.1)) d.0 = told_is (Image w.0 w.1) d.0 w.2 w.3 d.1 in
      subst (λ s. Reads draft false (line ∷ lines) n (s ∷ says)) (sym w.4)
      (line_read (Directed (Image w.0 w.1)) d.0 true (not_debug line (not_begun (Image w.0 w.1) (words_of line) w.3.written)) (begins_it draft n line lines (Image w.0 w.1) w.3) (line_form (Image w.0 w.1) w.2 w.3 ∙ d.1) told
      (rest d.0 true (n + 1) (goes_from d.0 true told.version goes) (holds_behind (Image w.0 w.1) d.0 true (λ image. inner) told h)))
  directive_read said next over rest (inr (inr (inr w))) on held =
      let h : Holds draft n (Nothing ∷ says) = subst (λ s. Holds draft n (s ∷ says)) w.2 held in
      subst (λ s. Reads draft false (line ∷ lines) n (s ∷ says)) (sym w.2)
      (debug_read w.0 w.1 (commands_read draft.version lines says to (n + 1) [] (subst (λ (p : Place). GoesOn p lines says to) w.3 on) h.commands))

body_read : (lines : List (List ℕ)) (says : List Said) (to : Place) → IsOver to → Rest lines says to
unfolding body_from
body_read [] [] to over draft true n on held = absurd (subst IsOver (sym on) over)
body_read [] [] to over draft false n on held = record {
  job = job_in draft [];
  is = refl;
  behind = nothing_behind draft n;
}
body_read [] (said ∷ says) to over draft inside n on held = absurd on
body_read (line ∷ lines) [] to over draft inside n on held = absurd on
body_read (line ∷ lines) (said ∷ says) to over draft true n on held =
    inside_read line lines says to draft n said on.0 (body_read lines says to over) (said_way (InsideImage draft.version) line said on.0 on.1) on.2 held
body_read (line ∷ lines) (said ∷ says) to over draft false n on held =
    directive_read line lines says to draft n said on.0 over (body_read lines says to over) (said_way (AmongDirectives draft.version) line said on.0 on.1) on.2 held

-- the lines from the header or the storage on are read as the job that they say
abbrev SaidJob : ℕ → List Said → Result Job (ℕ × JobKind) → Type 0
SaidJob n says r = (job : Job) × (r ≡ Ok job) × (job ≡ job_said n says)

module _ (version : JobVersion) (line : List ℕ) (lines : List (List ℕ)) (says : List Said) (to : Place) (n : ℕ) where
  storage_step : (said : Said) (next : Place) → IsOver to → (GoesOn (BeforeStorage version) lines says to → Holds (draft_of version 0) (n + 1) says → SaidJob (n + 1) says (storage_from version (n + 1) lines)) → SaidWay (BeforeStorage version) line said next → GoesOn next lines says to → Holds (draft_of version 0) n (said ∷ says) → SaidJob n (said ∷ says) (storage_from version n (line ∷ lines))
  unfolding storage_from
  storage_step said next over rest (inl w) on held =
      let h : Holds (draft_of version 0) n (Nothing ∷ says) = subst (λ s. Holds (draft_of version 0) n (s ∷ says)) w.1 held in
      let r = rest (subst (λ (p : Place). GoesOn p lines says to) w.2 on) (holds_next (draft_of version 0) n Nothing says refl refl refl refl h) in
      let M = λ (x : Result Job (ℕ × JobKind)). x ≡ Ok r.0 in
      let skip : r.0 ≡ job_said n (Nothing ∷ says) = r.2 in
      (r.0, holds M (is_allowed line) _ _ w.0.0 (fails M (has_words line) _ _ (blank_has line w.0.1) r.1), subst (λ s. r.0 ≡ job_said n (s ∷ says)) (sym w.1) skip)
  storage_step said next over rest (inr w) on held =
      let h : Holds (draft_of version 0) n (StorageOf w.0 ∷ says) = subst (λ s. Holds (draft_of version 0) n (s ∷ says)) w.3 held in
      let k : Holds (draft_of version w.0) (n + 1) says = record {
        assembled = h.assembled.1;
        room = room_next (draft_of version 0) (draft_of version w.0) n (StorageOf w.0) says refl refl refl h.room;
        commands = h.commands;
      } in
      let r = body_read lines says to over (draft_of version w.0) false (n + 1) (subst (λ (p : Place). GoesOn p lines says to) w.4 on) k in
      let M = λ (x : Result Job (ℕ × JobKind)). x ≡ Ok r.job in
      let stored : r.job ≡ job_said n (StorageOf w.0 ∷ says) = r.behind.is in
      (r.job, holds M (is_allowed line) _ _ w.1 (holds M (has_words line) _ _ (some_pages line w.0 w.2) (ap (behind_storage version n lines) (storage_means w.0 (words_of line) w.2) ∙ r.is)), subst (λ s. r.job ≡ job_said n (s ∷ says)) (sym w.3) stored)

storage_read : (version : JobVersion) (lines : List (List ℕ)) (says : List Said) (to : Place) (n : ℕ) → IsOver to → GoesOn (BeforeStorage version) lines says to → Holds (draft_of version 0) n says → SaidJob n says (storage_from version n lines)
storage_read version [] [] to n over on held = absurd (subst IsOver (sym on) over)
storage_read version [] (said ∷ says) to n over on held = absurd on
storage_read version (line ∷ lines) [] to n over on held = absurd on
storage_read version (line ∷ lines) (said ∷ says) to n over on held =
    storage_step version line lines says to n said on.0 over (storage_read version lines says to (n + 1) over) (said_way (BeforeStorage version) line said on.0 on.1) on.2 held

-- before the header no version is known yet
abbrev HoldsFirst : ℕ → List Said → Type 0
HoldsFirst n says = (version : JobVersion) → Holds (draft_of version 0) n says

module _ (line : List ℕ) (lines : List (List ℕ)) (says : List Said) (to : Place) (n : ℕ) where
  nothing_first : (said : Said) → said ≡ Nothing → HoldsFirst n (said ∷ says) → HoldsFirst (n + 1) says
  nothing_first said none held version =
      let h : Holds (draft_of version 0) n (Nothing ∷ says) = subst (λ s. Holds (draft_of version 0) n (s ∷ says)) none (held version) in
      holds_next (draft_of version 0) n Nothing says refl refl refl refl h

  header_step : (said : Said) (next : Place) → IsOver to → (GoesOn BeforeHeader lines says to → HoldsFirst (n + 1) says → SaidJob (n + 1) says (header_from (n + 1) lines)) → SaidWay BeforeHeader line said next → GoesOn next lines says to → HoldsFirst n (said ∷ says) → SaidJob n (said ∷ says) (header_from n (line ∷ lines))
  unfolding header_from
  header_step said next over rest (inl w) on held =
      let r = rest (subst (λ (p : Place). GoesOn p lines says to) w.2 on) (nothing_first said w.1 held) in
      let M = λ (x : Result Job (ℕ × JobKind)). x ≡ Ok r.0 in
      let skip : r.0 ≡ job_said n (Nothing ∷ says) = r.2 in
      (r.0, holds M (is_allowed line) _ _ w.0.0 (fails M (has_words line) _ _ (blank_has line w.0.1) r.1), subst (λ s. r.0 ≡ job_said n (s ∷ says)) (sym w.1) skip)
  header_step said next over rest (inr w) on held =
      let r = storage_read w.0 lines says to (n + 1) over (subst (λ (p : Place). GoesOn p lines says to) w.4 on) (nothing_first said w.3 held w.0) in
      let M = λ (x : Result Job (ℕ × JobKind)). x ≡ Ok r.0 in
      let skip : r.0 ≡ job_said n (Nothing ∷ says) = r.2 in
      (r.0, holds M (is_allowed line) _ _ w.1 (holds M (has_words line) _ _ (headed line w.0 w.2) (ap (behind_header n lines) (header_is (words_of line) w.0 w.2) ∙ r.1)), subst (λ s. r.0 ≡ job_said n (s ∷ says)) (sym w.3) skip)

header_read : (lines : List (List ℕ)) (says : List Said) (to : Place) (n : ℕ) → IsOver to → GoesOn BeforeHeader lines says to → HoldsFirst n says → SaidJob n says (header_from n lines)
header_read [] [] to n over on held = absurd (subst IsOver (sym on) over)
header_read [] (said ∷ says) to n over on held = absurd on
header_read (line ∷ lines) [] to n over on held = absurd on
header_read (line ∷ lines) (said ∷ says) to n over on held =
    header_step line lines says to n said on.0 over (header_read lines says to (n + 1) over) (said_way BeforeHeader line said on.0 on.1) on.2 held

-- what is said within the limits has its room
told_holds : (says : List Said) → AreAssembled says → IsWithinLimits says → HoldsFirst 1 says
told_holds says assembled within version =
    let one : harts_lines says ≤ 1 = within.harts in
    record {
      assembled = assembled;
      room = record {
        harts = omega (arith, one);
        limits = within.limits;
        steps = within.steps;
        events = within.events;
      };
      commands = (within.commands, within.breaks);
    }

told_job : (text : List ℕ) (job : Job) → IsTold (lines_of text) job → job_of text ≡ Ok job
unfolding job_of
told_job text job told =
    let r = header_read (lines_of text) told.says told.place 1 told.over told.goes_on (told_holds told.says told.assembled told.within) in
    r.1 ∙ ap (λ (j : Job). let x : Result Job (ℕ × JobKind) = Ok j in x) (r.2 ∙ sym told.is)

pub job_text : JobTextLaw
job_text text job = (accepted text job, told_job text job)
