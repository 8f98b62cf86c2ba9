-- Where all lines have their forms and places, little is left to refuse.
use Rattle.std.proofs.Common.{◌≡◌, ℕ, ◌+◌, nat_lt, Bool, true, false, not, cond, codes, List, [], ◌∷◌, length, Option, Some, None, Result, Ok, Err, inl, inr, refl, sym, ap, ◌∙◌, subst}
use Rattle.hv_asm.specs.Assembly.{asm_of}
use Rattle.hv_asm.specs.declared.AsmKind.{AsmKind}
use Rattle.hv_asm.specs.declared.AsmKind.TheVariants as asm
use Rattle.hv_irq.specs.Events.{refusal_of}
use Rattle.hv_irq.specs.declared.Event.{Event}
use Rattle.hv_irq.specs.declared.PushEnd.{PushEnd}
use Rattle.hv_irq.specs.declared.PushEnd.TheVariants as pushed
use Rattle.hv_lex.specs.Lines.{lines_of}
use Rattle.hv_samples.specs.Samples.{sample_text}
use Rattle.hv_line.specs.Statements.{statement_of}
use Rattle.hv_line.specs.Commands.{join_words_of}
use Rattle.hv_job.specs.Commands.{line_commands, commands_from, commands_then, commands_with, new_commands, is_over}
use Rattle.hv_job.specs.JobOf.{asm_kind, before_end, begins_image, body_from, draft_of, event_with, schedule_with, harts_with, behind_header, header_from, image_lines_with, image_of, image_with, image_words, is_debug, is_end, is_image, is_many, lines_with, job_of, job_with, line_with, directive_with, push_kind, sample_with, storage_from, behind_storage, words_with}
use Rattle.hv_line.specs.Lines.{begins_with, has_words, is_allowed, words_of}
use Rattle.hv_line.specs.declared.kinds.JobKind.{JobKind}
use Rattle.hv_line.specs.declared.kinds.JobKind.TheVariants as fault
use Rattle.hv_line.specs.declared.types.Statement.{Statement}
use Rattle.hv_line.specs.declared.types.DebugCommand.{DebugCommand}
use Rattle.hv_job.specs.declared.job.DebugLine.{DebugLine as Command}
use Rattle.hv_line.specs.declared.types.Directive.{Directive}
use Rattle.hv_line.specs.declared.types.Directive.TheVariants as directive
use Rattle.hv_job.specs.declared.job.Job.{Job}
use Rattle.hv_line.specs.declared.version.JobVersion.{JobVersion}
use Rattle.hv_grammar.specs.Forms.{Form, IsLine, Harts, Image, Sampled, Turn, Lines}
use Rattle.hv_grammar.specs.Said.{Said}
use Rattle.hv_grammar.specs.Texts.{GoesOn, IsAllowed, IsLate, IsOver, IsPlain, Place, ThroughTextLaw, AmongCommands, AmongDirectives, BeforeHeader, BeforeStorage, InsideImage, version_word}
use Rattle.hv_grammar.proofs.Calls.{commands_are_calls}
use Rattle.hv_grammar.proofs.Deeds.{Draft, does}
use Rattle.hv_grammar.proofs.Inside.{Ends}
use Rattle.hv_grammar.proofs.Means.{form_means, is_image_form, storage_means}
use Rattle.hv_grammar.proofs.Steps.{header_is}
use Rattle.hv_grammar.proofs.Telling.{Says, image_form, line_says, place_in}
use Rattle.hv_grammar.proofs.Ways.{IsBlank, Way, ends_at, goes_not, is_debugged, is_ended, not_begun, not_debug, some_call, some_pages, some_words, way}
use Rattle.hv_lex.specs.Refusing.{◌>>=◌, at_line}

-- what is refused is refused late
abbrev Late : {A : Type 0} → Result A (ℕ × JobKind) → Type 0
Late (Ok x) = Unit {0}
Late (Err refusal) = IsLate refusal.1

abbrev LateKind : {A : Type 0} → Result A JobKind → Type 0
LateKind (Ok x) = Unit {0}
LateKind (Err kind) = IsLate kind

late_at : {A : Type 0} (n : ℕ) (r : Result A JobKind) → LateKind r → Late (at_line n r)
late_at n (Ok x) late = tt
late_at n (Err kind) late = late

-- by a test that is known
pub yes_first : {A : Type 0} (M : A → Type 0) (b : Bool) (x y : A) → b ≡ true → M x → M (cond b x y)
yes_first M b x y is m = subst (λ b. M (cond b x y)) (sym is) m

pub no_first : {A : Type 0} (M : A → Type 0) (b : Bool) (x y : A) → b ≡ false → M y → M (cond b x y)
no_first M b x y is m = subst (λ b. M (cond b x y)) (sym is) m

pub holds : {A : Type 0} (M : A → Type 0) (b : Bool) (x y : A) → b ≡ true → M y → M (cond (not b) x y)
holds M b x y is m = subst (λ b. M (cond (not b) x y)) (sym is) m

pub fails : {A : Type 0} (M : A → Type 0) (b : Bool) (x y : A) → b ≡ false → M x → M (cond (not b) x y)
fails M b x y is m = subst (λ b. M (cond (not b) x y)) (sym is) m

pub blank_has : (line : List ℕ) → words_of line ≡ [] → has_words line ≡ false
blank_has line none = ap (λ ws. nat_lt 0 (length ws)) none

-- the commands
entered_late : (commands : List Command) (n : ℕ) (words : List (List ℕ)) (what : DebugCommand) (b : Bool) → LateKind (let r : Result (List Command) JobKind = cond b (Err fault.Many) (Ok (commands_with commands n (join_words_of words) what)) in r)
entered_late commands n words what true = tt
entered_late commands n words what false = tt

command_late : (version : JobVersion) (commands : List Command) (n : ℕ) (line : List ℕ) (next : Place) → Way (AmongCommands version) line next → LateKind (line_commands version commands n line)
unfolding line_commands
command_late version commands n line next (inl w) =
    holds LateKind (is_allowed line) (Err fault.Byte) _ w.0.0 (fails LateKind (has_words line) (Ok commands) _ (blank_has line w.0.1) tt)
command_late version commands n line next (inr w) =
    holds LateKind (is_allowed line) (Err fault.Byte) _ w.1 (
    holds LateKind (has_words line) (Ok commands) _ (some_call version line w.0 w.2) (
    subst (λ (r : Result DebugCommand JobKind). LateKind (r >>= new_commands commands n (words_of line))) (sym ((commands_are_calls version (words_of line) w.0).1 w.2)) (entered_late commands n (words_of line) w.0 (is_over commands w.0))))

to_commands : (version : JobVersion) (line : List ℕ) (next : Place) → Way (AmongCommands version) line next → next ≡ AmongCommands version
to_commands version line next (inl w) = w.1
to_commands version line next (inr w) = w.3

commands_then_late : (n : ℕ) (r : Result (List Command) JobKind) (f : List Command → Result (List Command) (ℕ × JobKind)) → LateKind r → ((next : List Command) → Late (f next)) → Late (commands_then n r f)
commands_then_late n (Ok next) f late rest = rest next
commands_then_late n (Err kind) f late rest = late

commands_late : (version : JobVersion) (lines : List (List ℕ)) (says : List Said) (to : Place) (n : ℕ) (commands : List Command) → GoesOn (AmongCommands version) lines says to → Late (commands_from version commands n lines)
unfolding commands_from
commands_late version [] says to n commands on = tt
commands_late version (line ∷ lines) [] to n commands on = absurd on
commands_late version (line ∷ lines) (said ∷ says) to n commands on =
    let w = way (AmongCommands version) line said on.0 on.1 in
    commands_then_late n (line_commands version commands n line) (λ next. commands_from version next (n + 1) lines) (command_late version commands n line on.0 w)
    (λ next. commands_late version lines says to (n + 1) next (subst (λ (p : Place). GoesOn p lines says to) (to_commands version line on.0 w) on.2))

job_late : (draft : Draft) (r : Result (List Command) (ℕ × JobKind)) → Late r → Late (job_with draft r)
job_late draft (Ok commands) late = tt
job_late draft (Err refusal) late = late

-- a directive
room_late : (b : Bool) (draft : Draft) → LateKind (let r : Result Draft JobKind = cond b (Err fault.Many) (Ok draft) in r)
room_late true draft = tt
room_late false draft = tt

placed_late : (draft : Draft) (n : ℕ) (what : Directive) → LateKind (directive_with draft n what)
unfolding directive_with
placed_late draft n what = room_late (is_many draft.lines what) (record draft { lines = lines_with draft.lines n what })

asm_late : (kind : AsmKind) → IsLate (asm_kind kind)
asm_late asm.Byte = tt
asm_late asm.Syntax = tt
asm_late asm.Repeat = tt
asm_late asm.Mnemonic = tt
asm_late asm.Operand = tt
asm_late asm.Label = tt
asm_late asm.Range = tt

push_late : (end : PushEnd) → IsLate (push_kind end)
push_late pushed.Many = tt
push_late pushed.Hart = tt
push_late _ = tt

event_late : (draft : Draft) (n : ℕ) (new : Event) (o : Option PushEnd) → LateKind (event_with draft n new o)
event_late draft n new (Some end) = push_late end
event_late draft n new None = tt

schedule_late : (draft : Draft) (n : ℕ) (new : Event) → LateKind (schedule_with draft n new)
unfolding schedule_with
schedule_late draft n new = event_late draft n new (refusal_of draft.recording new)

harts_late : (draft : Draft) (harts : ℕ) (o : Option ℕ) → LateKind (harts_with draft harts o)
harts_late draft harts None = tt
harts_late draft harts (Some before) = tt

sample_late : (draft : Draft) (n : ℕ) (name : List ℕ) (at : ℕ) (r : Result (List ℕ) (ℕ × AsmKind)) → LateKind (sample_with draft n name at r)
sample_late draft n name at (Ok words) = placed_late draft n _
sample_late draft n name at (Err refusal) = tt

-- an image whose end is there
module _ (draft : Draft) (n : ℕ) (name : List ℕ) (base : ℕ) (lines : List (List ℕ)) (ends : Ends lines) where
  words_late : (last : ℕ) (r : Result (List ℕ) (ℕ × AsmKind)) → Late (image_with draft n last ends.last name base r)
  words_late last (Ok words) =
      late_at last _ (yes_first LateKind (is_allowed ends.last) _ _ ends.allowed (placed_late draft n (directive.Image name (record { base = base; words = words }))))
  words_late last (Err refusal) = asm_late refusal.1

  image_late : Late (image_lines_with draft n name base lines)
  unfolding image_lines_with
  image_late =
      subst (λ o. Late (image_of draft n name base (before_end lines) o)) (sym ends.is)
      (words_late (n + 1 + length (before_end lines)) (image_words base (before_end lines)))

does_late : (draft : Draft) (n : ℕ) (behind : List (List ℕ)) (form : Form) → IsPlain form → Late (does draft n behind form)
does_late draft n behind (Image name at) plain = absurd plain
does_late draft n behind (Harts harts) plain = late_at n _ (harts_late draft harts draft.harts)
does_late draft n behind (Sampled name at which) plain = late_at n _ (sample_late draft n name at (asm_of (sample_text which) at))
does_late draft n behind (Turn hart count) plain = late_at n _ (schedule_late draft n _)
does_late draft n behind (Lines hart mask) plain = late_at n _ (schedule_late draft n _)
does_late draft n behind form plain = late_at n _ (placed_late draft n _)

module _ (draft : Draft) (n : ℕ) (line : List ℕ) (lines : List (List ℕ)) where
  blank_late : IsBlank line → Late (line_with draft n line lines)
  unfolding line_with
  blank_late w =
      holds {A = Result Draft (ℕ × JobKind)} Late (is_allowed line) _ _ w.0 (fails {A = Result Draft (ℕ × JobKind)} Late (has_words line) _ _ (blank_has line w.1) tt)

  form_late : (form : Form) → IsAllowed line → IsLine draft.version (words_of line) form → begins_with (codes "debug") (words_of line) ≡ false → Late (does draft n lines form) → Late (line_with draft n line lines)
  unfolding line_with
  form_late form allowed is begun late =
      holds {A = Result Draft (ℕ × JobKind)} Late (is_allowed line) _ _ allowed (
      holds {A = Result Draft (ℕ × JobKind)} Late (has_words line) _ _ (some_words draft.version line form is) (
      no_first {A = Result Draft (ℕ × JobKind)} Late (begins_with (codes "debug") (words_of line)) _ _ begun (
      subst (λ (r : Result Statement JobKind). Late (words_with draft n lines r)) (sym (form_means draft.version form (words_of line) is)) late)))

  pub begins_it : (form : Form) → IsLine draft.version (words_of line) form → begins_image draft.version line ≡ is_image_form form
  unfolding begins_image
  begins_it form is = ap is_image (form_means draft.version form (words_of line) is) ∙ image_form form

  pub blank_begins : words_of line ≡ [] → begins_image draft.version line ≡ false
  unfolding begins_image statement_of
  blank_begins none = ap (λ words. is_image (statement_of draft.version words)) none

and_late : (r : Result Draft (ℕ × JobKind)) (f : Draft → Result Job (ℕ × JobKind)) → Late r → ((next : Draft) → r ≡ Ok next → Late (f next)) → Late (r >>= f)
and_late (Ok next) f late rest = rest next refl
and_late (Err refusal) f late rest = late

pub plain_begins : (form : Form) → IsPlain form → is_image_form form ≡ false
plain_begins (Harts harts) plain = refl
plain_begins (Image name at) plain = absurd plain
plain_begins _ plain = refl

pub blank_not_debug : (line : List ℕ) → words_of line ≡ [] → is_debug line ≡ false
unfolding begins_with
blank_not_debug line none = not_debug line (ap (begins_with (codes "debug")) none)

-- no line changes the version
same_version : (draft next : Draft) (n : ℕ) (line : List ℕ) (lines : List (List ℕ)) → line_with draft n line lines ≡ Ok next → draft.version ≡ next.version
same_version draft next n line lines is =
    let told = subst (Says draft n line lines (begins_image draft.version line)) is (line_says draft n line lines) in
    sym told.1.version

-- the directives
abbrev Going : List (List ℕ) → Type 0
Going lines = (says : List Said) (to : Place) (draft : Draft) (inside : Bool) (n : ℕ) → IsOver to → GoesOn (place_in draft.version inside) lines says to → Late (body_from draft inside n lines)

module _ (line : List ℕ) (lines : List (List ℕ)) (rest : Going lines) (says : List Said) (to : Place) (draft : Draft) (n : ℕ) (over : IsOver to) where
  inside_late : (next : Place) → Way (InsideImage draft.version) line next → GoesOn next lines says to → Late (body_from draft (not (is_end line)) (n + 1) lines)
  inside_late next (inl w) on =
      subst (λ b. Late (body_from draft (not b) (n + 1) lines)) (sym (goes_not line w.0))
      (rest says to draft true (n + 1) over (subst (λ (p : Place). GoesOn p lines says to) w.1 on))
  inside_late next (inr w) on =
      subst (λ b. Late (body_from draft (not b) (n + 1) lines)) (sym (is_ended line w.1))
      (rest says to draft false (n + 1) over (subst (λ (p : Place). GoesOn p lines says to) w.2 on))

  abbrev from_here : Result Job (ℕ × JobKind)
  from_here = cond (is_debug line) (job_with draft (commands_from draft.version [] (n + 1) lines)) ((line_with draft n line lines) >>= (λ next. body_from next (begins_image draft.version line) (n + 1) lines))

  goes_late : (image : Bool) → is_debug line ≡ false → begins_image draft.version line ≡ image → Late (line_with draft n line lines) → GoesOn (place_in draft.version image) lines says to → Late from_here
  goes_late image other begins late on =
      no_first {A = Result Job (ℕ × JobKind)} Late (is_debug line) _ _ other
      (and_late (line_with draft n line lines) _ late (λ next is.
      subst (λ b. Late (body_from next b (n + 1) lines)) (sym begins)
      (rest says to next image (n + 1) over (subst (λ (v : JobVersion). GoesOn (place_in v image) lines says to) (same_version draft next n line lines is) on))))

  directive_late : (next : Place) → Way (AmongDirectives draft.version) line next → GoesOn next lines says to → Late from_here
  directive_late next (inl w) on =
      goes_late false (blank_not_debug line w.0.1) (blank_begins draft n line lines w.0.1) (blank_late draft n line lines w.0) (subst (λ (p : Place). GoesOn p lines says to) w.1 on)
  directive_late next (inr (inl w)) on =
      let begun = not_begun w.0 (words_of line) w.3.written in
      goes_late false (not_debug line begun) (begins_it draft n line lines w.0 w.3 ∙ plain_begins w.0 w.1) (form_late draft n line lines w.0 w.2 w.3 begun (does_late draft n lines w.0 w.1)) (subst (λ (p : Place). GoesOn p lines says to) w.4 on)
  directive_late next (inr (inr (inl w))) on =
      let begun = not_begun (Image w.0 w.1) (words_of line) w.3.written in
      let behind : GoesOn (InsideImage draft.version) lines says to = subst (λ (p : Place). GoesOn p lines says to) w.4 on in
      goes_late true (not_debug line begun) (begins_it draft n line lines (Image w.0 w.1) w.3) (form_late draft n line lines (Image w.0 w.1) w.2 w.3 begun (image_late draft n w.0 w.1 lines (ends_at draft.version lines says to over behind))) behind
  directive_late next (inr (inr (inr w))) on =
      yes_first {A = Result Job (ℕ × JobKind)} Late (is_debug line) _ _ (is_debugged line w.0 w.1)
      (job_late draft (commands_from draft.version [] (n + 1) lines) (commands_late draft.version lines says to (n + 1) [] (subst (λ (p : Place). GoesOn p lines says to) w.2 on)))

body_late : (lines : List (List ℕ)) → Going lines
unfolding body_from
body_late [] says to draft inside n over on = tt
body_late (line ∷ lines) [] to draft inside n over on = absurd on
body_late (line ∷ lines) (said ∷ says) to draft true n over on =
    inside_late line lines (body_late lines) says to draft n over on.0 (way (InsideImage draft.version) line said on.0 on.1) on.2
body_late (line ∷ lines) (said ∷ says) to draft false n over on =
    directive_late line lines (body_late lines) says to draft n over on.0 (way (AmongDirectives draft.version) line said on.0 on.1) on.2

-- the storage
module _ (version : JobVersion) (line : List ℕ) (lines : List (List ℕ)) (says : List Said) (to : Place) (n : ℕ) (over : IsOver to) where
  storage_step : (next : Place) → (GoesOn (BeforeStorage version) lines says to → Late (storage_from version (n + 1) lines)) → Way (BeforeStorage version) line next → GoesOn next lines says to → Late (storage_from version n (line ∷ lines))
  unfolding storage_from
  storage_step next rest (inl w) on =
      holds {A = Result Job (ℕ × JobKind)} Late (is_allowed line) _ _ w.0.0
      (fails {A = Result Job (ℕ × JobKind)} Late (has_words line) _ _ (blank_has line w.0.1) (rest (subst (λ (p : Place). GoesOn p lines says to) w.1 on)))
  storage_step next rest (inr w) on =
      holds {A = Result Job (ℕ × JobKind)} Late (is_allowed line) _ _ w.1
      (holds {A = Result Job (ℕ × JobKind)} Late (has_words line) _ _ (some_pages line w.0 w.2)
      (subst (λ (r : Result ℕ JobKind). Late (behind_storage version n lines r)) (sym (storage_means w.0 (words_of line) w.2))
      (body_late lines says to (draft_of version w.0) false (n + 1) over (subst (λ (p : Place). GoesOn p lines says to) w.3 on))))

storage_late : (version : JobVersion) (lines : List (List ℕ)) (says : List Said) (to : Place) (n : ℕ) → IsOver to → GoesOn (BeforeStorage version) lines says to → Late (storage_from version n lines)
storage_late version [] [] to n over on = absurd (subst IsOver (sym on) over)
storage_late version [] (said ∷ says) to n over on = absurd on
storage_late version (line ∷ lines) [] to n over on = absurd on
storage_late version (line ∷ lines) (said ∷ says) to n over on =
    storage_step version line lines says to n over on.0 (storage_late version lines says to (n + 1) over) (way (BeforeStorage version) line said on.0 on.1) on.2

-- the header
pub headed : (line : List ℕ) (version : JobVersion) → words_of line ≡ codes "job" ∷ version_word version ∷ [] → has_words line ≡ true
headed line version is = ap (λ (ws : List (List ℕ)). nat_lt 0 (length ws)) is

module _ (line : List ℕ) (lines : List (List ℕ)) (says : List Said) (to : Place) (n : ℕ) (over : IsOver to) where
  header_step : (next : Place) → (GoesOn BeforeHeader lines says to → Late (header_from (n + 1) lines)) → Way BeforeHeader line next → GoesOn next lines says to → Late (header_from n (line ∷ lines))
  unfolding header_from
  header_step next rest (inl w) on =
      holds {A = Result Job (ℕ × JobKind)} Late (is_allowed line) _ _ w.0.0
      (fails {A = Result Job (ℕ × JobKind)} Late (has_words line) _ _ (blank_has line w.0.1) (rest (subst (λ (p : Place). GoesOn p lines says to) w.1 on)))
  header_step next rest (inr w) on =
      holds {A = Result Job (ℕ × JobKind)} Late (is_allowed line) _ _ w.1
      (holds {A = Result Job (ℕ × JobKind)} Late (has_words line) _ _ (headed line w.0 w.2)
      (subst (λ (o : Option JobVersion). Late (behind_header n lines o)) (sym (header_is (words_of line) w.0 w.2))
      (storage_late w.0 lines says to (n + 1) over (subst (λ (p : Place). GoesOn p lines says to) w.3 on))))

header_late : (lines : List (List ℕ)) (says : List Said) (to : Place) (n : ℕ) → IsOver to → GoesOn BeforeHeader lines says to → Late (header_from n lines)
header_late [] [] to n over on = absurd (subst IsOver (sym on) over)
header_late [] (said ∷ says) to n over on = absurd on
header_late (line ∷ lines) [] to n over on = absurd on
header_late (line ∷ lines) (said ∷ says) to n over on =
    header_step line lines says to n over on.0 (header_late lines says to (n + 1) over) (way BeforeHeader line said on.0 on.1) on.2

pub no_other_fault : ThroughTextLaw
unfolding job_of
no_other_fault text says place on over number kind is =
    subst (λ (r : Result Job (ℕ × JobKind)). Late r) is (header_late (lines_of text) says place 1 over on)
