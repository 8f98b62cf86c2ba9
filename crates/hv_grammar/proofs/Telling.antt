-- What a line of directives tells.
use Rattle.std.proofs.Common.{◌≡◌, ℕ, zero, suc, ◌+◌, ◌≤◌, Bool, true, false, cond, codes, List, [], ◌∷◌, ◌++◌, length, map, take, find, Option, Some, None, Result, Ok, Err, refl, sym, ap, ◌∙◌, subst, arith, append-nil}
use Rattle.std.specs.Result.{is_ok}
use Rattle.hv_asm.specs.Assembly.{asm_of}
use Rattle.hv_asm.specs.declared.AsmKind.{AsmKind}
use Rattle.hv_irq.specs.Events.{refusal_of}
use Rattle.hv_irq.specs.declared.Event.{Event}
use Rattle.hv_irq.specs.declared.Event.TheVariants as event
use Rattle.hv_irq.specs.declared.PushEnd.{PushEnd}
use Rattle.hv_samples.specs.Samples.{sample_text}
use Rattle.hv_samples.specs.declared.choice.Sample.{Sample}
use Rattle.hv_line.specs.Statements.{statement_of}
use Rattle.hv_job.specs.JobOf.{before_end, begins_image, event_directive, event_with, schedule_with, harts_with, image_lines_with, image_of, image_with, image_words, is_end, is_image, is_many, line_with, lines_with, directive_with, sample_with, words_with}
use Rattle.hv_line.specs.Lines.{begins_with, has_words, is_allowed, words_of}
use Rattle.hv_line.specs.declared.kinds.JobKind.{JobKind}
use Rattle.hv_line.specs.declared.kinds.JobKind.TheVariants as fault
use Rattle.hv_line.specs.declared.types.Statement.{Statement}
use Rattle.hv_line.specs.declared.types.Directive.{Directive}
use Rattle.hv_line.specs.declared.types.Directive.TheVariants as directive
use Rattle.hv_line.specs.declared.version.JobVersion.{JobVersion}
use Rattle.hv_grammar.specs.Forms.{Form, IsLine, Harts, Image, Sampled, Turn, Lines, states_for}
use Rattle.hv_grammar.specs.Said.{AssemblesWith, Said, Directed, Inner, Nothing, FormAssembles, assembled, commands_by, directives_by, events_by, harts_by, inner_lines, on_line, placed_by}
use Rattle.hv_grammar.specs.Within.{harts_by_line}
use Rattle.hv_grammar.specs.Texts.{Goes, IsAllowed, Place, AmongDirectives, InsideImage, NoWords, DirectiveLine, ImageLine}
use Rattle.hv_grammar.proofs.Deeds.{Draft, does}
use Rattle.hv_grammar.proofs.Formed.{Formed, words_formed}
use Rattle.hv_grammar.proofs.Inside.{Ends, before_few, image_at, inner_goes}
use Rattle.hv_grammar.proofs.Means.{form_means, is_image_form}
use Rattle.hv_grammar.proofs.Steps.{Stops, by_result, by_test, no_words, stops, unless}
use Rattle.hv_lex.specs.Refusing.{at_line}

-- where the lines behind a line stand
abbrev pub place_in : JobVersion → Bool → Place
place_in version true = InsideImage version
place_in version false = AmongDirectives version

abbrev pub or_first : Option ℕ → Option ℕ → Option ℕ
or_first (Some n) more = Some n
or_first None more = more

-- which forms begin an image
pub image_form : (form : Form) → is_image (Ok (states_for form)) ≡ is_image_form form
image_form (Harts harts) = refl
image_form form = refl

-- how many lines have told the number of harts
abbrev pub harts_count : Option ℕ → ℕ
harts_count (Some n) = 1
harts_count None = 0

-- what a line tells: where it goes, and the draft that it makes
pub record Told (draft : Draft) (n : ℕ) (line : List ℕ) (lines : List (List ℕ)) (image : Bool) (said : Said) (next : Draft) : Type 0 where
  pub goes : Goes (AmongDirectives draft.version) line said (place_in draft.version image)
  pub ends : image ≡ true → Ends lines
  pub version : next.version ≡ draft.version
  pub pages : next.pages ≡ draft.pages
  pub harts : (more : Option ℕ) → or_first next.harts more ≡ or_first draft.harts (harts_by said more)
  pub directives : (behind : List Said) → (image ≡ true → inner_lines behind ≡ before_end lines) → next.lines ≡ draft.lines ++ placed_by n said behind
  pub counted : harts_count next.harts ≡ harts_count draft.harts + harts_by_line said
  pub events : next.recording ≡ draft.recording ++ events_by said
  pub calls : commands_by n said ≡ []
  pub assembled : (behind : List Said) → (image ≡ true → inner_lines behind ≡ before_end lines) → AssemblesWith said behind

-- a line of directives goes on, and the image that it begins has an end; or it is refused, perhaps inside its image
abbrev pub Says : Draft → ℕ → List ℕ → List (List ℕ) → Bool → Result Draft (ℕ × JobKind) → Type 0
Says draft n line lines image (Ok next) = (said : Said) × Told draft n line lines image said next
Says draft n line lines image (Err refusal) = Stops (AmongDirectives draft.version) n (line ∷ lines) refusal.0

-- the same of what is said
abbrev pub SaysThis : Draft → ℕ → List ℕ → List (List ℕ) → Bool → Said → Result Draft (ℕ × JobKind) → Type 0
SaysThis draft n line lines image said (Ok next) = Told draft n line lines image said next
SaysThis draft n line lines image said (Err refusal) = Stops (AmongDirectives draft.version) n (line ∷ lines) refusal.0

says_some : (draft : Draft) (n : ℕ) (line : List ℕ) (lines : List (List ℕ)) (image : Bool) (said : Said) (r : Result Draft (ℕ × JobKind)) → SaysThis draft n line lines image said r → Says draft n line lines image r
says_some draft n line lines image said (Ok next) told = (said, told)
says_some draft n line lines image said (Err refusal) stop = stop

-- refused inside the image, or at its end
inner_stops : (version : JobVersion) (n j m : ℕ) (line : List ℕ) (lines : List (List ℕ)) (said : Said) → Goes (AmongDirectives version) line said (InsideImage version) → j ≤ length (before_end lines) → m ≡ n + suc j → Stops (AmongDirectives version) n (line ∷ lines) m
inner_stops version n j m line lines said goes few is =
    let all = before_few lines in
    record {
      k = suc j;
      is = is;
      within = omega (arith, few, all);
      says = said ∷ map Inner (take j lines);
      place = InsideImage version;
      goes_on = (InsideImage version, goes, inner_goes version j lines few);
    }

module _ (draft : Draft) (n : ℕ) (line : List ℕ) (lines : List (List ℕ)) where
  refused : Stops (AmongDirectives draft.version) n (line ∷ lines) n
  refused = stops (AmongDirectives draft.version) n (line ∷ lines)

  -- an image
  module _ (name : List ℕ) (base : ℕ) (goes : Goes (AmongDirectives draft.version) line (Directed (Image name base)) (InsideImage draft.version)) where
    image_told : (last words : List ℕ) → find is_end lines ≡ Some last → IsAllowed last → image_words base (before_end lines) ≡ Ok words → (b : Bool) → SaysThis draft n line lines true (Directed (Image name base)) (at_line (n + 1 + length (before_end lines)) (cond b (Err fault.Many) (Ok (record draft { lines = lines_with draft.lines n (directive.Image name (record { base = base; words = words })) }))))
    image_told last words found allowed is true = inner_stops draft.version n (length (before_end lines)) _ line lines (Directed (Image name base)) goes (omega arith) (omega arith)
    image_told last words found allowed is false = record {
      goes = goes;
      ends = λ image. record { last = last; is = found; allowed = allowed };
      version = refl;
      pages = refl;
      harts = λ more. refl;
      directives = λ behind inner.
          ap (λ (ws : List ℕ). lines_with draft.lines n (directive.Image name (record { base = base; words = ws })))
          (sym (ap (λ ls. assembled (image_words base ls)) (inner refl) ∙ ap assembled is));
      counted = omega arith;
      events = sym (append-nil draft.recording);
      calls = refl;
      assembled = λ behind inner. ap (λ ls. is_ok (image_words base ls)) (inner refl) ∙ ap is_ok is;
    }

    end_told : (last words : List ℕ) → find is_end lines ≡ Some last → image_words base (before_end lines) ≡ Ok words → SaysThis draft n line lines true (Directed (Image name base)) (at_line (n + 1 + length (before_end lines)) (cond (is_allowed last) (directive_with draft n (directive.Image name (record { base = base; words = words }))) (Err fault.Byte)))
    unfolding directive_with
    end_told last words found is =
        by_test (λ (r : Result Draft JobKind). SaysThis draft n line lines true (Directed (Image name base)) (at_line (n + 1 + length (before_end lines)) r)) (is_allowed last) _ _
        (λ allowed. image_told last words found allowed is (is_many draft.lines (directive.Image name (record { base = base; words = words }))))
        (λ no. inner_stops draft.version n (length (before_end lines)) _ line lines (Directed (Image name base)) goes (omega arith) (omega arith))

    inside : (k : ℕ) (kind : AsmKind) → image_words base (before_end lines) ≡ Err (k, kind) → Stops (AmongDirectives draft.version) n (line ∷ lines) (n + k)
    inside zero kind is = let a = image_at base zero kind (before_end lines) is in let l : 1 ≤ zero = a.0 in absurd (omega (arith, l))
    inside (suc j) kind is =
        let a = image_at base (suc j) kind (before_end lines) is in let h : suc j ≤ length (before_end lines) = a.1 in
        inner_stops draft.version n j (n + suc j) line lines (Directed (Image name base)) goes (omega (arith, h)) refl

    image_given : (o : Option (List ℕ)) → find is_end lines ≡ o → SaysThis draft n line lines true (Directed (Image name base)) (image_of draft n name base (before_end lines) o)
    image_given None found = refused
    image_given (Some last) found =
        by_result (λ (r : Result (List ℕ) (ℕ × AsmKind)). SaysThis draft n line lines true (Directed (Image name base)) (image_with draft n (n + 1 + length (before_end lines)) last name base r)) (image_words base (before_end lines))
        (λ words is. end_told last words found is) (λ refusal is. inside refusal.0 refusal.1 is)

    image_says : SaysThis draft n line lines true (Directed (Image name base)) (image_lines_with draft n name base lines)
    unfolding image_lines_with
    image_says = image_given (find is_end lines) refl

  -- a directive without an event
  placed_told : (form : Form) (what : Directive) → Goes (AmongDirectives draft.version) line (Directed form) (AmongDirectives draft.version) → ((behind : List Said) → directives_by form behind ≡ what ∷ []) → events_by (Directed form) ≡ [] → ((more : Option ℕ) → harts_by (Directed form) more ≡ more) → harts_by_line (Directed form) ≡ 0 → ((behind : List Said) → FormAssembles form behind) → SaysThis draft n line lines false (Directed form) (at_line n (directive_with draft n what))
  unfolding directive_with
  placed_told form what goes one none same uncounted assembles =
      by_test (λ (r : Result Draft JobKind). SaysThis draft n line lines false (Directed form) (at_line n r)) (is_many draft.lines what) _ _ (λ many. refused) (λ few. record {
        goes = goes;
        ends = λ image. cc;
        version = refl;
        pages = refl;
        harts = λ more. ap (or_first draft.harts) (sym (same more));
        directives = λ behind inner. ap (λ ds. draft.lines ++ on_line n ds) (sym (one behind));
        counted = omega (arith, uncounted);
        events = sym (ap (λ es. draft.recording ++ es) none ∙ append-nil draft.recording);
        calls = refl;
        assembled = λ behind inner. assembles behind;
      })

  -- a sample
  sample_told : (name : List ℕ) (at : ℕ) (which : Sample) → Goes (AmongDirectives draft.version) line (Directed (Sampled name at which)) (AmongDirectives draft.version) → (r : Result (List ℕ) (ℕ × AsmKind)) → asm_of (sample_text which) at ≡ r → SaysThis draft n line lines false (Directed (Sampled name at which)) (at_line n (sample_with draft n name at r))
  sample_told name at which goes (Ok words) is =
      placed_told (Sampled name at which) (directive.Sample name (record { base = at; words = words })) goes
      (λ behind. ap (λ (r : Result (List ℕ) (ℕ × AsmKind)). directive.Sample name (record { base = at; words = assembled r }) ∷ []) is) refl (λ more. refl) refl (λ behind. ap is_ok is)
  sample_told name at which goes (Err refusal) is = refused

  -- an event
  event_told : (form : Form) (new : Event) → Goes (AmongDirectives draft.version) line (Directed form) (AmongDirectives draft.version) → ((behind : List Said) → directives_by form behind ≡ event_directive new ∷ []) → events_by (Directed form) ≡ new ∷ [] → ((more : Option ℕ) → harts_by (Directed form) more ≡ more) → harts_by_line (Directed form) ≡ 0 → ((behind : List Said) → FormAssembles form behind) → (o : Option PushEnd) → SaysThis draft n line lines false (Directed form) (at_line n (event_with draft n new o))
  event_told form new goes one some same uncounted assembles (Some end) = refused
  event_told form new goes one some same uncounted assembles None = record {
    goes = goes;
    ends = λ image. cc;
    version = refl;
    pages = refl;
    harts = λ more. ap (or_first draft.harts) (sym (same more));
    directives = λ behind inner. ap (λ ds. draft.lines ++ on_line n ds) (sym (one behind));
    counted = omega (arith, uncounted);
    events = ap (λ es. draft.recording ++ es) (sym some);
    calls = refl;
    assembled = λ behind inner. assembles behind;
  }

  schedule_told : (form : Form) (new : Event) → Goes (AmongDirectives draft.version) line (Directed form) (AmongDirectives draft.version) → ((behind : List Said) → directives_by form behind ≡ event_directive new ∷ []) → events_by (Directed form) ≡ new ∷ [] → ((more : Option ℕ) → harts_by (Directed form) more ≡ more) → harts_by_line (Directed form) ≡ 0 → ((behind : List Said) → FormAssembles form behind) → SaysThis draft n line lines false (Directed form) (at_line n (schedule_with draft n new))
  unfolding schedule_with
  schedule_told form new goes one some same uncounted assembles =
      event_told form new goes one some same uncounted assembles (refusal_of draft.recording new)

  -- the number of harts
  harts_told : (harts : ℕ) → Goes (AmongDirectives draft.version) line (Directed (Harts harts)) (AmongDirectives draft.version) → (o : Option ℕ) → draft.harts ≡ o → SaysThis draft n line lines false (Directed (Harts harts)) (at_line n (harts_with draft harts o))
  harts_told harts goes (Some before) is = refused
  harts_told harts goes None is = record {
    goes = goes;
    ends = λ image. cc;
    version = refl;
    pages = refl;
    harts = λ more. ap (λ o. or_first o (Some harts)) (sym is);
    directives = λ behind inner. sym (append-nil draft.lines);
    counted = ap (λ o. harts_count o + 1) (sym is);
    events = sym (append-nil draft.recording);
    calls = refl;
    assembled = λ behind inner. tt;
  }

  pub does_says : (form : Form) → IsAllowed line → IsLine draft.version (words_of line) form → SaysThis draft n line lines (is_image_form form) (Directed form) (does draft n lines form)
  does_says (Harts harts) allowed is = harts_told harts (DirectiveLine (Harts harts) tt allowed is) draft.harts refl
  does_says (Image name at) allowed is = image_says name at (ImageLine name at allowed is)
  does_says (Sampled name at which) allowed is =
      sample_told name at which (DirectiveLine (Sampled name at which) tt allowed is) (asm_of (sample_text which) at) refl
  does_says (Turn hart count) allowed is =
      schedule_told (Turn hart count) (event.Turn hart count) (DirectiveLine (Turn hart count) tt allowed is) (λ behind. refl) refl (λ more. refl) refl (λ behind. tt)
  does_says (Lines hart mask) allowed is =
      schedule_told (Lines hart mask) (event.Lines hart mask) (DirectiveLine (Lines hart mask) tt allowed is) (λ behind. refl) refl (λ more. refl) refl (λ behind. tt)
  does_says form allowed is =
      placed_told form _ (DirectiveLine form tt allowed is) (λ behind. refl) refl (λ more. refl) refl (λ behind. tt)

  asked_says : (asked : Statement) → IsAllowed line → statement_of draft.version (words_of line) ≡ Ok asked → Says draft n line lines (begins_image draft.version line) (words_with draft n lines (statement_of draft.version (words_of line)))
  unfolding begins_image
  asked_says asked allowed is =
      let f : Formed draft.version (words_of line) = words_formed draft.version (words_of line) asked is in
      let m = form_means draft.version f.0 (words_of line) f.1 in
      subst (λ (r : Result Statement JobKind). Says draft n line lines (is_image r) (words_with draft n lines r)) (sym m)
      (subst (λ b. Says draft n line lines b (does draft n lines f.0)) (sym (image_form f.0)) (says_some draft n line lines (is_image_form f.0) (Directed f.0) (does draft n lines f.0) (does_says f.0 allowed f.1)))

  no_image : words_of line ≡ [] → begins_image draft.version line ≡ false
  unfolding begins_image statement_of
  no_image none = ap (λ words. is_image (statement_of draft.version words)) none

  pub skipped : IsAllowed line → words_of line ≡ [] → Told draft n line lines (begins_image draft.version line) Nothing draft
  skipped allowed none =
      subst (λ b. Told draft n line lines b Nothing draft) (sym (no_image none))
      (record {
        goes = NoWords tt allowed none;
        ends = λ image. cc;
        version = refl;
        pages = refl;
        harts = λ more. refl;
        directives = λ behind inner. sym (append-nil draft.lines);
        counted = omega arith;
        events = sym (append-nil draft.recording);
        calls = refl;
        assembled = λ behind inner. tt;
      })

  given : IsAllowed line → (r : Result Statement JobKind) → statement_of draft.version (words_of line) ≡ r → Says draft n line lines (begins_image draft.version line) (words_with draft n lines (statement_of draft.version (words_of line)))
  given allowed (Ok asked) is = asked_says asked allowed is
  given allowed (Err kind) is =
      subst (λ (r : Result Statement JobKind). Says draft n line lines (begins_image draft.version line) (words_with draft n lines r)) (sym is) refused

  pub line_says : Says draft n line lines (begins_image draft.version line) (line_with draft n line lines)
  unfolding line_with
  line_says =
      unless (Says draft n line lines (begins_image draft.version line)) (is_allowed line) _ _ (λ no. refused) (λ allowed.
      unless (Says draft n line lines (begins_image draft.version line)) (has_words line) _ _ (λ none. (Nothing, skipped allowed (no_words line none))) (λ some.
      by_test (Says draft n line lines (begins_image draft.version line)) (begins_with (codes "debug") (words_of line)) _ _ (λ debug. refused) (λ directive.
      given allowed (statement_of draft.version (words_of line)) refl)))
