-- The ways that a line may go from a place.
use Rattle.std.proofs.Common.{◌≡◌, ◌≢◌, ◌⊎◌, ℕ, nat_lt, Bool, true, false, cond, codes, List, [], ◌∷◌, length, find, Some, inl, inr, refl, sym, ap, ◌∙◌, subst, arith}
use Rattle.std.proofs.lemmas.Bool.{lt-ltb}
use Rattle.hv_job.specs.JobOf.{is_debug, is_end}
use Rattle.hv_line.specs.Lines.{begins_with, has_words, words_of}
use Rattle.hv_line.specs.declared.types.DebugCommand.{DebugCommand}
use Rattle.hv_line.specs.declared.version.JobVersion.{JobVersion}
use Rattle.hv_grammar.specs.Forms.{AreWords, Call, Form, IsCall, IsLine, IsStorageLine, Harts, Image, Fixed, Spelt, StepCall, call_words, form_words}
use Rattle.hv_grammar.specs.Said.{Said}
use Rattle.hv_grammar.specs.Texts.{Goes, GoesOn, IsAllowed, IsAlone, IsOutside, IsOver, IsPlain, Place, AmongCommands, AmongDirectives, BeforeHeader, BeforeStorage, InsideImage, NoWords, Header, StorageLine, DirectiveLine, ImageLine, InnerLine, EndLine, DebugLine, CommandLine, version_word}
use Rattle.hv_grammar.proofs.Inside.{Ends}
use Rattle.hv_grammar.proofs.Steps.{debug_says, end_says, goes_says, only_is}
use Rattle.hv_grammar.proofs.Tests.{both_is}

-- a line without words
abbrev pub IsBlank : List ℕ → Type 0
IsBlank line = IsAllowed line × words_of line ≡ []

abbrev pub Way : Place → List ℕ → Place → Type 0
Way BeforeHeader line next =
    (IsBlank line × next ≡ BeforeHeader) ⊎ ((version : JobVersion) × IsAllowed line × words_of line ≡ codes "job" ∷ version_word version ∷ [] × next ≡ BeforeStorage version)
Way (BeforeStorage version) line next =
    (IsBlank line × next ≡ BeforeStorage version) ⊎ ((pages : ℕ) × IsAllowed line × IsStorageLine (words_of line) pages × next ≡ AmongDirectives version)
Way (AmongDirectives version) line next =
    (IsBlank line × next ≡ AmongDirectives version)
    ⊎ (((form : Form) × IsPlain form × IsAllowed line × IsLine version (words_of line) form × next ≡ AmongDirectives version)
    ⊎ (((name : List ℕ) × (at : ℕ) × IsAllowed line × IsLine version (words_of line) (Image name at) × next ≡ InsideImage version)
    ⊎ (IsAllowed line × IsAlone (codes "debug") line × next ≡ AmongCommands version)))
Way (InsideImage version) line next =
    (words_of line ≢ codes "end" ∷ [] × next ≡ InsideImage version) ⊎ (IsAllowed line × IsAlone (codes "end") line × next ≡ AmongDirectives version)
Way (AmongCommands version) line next =
    (IsBlank line × next ≡ AmongCommands version) ⊎ ((what : DebugCommand) × IsAllowed line × IsCall version (words_of line) what × next ≡ AmongCommands version)

blank : (place : Place) (line : List ℕ) → IsOutside place → IsAllowed line → words_of line ≡ [] → Way place line place
blank BeforeHeader line outside allowed none = inl ((allowed, none), refl)
blank (BeforeStorage version) line outside allowed none = inl ((allowed, none), refl)
blank (AmongDirectives version) line outside allowed none = inl ((allowed, none), refl)
blank (InsideImage version) line outside allowed none = absurd outside
blank (AmongCommands version) line outside allowed none = inl ((allowed, none), refl)

pub way : (here : Place) (line : List ℕ) (said : Said) (next : Place) → Goes here line said next → Way here line next
way here line said next (NoWords outside allowed none) = blank next line outside allowed none
way here line said next (Header version allowed is) = inr (version, allowed, is, refl)
way here line said next (StorageLine pages allowed is) = inr (pages, allowed, is, refl)
way here line said next (DirectiveLine form plain allowed is) = inr (inl (form, plain, allowed, is, refl))
way here line said next (ImageLine name at allowed is) = inr (inr (inl (name, at, allowed, is, refl)))
way here line said next (InnerLine goes) = inl (goes, refl)
way here line said next (EndLine allowed is) = inr (allowed, is, refl)
way here line said next (DebugLine allowed is) = inr (inr (inr (allowed, is, refl)))
way here line said next (CommandLine what allowed is) = inr (what, allowed, is, refl)

-- an image that is left has its end
found : (version : JobVersion) (lines : List (List ℕ)) (says : List Said) (to next : Place) (line : List ℕ) (b : Bool) → is_end line ≡ b → Way (InsideImage version) line next → GoesOn next lines says to → (GoesOn (InsideImage version) lines says to → Ends lines) → Ends (line ∷ lines)
found version lines says to next line true is (inl goes) on rest = absurd (goes.0 (end_says line is))
found version lines says to next line false is (inl goes) on rest =
    let e = rest (subst (λ (p : Place). GoesOn p lines says to) goes.1 on) in
    record { last = e.last; is = ap (λ b. cond b (Some line) (find is_end lines)) is ∙ e.is; allowed = e.allowed }
found version lines says to next line true is (inr ends) on rest =
    record { last = line; is = ap (λ b. cond b (Some line) (find is_end lines)) is; allowed = ends.0 }
found version lines says to next line false is (inr ends) on rest = absurd (goes_says line is ends.1)

pub ends_at : (version : JobVersion) (lines : List (List ℕ)) (says : List Said) (to : Place) → IsOver to → GoesOn (InsideImage version) lines says to → Ends lines
ends_at version [] [] to over on = absurd (subst IsOver (sym on) over)
ends_at version (line ∷ lines) (said ∷ says) to over on =
    found version lines says to on.0 line (is_end line) refl (way (InsideImage version) line said on.0 on.1) on.2 (ends_at version lines says to over)
ends_at version [] (said ∷ says) to over on = absurd on
ends_at version (line ∷ lines) [] to over on = absurd on

-- what a line of a form begins with
pub not_begun : (form : Form) (words : List (List ℕ)) → AreWords (form_words form) words → begins_with (codes "debug") words ≡ false
unfolding begins_with
not_begun (Harts harts) (w ∷ ws) are = ap (λ w. begins_with (codes "debug") (w ∷ ws)) are.0
not_begun (Harts harts) [] are = absurd are
not_begun form (w ∷ ws) are = ap (λ w. begins_with (codes "debug") (w ∷ ws)) are.0
not_begun form [] are = absurd are

pub not_debug : (line : List ℕ) → begins_with (codes "debug") (words_of line) ≡ false → is_debug line ≡ false
unfolding begins_with
not_debug line other = go (is_debug line) refl
  where
    go : (b : Bool) → is_debug line ≡ b → is_debug line ≡ false
    go true is = let e : begins_with (codes "debug") (words_of line) ≡ true = ap (begins_with (codes "debug")) (debug_says line is).0 in cc
    go false is = is

pub is_debugged : (line : List ℕ) → IsAllowed line → IsAlone (codes "debug") line → is_debug line ≡ true
unfolding is_debug
is_debugged line allowed is = both_is _ _ (only_is (codes "debug") (words_of line) is) allowed

pub is_ended : (line : List ℕ) → IsAlone (codes "end") line → is_end line ≡ true
unfolding is_end
is_ended line is = only_is (codes "end") (words_of line) is

pub goes_not : (line : List ℕ) → words_of line ≢ codes "end" ∷ [] → is_end line ≡ false
goes_not line goes = go (is_end line) refl
  where
    go : (b : Bool) → is_end line ≡ b → is_end line ≡ false
    go true is = absurd (goes (end_says line is))
    go false is = is

pub some_words : (version : JobVersion) (line : List ℕ) (form : Form) → IsLine version (words_of line) form → has_words line ≡ true
some_words version line form is = go form (words_of line) is.written
  where
    go : (form : Form) (words : List (List ℕ)) → AreWords (form_words form) words → nat_lt 0 (length words) ≡ true
    go (Harts harts) [] are = absurd are
    go (Harts harts) (w ∷ ws) are = lt-ltb 0 (length (w ∷ ws)) (omega arith)
    go form [] are = absurd are
    go form (w ∷ ws) are = lt-ltb 0 (length (w ∷ ws)) (omega arith)

pub some_pages : (line : List ℕ) (pages : ℕ) → IsStorageLine (words_of line) pages → has_words line ≡ true
some_pages line pages is = go (words_of line) is.written
  where
    go : (words : List (List ℕ)) → AreWords (Fixed (codes "storage") ∷ Spelt pages ∷ []) words → nat_lt 0 (length words) ≡ true
    go [] are = absurd are
    go (w ∷ ws) are = lt-ltb 0 (length (w ∷ ws)) (omega arith)

pub some_call : (version : JobVersion) (line : List ℕ) (what : DebugCommand) → IsCall version (words_of line) what → has_words line ≡ true
some_call version line what is = go is.call (words_of line) is.written
  where
    go : (call : Call) (words : List (List ℕ)) → AreWords (call_words call) words → nat_lt 0 (length words) ≡ true
    go (StepCall count) [] are = absurd are
    go (StepCall count) (w ∷ ws) are = lt-ltb 0 (length (w ∷ ws)) (omega arith)
    go call [] are = absurd are
    go call (w ∷ ws) are = lt-ltb 0 (length (w ∷ ws)) (omega arith)
