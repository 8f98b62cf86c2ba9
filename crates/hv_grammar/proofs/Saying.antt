-- The ways that a line may go from a place, with what it says.
use Rattle.std.proofs.Common.{◌≡◌, ◌≢◌, ◌⊎◌, ℕ, not, cond, codes, List, [], ◌∷◌, inl, inr, refl, sym, ap, ◌∙◌, subst}
use Rattle.hv_line.specs.Lines.{words_of}
use Rattle.hv_line.specs.declared.types.DebugCommand.{DebugCommand}
use Rattle.hv_line.specs.declared.version.JobVersion.{JobVersion}
use Rattle.hv_job.specs.JobOf.{before_end}
use Rattle.hv_grammar.specs.Forms.{Form, Image, IsCall, IsLine, IsStorageLine}
use Rattle.hv_grammar.specs.Said.{Said, Called, Directed, Inner, Nothing, StorageOf, inner_lines}
use Rattle.hv_grammar.specs.Texts.{Goes, GoesOn, IsAllowed, IsAlone, IsOutside, IsOver, IsPlain, Place, AmongCommands, AmongDirectives, BeforeHeader, BeforeStorage, InsideImage, NoWords, Header, StorageLine, DirectiveLine, ImageLine, InnerLine, EndLine, DebugLine, CommandLine, version_word}
use Rattle.hv_grammar.proofs.Inside.{before_next}
use Rattle.hv_grammar.proofs.Ways.{IsBlank, goes_not, is_ended}

abbrev pub SaidWay : Place → List ℕ → Said → Place → Type 0
SaidWay BeforeHeader line said next =
    (IsBlank line × said ≡ Nothing × next ≡ BeforeHeader)
    ⊎ ((version : JobVersion) × IsAllowed line × words_of line ≡ codes "job" ∷ version_word version ∷ [] × said ≡ Nothing × next ≡ BeforeStorage version)
SaidWay (BeforeStorage version) line said next =
    (IsBlank line × said ≡ Nothing × next ≡ BeforeStorage version)
    ⊎ ((pages : ℕ) × IsAllowed line × IsStorageLine (words_of line) pages × said ≡ StorageOf pages × next ≡ AmongDirectives version)
SaidWay (AmongDirectives version) line said next =
    (IsBlank line × said ≡ Nothing × next ≡ AmongDirectives version)
    ⊎ (((form : Form) × IsPlain form × IsAllowed line × IsLine version (words_of line) form × said ≡ Directed form × next ≡ AmongDirectives version)
    ⊎ (((name : List ℕ) × (at : ℕ) × IsAllowed line × IsLine version (words_of line) (Image name at) × said ≡ Directed (Image name at) × next ≡ InsideImage version)
    ⊎ (IsAllowed line × IsAlone (codes "debug") line × said ≡ Nothing × next ≡ AmongCommands version)))
SaidWay (InsideImage version) line said next =
    (words_of line ≢ codes "end" ∷ [] × said ≡ Inner line × next ≡ InsideImage version)
    ⊎ (IsAllowed line × IsAlone (codes "end") line × said ≡ Nothing × next ≡ AmongDirectives version)
SaidWay (AmongCommands version) line said next =
    (IsBlank line × said ≡ Nothing × next ≡ AmongCommands version)
    ⊎ ((what : DebugCommand) × IsAllowed line × IsCall version (words_of line) what × said ≡ Called (words_of line) what × next ≡ AmongCommands version)

blank : (place : Place) (line : List ℕ) → IsOutside place → IsAllowed line → words_of line ≡ [] → SaidWay place line Nothing place
blank BeforeHeader line outside allowed none = inl ((allowed, none), refl, refl)
blank (BeforeStorage version) line outside allowed none = inl ((allowed, none), refl, refl)
blank (AmongDirectives version) line outside allowed none = inl ((allowed, none), refl, refl)
blank (InsideImage version) line outside allowed none = absurd outside
blank (AmongCommands version) line outside allowed none = inl ((allowed, none), refl, refl)

pub said_way : (here : Place) (line : List ℕ) (said : Said) (next : Place) → Goes here line said next → SaidWay here line said next
said_way here line said next (NoWords outside allowed none) = blank next line outside allowed none
said_way here line said next (Header version allowed is) = inr (version, allowed, is, refl, refl)
said_way here line said next (StorageLine pages allowed is) = inr (pages, allowed, is, refl, refl)
said_way here line said next (DirectiveLine form plain allowed is) = inr (inl (form, plain, allowed, is, refl, refl))
said_way here line said next (ImageLine name at allowed is) = inr (inr (inl (name, at, allowed, is, refl, refl)))
said_way here line said next (InnerLine goes) = inl (goes, refl, refl)
said_way here line said next (EndLine allowed is) = inr (allowed, is, refl, refl)
said_way here line said next (DebugLine allowed is) = inr (inr (inr (allowed, is, refl, refl)))
said_way here line said next (CommandLine what allowed is) = inr (what, allowed, is, refl, refl)

-- what is said inside an image are its lines
module _ (version : JobVersion) (line : List ℕ) (lines : List (List ℕ)) (says : List Said) (to : Place) where
  inner_step : (said : Said) (next : Place) → SaidWay (InsideImage version) line said next → GoesOn next lines says to → (GoesOn (InsideImage version) lines says to → inner_lines says ≡ before_end lines) → inner_lines (said ∷ says) ≡ before_end (line ∷ lines)
  inner_step said next (inl w) on rest =
      ap (λ s. inner_lines (s ∷ says)) w.1
      ∙ ap (λ ls. line ∷ ls) (rest (subst (λ (p : Place). GoesOn p lines says to) w.2 on))
      ∙ sym (before_next line lines ∙ ap (λ b. cond (not b) (line ∷ before_end lines) []) (goes_not line w.0))
  inner_step said next (inr w) on rest =
      ap (λ s. inner_lines (s ∷ says)) w.2
      ∙ sym (before_next line lines ∙ ap (λ b. cond (not b) (line ∷ before_end lines) []) (is_ended line w.1))

pub inner_is : (version : JobVersion) (lines : List (List ℕ)) (says : List Said) (to : Place) → IsOver to → GoesOn (InsideImage version) lines says to → inner_lines says ≡ before_end lines
inner_is version [] [] to over on = absurd (subst IsOver (sym on) over)
inner_is version [] (said ∷ says) to over on = absurd on
inner_is version (line ∷ lines) [] to over on = absurd on
inner_is version (line ∷ lines) (said ∷ says) to over on =
    inner_step version line lines says to said on.0 (said_way (InsideImage version) line said on.0 on.1) on.2 (inner_is version lines says to over)
