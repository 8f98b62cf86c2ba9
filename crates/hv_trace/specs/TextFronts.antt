-- What the readers of a row's parts find.
use Rattle.std.specs.Prelude.{◌≡◌, ℕ, ◌+◌, ◌<◌, ◌≤◌, List, [], ◌∷◌, ◌++◌, length, take, drop, codes}
use Rattle.std.specs.Int.RustNames.{bit_and}
use Rattle.std.specs.List.{AllByRecursion}
use Rattle.hv_limits.specs.Limits.{lines_mask}
use Rattle.hv_text.specs.Text.{hex8}
use Rattle.hv_trace.specs.Rows.{AreChanges, IsOfWords, IsOfWordsIn, IsRisingFrom, IsUnused}
use Rattle.hv_trace.specs.Text.{IsChange, IsWord, change_text, changes_text, tail_text}
use Rattle.hv_trace.specs.declared.text_rows.Told.{Told}

-- the least place that may come behind changes that rise from this one on
abbrev pub next_place : ℕ → List (ℕ × ℕ) → ℕ
next_place least [] = least
next_place least (change ∷ changes) = next_place (change.0 + 1) changes

-- the text begins with the first `len` of these changes
pub record AreFront (text : List ℕ) (regs : List (ℕ × ℕ)) (len : ℕ) (rest : List ℕ) : Type 0 where
  pub few : len ≤ 8
  pub size : length regs ≡ 8
  pub rising : IsRisingFrom 0 (take len regs)
  pub unused : AllByRecursion IsUnused (drop len regs)
  pub words : AllByRecursion IsOfWords regs
  pub parts : text ≡ changes_text (take len regs) ++ rest

-- no change of this place or a later one is at the front, where there is room for one
abbrev pub StopsAt : ℕ → ℕ → List ℕ → Type 0
StopsAt room least text =
    (change : ℕ × ℕ) (behind : List ℕ) → 0 < room → least ≤ change.0 → IsChange change
    → text ≡ change_text change ++ behind → ⊥

-- the text of a step's row behind its `s`, and what holds of it
abbrev pub told_text : Told → List ℕ
told_text told = hex8 told.pc ++ changes_text (take told.len told.regs) ++ tail_text told.mem

pub record IsTold (words : ℕ) (told : Told) : Type 0 where
  pub changes : AreChanges words told.len told.regs told.mem
  pub pc : IsWord told.pc
  pub size : length told.regs ≡ 8
  pub words_in_regs : AllByRecursion IsOfWords told.regs
  pub words_in_mem : IsOfWordsIn told.mem

-- the text of a row of lines behind its `l`, and what holds of its mask
abbrev pub mask_text : ℕ → List ℕ
mask_text mask = hex8 mask ++ codes "\n"

abbrev pub IsMask : ℕ → Type 0
IsMask mask = (bit_and mask lines_mask ≡ mask) × IsWord mask
