-- The lines of a parked machine's text: which texts have one at their front, and at which line another one is refused,
-- and why.
use Rattle.std.specs.Prelude.{◌≡◌, ◌≢◌, ◌⊎◌, ℕ, zero, suc, ◌+◌, ◌*◌, ◌^◌, ◌<◌, ◌≤◌, Bool, false, ◌==◌, if◌then◌else◌, List, [], ◌∷◌}
use Rattle.std.specs.Prelude.{◌++◌, length, codes}
use Rattle.std.specs.Fmt.{decimal}
use Rattle.std.specs.List.{AllByRecursion, list_all}
use Rattle.hv_limits.specs.Limits.{pages_limit}
use Rattle.hv_word.specs.Storage.{page_count}
use Rattle.hv_cpu.specs.Regs.{FitsHart, spelled}
use Rattle.hv_capsule.specs.Parked.{IsParked, Parked, regs_of_words}
use Rattle.hv_capsule.specs.Text.{capsule_text, page_words, words_digits}
use Rattle.hv_capsule.specs.declared.ends.CapsuleEnd.{CapsuleEnd}
use Rattle.hv_capsule.specs.declared.ends.CapsuleEnd.TheVariants as ends
use Rattle.hv_capsule.specs.declared.ends.CapsuleKind.{CapsuleKind}
use Rattle.hv_capsule.specs.declared.ends.CapsuleKind.TheVariants.{Header, Pages, Regs, Page, End}

-- a number of 32 bits
abbrev pub IsWord : ℕ → Type 0
IsWord n = n < 2 ^ 32

-- the first line, and the last
abbrev pub header_line : List ℕ
header_line = codes "machine 1\n"

abbrev pub end_line : List ℕ
end_line = codes "end\n"

-- a number of pages that a machine can have, and its line
abbrev pub IsSize : ℕ → Type 0
IsSize pages = (1 ≤ pages) × (pages ≤ pages_limit)

abbrev pub size_line : ℕ → List ℕ
size_line pages = codes "pages " ++ decimal pages ++ codes "\n"

-- the 50 words of registers that are well formed for so many pages, and their line
pub record AreRegs (pages : ℕ) (words : List ℕ) : Type 0 where
  pub size : length words ≡ 50
  pub each : AllByRecursion IsWord words
  pub fits : FitsHart (regs_of_words words)
  pub next : (regs_of_words words).next ≢ 0 → (regs_of_words words).next < pages

abbrev pub regs_line : List ℕ → List ℕ
regs_line words = codes "regs " ++ words_digits words ++ codes "\n"

-- the words are all zero
abbrev pub are_zero : List ℕ → Bool
are_zero words = list_all (λ word. word == 0) words

-- a page that isn't all zero, by its number and its words: the next behind those below `least`, of so many pages
pub record IsNext (pages least page : ℕ) (words : List ℕ) : Type 0 where
  pub from : least ≤ page
  pub inside : page < pages
  pub size : length words ≡ 1024
  pub each : AllByRecursion IsWord words
  pub some : are_zero words ≡ false

-- its line
abbrev pub filled_line : ℕ → List ℕ → List ℕ
filled_line page words = codes "page " ++ decimal page ++ codes " " ++ words_digits words ++ codes "\n"

-- the lines of pages by rising number
abbrev pub filled_lines : List (ℕ × List ℕ) → List ℕ
filled_lines [] = []
filled_lines (page ∷ pages) = filled_line page.0 page.1 ++ filled_lines pages

abbrev pub AreNext : ℕ → ℕ → List (ℕ × List ℕ) → Type 0
AreNext pages least [] = Unit {0}
AreNext pages least (page ∷ more) = IsNext pages least page.0 page.1 × AreNext pages (page.0 + 1) more

-- the number from which on pages may stand behind these
abbrev pub least_behind : ℕ → List (ℕ × List ℕ) → ℕ
least_behind least [] = least
least_behind least (page ∷ more) = least_behind (page.0 + 1) more

-- the first three lines, and what is behind them
abbrev pub opened : ℕ → List ℕ → List ℕ → List ℕ
opened pages words rest = header_line ++ (size_line pages ++ (regs_line words ++ rest))

-- no page line stands at the front that may follow
abbrev pub HasNoNext : ℕ → ℕ → List ℕ → Type 0
HasNoNext pages least text =
    (page : ℕ) (words behind : List ℕ) → IsNext pages least page words → text ≢ filled_line page words ++ behind

-- the text ends where a line should stand, or in the last line before its line feed
abbrev pub IsCutOff : List ℕ → Type 0
IsCutOff text = (text ≡ []) ⊎ (text ≡ codes "end")

-- the first line is neither a page line that may follow nor the last, and the text isn't cut off before it
pub record IsNoLine (pages least : ℕ) (text : List ℕ) : Type 0 where
  pub page : HasNoNext pages least text
  pub some : text ≢ []
  pub cut : text ≢ codes "end"
  pub last : (behind : List ℕ) → text ≢ end_line ++ behind

-- the text is refused at its first line, which has the number `line`: it is no page line that may follow, nor the last
abbrev pub StopsHere : ℕ → ℕ → ℕ → List ℕ → ℕ → CapsuleKind → Type 0
StopsHere pages least line text at Page = (at ≡ line) × IsNoLine pages least text
StopsHere pages least line text at End = (at ≡ line) × IsCutOff text
StopsHere pages least line text at Header = ⊥
StopsHere pages least line text at Pages = ⊥
StopsHere pages least line text at Regs = ⊥

-- the same of what is behind the first three lines, at the line behind some page lines
abbrev pub StopsInPages : ℕ → List ℕ → ℕ → CapsuleKind → Type 0
StopsInPages pages text at kind =
    (filled : List (ℕ × List ℕ)) × (rest : List ℕ) × AreNext pages 0 filled × (text ≡ filled_lines filled ++ rest)
    × StopsHere pages (least_behind 0 filled) (4 + length filled) rest at kind

-- the same of a text that has the first three lines
abbrev pub StopsBehind : List ℕ → ℕ → CapsuleKind → Type 0
StopsBehind text at kind =
    (pages : ℕ) × (words rest : List ℕ) × IsSize pages × AreRegs pages words × (text ≡ opened pages words rest)
    × StopsInPages pages rest at kind

-- A text that begins with no parked machine is refused at the line `at`, as this kind: at the first line that is missing
-- or another.
abbrev pub StopsAt : List ℕ → ℕ → CapsuleKind → Type 0
StopsAt text at Header = (at ≡ 1) × ((rest : List ℕ) → text ≢ header_line ++ rest)
StopsAt text at Pages =
    (at ≡ 2) × (rest : List ℕ) × (text ≡ header_line ++ rest)
    × ((pages : ℕ) (behind : List ℕ) → IsSize pages → rest ≢ size_line pages ++ behind)
StopsAt text at Regs =
    (at ≡ 3) × (pages : ℕ) × (rest : List ℕ) × IsSize pages × (text ≡ header_line ++ size_line pages ++ rest)
    × ((words behind : List ℕ) → AreRegs pages words → rest ≢ regs_line words ++ behind)
StopsAt text at Page = StopsBehind text at Page
StopsAt text at End = StopsBehind text at End

-- what holds of a refused line, where memory isn't wanting
abbrev pub IfFault : (ℕ → CapsuleKind → Type 0) → CapsuleEnd → Type 0
IfFault P (ends.CapsuleFault line kind) = P line kind
IfFault P ends.Memory = Unit {0}

-- the refusal is at this line and as this kind
abbrev pub IsFault : ℕ → CapsuleKind → ℕ → CapsuleKind → Type 0
IsFault at kind line told = (line ≡ at) × (told ≡ kind)

-- memory is wanting
abbrev pub IsWant : CapsuleEnd → Type 0
IsWant e = IfFault (λ line kind. ⊥) e

-- a page with its words, if it isn't all zero; and those of so many pages, by rising number
abbrev pub filled_at : List ℕ → ℕ → List (ℕ × List ℕ)
filled_at S page = if are_zero (page_words S page) then [] else (page, page_words S page) ∷ []

abbrev pub filled_of : List ℕ → ℕ → List (ℕ × List ℕ)
filled_of S zero = []
filled_of S (suc count) = filled_of S count ++ filled_at S count

-- how many lines the text of a parked machine has
abbrev pub line_total : Parked → ℕ
line_total m = 4 + length (filled_of m.storage (page_count m.storage))

-- a storage has what the page lines say at the front of a text, and the last line follows; the first of them is the fourth
-- line, and there are so many lines to the last
pub record Holds (S text : List ℕ) (count : ℕ) (rest : List ℕ) : Type 0 where
  pub whole : length S ≡ 1024 * page_count S
  pub next : AreNext (page_count S) 0 (filled_of S (page_count S))
  pub parts : text ≡ filled_lines (filled_of S (page_count S)) ++ (end_line ++ rest)
  pub lines : count ≡ 4 + length (filled_of S (page_count S))
  pub few : count ≤ 4 + page_count S

-- a parked machine stands at the front of a text: on so many lines, with `rest` behind it
pub record Stands (text : List ℕ) (m : Parked) (count : ℕ) (rest : List ℕ) : Type 0 where
  pub parts : text ≡ capsule_text m ++ rest
  pub lines : count ≡ line_total m

-- page lines and the last line are at the front of a text, up to the line of this number, with `rest` behind them
abbrev pub EndsInPages : ℕ → List ℕ → ℕ → List ℕ → Type 0
EndsInPages pages text lines rest =
    (filled : List (ℕ × List ℕ)) × AreNext pages 0 filled × (text ≡ filled_lines filled ++ (end_line ++ rest))
    × (lines ≡ 4 + length filled)

-- the lines of a parked machine are at the front of a text: so many, with `rest` behind them
abbrev pub EndsAt : List ℕ → ℕ → List ℕ → Type 0
EndsAt text lines rest =
    (pages : ℕ) × (words more : List ℕ) × IsSize pages × AreRegs pages words × (text ≡ opened pages words more)
    × EndsInPages pages more lines rest

-- a parked machine of 32-bit words, with as many pages as a machine can have
pub record IsMachine (m : Parked) : Type 0 where
  pub pages : IsSize (page_count m.storage)
  pub whole : length m.storage ≡ 1024 * page_count m.storage
  pub words : AllByRecursion IsWord m.storage
  pub spelled : AllByRecursion IsWord (spelled m.regs)
  pub parked : IsParked m

-- a text goes on behind the lines of a parked machine, and the next line is this one
abbrev pub GoesOn : List ℕ → ℕ → Type 0
GoesOn text at = (lines : ℕ) × (rest : List ℕ) × EndsAt text lines rest × (rest ≢ []) × (at ≡ lines + 1)

-- a text that isn't that of a parked machine is refused at the line `at`, as this kind
abbrev pub RefusedAt : List ℕ → ℕ → CapsuleKind → Type 0
RefusedAt text at End = StopsAt text at End ⊎ GoesOn text at
RefusedAt text at Header = StopsAt text at Header
RefusedAt text at Pages = StopsAt text at Pages
RefusedAt text at Regs = StopsAt text at Regs
RefusedAt text at Page = StopsAt text at Page
