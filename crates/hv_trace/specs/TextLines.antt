-- The rows of a text, line by line: which texts are rows and an end, and at which line another one is refused, and why.
use Rattle.std.specs.Prelude.{◌≡◌, ◌≢◌, ◌⊎◌, ℕ, ◌+◌, List, [], ◌++◌, length, codes, Result, Ok, Err}
use Rattle.std.specs.Global.{Vec}
use Rattle.std.specs.List.{AllByRecursion}
use Rattle.hv_capsule.specs.Text.{capsule_text}
use Rattle.hv_trace.specs.Rows.{Traced}
use Rattle.hv_trace.specs.Text.{IsWordRow, row_line, rows_text}
use Rattle.hv_trace.specs.declared.ends.TraceEnd.{TraceEnd}
use Rattle.hv_trace.specs.declared.ends.TraceEnd.TheVariants as ends
use Rattle.hv_trace.specs.declared.ends.TraceKind.{TraceKind}
use Rattle.hv_trace.specs.declared.ends.TraceKind.TheVariants.{Header, Pages, Regs, Page, Row, End}
use Rattle.hv_trace.specs.declared.row.TraceRow.{TraceRow}

-- each row is one over a storage of so many words
abbrev pub AreWordRows : ℕ → List TraceRow → Type 0
AreWordRows words rows = AllByRecursion (IsWordRow words) rows

-- the last line of a trace
abbrev pub end_line : List ℕ
end_line = codes "end\n"

-- no row is at the front of a text
abbrev pub HasNoRow : ℕ → List ℕ → Type 0
HasNoRow words text = (row : TraceRow) (behind : List ℕ) → IsWordRow words row → text ≡ row_line row ++ behind → ⊥

-- the text ends where a line should stand, or in the end line before its line feed
abbrev pub IsCutOff : List ℕ → Type 0
IsCutOff text = (text ≡ []) ⊎ (text ≡ codes "end")

-- more stands behind the end line
abbrev pub GoesOn : List ℕ → Type 0
GoesOn text = (behind : List ℕ) × (text ≡ end_line ++ behind) × (behind ≢ [])

-- the first line of the text is neither a row nor the end line, and the text isn't cut off before it
pub record IsNoLine (words : ℕ) (text : List ℕ) : Type 0 where
  pub row : HasNoRow words text
  pub some : text ≢ []
  pub cut : text ≢ codes "end"
  pub last : (behind : List ℕ) → text ≢ end_line ++ behind

-- a text whose first line has the number `line` is refused at the line `at`, before any row of it
abbrev pub StopsHere : ℕ → ℕ → List ℕ → ℕ → TraceKind → Type 0
StopsHere words line text at Row = (at ≡ line) × IsNoLine words text
StopsHere words line text at End = ((at ≡ line) × IsCutOff text) ⊎ ((at ≡ line + 1) × GoesOn text)
StopsHere words line text at Header = ⊥
StopsHere words line text at Pages = ⊥
StopsHere words line text at Regs = ⊥
StopsHere words line text at Page = ⊥

-- the same behind some rows
abbrev pub StopsInRows : ℕ → ℕ → List ℕ → ℕ → TraceKind → Type 0
StopsInRows words line text at kind =
    (rows : List TraceRow) × (rest : List ℕ) × AreWordRows words rows × (text ≡ rows_text rows ++ rest)
    × StopsHere words (line + length rows) rest at kind

-- what holds of a refused line, where memory isn't wanting
abbrev pub IfFault : (ℕ → TraceKind → Type 0) → TraceEnd → Type 0
IfFault P (ends.TraceFault line kind) = P line kind
IfFault P ends.Memory = Unit {0}

-- these rows were read, where memory isn't wanting
abbrev pub GivesRows : List TraceRow → Result (Vec TraceRow) TraceEnd → Type 0
GivesRows rows (Ok read) = read.items ≡ rows
GivesRows rows (Err (ends.TraceFault line kind)) = ⊥
GivesRows rows (Err ends.Memory) = Unit {0}

-- the text was refused at this line and as this kind, where memory isn't wanting
abbrev pub Refuses : ℕ → TraceKind → Result (Vec TraceRow) TraceEnd → Type 0
Refuses at kind (Ok read) = ⊥
Refuses at kind (Err (ends.TraceFault line told)) = (line ≡ at) × (told ≡ kind)
Refuses at kind (Err ends.Memory) = Unit {0}

-- the text of a trace
abbrev pub trace_text : Traced → List ℕ
trace_text t = codes "trace 1\n" ++ capsule_text t.start ++ rows_text t.rows ++ end_line
