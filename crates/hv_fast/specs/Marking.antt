-- How bare pages are marked, and the kinds of pages: one number for each page of a storage says how it is marked.
use Rattle.std.specs.Prelude.{◌≡◌, ℕ, ◌+◌, ◌==◌, Bool, if◌then◌else◌, List, [], ◌∷◌, ◌++◌, length, slice_index}
use Rattle.std.specs.List.{IsDistinct}
use Rattle.hv_limits.specs.Limits.{pages_limit}
use Rattle.hv_word.specs.Words.{has}
use Rattle.hv_fast.specs.Marked.{Marked}

-- no page is marked
abbrev pub no_marks : Marked
no_marks = record { tables = []; blocks = [] }

-- a list with one page more, at its end, where it isn't there yet
abbrev pub with_new : List ℕ → ℕ → List ℕ
with_new gs g = if has g gs then gs else gs ++ g ∷ []

-- and with some, one after the other
unfoldable pub with_each : List ℕ → List ℕ → List ℕ
with_each gs [] = gs
with_each gs (h ∷ hs) = with_each (with_new gs h) hs

-- the marks with a page of tables, a page of blocks, some pages of tables
abbrev pub with_table : Marked → ℕ → Marked
with_table m g = record { tables = with_new m.tables g; blocks = m.blocks }

abbrev pub with_block : Marked → ℕ → Marked
with_block m g = record { tables = m.tables; blocks = with_new m.blocks g }

abbrev pub with_tables : Marked → List ℕ → Marked
with_tables m gs = record { tables = with_each m.tables gs; blocks = m.blocks }

-- the kind of a page: 1 for a table and 2 for a block
abbrev pub kind_of : Bool → Bool → ℕ
kind_of table block = (if table then 1 else 0) + (if block then 2 else 0)

-- the kinds say of each page whether it is in the two lists, and each list has no page twice
pub record IsKinds (kinds tables blocks : List ℕ) : Type 0 where
  pub long : length kinds ≡ pages_limit
  pub each : (g : ℕ) → slice_index kinds g ≡ kind_of (has g tables) (has g blocks)
  pub tables_apart : IsDistinct (λ a b. a == b) tables
  pub blocks_apart : IsDistinct (λ a b. a == b) blocks
