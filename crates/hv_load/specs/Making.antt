-- A machine's block and its table as they are written at first.
use Rattle.std.specs.Prelude.{ℕ, ◌+◌, ◌*◌, Bool, ◌&&◌, ◌==◌, nat_lt, if◌then◌else◌, List, [], ◌∷◌, map}
use Rattle.std.specs.List.{range_with_len, list_all}
use Rattle.std.proofs.Math.Seq.{sets}
use Rattle.hv_map.specs.Apart.{are_distinct}
use Rattle.hv_load.specs.declared.parts.Mark.{Mark}
use Rattle.hv_load.specs.Pages.{free_at}

-- word w of the block of a machine with so many pages and its table on this page of its parent: mode M, all else zero
abbrev pub block_word : (pages table w : ℕ) → ℕ
block_word pages table w = if w == 32 then 3 else if w == 65 then pages else if w == 66 then table else 0

-- word w of page k of the table of a machine with so many pages, whose first one is page `at` of its parent: the page
-- can be read and written; zero behind the last page
abbrev pub entry_word : (pages at i : ℕ) → ℕ
entry_word pages at i = if nat_lt i pages then (at + i) * 4096 + 3 else 0

-- word w of table page k, the pages being the parent's from `at` on
abbrev pub table_word : (pages at k w : ℕ) → ℕ
table_word pages at k w = entry_word pages at (1024 * k + w)

-- the storage with each word w of a bare page replaced by f w
unfoldable pub with_page : List ℕ → ℕ → (ℕ → ℕ) → List ℕ
with_page S g f = sets S (1024 * g) (map f (range_with_len 0 1024))

-- the storage with the table in these bare pages, of which the first is page k of the table
abbrev pub with_tables : List ℕ → (pages at k : ℕ) → List ℕ → List ℕ
with_tables S pages at k [] = S
with_tables S pages at k (g ∷ gs) = with_tables (with_page S g (table_word pages at k)) pages at (k + 1) gs

-- the storage with the block in the first of these bare pages and the table in the others
abbrev pub with_machine : List ℕ → (pages table at : ℕ) → List ℕ → List ℕ
with_machine S pages table at [] = S
with_machine S pages table at (g ∷ gs) = with_tables (with_page S g (block_word pages table)) pages at 0 gs

-- the bare pages are all free
abbrev pub all_free : List Mark → List ℕ → Bool
all_free marks pages = list_all (free_at marks) pages

-- they are free, and all different
abbrev pub can_take : List Mark → List ℕ → Bool
can_take marks pages = all_free marks pages && are_distinct pages
