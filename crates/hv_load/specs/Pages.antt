-- Where the pages and the words of a machine lie in the storage.
use Rattle.std.specs.Prelude.{ℕ, zero, suc, ◌+◌, ◌-◌, ◌*◌, ◌/◌, ◌%◌, Bool, true, false, nat_lt, if◌then◌else◌, List}
use Rattle.std.specs.Prelude.{[], ◌∷◌, length, take, Option, Some, None, Result, Ok, Err, slice_get, slice_index}
use Rattle.std.specs.Prelude.{slice_index_or, slice_set}
use Rattle.hv_store.specs.declared.access.Slot.{Slot}
use Rattle.hv_store.specs.declared.access.Way.{Way}
use Rattle.hv_store.specs.declared.access.Way.TheVariants.{Open, Shut}
use Rattle.hv_map.specs.Item.{Item}
use Rattle.hv_map.specs.Compose.{Looked, Named, Stopped, reading, table_of}
use Rattle.hv_map.specs.Chain.{child_of, map_of}
use Rattle.hv_load.specs.declared.ends.BuildKind.{BuildKind}
use Rattle.hv_load.specs.declared.ends.BuildKind.TheVariants as kind
use Rattle.hv_load.specs.declared.parts.Mark.{Mark}
use Rattle.hv_load.specs.declared.parts.Mark.TheVariants.{Free, Control, Image}
use Rattle.hv_load.specs.Building.{Known}
use Rattle.hv_lex.specs.Refusing.{◌>>=◌}

-- the bare page that a way opens
abbrev pub opened : Way → Result ℕ BuildKind
opened (Open g) = Ok g
opened (Shut l c p w) = Err kind.Absent

-- the bare page in which a page can be read
abbrev pub read_at : Option Slot → Result ℕ BuildKind
read_at None = Err kind.Absent
read_at (Some slot) = opened slot.read

-- the bare page in which it can be written
abbrev pub written_at : Option Slot → Result ℕ BuildKind
written_at None = Err kind.Absent
written_at (Some slot) = opened slot.write

-- The bare page in which a machine with the map F reads its page, and in which it writes it. A machine without a map
-- has none.
abbrev pub reads_in : Option (List Slot) → ℕ → Result ℕ BuildKind
reads_in None page = Err kind.Absent
reads_in (Some F) page = read_at (slice_get F page)

-- the same for writing
abbrev pub writes_in : Option (List Slot) → ℕ → Result ℕ BuildKind
writes_in None page = Err kind.Absent
writes_in (Some F) page = written_at (slice_get F page)

-- the bare page in which a page of a known machine can be reached
abbrev pub page_of : List ℕ → Known → ℕ → Result ℕ BuildKind
page_of S k page = if nat_lt page k.pages then reads_in (map_of S k.path) page else Err kind.Outside

-- whether a mark is that of a free page
abbrev pub is_free : Mark → Bool
is_free Free = true
is_free Control = false
is_free Image = false

-- whether a bare page was given to nothing yet
abbrev pub free_at : List Mark → ℕ → Bool
free_at marks g = is_free (slice_index_or marks g Control)

-- the same, where that bare page is free
abbrev pub if_free : List Mark → ℕ → Result ℕ BuildKind
if_free marks g = if free_at marks g then Ok g else Err kind.Overlap

-- the free bare page in which a page of a known machine can be reached
abbrev pub free_page_of : List ℕ → List Mark → Known → ℕ → Result ℕ BuildKind
free_page_of S marks k page = page_of S k page >>= if_free marks

-- what f gives for n numbers, from a first one on, or the first refusal
abbrev pub each_from : (ℕ → Result ℕ BuildKind) → ℕ → ℕ → Result (List ℕ) BuildKind
each_from f first zero = Ok []
each_from f first (suc n) = f first >>= λ g. each_from f (first + 1) n >>= λ gs. Ok (g ∷ gs)

-- The bare place of word q of a machine, counted over all of its pages, where `find` gives the bare page of each page.
abbrev pub place_by : (ℕ → Result ℕ BuildKind) → ℕ → Result ℕ BuildKind
place_by find q = find (q / 1024) >>= λ g. Ok (1024 * g + q % 1024)

-- the storage after values were written to these places, one after another
abbrev pub with_values : List ℕ → List ℕ → List ℕ → List ℕ
with_values S [] values = S
with_values S (place ∷ places) [] = S
with_values S (place ∷ places) (value ∷ values) = with_values (slice_set S place value) places values

-- the marks after these bare pages were given to something
abbrev pub marked : Mark → List ℕ → List Mark → List Mark
marked mark [] marks = marks
marked mark (g ∷ pages) marks = marked mark pages (slice_set marks g mark)

-- the bare page of a place
abbrev pub page_at : ℕ → ℕ
page_at place = place / 1024

-- the path to the parent of a machine, and the parent's page on which it has the machine's block
abbrev pub outer : List ℕ → List ℕ
outer path = take (length path - 1) path

abbrev pub block_page : List ℕ → ℕ
block_page path = slice_index path (length path - 1)

-- The parent's page of a child's table word, where looking it up came to this.
abbrev pub page_named : Looked → Result ℕ BuildKind
page_named (Named u) = Ok u
page_named (Stopped way) = Err kind.Absent

-- the bare place of the table word of page i of the child that x describes, where F is its parent's map, at level j
abbrev pub word_named : List Slot → ℕ → Looked → Result ℕ BuildKind
word_named F i table = page_named table >>= λ u. read_at (slice_get F u) >>= λ g. Ok (1024 * g + i % 1024)

-- the same where the child may not be there
abbrev pub word_of_child : List ℕ → List Slot → ℕ → ℕ → Option Item → Result ℕ BuildKind
word_of_child S F j i None = Err kind.Absent
word_of_child S F j i (Some x) = word_named F i (table_of S (reading F) j x.table x.version i)

-- the same for the child on page s of a parent that may have no map
abbrev pub word_in_parent : List ℕ → Option (List Slot) → ℕ → ℕ → ℕ → Result ℕ BuildKind
word_in_parent S None j s i = Err kind.Absent
word_in_parent S (Some F) j s i = word_of_child S F j i (child_of S F s)

-- the same of the machine at the end of a path
abbrev pub table_word_of : List ℕ → List ℕ → ℕ → Result ℕ BuildKind
table_word_of S path i = word_in_parent S (map_of S (outer path)) (length path - 1) (block_page path) i
