-- How a child's map is composed of its parent's. The parent's control block says how many pages n the child has, where
-- its table is, t, and the version v of the block. In version 0 the table begins at the parent's page t; in version 2
-- the page t is a directory, each of whose words names a page of the table. Bit 0 of a directory or table word says
-- that it is present, bits 31:12 have the parent's page. Bit 1 of a table word lets the page be written; in version 2
-- bit 2 lets it be fetched. Everything is told of a child of a machine at level j, and a cause is 1 for an absent
-- entry, 2 for a refused write, 3 for an entry that names a page outside the parent's storage, 4 for a table word
-- outside it, 7 for a refused fetch. (After Goldberg's composition of maps, with refusals that say whose they are.)
use Rattle.std.specs.Prelude.{◌≡◌, ℕ, ◌+◌, ◌/◌, ◌%◌, ◌<◌, Bool, ◌&&◌, ◌==◌, if◌then◌else◌, List, map, Option, Some}
use Rattle.std.specs.Prelude.{None, slice_get}
use Rattle.std.specs.List.{range_with_len}
use Rattle.std.specs.Option.{option_map, unwrap_or}
use Rattle.hv_word.specs.Words.{field_of}
use Rattle.hv_word.specs.Storage.{word_at}
use Rattle.hv_store.specs.declared.access.Slot.{Slot}
use Rattle.hv_store.specs.declared.access.Way.{Way}
use Rattle.hv_store.specs.declared.access.Way.TheVariants.{Open, Shut}

-- what looking up a page in a directory or a table comes to: a number, or a way that is shut for every access
pub data Looked : Type 0 where
  Named : ℕ → Looked
  Stopped : Way → Looked

-- a directory or table word that was read for the child's page i: its bit 0 says whether it is present
abbrev pub present : ℕ → ℕ → ℕ → Looked
present j i w = if w % 2 == 0 then Stopped (Shut j 1 i None) else Named w

-- The directory or table word k of a page of the parent, for the child's page i, where the parent's way for reading
-- that page is given, none where the parent has no such page. A way that is shut says which word couldn't be read.
abbrev pub look : List ℕ → ℕ → ℕ → ℕ → Option Way → Looked
look S j i k None = Stopped (Shut j 4 i None)
look S j i k (Some (Open g)) = present j i (word_at S g k)
look S j i k (Some (Shut l c p w)) = Stopped (Shut l c p (Some (unwrap_or w k)))

-- a directory word names the page of the table in its bits 31:12
abbrev pub page_named : Looked → Looked
page_named (Named d) = Named (field_of d 12 20)
page_named (Stopped way) = Stopped way

-- The parent's page where the table word of the child's page i is. `reads` gives the parent's ways for reading its
-- pages.
abbrev pub table_of : List ℕ → (ℕ → Option Way) → ℕ → ℕ → ℕ → ℕ → Looked
table_of S reads j t v i =
    if v == 2 then page_named (look S j i (i / 1024) (reads t)) else Named (t + i / 1024)

-- the table word of page i, in the page u of the table where that is named
abbrev pub word_in : List ℕ → (ℕ → Option Way) → ℕ → ℕ → Looked → Looked
word_in S reads j i (Named u) = look S j i (i % 1024) (reads u)
word_in S reads j i (Stopped way) = Stopped way

-- the table word of the child's page i
abbrev pub entry_of : List ℕ → (ℕ → Option Way) → ℕ → ℕ → ℕ → ℕ → Looked
entry_of S reads j t v i = word_in S reads j i (table_of S reads j t v i)

-- whether the entry e keeps its page from being written
abbrev pub no_write : ℕ → Bool
no_write e = e / 2 % 2 == 0

-- whether, in a table of version v, it keeps its page from being fetched: only version 2 denies that
abbrev pub no_fetch : ℕ → ℕ → Bool
no_fetch v e = (v == 2) && (e / 4 % 2 == 0)

-- one way for every access
abbrev pub every : Way → Slot
every way = record { read = way; write = way; fetch = way }

-- the slot of the child's page i, whose entry is e and names a page with the slot s in the parent's map
abbrev pub granted : ℕ → ℕ → ℕ → ℕ → Slot → Slot
granted j v i e s = record {
  read = s.read;
  write = (if no_write e then Shut j 2 i None else s.write);
  fetch = (if no_fetch v e then Shut j 7 i None else s.fetch);
}

-- the same where the parent may have no such page: then each way is shut with cause 3
abbrev pub slot_through : ℕ → ℕ → ℕ → ℕ → Option Slot → Slot
slot_through j v i e None = every (Shut j 3 i None)
slot_through j v i e (Some s) = granted j v i e s

-- the slot of the child's page i by what was found of its entry, where F is the parent's map
abbrev pub slot_of : List Slot → ℕ → ℕ → ℕ → Looked → Slot
slot_of F j v i (Stopped way) = every way
slot_of F j v i (Named e) = slot_through j v i e (slice_get F (field_of e 12 20))

-- the way for reading a page of the machine with the map F, none where it has no such page
abbrev pub reading : List Slot → ℕ → Option Way
reading F page = option_map (λ (s : Slot). s.read) (slice_get F page)

-- the slot of page i of a child with the table t and the version v, where F is the map of its parent, at level j
unfoldable pub compose_slot : List ℕ → List Slot → ℕ → ℕ → ℕ → ℕ → Slot
compose_slot S F j t v i = slot_of F j v i (entry_of S (reading F) j t v i)

-- the map of a child with n pages, the table t and the version v, where F is the map of its parent, at level j
unfoldable pub compose : List ℕ → List Slot → ℕ → ℕ → ℕ → ℕ → List Slot
compose S F j n t v = map (compose_slot S F j t v) (range_with_len 0 n)

-- P holds of the words that the map of such a child is read from, each a bare page and a word in it: the table words of
-- its pages, and in version 2 the directory words that name their tables, as far as F lets the parent read them.
pub record EachTableWord (P : ℕ → ℕ → Type 0) (S : List ℕ) (F : List Slot) (j n t v : ℕ) : Type 0 where
  pub directory : (i g : ℕ) → i < n → v ≡ 2 → reading F t ≡ Some (Open g) → P g (i / 1024)
  pub table :
      (i u g : ℕ)
      → i < n
      → table_of S (reading F) j t v i ≡ Named u
      → reading F u ≡ Some (Open g)
      → P g (i % 1024)
