-- Translations at hand. For each access there are entries, each of which says in which bare page a page of a machine
-- lies; a page's entry is the one at its number modulo how many there are.
use Rattle.std.specs.Prelude.{◌≡◌, ◌≢◌, ℕ, ◌%◌, ◌==◌, if◌then◌else◌, Bool, false, true, All, List}
use Rattle.std.specs.Prelude.{Option, None, Some, slice_get, slice_set}
use Rattle.hv_store.specs.declared.access.Access.{Access}
use Rattle.hv_store.specs.declared.access.Access.TheVariants.{Fetch, Read, Write}
use Rattle.hv_store.specs.declared.access.Slot.{Slot}
use Rattle.hv_store.specs.declared.access.Way.TheVariants.{Open}
use Rattle.hv_store.specs.Access.{way_for}
use Rattle.hv_exec.specs.Changes.{leads_to}
use Rattle.hv_map.specs.Chain.{map_along}
use Rattle.hv_map.specs.Held.{IsHeld}
use Rattle.hv_map.specs.Item.{Item}
use Rattle.hv_fast.specs.Marked.{listed}
use Rattle.hv_fast.specs.declared.memo.Entry.{Entry}

-- how many entries there are for each access
abbrev pub ways : ℕ
ways = 128

-- the page of an entry that holds nothing
abbrev pub nothing : ℕ
nothing = 4294967295

-- the entries for each access
pub record Entries : Type 0 where
  pub fetches : List Entry
  pub reads : List Entry
  pub writes : List Entry

abbrev pub entries_for : Entries → Access → List Entry
entries_for m Fetch = m.fetches
entries_for m Read = m.reads
entries_for m Write = m.writes

-- the bare page that an entry gives for a page, if it is that page's
abbrev pub host_in : ℕ → Option Entry → Option ℕ
host_in page None = None
host_in page (Some e) = if e.page == page then Some e.host else None

abbrev pub host_of : Entries → Access → ℕ → Option ℕ
host_of m a page = host_in page (slice_get (entries_for m a) (page % ways))

-- the entries with the bare page g for a page, in place of what its entry held
abbrev pub put_entry : List Entry → ℕ → ℕ → List Entry
put_entry es page g = slice_set es (page % ways) (record { page = page; host = g })

abbrev pub with_entry : Entries → Access → ℕ → ℕ → Entries
with_entry m Fetch page g = record { fetches = put_entry m.fetches page g; reads = m.reads; writes = m.writes }
with_entry m Read page g = record { fetches = m.fetches; reads = put_entry m.reads page g; writes = m.writes }
with_entry m Write page g = record { fetches = m.fetches; reads = m.reads; writes = put_entry m.writes page g }

-- no entry holds anything
abbrev pub IsEmpty : Entries → Type 0
IsEmpty m = (a : Access) → All (λ (e : Entry). e.page ≡ nothing) (entries_for m a)

-- a page of the machine at the end of the items is held to be open at bare page g for an access
pub record IsHeldAt (S : List ℕ) (items : List Item) (gs : List ℕ) (a : Access) (page g : ℕ) : Type 0 where
  pub slot : Slot
  pub held : IsHeld S items (listed gs) page slot
  pub opens : way_for slot a ≡ Open g

-- the map of that machine opens the page there
pub record IsOpenAt (S : List ℕ) (items : List Item) (a : Access) (page g : ℕ) : Type 0 where
  pub slot : Slot
  pub found : slice_get (map_along S items) page ≡ Some slot
  pub opens : way_for slot a ≡ Open g

-- each entry that holds something holds what is true of its page
abbrev pub IsRightMemo : List ℕ → List Item → List ℕ → Entries → Type 0
IsRightMemo S items gs m =
    (a : Access) → All (λ (e : Entry). e.page ≢ nothing → IsHeldAt S items gs a e.page e.host) (entries_for m a)

-- the same as far as the map says it
abbrev pub Opens : List ℕ → List Item → Entries → Type 0
Opens S items m =
    (a : Access) → All (λ (e : Entry). e.page ≢ nothing → IsOpenAt S items a e.page e.host) (entries_for m a)

-- The same by tests: whether a page's slot, if there is one, opens bare page g for an access.
abbrev pub opens_at : Option Slot → Access → ℕ → Bool
opens_at None a g = false
opens_at (Some slot) a g = leads_to g (way_for slot a)

abbrev pub AreOpen : List ℕ → List Item → Entries → Type 0
AreOpen S items m =
    (a : Access)
    → All
    (λ (e : Entry). e.page ≢ nothing → opens_at (slice_get (map_along S items) e.page) a e.host ≡ true)
    (entries_for m a)
