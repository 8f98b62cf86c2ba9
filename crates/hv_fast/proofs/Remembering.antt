-- What the entries of a memo say, when it is empty, when an entry is set, and when it is asked.
use Rattle.std.proofs.Common.{◌≡◌, ℕ, ◌≢◌, ◌%◌, List, ap, ◌∙◌, sym, slice_get}
use Rattle.std.specs.Prelude.{All}
use Rattle.std.specs.Option.{option_map}
use Rattle.std.proofs.lemmas.List.Elements.{All-set, All-weaker}
use Rattle.std.proofs.lemmas.Option.{same_Some}
use Rattle.hv_store.specs.declared.access.Access.{Access}
use Rattle.hv_store.specs.declared.access.Access.TheVariants.{Fetch, Read, Write}
use Rattle.hv_store.specs.declared.access.Slot.{Slot}
use Rattle.hv_store.specs.declared.access.Way.TheVariants.{Open}
use Rattle.hv_store.specs.Access.{way_for}
use Rattle.hv_map.specs.Chain.{map_along}
use Rattle.hv_map.specs.Held.{IsHeld}
use Rattle.hv_map.specs.Item.{Item}
use Rattle.hv_map.proofs.Holding.{held_right}
use Rattle.hv_fast.specs.Marked.{listed}
use Rattle.hv_fast.specs.Memo.{Entries, IsEmpty, IsHeldAt, IsOpenAt, IsRightMemo, Opens, entries_for, nothing, put_entry, ways, with_entry}
use Rattle.hv_fast.specs.declared.memo.Entry.{Entry}

-- a memo is empty where the entries for each access are
pub empty_all : (m : Entries)
    → All (λ (e : Entry). e.page ≡ nothing) m.fetches
    → All (λ (e : Entry). e.page ≡ nothing) m.reads
    → All (λ (e : Entry). e.page ≡ nothing) m.writes
    → IsEmpty m
empty_all m fetches reads writes Fetch = fetches
empty_all m fetches reads writes Read = reads
empty_all m fetches reads writes Write = writes

-- an empty memo is right
pub empty_right : (m : Entries) → IsEmpty m → (S : List ℕ) (items : List Item) (gs : List ℕ) → IsRightMemo S items gs m
empty_right m empty S items gs a =
    All-weaker (λ (e : Entry). e.page ≡ nothing) (λ (e : Entry). e.page ≢ nothing → IsHeldAt S items gs a e.page e.host)
    (λ e is some. absurd (some is)) (entries_for m a) (empty a)

-- what is held is open in the map
held_opens : (S : List ℕ) (items : List Item) (gs : List ℕ) (a : Access) (page g : ℕ) → IsHeldAt S items gs a page g → IsOpenAt S items a page g
held_opens S items gs a page g h =
    let right = held_right S items (listed gs) page h.slot h.held in
    let same : map_along S items ≡ right.1.0 =
    same_Some (map_along S items) right.1.0 (sym (ap (option_map (map_along S)) right.0) ∙ right.1.1)
    in
    record { slot = h.slot; found = ap (λ (F : List Slot). slice_get F page) same ∙ right.1.2; opens = h.opens }

-- a right memo says what the map does
pub right_opens : (S : List ℕ) (items : List Item) (gs : List ℕ) (m : Entries) → IsRightMemo S items gs m → Opens S items m
right_opens S items gs m right a =
    All-weaker (λ (e : Entry). e.page ≢ nothing → IsHeldAt S items gs a e.page e.host) (λ (e : Entry). e.page ≢ nothing → IsOpenAt S items a e.page e.host)
    (λ e held some. held_opens S items gs a e.page e.host (held some)) (entries_for m a) (right a)

-- a memo stays right where what is held stays
pub memo_kept : (S T : List ℕ) (items : List Item) (gs hs : List ℕ) (m : Entries)
    → ((page : ℕ) (slot : Slot) → IsHeld S items (listed gs) page slot → IsHeld T items (listed hs) page slot)
    → IsRightMemo S items gs m
    → IsRightMemo T items hs m
memo_kept S T items gs hs m keeps right a =
    All-weaker (λ (e : Entry). e.page ≢ nothing → IsHeldAt S items gs a e.page e.host) (λ (e : Entry). e.page ≢ nothing → IsHeldAt T items hs a e.page e.host)
    (λ e held some.
    let h = held some in
    record { slot = h.slot; held = keeps e.page h.slot h.held; opens = h.opens })
    (entries_for m a) (right a)

-- and where an entry is set to what is held
set_all : (S : List ℕ) (items : List Item) (gs : List ℕ) (a : Access) (es : List Entry) (page g : ℕ) (slot : Slot)
    → All (λ (e : Entry). e.page ≢ nothing → IsHeldAt S items gs a e.page e.host) es
    → IsHeld S items (listed gs) page slot
    → way_for slot a ≡ Open g
    → All (λ (e : Entry). e.page ≢ nothing → IsHeldAt S items gs a e.page e.host) (put_entry es page g)
set_all S items gs a es page g slot right held opens =
    All-set (λ (e : Entry). e.page ≢ nothing → IsHeldAt S items gs a e.page e.host) es (page % ways) (record { page = page; host = g })
    (λ some. record { slot = slot; held = held; opens = opens }) right

pub set_right : (m : Entries) (a : Access) (page g : ℕ) (S : List ℕ) (items : List Item) (gs : List ℕ) (slot : Slot)
    → IsRightMemo S items gs m
    → IsHeld S items (listed gs) page slot
    → way_for slot a ≡ Open g
    → IsRightMemo S items gs (with_entry m a page g)
set_right m Fetch page g S items gs slot right held opens Fetch = set_all S items gs Fetch m.fetches page g slot (right Fetch) held opens
set_right m Fetch page g S items gs slot right held opens Read = right Read
set_right m Fetch page g S items gs slot right held opens Write = right Write
set_right m Read page g S items gs slot right held opens Fetch = right Fetch
set_right m Read page g S items gs slot right held opens Read = set_all S items gs Read m.reads page g slot (right Read) held opens
set_right m Read page g S items gs slot right held opens Write = right Write
set_right m Write page g S items gs slot right held opens Fetch = right Fetch
set_right m Write page g S items gs slot right held opens Read = right Read
set_right m Write page g S items gs slot right held opens Write = set_all S items gs Write m.writes page g slot (right Write) held opens
