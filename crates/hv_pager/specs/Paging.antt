-- A watched machine whose own map changes while it runs: pages are taken from it and brought to it by those outside.
use Rattle.std.specs.Prelude.{◌≡◌, ◌≢◌, ℕ, zero, suc, ◌<◌, ◌≤◌, Bool, true, false, ◌&&◌, List, [], ◌∷◌, ◌++◌}
use Rattle.std.specs.Prelude.{length, map, replicate, get_or, Option, Some, None}
use Rattle.std.specs.List.{range_with_len}
use Rattle.hv_word.specs.Storage.{page_count}
use Rattle.hv_limits.specs.Limits.{depth_limit}
use Rattle.hv_store.specs.declared.access.Slot.{Slot}
use Rattle.hv_store.specs.declared.access.Way.{Way}
use Rattle.hv_store.specs.declared.access.Way.TheVariants.{Open, Shut}
use Rattle.hv_store.specs.Access.{identity}
use Rattle.hv_map.specs.Item.{Item}
use Rattle.hv_map.specs.Compose.{reading}
use Rattle.hv_map.specs.Chain.{map_along, map_of, pin_of}
use Rattle.hv_map.specs.Apart.{is_apart}
use Rattle.hv_map.specs.Seen.{words_of}
use Rattle.hv_nest.specs.State.{State}
use Rattle.hv_nest.specs.Move.{Move, state_after, last_of}
use Rattle.hv_nest.specs.Watched.{Tally, no_tally, tally_of, foot, is_counted, last_block, places, chain_foot}
use Rattle.hv_nest.specs.Watched.{own_places, page_foot, but_lines, are_same, same_status}
use Rattle.hv_nest.specs.Bare.{bare_of}
use Rattle.hv_whole.specs.Whole.{own, Alike, AreMasked}

-- the machines on the way but the last
abbrev pub outer : List Item → List Item
outer [] = []
outer (x ∷ []) = []
outer (x ∷ (y ∷ ys)) = x ∷ outer (y ∷ ys)

-- the places of the words of a block that say pages, table and version
abbrev pub size_places : Option ℕ → List ℕ
size_places None = []
size_places (Some g) = places g (65 ∷ 66 ∷ 67 ∷ [])

-- The places of the words that the machine at the end of the items stands on, but for the table of its own map: the
-- words 65 to 67 of each block, the tables and directories of the machines further out, its register words and the
-- words of the pages that its map opens for reading.
unfoldable pub all_kept : List ℕ → List Item → List ℕ
all_kept S items =
    chain_foot S (identity (page_count S)) 0 (outer items)
    ++ (size_places (last_block items) ++ (own_places (last_block items) ++ page_foot (map_along S items)))

-- the places of its kept words in the storage S, where word 42 of its block is left out
unfoldable pub kept_places : List ℕ → List Item → List ℕ
kept_places S items = but_lines (last_block items) (all_kept S items)

-- whether a change from the storage S to T leaves the kept words of S as they are, of word 42 all but the lines
abbrev pub keeps_words : List ℕ → List Item → List ℕ → Bool
keeps_words S items T = are_same (kept_places S items) S T && same_status (last_block items) S T

-- the same of the machine on a path, which has kept words only where it is there
abbrev pub keeps_if : List ℕ → Option (List Item) → List ℕ → Bool
keeps_if S None T = false
keeps_if S (Some items) T = keeps_words S items T

-- whether the machines on a path are there and stand apart
abbrev pub stands_if : List ℕ → Option (List Item) → Bool
stands_if S None = false
stands_if S (Some items) = is_apart S items

-- A move isn't rough where it is counted or keeps the kept words, and the machine stands apart after it.
pub record IsSmooth (h : ℕ) (path : List ℕ) (st : State) (move : Move) : Type 0 where
  pub keeps : is_counted h path st move ≡ false
      → keeps_if st.storage (pin_of st.storage path) (state_after st move).storage ≡ true
  pub stands : stands_if (state_after st move).storage (pin_of (state_after st move).storage path) ≡ true

-- what has been seen of a page of the machine: its words as it first arrived, and those that it had when it was last
-- open for reading
pub record Arrivals : Type 0 where
  pub first : Option (List ℕ)
  pub last : Option (List ℕ)

-- nothing yet
abbrev pub no_arrival : Arrivals
no_arrival = record { first = None; last = None }

-- the first of two, where it is there
abbrev pub first_of : Option (List ℕ) → List ℕ → Option (List ℕ)
first_of None words = Some words
first_of (Some old) words = Some old

-- the same after a moment at which the page's way for reading is this
abbrev pub arrivals_by : List ℕ → Arrivals → Option Way → Arrivals
arrivals_by S p None = p
arrivals_by S p (Some (Open g)) =
    record { first = first_of p.first (words_of S 1024 (Open g)); last = Some (words_of S 1024 (Open g)) }
arrivals_by S p (Some (Shut l c address a)) = p

-- the same of all pages, by their numbers, where the machine has a map
abbrev pub arrivals_at : List ℕ → Option (List Slot) → (ℕ → Arrivals) → ℕ → Arrivals
arrivals_at S None pages i = pages i
arrivals_at S (Some F) pages i = arrivals_by S (pages i) (reading F i)

-- the way for reading of page i, where there is a map
abbrev pub reading_if : Option (List Slot) → ℕ → Option Way
reading_if None i = None
reading_if (Some F) i = reading F i

-- Each page that arrives with the storage S, and wasn't open so before, is true: it has the words that it had when it
-- was last open, if it was. F is the map before, and G the map then.
abbrev pub AreTrue : List ℕ → Option (List Slot) → Option (List Slot) → (ℕ → Arrivals) → Type 0
AreTrue S F G pages =
    (i g : ℕ) (words : List ℕ)
    → reading_if G i ≡ Some (Open g)
    → reading_if F i ≢ Some (Open g)
    → (pages i).last ≡ Some words
    → words ≡ words_of S 1024 (Open g)

-- what has been seen after some moves more
unfoldable pub arrivals_of : List ℕ → State → List Move → (ℕ → Arrivals) → ℕ → Arrivals
arrivals_of path st [] pages = pages
arrivals_of path st (move ∷ moves) pages =
    arrivals_of path (state_after st move) moves
    (arrivals_at (state_after st move).storage (map_of (state_after st move).storage path) pages)

-- no move is rough, and each arrival is true
abbrev pub RunsSmoothly : ℕ → List ℕ → State → List Move → (ℕ → Arrivals) → Type 0
RunsSmoothly h path st [] pages = Unit {0}
RunsSmoothly h path st (move ∷ moves) pages =
    IsSmooth h path st move
    × AreTrue (state_after st move).storage (map_of st.storage path) (map_of (state_after st move).storage path) pages
    × RunsSmoothly h path (state_after st move) moves
    (arrivals_at (state_after st move).storage (map_of (state_after st move).storage path) pages)

-- the first n words of a page's first arrival, or zeros where it never came
unfoldable pub arrived : ℕ → Option (List ℕ) → List ℕ
arrived n None = replicate n 0
arrived n (Some words) = map (λ w. get_or words w 0) (range_with_len 0 n)

-- the storage of n pages that has in each the words of its first arrival
unfoldable pub demand : ℕ → (ℕ → Arrivals) → List ℕ
demand zero pages = []
demand (suc n) pages = arrived 1024 (pages 0).first ++ demand n (λ i. pages (suc i))

-- the pages that are open at the start arrive there
abbrev pub arrivals_first : List ℕ → List ℕ → ℕ → Arrivals
arrivals_first S path = arrivals_at S (map_of S path) (λ i. no_arrival)

-- A machine stands apart at the start, and up to some moment no move was rough and each arrival was true. It is then as
-- a bare machine is that began with its registers and with what was demanded of it, after as many steps as were counted
-- and the changes of its lines that were told. (The bare machine itself is watched as hart 0.)
abbrev pub PagedLaw : Type 0
PagedLaw =
    (h : ℕ) (path : List ℕ) (items : List Item) (start : State) (moves : List Move) (t : Tally)
    → h < length start.harts
    → (path ≡ [] → h ≡ 0)
    → AreMasked moves
    → length path ≤ depth_limit
    → pin_of start.storage path ≡ Some items
    → is_apart start.storage items ≡ true
    → RunsSmoothly h path start moves (arrivals_first start.storage path)
    → t ≡ tally_of h path items (foot start.storage items) start moves no_tally
    → Alike h items (map_along (last_of start moves).storage items) (last_of start moves)
    (bare_of
    (demand (length (map_along start.storage items))
    (arrivals_of path start moves (arrivals_first start.storage path)))
    (own h items start) t.changes t.count)
