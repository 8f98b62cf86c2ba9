-- What is told of a watch whose machine's own map changes: how far it could be followed, and what came until then.
use Rattle.std.specs.Prelude.{◌≡◌, ℕ, ◌<◌, ◌≤◌, zero, suc, ◌+◌, Bool, true, false, not, ◌&&◌, ◌==◌, if◌then◌else◌}
use Rattle.std.specs.Prelude.{List, [], ◌∷◌, ◌++◌, length, Option, Some, None}
use Rattle.hv_store.specs.declared.access.Slot.{Slot}
use Rattle.hv_store.specs.declared.access.Way.{Way}
use Rattle.hv_store.specs.declared.access.Way.TheVariants.{Open, Shut}
use Rattle.hv_map.specs.Item.{Item}
use Rattle.hv_limits.specs.Limits.{depth_limit}
use Rattle.hv_map.specs.Apart.{is_apart}
use Rattle.hv_map.specs.Chain.{map_along, map_of, pin_of}
use Rattle.hv_map.specs.Seen.{words_of}
use Rattle.hv_nest.specs.State.{State}
use Rattle.hv_nest.specs.Move.{Move, last_of, state_after}
use Rattle.hv_nest.specs.Bare.{bare_of}
use Rattle.hv_whole.specs.Whole.{Alike, AreMasked, own}
use Rattle.hv_nest.specs.Watched.{LineChange, is_counted, lines_of}
use Rattle.hv_pager.specs.Paging.{Arrivals, arrivals_at, arrivals_first, demand, keeps_if, reading_if, stands_if}

-- whether two lists are the same
unfoldable pub same_words : List ℕ → List ℕ → Bool
same_words [] [] = true
same_words [] (b ∷ bs) = false
same_words (a ∷ rest) [] = false
same_words (a ∷ rest) (b ∷ bs) = (a == b) && same_words rest bs

-- A move is rough where the machine doesn't stand apart after it, or where it isn't counted and changes a kept word.
abbrev pub is_rough : ℕ → List ℕ → State → Move → Bool
is_rough h path st move =
    if stands_if (state_after st move).storage (pin_of (state_after st move).storage path) then
    (if is_counted h path st move then false
    else not (keeps_if st.storage (pin_of st.storage path) (state_after st move).storage))
    else true

-- whether a way is open to page g
abbrev pub is_open_to : Option Way → ℕ → Bool
is_open_to None g = false
is_open_to (Some (Open x)) g = x == g
is_open_to (Some (Shut l c address a)) g = false

-- whether a page arrives whose way for reading was the first and is now the second
abbrev pub is_arriving : Option Way → Option Way → Bool
is_arriving old None = false
is_arriving old (Some (Open g)) = not (is_open_to old g)
is_arriving old (Some (Shut l c address a)) = false

-- whether words are those that were there last, if any were
abbrev pub is_as_last : Option (List ℕ) → List ℕ → Bool
is_as_last None words = true
is_as_last (Some last) words = same_words last words

-- the words of storage S behind a way, where it is open
abbrev pub is_true_by : List ℕ → Option (List ℕ) → Option Way → Bool
is_true_by S last None = true
is_true_by S last (Some (Open g)) = is_as_last last (words_of S 1024 (Open g))
is_true_by S last (Some (Shut l c address a)) = true

-- whether it arrives with other words than it had when it was last open
abbrev pub is_untrue : List ℕ → Option Way → Option Way → Arrivals → Bool
is_untrue S old new p = is_arriving old new && not (is_true_by S p.last new)

-- whether a number below n has this
unfoldable pub any_below : ℕ → (ℕ → Bool) → Bool
any_below zero f = false
any_below (suc n) f = if f n then true else any_below n f

-- how many numbers below n have this
unfoldable pub count_below : ℕ → (ℕ → Bool) → ℕ
count_below zero f = 0
count_below (suc n) f = (if f n then 1 else 0) + count_below n f

-- how many pages there are, where there is a map
abbrev pub size_if : Option (List Slot) → ℕ
size_if None = 0
size_if (Some F) = length F

-- whether an untrue page arrives with the storage S, whose map is G, where F was the map before
abbrev pub brings_untrue : List ℕ → Option (List Slot) → Option (List Slot) → (ℕ → Arrivals) → Bool
brings_untrue S F G pages = any_below (size_if G) (λ i. is_untrue S (reading_if F i) (reading_if G i) (pages i))

-- how many pages arrive
abbrev pub arriving : Option (List Slot) → Option (List Slot) → ℕ
arriving F G = count_below (size_if G) (λ i. is_arriving (reading_if F i) (reading_if G i))

-- What has been told so far. It is closed at the first rough move or untrue arrival, which it has still.
pub record Followed : Type 0 where
  pub rough : Bool
  pub truthful : Bool
  pub arrivals : ℕ
  pub count : ℕ
  pub changes : List LineChange
  pub pages : ℕ → Arrivals

-- whether it isn't closed
abbrev pub goes_on : Followed → Bool
goes_on f = if f.rough then false else f.truthful

-- at the start each page that is open arrives
abbrev pub followed_first : List ℕ → List ℕ → Followed
followed_first S path =
    record {
      rough = false;
      truthful = true;
      arrivals = arriving None (map_of S path);
      count = 0;
      changes = [];
      pages = arrivals_first S path;
    }

-- one move more
abbrev pub followed_on : ℕ → List ℕ → List Item → State → Move → Followed → Followed
followed_on h path items st move f =
    record {
      rough = is_rough h path st move;
      truthful = not
          (brings_untrue (state_after st move).storage (map_of st.storage path)
          (map_of (state_after st move).storage path) f.pages);
      arrivals = f.arrivals + arriving (map_of st.storage path) (map_of (state_after st move).storage path);
      count = if is_counted h path st move then f.count + 1 else f.count;
      changes = (if is_counted h path st move then f.changes
          else (if lines_of h items st == lines_of h items (state_after st move) then f.changes
          else f.changes ++ record { count = f.count; bits = lines_of h items (state_after st move) } ∷ []));
      pages = arrivals_at (state_after st move).storage (map_of (state_after st move).storage path) f.pages;
    }

-- the same, unless it is closed
abbrev pub followed_after : ℕ → List ℕ → List Item → State → Move → Followed → Followed
followed_after h path items st move f = if goes_on f then followed_on h path items st move f else f

-- after some moves more
unfoldable pub followed_of : ℕ → List ℕ → List Item → State → List Move → Followed → Followed
followed_of h path items st [] f = f
followed_of h path items st (move ∷ moves) f =
    followed_of h path items (state_after st move) moves (followed_after h path items st move f)

-- A machine stands apart at the start, and f is told of it after some moves and isn't closed. It is then as a bare
-- machine is that began with its registers and with what was demanded of it, after as many steps and with the changes
-- of its lines that are told. (The bare machine itself is watched as hart 0.)
abbrev pub FollowedLaw : Type 0
FollowedLaw =
    (h : ℕ) (path : List ℕ) (items : List Item) (start : State) (moves : List Move) (f : Followed)
    → h < length start.harts
    → (path ≡ [] → h ≡ 0)
    → AreMasked moves
    → length path ≤ depth_limit
    → pin_of start.storage path ≡ Some items
    → is_apart start.storage items ≡ true
    → f ≡ followed_of h path items start moves (followed_first start.storage path)
    → goes_on f ≡ true
    → Alike h items (map_along (last_of start moves).storage items) (last_of start moves)
    (bare_of (demand (length (map_along start.storage items)) f.pages) (own h items start) f.changes f.count)
