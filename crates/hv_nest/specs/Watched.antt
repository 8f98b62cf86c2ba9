-- A watch names a hart and a machine by its path. What counts for it, and what may not be changed by others, is fixed
-- by the state at the start and by the moves.
use Rattle.std.specs.Prelude.{ℕ, ◌+◌, ◌*◌, ◌%◌, Bool, true, false, not, ◌&&◌, ◌==◌, nat_eq, nat_lt, if◌then◌else◌}
use Rattle.std.specs.Prelude.{List, [], ◌∷◌, ◌++◌, map, length, Option, Some, None, slice_get, slice_index}
use Rattle.std.specs.List.{range_with_len, flat_map, starts_with}
use Rattle.hv_word.specs.Storage.{page_count, word_at}
use Rattle.hv_cpu.specs.Regs.{Regs}
use Rattle.hv_cpu.specs.Lines.{lines, unlined}
use Rattle.hv_store.specs.declared.access.Slot.{Slot}
use Rattle.hv_store.specs.Access.{identity}
use Rattle.hv_map.specs.Item.{Item}
use Rattle.hv_map.specs.Compose.{compose, reading, table_of}
pub use Rattle.hv_map.specs.Links.{last_block}
use Rattle.hv_map.specs.Chain.{map_along}
use Rattle.hv_map.specs.Apart.{table_open, directory_of, table_pages, open_pages}
use Rattle.hv_nest.specs.declared.outcome.StepKind.{StepKind}
use Rattle.hv_nest.specs.declared.outcome.StepKind.TheVariants.{Worked as WorkedKind, Recall, Fault}
use Rattle.hv_nest.specs.State.{State}
use Rattle.hv_nest.specs.Move.{Move, StepOf, LinesOf, moved_of, running_of, state_after}

-- the path p begins q
abbrev pub begins : List ℕ → List ℕ → Bool
begins p q = starts_with nat_eq q p

-- a recall or fault that was received at a level below k
abbrev pub is_outside : ℕ → StepKind → Bool
is_outside k WorkedKind = false
is_outside k (Recall l) = nat_lt l k
is_outside k (Fault l c address a) = nat_lt l k

-- A move counts for hart h and the path p where it is a step of that hart, p begins the running path before it, and its
-- outcome isn't a recall or a fault for a machine outside the one at the end of p.
abbrev pub is_counted : ℕ → List ℕ → State → Move → Bool
is_counted h p st (StepOf hart) =
    (hart == h) && (begins p (running_of st hart) && not (is_outside (length p) (moved_of st hart).kind))
is_counted h p st (LinesOf hart mask) = false

-- the places of the words of bare page g that a list names
abbrev pub places : ℕ → List ℕ → List ℕ
places g ks = map (λ k. 1024 * g + k) ks

-- The places of the words that a child's map is read from, besides its parent's map F, at level j: pages, table and
-- version in its block, the directory words and the table words of its pages that its parent can read.
abbrev pub item_foot : List ℕ → List Slot → ℕ → Item → List ℕ
item_foot S F j x =
    places x.block (65 ∷ 66 ∷ 67 ∷ [])
    ++ (flat_map (λ d. places d (range_with_len 0 (table_pages x.pages))) (directory_of F x)
    ++ flat_map
    (λ i. places_of (table_open F (table_of S (reading F) j x.table x.version i)) (i % 1024))
    (range_with_len 0 x.pages))
  where
    places_of : List ℕ → ℕ → List ℕ
    places_of gs k = map (λ g. 1024 * g + k) gs

-- the same of all machines on the way
unfoldable pub chain_foot : List ℕ → List Slot → ℕ → List Item → List ℕ
chain_foot S F j [] = []
chain_foot S F j (x ∷ xs) = item_foot S F j x ++ chain_foot S (compose S F j x.pages x.table x.version) (j + 1) xs

-- the words 0 to 48 and 64 of a block but word 42, which has the lines
abbrev pub own_places : Option ℕ → List ℕ
own_places None = []
own_places (Some g) = places g (range_with_len 0 42 ++ (range_with_len 43 6 ++ 64 ∷ []))

-- the places of all words of the pages that can be read
abbrev pub page_foot : List Slot → List ℕ
page_foot F = flat_map (λ g. places g (range_with_len 0 1024)) (open_pages F)

-- the places of all words that the machine at the end of the items stands on
unfoldable pub standing_places : List ℕ → List Item → List ℕ
standing_places S items =
    chain_foot S (identity (page_count S)) 0 items ++ (own_places (last_block items) ++ page_foot (map_along S items))

-- a list without a number
unfoldable pub without : ℕ → List ℕ → List ℕ
without a [] = []
without a (b ∷ bs) = if b == a then without a bs else b ∷ without a bs

-- places without that of the word of a block that has the interrupt lines, wherever else they have it from
abbrev pub but_lines : Option ℕ → List ℕ → List ℕ
but_lines None places = places
but_lines (Some g) places = without (1024 * g + 42) places

-- The foot of the machine at the end of the items, in the storage S at the start: the places of the words that no other
-- machine may change. Word 42 of its block belongs to it too, without the lines, also where the machine sees its own
-- block.
unfoldable pub foot : List ℕ → List Item → List ℕ
foot S items = but_lines (last_block items) (standing_places S items)

-- the words at those places are the same in two storages
unfoldable pub are_same : List ℕ → List ℕ → List ℕ → Bool
are_same [] S T = true
are_same (a ∷ rest) S T = (slice_index S a == slice_index T a) && are_same rest S T

-- word 42 of the last block, which is mip, is the same but for the lines
abbrev pub same_status : Option ℕ → List ℕ → List ℕ → Bool
same_status None S T = true
same_status (Some g) S T = unlined (word_at S g 42) == unlined (word_at T g 42)

-- whether a change from the storage S to T leaves the foot of a machine as it is
abbrev pub keeps_foot : List ℕ → List Item → List ℕ → List ℕ → Bool
keeps_foot ft items S T = are_same ft S T && same_status (last_block items) S T

-- The interrupt lines of a watched machine: in word 42 of the bare page where its block stood at the start, or in its
-- hart.
abbrev pub lines_at : Option Regs → ℕ
lines_at None = 0
lines_at (Some r) = lines r.mip

-- the interrupt lines of the machine at the end of the items: those in its block, or those of the hart
abbrev pub lines_of : ℕ → List Item → State → ℕ
lines_of h [] st = lines_at (slice_get st.harts h)
lines_of h (x ∷ xs) st = lines_in (last_block (x ∷ xs)) st.storage
  where
    lines_in : Option ℕ → List ℕ → ℕ
    lines_in None S = 0
    lines_in (Some g) S = lines (word_at S g 42)

-- A change of the lines from outside, told with how many steps were counted before it.
pub record LineChange : Type 0 where
  pub count : ℕ
  pub bits : ℕ

-- what a watch has told so far
pub record Tally : Type 0 where
  pub count : ℕ
  pub changes : List LineChange
  pub touched : Bool

-- the tally before any move
abbrev pub no_tally : Tally
no_tally = record { count = 0; changes = []; touched = false }

-- the tally after a move from st to next that doesn't count
abbrev pub beside : ℕ → List Item → List ℕ → State → State → Tally → Tally
beside h items ft st next t = record t {
  changes = (if lines_of h items st == lines_of h items next then t.changes
      else t.changes ++ record { count = t.count; bits = lines_of h items next } ∷ []);
  touched = (if t.touched then true else not (keeps_foot ft items st.storage next.storage));
}

-- the tally after a move, for hart h, the path p, the machines on it and its foot at the start
abbrev pub tally_after : ℕ → List ℕ → List Item → List ℕ → State → Move → Tally → Tally
tally_after h p items ft st move t =
    if is_counted h p st move then record t { count = t.count + 1 }
    else beside h items ft st (state_after st move) t

-- the tally after some moves more
unfoldable pub tally_of : ℕ → List ℕ → List Item → List ℕ → State → List Move → Tally → Tally
tally_of h p items ft st [] t = t
tally_of h p items ft st (move ∷ moves) t =
    tally_of h p items ft (state_after st move) moves (tally_after h p items ft st move t)
