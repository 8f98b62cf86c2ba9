-- The laws of parked machines, as statements.
use Rattle.std.specs.Prelude.{◌≡◌, ℕ, ◌+◌, ◌≤◌, ◌<◌, true, false, List, [], ◌∷◌, ◌++◌, length, map, None, Some}
use Rattle.hv_cpu.specs.Regs.{Regs}
use Rattle.hv_limits.specs.Limits.{depth_limit}
use Rattle.hv_map.specs.Item.{Item}
use Rattle.hv_map.specs.Chain.{map_along, pin_of}
use Rattle.hv_map.specs.Apart.{is_apart}
use Rattle.hv_map.specs.Seen.{seen}
use Rattle.hv_nest.specs.State.{State}
use Rattle.hv_nest.specs.Move.{Move, last_of}
use Rattle.hv_nest.specs.Watched.{LineChange, Tally, no_tally, tally_of, foot}
use Rattle.hv_nest.specs.Bare.{alone, bare_of}
use Rattle.hv_whole.specs.Whole.{own, Alike, AreMasked}
use Rattle.hv_capsule.specs.Parked.{Parked}
use Rattle.hv_block.specs.Block.{regs_at}
use Rattle.hv_map.specs.Links.{last_block}
use Rattle.hv_move.specs.Saved.{first_absent}
use Rattle.hv_move.specs.Placed.{IsPlaced}

-- the changes with m added to each count
abbrev pub later : ℕ → List LineChange → List LineChange
later m changes = map (λ (l : LineChange). record { count = m + l.count; bits = l.bits }) changes

-- the counts of the changes rise from n to m, not always strictly
abbrev pub Rises : ℕ → List LineChange → ℕ → Type 0
Rises n [] m = n ≤ m
Rises n (l ∷ ls) m = (n ≤ l.count) × Rises l.count ls m

-- A bare machine that made m steps with some changes of its lines, and then goes on for n steps with others, is one
-- that made m + n steps with the first changes and then the others, whose counts are m more.
abbrev pub ContinuedLaw : Type 0
ContinuedLaw =
    (S T : List ℕ) (c d : Regs) (changes others : List LineChange) (m n : ℕ)
    → Rises 0 changes m
    → bare_of S c changes m ≡ alone T d
    → bare_of S c (changes ++ later m others) (m + n) ≡ bare_of T d others n

-- Hart h and a path are watched over a run, from a start at which the machine stands apart, and no step has touched:
-- t is what the watch tells of it. (The bare machine itself, with the empty path, is watched as hart 0.)
pub record IsWatchedRun (h : ℕ) (path : List ℕ) (items : List Item) (start : State) (moves : List Move) (t : Tally)
    : Type 0 where
  pub hart : h < length start.harts
  pub root : path ≡ [] → h ≡ 0
  pub masked : AreMasked moves
  pub short : length path ≤ depth_limit
  pub pinned : pin_of start.storage path ≡ Some items
  pub apart : is_apart start.storage items ≡ true
  pub told : t ≡ tally_of h path items (foot start.storage items) start moves no_tally
  pub untouched : t.touched ≡ false

-- The capsule m is the machine at the end of the items on hart h, in the state st, as it is there: it has its registers
-- and the storage that it sees, and every page of it can be read.
pub record IsMachineIn (st : State) (h : ℕ) (items : List Item) (m : Parked) : Type 0 where
  pub regs : m.regs ≡ own h items st
  pub storage : m.storage ≡ seen st.storage (map_along st.storage items)
  pub readable : first_absent (map_along st.storage items) ≡ None

-- A machine is watched over a run, and is then the capsule m. So is a machine, elsewhere and on any hart, at the
-- start of another run over which it is watched. At the end of that run it is as the bare machine is that began with
-- what the first saw at its start and its registers, and that made the steps of both runs, with the changes of lines
-- of the first and then those of the second, whose counts are as many more as the first run has steps.
abbrev pub MovedRunLaw : Type 0
MovedRunLaw =
    (h k : ℕ) (path place : List ℕ) (items there again : List Item) (start anew : State) (moves more : List Move)
    (t u : Tally) (m : Parked)
    → IsWatchedRun h path items start moves t
    → pin_of (last_of start moves).storage path ≡ Some again
    → IsMachineIn (last_of start moves) h again m
    → IsWatchedRun k place there anew more u
    → IsMachineIn anew k there m
    → Alike k there (map_along anew.storage there) (last_of anew more)
    (bare_of (seen start.storage (map_along start.storage items)) (own h items start)
    (t.changes ++ later t.count u.changes) (t.count + u.count))

-- A machine that was made the parked machine m is m, in every state with that storage and on every hart.
abbrev pub PlacedLaw : Type 0
PlacedLaw =
    (S : List ℕ) (items : List Item) (m : Parked) (st : State) (h g : ℕ)
    → last_block items ≡ Some g
    → IsPlaced S st.storage items m
    → IsMachineIn st h items m

-- A machine is watched over a run, and is then the capsule m, which is placed elsewhere, from the storage S on, and
-- watched there over another run. At the end of that run it is as one bare machine is, as in the law on moved runs.
abbrev pub PlacedRunLaw : Type 0
PlacedRunLaw =
    (h k g : ℕ) (path place : List ℕ) (items there again : List Item) (start anew : State) (moves more : List Move)
    (t u : Tally) (m : Parked) (S : List ℕ)
    → IsWatchedRun h path items start moves t
    → pin_of (last_of start moves).storage path ≡ Some again
    → IsMachineIn (last_of start moves) h again m
    → last_block there ≡ Some g
    → IsPlaced S anew.storage there m
    → IsWatchedRun k place there anew more u
    → Alike k there (map_along anew.storage there) (last_of anew more)
    (bare_of (seen start.storage (map_along start.storage items)) (own h items start)
    (t.changes ++ later t.count u.changes) (t.count + u.count))

-- A machine that was made the parked machine m can be saved, and every capsule that has then the registers of its block
-- and the pages that it sees is m.
abbrev pub SavedAgainLaw : Type 0
SavedAgainLaw =
    (S T : List ℕ) (items : List Item) (m n : Parked) (g : ℕ)
    → last_block items ≡ Some g
    → IsPlaced S T items m
    → (first_absent (map_along T items) ≡ None)
    × (n.regs ≡ regs_at T g → n.storage ≡ seen T (map_along T items) → n ≡ m)
