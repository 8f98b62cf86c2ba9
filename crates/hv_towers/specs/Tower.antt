-- What a play of a tower comes to. All registers are zero at the start, and the bare machine's one hart makes 3 D + m
-- steps.
use Rattle.std.specs.Prelude.{◌≡◌, ℕ, ◌+◌, ◌*◌, ◌≤◌, ◌⊎◌, Bool, true, false, ◌==◌, List, [], replicate}
use Rattle.std.specs.List.{list_any}
use Rattle.hv_cpu.specs.Regs.{reset_regs}
use Rattle.hv_map.specs.Item.{Item}
use Rattle.hv_map.specs.Chain.{map_along}
use Rattle.hv_map.specs.Apart.{is_apart, is_one}
use Rattle.hv_nest.specs.State.{State}
use Rattle.hv_nest.specs.Move.{Move, StepOf, last_of}
use Rattle.hv_nest.specs.Watched.{Tally, no_tally, tally_of, foot}
use Rattle.hv_nest.specs.Bare.{alone, bare_of}
use Rattle.hv_whole.specs.Whole.{Alike}
use Rattle.hv_run.specs.Record.{FaultRecord, no_count, count_of}
use Rattle.hv_towers.specs.Laid.{Laid}

-- n steps of hart 0
abbrev pub steps : ℕ → List Move
steps n = replicate n (StepOf 0)

-- the storage of the start, and a hart that was reset
abbrev pub start_of : List ℕ → State
start_of S = alone S reset_regs

-- the tally of the watch of the machine at the end after n steps
abbrev pub tally_of_steps : ℕ → List ℕ → List Item → ℕ → Tally
tally_of_steps D S items n = tally_of 0 (replicate D 1) items (foot S items) (start_of S) (steps n) no_tally

-- whether a machine was asked to run another that is too deep, in n steps
abbrev pub is_too_deep : List ℕ → ℕ → Bool
is_too_deep S n = list_any (λ (f : FaultRecord). f.cause == 5) (count_of (start_of S) (steps n) no_count).faults

-- what is so of the play of a tower of D levels over S, beside the bare machine over T, for m steps of the top
pub record TowerPlayed (D : ℕ) (S T : List ℕ) (items : List Item) (m : ℕ) : Type 0 where
  pub one : is_one S items ≡ true
  pub apart : is_apart S items ≡ true
  -- the first 3 D steps are the monitors'
  pub monitors : (n : ℕ) → n ≤ 3 * D → (tally_of_steps D S items n).count ≡ 0
  pub untouched : (tally_of_steps D S items (3 * D + m)).touched ≡ false
  pub unlined : (tally_of_steps D S items (3 * D + m)).changes ≡ []
  -- the rest are those of the machine at the end
  pub runs : (is_too_deep S (3 * D + m) ≡ true)
      ⊎ (((tally_of_steps D S items (3 * D + m)).count ≡ m)
      × Alike 0 items (map_along S items) (last_of (start_of S) (steps (3 * D + m))) (bare_of T reset_regs [] m))

-- that holds of every tower that is laid
abbrev pub TowerPlayLaw : Type 0
TowerPlayLaw = (D N m : ℕ) (S T : List ℕ) (items : List Item) → Laid D N S T items → TowerPlayed D S T items m
