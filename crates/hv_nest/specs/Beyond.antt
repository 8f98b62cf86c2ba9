-- What is found by following next from a machine on.
use Rattle.std.specs.Prelude.{ℕ, ◌-◌, List, ◌++◌, length, map}
use Rattle.hv_cpu.specs.Regs.{Regs}
use Rattle.hv_map.specs.Item.{Item}
use Rattle.hv_map.specs.Chain.{map_along, running}
use Rattle.hv_limits.specs.Limits.{depth_limit}
use Rattle.hv_map.specs.Links.{syllable_of}

-- the path of the last of these machines, with what it runs where its registers are r
unfoldable pub beyond : List ℕ → List Item → Regs → List ℕ
beyond S xs r = map syllable_of xs ++ running (depth_limit - length xs) S (map_along S xs) (length xs) r
