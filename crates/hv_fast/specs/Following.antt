-- Following next from machine to machine.
use Rattle.std.specs.Prelude.{◌≡◌, ℕ, ◌<◌, List, [], ◌∷◌}
use Rattle.hv_cpu.specs.Regs.{Regs}
use Rattle.hv_block.specs.Block.{regs_at}
use Rattle.hv_map.specs.Item.{Item}

-- from the registers r one comes to the registers q by following next from each machine to the one that it runs, which
-- are the items
abbrev pub Leads : List ℕ → Regs → List Item → Regs → Type 0
Leads S r [] q = r ≡ q
Leads S r (x ∷ xs) q = (r.next ≡ x.syllable) × (0 < x.syllable) × Leads S (regs_at S x.block) xs q
