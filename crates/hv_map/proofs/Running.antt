-- The path that is found by following next is one that machines stand on.
use Rattle.std.proofs.Common.{◌≡◌, ℕ, zero, suc, ◌+◌, ◌≤◌, List, [], ◌∷◌, length, Option, Some, None, refl, ap, ◌∙◌, arith}
use Rattle.std.specs.Option.{option_map}
use Rattle.hv_word.specs.Storage.{page_count}
use Rattle.hv_cpu.specs.Regs.{Regs}
use Rattle.hv_store.specs.declared.access.Slot.{Slot}
use Rattle.hv_store.specs.Access.{identity}
use Rattle.hv_block.specs.Block.{regs_at}
use Rattle.hv_map.specs.Item.{Item}
use Rattle.hv_map.specs.Compose.{compose}
use Rattle.hv_map.specs.Chain.{map_along, child_of, machines, pin_of, map_of, child_next, run_on, running, running_path}
use Rattle.hv_limits.specs.Limits.{depth_limit}
use Rattle.hv_map.proofs.Assoc.{begins_from}
use Rattle.hv_map.proofs.Words.{follows}

-- the child that runs is on the page that its number says
next_child : (S : List ℕ) (F : List Slot) (next : ℕ) (x : Item) → child_next S F next ≡ Some x → child_of S F x.syllable ≡ Some x
next_child S F zero x e = absurd (let f : None ≡ Some x = e in cc)
next_child S F (suc s) x e = ap (child_of S F) (follows S F (suc s) x e).syllable ∙ e

-- the machines on it, and how many they are at most
pub record Pins (S : List ℕ) (F : List Slot) (j n : ℕ) (path : List ℕ) : Type 0 where
  pub items : List Item
  pub there : machines S F j path ≡ Some items
  pub short : length path ≤ n

pins_more : (n : ℕ) (S : List ℕ) (F : List Slot) (j : ℕ) (r : Regs) (o : Option Item)
    → child_next S F r.next ≡ o
    → ((G : List Slot) (l : ℕ) (c : Regs) → Pins S G l n (running n S G l c))
    → Pins S F j (suc n) (run_on (running n) S F j o)
unfolding machines
pins_more n S F j r None e deeper = record { items = []; there = refl; short = omega arith }
pins_more n S F j r (Some x) e deeper =
    let p = deeper (compose S F j x.pages x.table x.version) (j + 1) (regs_at S x.block) in
    record {
      items = x ∷ p.items;
      there = begins_from S F j x.syllable (running n S (compose S F j x.pages x.table x.version) (j + 1) (regs_at S x.block)) x p.items (next_child S F r.next x e) p.there;
      short = omega (arith, p.short);
    }

pub running_pins : (n : ℕ) (S : List ℕ) (F : List Slot) (j : ℕ) (r : Regs) → Pins S F j n (running n S F j r)
unfolding running machines
running_pins zero S F j r = record { items = []; there = refl; short = omega arith }
running_pins (suc n) S F j r = pins_more n S F j r (child_next S F r.next) refl (λ G l c. running_pins n S G l c)

pub running_law : (S : List ℕ) (r : Regs) → (F : List Slot) × (map_of S (running_path S r) ≡ Some F) × (length (running_path S r) ≤ depth_limit)
unfolding pin_of
running_law S r =
    let p = running_pins depth_limit S (identity (page_count S)) 0 r in
    (map_along S p.items, ap (option_map (map_along S)) p.there, p.short)
