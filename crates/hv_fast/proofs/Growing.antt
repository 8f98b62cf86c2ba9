-- What rests on some pages rests on more.
use Rattle.std.proofs.Common.{◌≡◌, ℕ, ◌+◌, true, List, [], ◌∷◌, Some, None, subst}
use Rattle.std.proofs.lemmas.Option.{same_Some}
use Rattle.hv_word.specs.Storage.{page_count}
use Rattle.hv_block.specs.Block.{is_block}
use Rattle.hv_map.specs.Held.{Lists, Placed, SaysItems}
use Rattle.hv_map.specs.Item.{Item}
use Rattle.hv_map.specs.Links.{last_block}
use Rattle.hv_map.specs.Gathered.{Gathered, bare_gathered_map, gathered_map}
use Rattle.hv_fast.specs.Laws.{BlocksMoreLaw, HeldMoreLaw, PinEndsLaw, PinMoreLaw}
use Rattle.hv_fast.specs.Marked.{IsMore, Marked, listed}
use Rattle.hv_fast.proofs.Descending.{last_idle}
use Rattle.hv_fast.proofs.Saying.{says_block}
use Rattle.hv_fast.proofs.Staying.{placed_says}

lists_more : (m n : Marked) (gs : List ℕ) → IsMore m n → Lists (listed m.tables) gs → Lists (listed n.tables) gs
lists_more m n [] more lists = tt
lists_more m n (g ∷ gs) more lists = (more.tables g lists.0, lists_more m n gs more lists.1)

placed_more : (S : List ℕ) (N : List Gathered) (m n : Marked) (j : ℕ) (items : List Item)
    → IsMore m n
    → Placed S N (listed m.tables) j items
    → Placed S N (listed n.tables) j items
placed_more S N m n j [] more placed = tt
placed_more S N m n j (x ∷ xs) more placed =
    let a = placed.0 in (
      record { gathered = a.gathered; found = a.found; opens = a.opens; listed = lists_more m n a.gathered.pages more a.listed; says = a.says },
      placed_more S (gathered_map S N j x.pages x.table x.version) m n (j + 1) xs more placed.1,
    )

pub pin_more : PinMoreLaw
pin_more S r items m n more pin = record {
  short = pin.short;
  placed = placed_more S (bare_gathered_map (page_count S)) m n 0 items more pin.placed;
  nexts = pin.nexts;
}

pub held_more : HeldMoreLaw
held_more S items m n page slot more held = record {
  placed = placed_more S (bare_gathered_map (page_count S)) m n 0 items more held.placed;
  gathered = held.gathered;
  found = held.found;
  same = held.same;
  listed = lists_more m n held.gathered.pages more held.listed;
}

pub blocks_more : BlocksMoreLaw
blocks_more [] m n more blocks = tt
blocks_more (x ∷ xs) m n more blocks = (more.blocks x.block blocks.0, blocks_more xs m n more blocks.1)

-- the last block is well formed, as all are
last_fits : (S : List ℕ) (items : List Item) (g : ℕ) → SaysItems S items → last_block items ≡ Some g → is_block S g ≡ true
last_fits S [] g says last = absurd (let f : None ≡ Some g = last in cc)
last_fits S (x ∷ []) g says last = subst (λ (k : ℕ). is_block S k ≡ true) (same_Some x.block g last) (says_block S x says.0).0
last_fits S (x ∷ (y ∷ ys)) g says last = last_fits S (y ∷ ys) g says.1 last

pub pin_ends : PinEndsLaw
pin_ends S r items m g pin last = (
  last_fits S items g (placed_says S (bare_gathered_map (page_count S)) (listed m.tables) 0 items pin.placed) last,
  last_idle S r items g pin.nexts last,
)
