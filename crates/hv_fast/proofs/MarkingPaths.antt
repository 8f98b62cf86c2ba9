-- What is found by some pages is marked page by page.
use Rattle.std.proofs.Common.{◌≡◌, ℕ, suc, ◌+◌, ◌<◌, ◌≤◌, true, Bool, List, [], ◌∷◌, length, Some, refl, ap, ◌∙◌, sym, subst, arith, slice_get, get_or, All}
use borrow.Author.Count.{below_more}
use Rattle.std.specs.List.{list_all}
use Rattle.std.specs.Option.{option_map}
use Rattle.std.specs.Prelude.{nat_lt}
use Rattle.std.proofs.lemmas.Bool.{ltb-true}
use Rattle.std.proofs.lemmas.List.Sums.{AllPass-from_list_all}
use Rattle.std.proofs.lemmas.Option.{same_Some}
use Rattle.hv_limits.specs.Limits.{pages_limit}
use Rattle.hv_word.specs.Words.{has}
use Rattle.hv_map.specs.Held.{Lists}
use Rattle.hv_map.specs.Item.{Item}
use Rattle.hv_map.specs.Links.{chain_item}
use Rattle.hv_map.specs.declared.chain.ChainItem.{ChainItem}
use Rattle.hv_fast.specs.Marked.{BlocksIn, IsMore, Marked, listed}

-- marks grow step by step
pub more_same : (m : Marked) → IsMore m m
more_same m = record { tables = λ g h. h; blocks = λ g h. h }

pub more_still : (m n o : Marked) → IsMore m n → IsMore n o → IsMore m o
more_still m n o first then = record {
  tables = λ g h. then.tables g (first.tables g h);
  blocks = λ g h. then.blocks g (first.blocks g h);
}

-- pages that can be marked
pub all_inside : (gs : List ℕ) (b : Bool) → b ≡ list_all (λ g. nat_lt g pages_limit) gs → b ≡ true → All (λ g. g < pages_limit) gs
all_inside gs b is inside = λ k d lt.
    ltb-true (get_or gs k d) pages_limit (AllPass-from_list_all (λ g. nat_lt g pages_limit) gs (sym is ∙ inside) k d lt)

-- the blocks of the first i items are in these pages
abbrev pub BlocksTo : List ℕ → List Item → ℕ → Type 0
BlocksTo gs items i = (k : ℕ) → k < i → (x : Item) → slice_get items k ≡ Some x → has x.block gs ≡ true

pub blocks_none : (gs : List ℕ) (items : List Item) → BlocksTo gs items 0
blocks_none gs items = λ k lt x e. absurd (omega arith)

pub blocks_further : (m n : Marked) (items : List Item) (i : ℕ) (c : ChainItem)
    → IsMore m n
    → BlocksTo m.blocks items i
    → option_map chain_item (slice_get items i) ≡ Some c
    → has c.block n.blocks ≡ true
    → BlocksTo n.blocks items (i + 1)
blocks_further m n items i c more before is there =
    below_more (λ (k : ℕ). (x : Item) → slice_get items k ≡ Some x → has x.block n.blocks ≡ true) i
    (λ k lt x e. more.blocks x.block (before k lt x e))
    (λ x e. here x (sym (ap (option_map chain_item) e) ∙ is))
  where
    here : (x : Item) → Some (chain_item x) ≡ Some c → has x.block n.blocks ≡ true
    here x e =
        let same : chain_item x ≡ c = same_Some (chain_item x) c e in
        subst (λ (k : ℕ). has k n.blocks ≡ true) (sym (ap (λ (d : ChainItem). d.block) same)) there

pub blocks_all : (gs : List ℕ) (items : List Item) (n : ℕ) → length items ≤ n → BlocksTo gs items n → BlocksIn gs items
blocks_all gs [] n long all = tt
blocks_all gs (x ∷ xs) n long all =
    (all 0 (omega arith) x refl, blocks_all gs xs (length xs) (omega arith) (λ k lt y e. all (suc k) (omega arith) y e))

-- the first i of some pages are in these
abbrev pub PagesTo : List ℕ → List ℕ → ℕ → Type 0
PagesTo gs hs i = (k : ℕ) → k < i → has (get_or hs k 0) gs ≡ true

pub pages_none : (gs hs : List ℕ) → PagesTo gs hs 0
pages_none gs hs = λ k lt. absurd (omega arith)

pub pages_further : (m n : Marked) (hs : List ℕ) (i : ℕ) → IsMore m n → PagesTo m.blocks hs i → has (get_or hs i 0) n.blocks ≡ true → PagesTo n.blocks hs (i + 1)
pages_further m n hs i more before there =
    below_more (λ (k : ℕ). has (get_or hs k 0) n.blocks ≡ true) i (λ k lt. more.blocks (get_or hs k 0) (before k lt)) there

pub pages_all : (gs hs : List ℕ) (n : ℕ) → length hs ≤ n → PagesTo gs hs n → Lists (listed gs) hs
pages_all gs [] n long all = tt
pages_all gs (h ∷ hs) n long all =
    (all 0 (omega arith), pages_all gs hs (length hs) (omega arith) (λ k lt. all (suc k) (omega arith)))
