-- What is so of each monitor and its child whatever their registers are.
use Rattle.std.proofs.Common.{◌≡◌, ℕ, ◌+◌, ◌<◌, ◌≤◌, Bool, true, cond, List, [], ◌∷◌, Some, None, refl, ap, ◌∙◌, sym, arith}
use Rattle.std.specs.Prelude.{◌==◌, ◌&&◌, ◌||◌, nat_lt, nat_le}
use Rattle.std.proofs.lemmas.Bool.{lt-ltb, le-leb}
use Rattle.hv_word.specs.Storage.{page_count, word_at}
use Rattle.hv_store.specs.declared.access.Slot.{Slot}
use Rattle.hv_block.specs.Block.{regs_at, fits_hart, fits_pages, contents_at, block_of}
use Rattle.hv_map.specs.Item.{Item}
use Rattle.hv_map.specs.Apart.{table_pages}
use Rattle.hv_map.specs.Compose.{compose}
use Rattle.hv_map.specs.Chain.{along, child_with, child_at, child_next}
use Rattle.hv_towers.specs.Laid.{from_base, child_base, HasPass}
use Rattle.hv_towers.proofs.Bases.{base_slot}

pub record Floor (S : List ℕ) (j base n : ℕ) (x : Item) : Type 0 where
  pub syllable : x.syllable ≡ 1
  pub block : x.block ≡ base + 1
  pub size : 2 + table_pages x.pages + x.pages ≤ n
  pub inside : x.block < page_count S
  pub some : 0 < x.pages
  pub few : x.pages ≤ 1048576
  pub early : x.table < 1048576
  pub plain : x.version ≡ 0
  pub pages : word_at S x.block 65 ≡ x.pages
  pub table : word_at S x.block 66 ≡ x.table
  pub version : word_at S x.block 67 ≡ x.version
  pub slots : compose S (from_base base n) j x.pages x.table x.version ≡ from_base (child_base base x.pages) x.pages
  pub program : HasPass S base

abbrev pub Floors : List ℕ → ℕ → ℕ → ℕ → List Item → Type 0
Floors S j base n [] = Unit {0}
Floors S j base n (x ∷ xs) = Floor S j base n x × Floors S (j + 1) (child_base base x.pages) x.pages xs

-- where the pages of the last machine begin, and how many there are
unfoldable pub top_base : ℕ → List Item → ℕ
top_base base [] = base
top_base base (x ∷ xs) = top_base (child_base base x.pages) xs

unfoldable pub top_pages : ℕ → List Item → ℕ
top_pages n [] = n
top_pages n (x ∷ xs) = top_pages x.pages xs

-- its map
pub top_map : (S : List ℕ) (j base n : ℕ) (items : List Item) → Floors S j base n items → along S (from_base base n) j items ≡ from_base (top_base base items) (top_pages n items)
unfolding along top_base top_pages
top_map S j base n [] floors = refl
top_map S j base n (x ∷ xs) floors =
    ap (λ (F : List Slot). along S F (j + 1) xs) floors.0.slots
    ∙ top_map S (j + 1) (child_base base x.pages) x.pages xs floors.1

-- the child of a monitor is there where its registers fit
module _ (S : List ℕ) (j base n : ℕ) (x : Item) (floor : Floor S j base n x) where
  two : 1 < n
  two = let size : 2 + table_pages x.pages + x.pages ≤ n = floor.size in omega (arith, size)

  sized : word_at S x.block 64 < x.pages → fits_pages S x.block ≡ true
  sized next =
      ap (λ (k : ℕ). nat_lt 0 k && nat_le k 1048576 && nat_lt (word_at S x.block 66) 1048576 && nat_lt (word_at S x.block 64) k && ((word_at S x.block 67 == 0) || (word_at S x.block 67 == 2))) floor.pages
      ∙ ap (λ (k : ℕ). nat_lt 0 x.pages && nat_le x.pages 1048576 && nat_lt k 1048576 && nat_lt (word_at S x.block 64) x.pages && ((word_at S x.block 67 == 0) || (word_at S x.block 67 == 2))) floor.table
      ∙ ap (λ (k : ℕ). nat_lt 0 x.pages && nat_le x.pages 1048576 && nat_lt x.table 1048576 && nat_lt (word_at S x.block 64) x.pages && ((k == 0) || (k == 2))) (floor.version ∙ floor.plain)
      ∙ (λ i. ((lt-ltb 0 x.pages floor.some) i) && ((le-leb x.pages 1048576 floor.few) i) && ((lt-ltb x.table 1048576 floor.early) i) && ((lt-ltb (word_at S x.block 64) x.pages next) i) && true)

  holds : fits_hart (regs_at S x.block) ≡ true → word_at S x.block 64 < x.pages → block_of S x.block ≡ Some (contents_at S x.block)
  holds fits next =
      ap (λ (b : Bool). cond (b && fits_pages S x.block) (Some (contents_at S x.block)) None) fits
      ∙ ap (λ (b : Bool). cond b (Some (contents_at S x.block)) None) (sized next)

  pub child_there : fits_hart (regs_at S x.block) ≡ true → word_at S x.block 64 < x.pages → child_next S (from_base base n) 1 ≡ Some x
  child_there fits next =
      ap (child_at S 1) (base_slot base n 1 two)
      ∙ ap (λ (g : ℕ). child_with 1 g (block_of S g)) (sym floor.block)
      ∙ ap (child_with 1 x.block) (holds fits next)
      ∙ (λ i. Some record {
        syllable = (sym floor.syllable) i;
        block = x.block;
        pages = floor.pages i;
        table = floor.table i;
        version = floor.version i;
      })
