-- Which words of the storage the map along a row of machines is read from, and what is always so of such a row.
use Rattle.std.specs.Prelude.{◌≡◌, ℕ, ◌+◌, List, [], ◌∷◌, Some, map, slice_get}
use Rattle.hv_word.specs.Storage.{word_at}
use Rattle.hv_store.specs.declared.access.Slot.{Slot}
use Rattle.hv_store.specs.declared.access.Way.TheVariants.{Open}
use Rattle.hv_map.specs.Item.{Item}
use Rattle.hv_map.specs.Compose.{compose, EachTableWord}

-- P holds of the words of the block of x that say pages, table and version, and of the words of its table
pub record EachItem (P : ℕ → ℕ → Type 0) (S : List ℕ) (F : List Slot) (j : ℕ) (x : Item) : Type 0 where
  pub pages : P x.block 65
  pub table : P x.block 66
  pub version : P x.block 67
  pub words : EachTableWord P S F j x.pages x.table x.version

-- the same of each of the items, where F is the map of the machine before the first, at level j
abbrev pub EachChain : (ℕ → ℕ → Type 0) → List ℕ → List Slot → ℕ → List Item → Type 0
EachChain P S F j [] = Unit {0}
EachChain P S F j (x ∷ xs) = EachItem P S F j x × EachChain P S (compose S F j x.pages x.table x.version) (j + 1) xs

-- x is on its page of a machine with the map F: the block's page is the one that can be written there, and its words
-- say pages, table and version. (Its registers may be anything: the machine that holds it may have spoiled them.)
pub record IsChild (S : List ℕ) (F : List Slot) (x : Item) : Type 0 where
  pub slot : Slot
  pub there : slice_get F x.syllable ≡ Some slot
  pub writes : slot.write ≡ Open x.block
  pub pages : word_at S x.block 65 ≡ x.pages
  pub table : word_at S x.block 66 ≡ x.table
  pub version : word_at S x.block 67 ≡ x.version

-- each of the items is on its page of the one before
abbrev pub Chained : List ℕ → List Slot → ℕ → List Item → Type 0
Chained S F j [] = Unit {0}
Chained S F j (x ∷ xs) = IsChild S F x × Chained S (compose S F j x.pages x.table x.version) (j + 1) xs

-- the path of the items
abbrev pub syllables : List Item → List ℕ
syllables items = map (λ (x : Item). x.syllable) items
