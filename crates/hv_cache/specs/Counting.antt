-- How often the entries of a cache name each bare page.
use Rattle.std.specs.Prelude.{◌≡◌, ℕ, ◌+◌, ◌<◌, ◌≤◌, ◌^◌, ◌==◌, List, [], ◌∷◌, length, slice_index}
use Rattle.std.specs.List.{AllByRecursion, count_by}
use Rattle.hv_limits.specs.Limits.{depth_limit, pages_limit}
use Rattle.hv_map.specs.Gathered.{listed_limit}
use Rattle.hv_cache.specs.Kept.{Kept}
use Rattle.hv_cache.specs.Holding.{Entry, Holding, entries_limit}

-- how often a number stands in a list
abbrev pub occurrences : ℕ → List ℕ → ℕ
occurrences g xs = count_by (λ x. g == x) xs

-- how often what is kept names the bare page g, and how often among its tables
unfoldable pub pages_named : ℕ → Kept → ℕ
pages_named g k = occurrences g k.blocks + occurrences g k.tables

unfoldable pub tables_named : ℕ → Kept → ℕ
tables_named g k = occurrences g k.tables

-- the sum of a number of each entry
unfoldable pub total : (Kept → ℕ) → List Entry → ℕ
total f [] = 0
total f (e ∷ es) = f e.1 + total f es

-- for each bare page how often it is named, and how often among tables
pub record Tallied : Type 0 where
  pub pages : List ℕ
  pub tables : List ℕ

-- u is t, with the pages that k names counted once more
pub record Adds (t : Tallied) (k : Kept) (u : Tallied) : Type 0 where
  pub pages : (g : ℕ) → slice_index u.pages g ≡ slice_index t.pages g + pages_named g k
  pub tables : (g : ℕ) → slice_index u.tables g ≡ slice_index t.tables g + tables_named g k

-- the pages that k names can be counted once more in 32 bits
pub record HasRoom (t : Tallied) (k : Kept) : Type 0 where
  pub pages : (g : ℕ) → slice_index t.pages g + pages_named g k < 2 ^ 32
  pub tables : (g : ℕ) → slice_index t.tables g + tables_named g k < 2 ^ 32

-- the pages that k names have been counted
pub record Covers (t : Tallied) (k : Kept) : Type 0 where
  pub pages : (g : ℕ) → pages_named g k ≤ slice_index t.pages g
  pub tables : (g : ℕ) → tables_named g k ≤ slice_index t.tables g

-- what is kept names at most as many pages as a chain and a list of pages have
abbrev pub IsShort : Kept → Type 0
IsShort k = length k.blocks + length k.tables ≤ depth_limit + listed_limit

-- it names bare pages of the storage alone
pub record IsInside (k : Kept) : Type 0 where
  pub blocks : AllByRecursion (λ g. g < pages_limit) k.blocks
  pub tables : AllByRecursion (λ g. g < pages_limit) k.tables

-- the tally is that of the entries, of which none names too many pages to be counted.
pub record IsTally (c : Holding) (t : Tallied) : Type 0 where
  pub few : c.cap ≤ entries_limit
  pub short : AllByRecursion (λ (e : Entry). IsShort e.1) c.entries
  pub pages : (g : ℕ) → slice_index t.pages g ≡ total (pages_named g) c.entries
  pub tables : (g : ℕ) → slice_index t.tables g ≡ total (tables_named g) c.entries
