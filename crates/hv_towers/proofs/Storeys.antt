-- The levels of a tower, by the words of the storage alone: which machines there are, and their maps.
use Rattle.std.proofs.Common.{◌≡◌, ℕ, ◌+◌, ◌*◌, ◌/◌, ◌%◌, ◌<◌, ◌≤◌, Bool, true, cond, List, [], ◌∷◌, length, replicate, Option, Some, None, refl, ap, ◌∙◌, arith, lit<, slice_get}
use Rattle.std.specs.Option.{option_map, option_and_then}
use Rattle.std.specs.Prelude.{◌==◌, ◌&&◌, ◌||◌, nat_lt, nat_le}
use Rattle.std.proofs.lemmas.Bool.{lt-ltb, le-leb, ne_eqb}
use Rattle.hv_limits.specs.Limits.{pages_limit}
use Rattle.hv_word.specs.Words.{field_of}
use Rattle.hv_word.specs.Storage.{page_count, word_at}
use Rattle.hv_cpu.specs.Regs.{Regs, reset_regs}
use Rattle.hv_store.specs.declared.access.Slot.{Slot}
use Rattle.hv_store.specs.declared.access.Way.TheVariants.{Open, Shut}
use Rattle.hv_store.specs.Access.{identity, open_at}
use Rattle.hv_block.specs.Block.{regs_at, fits_hart, fits_pages, contents_at, block_of}
use Rattle.hv_map.specs.Item.{Item}
use Rattle.hv_map.specs.Apart.{table_pages}
use Rattle.hv_map.specs.Compose.{Named, Stopped, present, look, granted, slot_through, slot_of, reading, compose, compose_slot}
use Rattle.hv_map.specs.Chain.{along, map_along, child_at, child_with, child_of, option_cons, machines, pin_of, map_of}
use Rattle.hv_map.proofs.Agree.{map_range_alike}
use Rattle.hv_load.specs.Making.{block_word, entry_word, table_word}
use Rattle.hv_towers.specs.Laid.{from_base, child_base, HasPass, LaidAt, LaidFrom}
use Rattle.hv_towers.proofs.Bases.{base_slot, base_zero}

-- A monitor with n pages from bare page `base` on, and its child with m pages: its program, and the block and the table of
-- its child.
pub record Storey (S : List ℕ) (base n m : ℕ) : Type 0 where
  pub some : 1 ≤ m
  pub size : 2 + table_pages m + m ≤ n
  pub program : HasPass S base
  pub block : (w : ℕ) → w < 1024 → word_at S (base + 1) w ≡ block_word m 2 w
  pub table : (k w : ℕ) → k < table_pages m → w < 1024 → word_at S (base + 2 + k) w ≡ table_word m (2 + table_pages m) k w

-- the same of each monitor, where the pages of their children are given
abbrev pub Storeys : List ℕ → ℕ → ℕ → List ℕ → Type 0
Storeys S base n [] = Unit {0}
Storeys S base n (m ∷ ms) = Storey S base n m × Storeys S (child_base base m) m ms

abbrev pub item_of : ℕ → ℕ → Item
item_of base m = record { syllable = 1; block = base + 1; pages = m; table = 2; version = 0 }

unfoldable pub items_of : ℕ → List ℕ → List Item
items_of base [] = []
items_of base (m ∷ ms) = item_of base m ∷ items_of (child_base base m) ms

-- where the pages of the last machine begin, and how many there are
unfoldable pub end_base : ℕ → List ℕ → ℕ
end_base base [] = base
end_base base (m ∷ ms) = end_base (child_base base m) ms

unfoldable pub end_size : ℕ → List ℕ → ℕ
end_size n [] = n
end_size n (m ∷ ms) = end_size m ms

-- an entry that is present, and can be written
present_odd : (j i w : ℕ) → w % 2 ≡ 1 → present j i w ≡ Named w
present_odd j i w odd = ap (λ (b : Bool). cond b (Stopped (Shut j 1 i None)) (Named w)) (ne_eqb (w % 2) 0 (λ e. omega (arith, e, odd)))

granted_open : (j i e g : ℕ) → e / 2 % 2 ≡ 1 → granted j 0 i e (open_at g) ≡ open_at g
granted_open j i e g odd = λ k. record {
  read = Open g;
  write = cond ((ne_eqb (e / 2 % 2) 0 (λ f. omega (arith, f, odd))) k) (Shut j 2 i None) (Open g);
  fetch = Open g;
}

module _ (S : List ℕ) (j base n m : ℕ) (few : n ≤ pages_limit) (storey : Storey S base n m) where
  inside : 2 + table_pages m + m ≤ n
  inside = storey.size

  -- the table word of a page, and the page that it names
  entry : ℕ → ℕ
  entry i = (2 + table_pages m + i) * 4096 + 3

  read_table : (i : ℕ) → i < m → reading (from_base base n) (2 + i / 1024) ≡ Some (Open (base + (2 + i / 1024)))
  read_table i lt = ap (option_map (λ (s : Slot). s.read)) (base_slot base n (2 + i / 1024) (omega (arith, inside, lt)))

  table_is : (i : ℕ) → i < m → word_at S (base + (2 + i / 1024)) (i % 1024) ≡ entry i
  unfolding entry
  table_is i lt =
      let sum : base + (2 + i / 1024) ≡ base + 2 + i / 1024 = omega arith in
      let whole : 1024 * (i / 1024) + i % 1024 ≡ i = omega arith in
      ap (λ (g : ℕ). word_at S g (i % 1024)) sum
      ∙ storey.table (i / 1024) (i % 1024) (omega (arith, lt)) (omega arith)
      ∙ ap (entry_word m (2 + table_pages m)) whole
      ∙ ap (λ (b : Bool). cond b ((2 + table_pages m + i) * 4096 + 3) 0) (lt-ltb i m lt)

  looked : (i : ℕ) → i < m → look S j i (i % 1024) (reading (from_base base n) (2 + i / 1024)) ≡ Named (entry i)
  unfolding entry
  looked i lt =
      ap (look S j i (i % 1024)) (read_table i lt)
      ∙ ap (present j i) (table_is i lt)
      ∙ present_odd j i (entry i) (omega arith)

  named_page : (i : ℕ) → i < m → field_of (entry i) 12 20 ≡ 2 + table_pages m + i
  unfolding entry
  named_page i lt =
      let h : 2 + table_pages m + m ≤ n = inside in
      small (2 + table_pages m + i) (omega (arith, h, lt, few))
    where
      small : (p : ℕ) → p < 1048576 → (p * 4096 + 3) / 4096 % 1048576 ≡ p
      small p h = omega arith

  slot_is : (i : ℕ) → i < m → compose_slot S (from_base base n) j 2 0 i ≡ open_at (child_base base m + i)
  unfolding compose_slot entry
  slot_is i lt =
      let h : 2 + table_pages m + m ≤ n = inside in
      let sum : base + (2 + table_pages m + i) ≡ child_base base m + i = omega arith in
      ap (slot_of (from_base base n) j 0 i) (looked i lt)
      ∙ ap (λ (p : ℕ). slot_through j 0 i (entry i) (slice_get (from_base base n) p)) (named_page i lt)
      ∙ ap (slot_through j 0 i (entry i)) (base_slot base n (2 + table_pages m + i) (omega (arith, h, lt)))
      ∙ granted_open j i (entry i) (base + (2 + table_pages m + i)) (odd (2 + table_pages m + i))
      ∙ ap open_at sum
    where
      odd : (p : ℕ) → (p * 4096 + 3) / 2 % 2 ≡ 1
      odd p = omega arith

  pub slots : compose S (from_base base n) j m 2 0 ≡ from_base (child_base base m) m
  unfolding compose from_base
  slots = map_range_alike (compose_slot S (from_base base n) j 2 0) (λ i. open_at (child_base base m + i)) 0 m (λ i low high. slot_is i (omega (arith, high)))

  -- the child's registers
  pub regs_reset : regs_at S (base + 1) ≡ reset_regs
  regs_reset = λ i. record {
    pc = (storey.block 0 (lit< tt)) i;
    x1 = (storey.block 1 (lit< tt)) i;
    x2 = (storey.block 2 (lit< tt)) i;
    x3 = (storey.block 3 (lit< tt)) i;
    x4 = (storey.block 4 (lit< tt)) i;
    x5 = (storey.block 5 (lit< tt)) i;
    x6 = (storey.block 6 (lit< tt)) i;
    x7 = (storey.block 7 (lit< tt)) i;
    x8 = (storey.block 8 (lit< tt)) i;
    x9 = (storey.block 9 (lit< tt)) i;
    x10 = (storey.block 10 (lit< tt)) i;
    x11 = (storey.block 11 (lit< tt)) i;
    x12 = (storey.block 12 (lit< tt)) i;
    x13 = (storey.block 13 (lit< tt)) i;
    x14 = (storey.block 14 (lit< tt)) i;
    x15 = (storey.block 15 (lit< tt)) i;
    x16 = (storey.block 16 (lit< tt)) i;
    x17 = (storey.block 17 (lit< tt)) i;
    x18 = (storey.block 18 (lit< tt)) i;
    x19 = (storey.block 19 (lit< tt)) i;
    x20 = (storey.block 20 (lit< tt)) i;
    x21 = (storey.block 21 (lit< tt)) i;
    x22 = (storey.block 22 (lit< tt)) i;
    x23 = (storey.block 23 (lit< tt)) i;
    x24 = (storey.block 24 (lit< tt)) i;
    x25 = (storey.block 25 (lit< tt)) i;
    x26 = (storey.block 26 (lit< tt)) i;
    x27 = (storey.block 27 (lit< tt)) i;
    x28 = (storey.block 28 (lit< tt)) i;
    x29 = (storey.block 29 (lit< tt)) i;
    x30 = (storey.block 30 (lit< tt)) i;
    x31 = (storey.block 31 (lit< tt)) i;
    mode = (storey.block 32 (lit< tt)) i;
    mstatus = (storey.block 33 (lit< tt)) i;
    mtvec = (storey.block 34 (lit< tt)) i;
    mepc = (storey.block 35 (lit< tt)) i;
    mcause = (storey.block 36 (lit< tt)) i;
    mtval = (storey.block 37 (lit< tt)) i;
    mscratch = (storey.block 38 (lit< tt)) i;
    medeleg = (storey.block 39 (lit< tt)) i;
    mideleg = (storey.block 40 (lit< tt)) i;
    mie = (storey.block 41 (lit< tt)) i;
    mip = (storey.block 42 (lit< tt)) i;
    stvec = (storey.block 43 (lit< tt)) i;
    sepc = (storey.block 44 (lit< tt)) i;
    scause = (storey.block 45 (lit< tt)) i;
    stval = (storey.block 46 (lit< tt)) i;
    sscratch = (storey.block 47 (lit< tt)) i;
    satp = (storey.block 48 (lit< tt)) i;
    next = (storey.block 64 (lit< tt)) i;
  }

  sized : fits_pages S (base + 1) ≡ true
  sized =
      let h : 2 + table_pages m + m ≤ n = inside in
      let positive : 0 < m = omega (arith, storey.some) in
      (λ i. nat_lt 0 ((storey.block 65 (lit< tt)) i) && nat_le ((storey.block 65 (lit< tt)) i) 1048576 && nat_lt ((storey.block 66 (lit< tt)) i) 1048576 && nat_lt ((storey.block 64 (lit< tt)) i) ((storey.block 65 (lit< tt)) i) && (((storey.block 67 (lit< tt)) i == 0) || ((storey.block 67 (lit< tt)) i == 2)))
      ∙ (λ i. ((lt-ltb 0 m positive) i) && ((le-leb m 1048576 (omega (arith, h, few))) i) && true && ((lt-ltb 0 m positive) i) && true)

  holds : block_of S (base + 1) ≡ Some (contents_at S (base + 1))
  holds =
      ap (λ (r : Regs). cond (fits_hart r && fits_pages S (base + 1)) (Some (contents_at S (base + 1))) None) regs_reset
      ∙ ap (λ (b : Bool). cond b (Some (contents_at S (base + 1))) None) sized

  pub child_is : child_of S (from_base base n) 1 ≡ Some (item_of base m)
  child_is =
      let h : 2 + table_pages m + m ≤ n = inside in
      ap (child_at S 1) (base_slot base n 1 (omega (arith, h)))
      ∙ ap (child_with 1 (base + 1)) holds
      ∙ (λ i. Some record { syllable = 1; block = base + 1; pages = (storey.block 65 (lit< tt)) i; table = (storey.block 66 (lit< tt)) i; version = (storey.block 67 (lit< tt)) i })

  pub laid_at : LaidAt S j base n (item_of base m)
  laid_at = record {
    syllable = refl;
    block = refl;
    table = refl;
    version = refl;
    some = omega (arith, storey.some);
    size = storey.size;
    slots = slots;
    program = storey.program;
    regs = regs_reset;
  }

-- the machines of a path of ones, and the last one's map
pub machines_are : (S : List ℕ) (j base n : ℕ) (ms : List ℕ) → n ≤ pages_limit → Storeys S base n ms → machines S (from_base base n) j (replicate (length ms) 1) ≡ Some (items_of base ms)
unfolding machines items_of
machines_are S j base n [] few all = refl
machines_are S j base n (m ∷ ms) few all =
    let h : 2 + table_pages m + m ≤ n = all.0.size in
    ap (λ (o : Option Item). option_and_then (λ (x : Item). option_cons x (machines S (compose S (from_base base n) j x.pages x.table x.version) (j + 1) (replicate (length ms) 1))) o) (child_is S j base n m few all.0)
    ∙ ap (λ (F : List Slot). option_cons (item_of base m) (machines S F (j + 1) (replicate (length ms) 1))) (slots S j base n m few all.0)
    ∙ ap (option_cons (item_of base m)) (machines_are S (j + 1) (child_base base m) m ms (omega (arith, h, few)) all.1)

pub along_is : (S : List ℕ) (j base n : ℕ) (ms : List ℕ) → n ≤ pages_limit → Storeys S base n ms → along S (from_base base n) j (items_of base ms) ≡ from_base (end_base base ms) (end_size n ms)
unfolding along items_of end_base end_size
along_is S j base n [] few all = refl
along_is S j base n (m ∷ ms) few all =
    let h : 2 + table_pages m + m ≤ n = all.0.size in
    ap (λ (F : List Slot). along S F (j + 1) (items_of (child_base base m) ms)) (slots S j base n m few all.0)
    ∙ along_is S (j + 1) (child_base base m) m ms (omega (arith, h, few)) all.1

pub laid_from : (S : List ℕ) (j base n : ℕ) (ms : List ℕ) → n ≤ pages_limit → Storeys S base n ms → LaidFrom S j base n (items_of base ms)
unfolding items_of
laid_from S j base n [] few all = tt
laid_from S j base n (m ∷ ms) few all =
    let h : 2 + table_pages m + m ≤ n = all.0.size in
    (laid_at S j base n m few all.0, laid_from S (j + 1) (child_base base m) m ms (omega (arith, h, few)) all.1)

-- the same from the bare machine on
module _ (S : List ℕ) (P : ℕ) (ms : List ℕ) (is : page_count S ≡ P) (few : P ≤ pages_limit) (all : Storeys S 0 P ms) where
  bare : identity (page_count S) ≡ from_base 0 P
  bare = ap identity is ∙ base_zero P

  pub pinned_are : pin_of S (replicate (length ms) 1) ≡ Some (items_of 0 ms)
  unfolding pin_of
  pinned_are = ap (λ (F : List Slot). machines S F 0 (replicate (length ms) 1)) bare ∙ machines_are S 0 0 P ms few all

  pub map_is : map_along S (items_of 0 ms) ≡ from_base (end_base 0 ms) (end_size P ms)
  unfolding map_along
  map_is = ap (λ (F : List Slot). along S F 0 (items_of 0 ms)) bare ∙ along_is S 0 0 P ms few all

  pub map_of_is : map_of S (replicate (length ms) 1) ≡ Some (from_base (end_base 0 ms) (end_size P ms))
  map_of_is = ap (option_map (map_along S)) pinned_are ∙ ap Some map_is
