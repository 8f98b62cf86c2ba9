-- The machines on a path after an upgrade of the last one: all are where they were, and this one has the map that it had.
use Rattle.std.proofs.Common.{◌≡◌, ◌≢◌, ℕ, suc, ◌+◌, ◌*◌, ◌/◌, ◌%◌, ◌^◌, ◌<◌, ◌≤◌, Bool, true, false, cond, ◌&&◌, ◌||◌, List, [], ◌∷◌, ◌++◌, Option, Some, None, refl, ap, ◌∙◌, sym, subst, arith, slice_get}
use Rattle.std.specs.Prelude.{◌==◌, nat_le, nat_lt}
use Rattle.std.proofs.Math.Dec.{lit<}
use Rattle.std.proofs.lemmas.Bool.{and_from, and_parts, lt-ltb, ne_eqb}
use Rattle.std.proofs.lemmas.Option.{same_Some}
use Rattle.hv_word.specs.Words.{field_of, field_put, has}
use Rattle.hv_word.specs.Storage.{word_at}
use Rattle.hv_store.specs.declared.access.Slot.{Slot}
use Rattle.hv_store.specs.declared.access.Way.{Way}
use Rattle.hv_store.specs.declared.access.Way.TheVariants.{Open, Shut}
use Rattle.hv_block.specs.Block.{Contents, block_of, contents_at, fits_hart, fits_pages, fits_size, regs_at, table_at, version_at}
use Rattle.hv_block.proofs.Blocks.{block_alike, block_holds}
use Rattle.hv_map.specs.Apart.{blocks_of, directory_of, table_pages, tables_along, tables_of}
use Rattle.hv_map.specs.Chain.{along, child_at, child_of, child_through, child_with, machines}
use Rattle.hv_map.specs.Compose.{Named, Stopped, compose, compose_slot, entry_of, look, no_fetch, no_write, page_named, present, reading, slot_of, slot_through, table_of, word_in}
use Rattle.hv_map.specs.Item.{Item}
use Rattle.hv_map.proofs.Agree.{composed_agrees, map_range_alike}
use Rattle.hv_map.proofs.Assoc.{begins_from, begins_with}
use Rattle.hv_map.proofs.Rows.{table_plain}
use Rattle.hv_map.proofs.Words.{follows, machines_chained}
use Rattle.hv_apart.specs.Upgrade.{directory_word, with_fetch}
use Rattle.hv_apart.proofs.Members.{has_left, has_one, has_right}
use Rattle.hv_apart.proofs.Stood.{each_table_word}

-- the registers in a block go by its words 0 to 48 and 64
module _ (S T : List ℕ) (g : ℕ) (same : (w : ℕ) → w < 65 → word_at S g w ≡ word_at T g w) where
  pub regs_kept : regs_at S g ≡ regs_at T g
  regs_kept = λ i. record {
    pc = (same 0 (lit< tt)) i;
    x1 = (same 1 (lit< tt)) i;
    x2 = (same 2 (lit< tt)) i;
    x3 = (same 3 (lit< tt)) i;
    x4 = (same 4 (lit< tt)) i;
    x5 = (same 5 (lit< tt)) i;
    x6 = (same 6 (lit< tt)) i;
    x7 = (same 7 (lit< tt)) i;
    x8 = (same 8 (lit< tt)) i;
    x9 = (same 9 (lit< tt)) i;
    x10 = (same 10 (lit< tt)) i;
    x11 = (same 11 (lit< tt)) i;
    x12 = (same 12 (lit< tt)) i;
    x13 = (same 13 (lit< tt)) i;
    x14 = (same 14 (lit< tt)) i;
    x15 = (same 15 (lit< tt)) i;
    x16 = (same 16 (lit< tt)) i;
    x17 = (same 17 (lit< tt)) i;
    x18 = (same 18 (lit< tt)) i;
    x19 = (same 19 (lit< tt)) i;
    x20 = (same 20 (lit< tt)) i;
    x21 = (same 21 (lit< tt)) i;
    x22 = (same 22 (lit< tt)) i;
    x23 = (same 23 (lit< tt)) i;
    x24 = (same 24 (lit< tt)) i;
    x25 = (same 25 (lit< tt)) i;
    x26 = (same 26 (lit< tt)) i;
    x27 = (same 27 (lit< tt)) i;
    x28 = (same 28 (lit< tt)) i;
    x29 = (same 29 (lit< tt)) i;
    x30 = (same 30 (lit< tt)) i;
    x31 = (same 31 (lit< tt)) i;
    mode = (same 32 (lit< tt)) i;
    mstatus = (same 33 (lit< tt)) i;
    mtvec = (same 34 (lit< tt)) i;
    mepc = (same 35 (lit< tt)) i;
    mcause = (same 36 (lit< tt)) i;
    mtval = (same 37 (lit< tt)) i;
    mscratch = (same 38 (lit< tt)) i;
    medeleg = (same 39 (lit< tt)) i;
    mideleg = (same 40 (lit< tt)) i;
    mie = (same 41 (lit< tt)) i;
    mip = (same 42 (lit< tt)) i;
    stvec = (same 43 (lit< tt)) i;
    sepc = (same 44 (lit< tt)) i;
    scause = (same 45 (lit< tt)) i;
    stval = (same 46 (lit< tt)) i;
    sscratch = (same 47 (lit< tt)) i;
    satp = (same 48 (lit< tt)) i;
    next = (same 64 (lit< tt)) i;
  }

-- a block that keeps its registers and pages is well formed with any directory that can be, in version 2
sized_again : (n t v next dir : ℕ) → fits_size n t v next ≡ true → dir < 2 ^ 20 → fits_size n dir 2 next ≡ true
sized_again n t v next dir f low =
    let a = and_parts (nat_lt 0 n && nat_le n 1048576 && nat_lt t 1048576 && nat_lt next n) ((v == 0) || (v == 2)) f in
    let b = and_parts (nat_lt 0 n && nat_le n 1048576 && nat_lt t 1048576) (nat_lt next n) a.0 in
    let d = and_parts (nat_lt 0 n && nat_le n 1048576) (nat_lt t 1048576) b.0 in
    and_from (nat_lt 0 n && nat_le n 1048576 && nat_lt dir 1048576 && nat_lt next n) true
    (and_from (nat_lt 0 n && nat_le n 1048576 && nat_lt dir 1048576) (nat_lt next n)
    (and_from (nat_lt 0 n && nat_le n 1048576) (nat_lt dir 1048576) d.0 (lt-ltb dir 1048576 low))
    b.1)
    refl

-- what a page says, by what stands in it and the next in it
abbrev shown : Contents → ℕ → Option Contents
shown k next = cond (fits_hart k.regs && fits_size k.pages k.table k.version next) (Some k) None

shown_alike : (k m : Contents) (a b : ℕ) → k ≡ m → a ≡ b → shown k a ≡ shown m b
shown_alike k m a b e f = λ i. shown (e i) (f i)

block_again : (S T : List ℕ) (g dir : ℕ) (contents : Contents)
    → ((w : ℕ) → w < 66 → word_at S g w ≡ word_at T g w)
    → word_at T g 66 ≡ dir
    → word_at T g 67 ≡ 2
    → dir < 2 ^ 20
    → block_of S g ≡ Some contents
    → block_of T g ≡ Some record { regs = contents.regs; pages = contents.pages; table = dir; version = 2 }
block_again S T g dir contents same table version low e =
    let h = block_holds S g contents e in
    let f = and_parts (fits_hart (regs_at S g)) (fits_pages S g) h.0 in
    let regs : regs_at T g ≡ regs_at S g = sym (regs_kept S T g (λ w lt. same w (omega arith))) in
    let pages : word_at T g 65 ≡ word_at S g 65 = sym (same 65 (lit< tt)) in
    let next : word_at T g 64 ≡ word_at S g 64 = sym (same 64 (lit< tt)) in
    let after : Contents = record { regs = regs_at S g; pages = word_at S g 65; table = dir; version = 2 } in
    let said : contents_at T g ≡ record { regs = regs_at S g; pages = word_at S g 65; table = dir; version = 2 } =
    λ i. record { regs = regs i; pages = pages i; table = table i; version = version i }
    in
    let sized : fits_size (word_at S g 65) dir 2 (word_at S g 64) ≡ true = sized_again (word_at S g 65) (table_at S g) (version_at S g) (word_at S g 64) dir f.1 low in
    let whole : (fits_hart (regs_at S g) && fits_size (word_at S g 65) dir 2 (word_at S g 64)) ≡ true = and_from (fits_hart (regs_at S g)) (fits_size (word_at S g 65) dir 2 (word_at S g 64)) f.0 sized in
    shown_alike (contents_at T g) after (word_at T g 64) (word_at S g 64) said next
    ∙ ap (λ (b : Bool). cond b (Some after) None) whole
    ∙ ap (λ (c : Contents). Some record { regs = c.regs; pages = c.pages; table = dir; version = 2 }) h.1

-- the child that a machine finds on a page, by its block
child_by : (U : List ℕ) (F : List Slot) (s : ℕ) (slot : Slot) (b : ℕ) → slice_get F s ≡ Some slot → slot.write ≡ Open b → child_of U F s ≡ child_with s b (block_of U b)
child_by U F s slot b there writes = ap (child_at U s) there ∙ ap (child_through U s) writes

-- a child whose block stays, and one whose block becomes another
child_kept : (S T : List ℕ) (F : List Slot) (s : ℕ) (y : Item) → block_of S y.block ≡ block_of T y.block → child_of S F s ≡ Some y → child_of T F s ≡ Some y
child_kept S T F s y same e =
    let f = follows S F s y e in
    let there : slice_get F s ≡ Some f.child.slot = ap (slice_get F) (sym f.syllable) ∙ f.child.there in
    child_by T F s f.child.slot y.block there f.child.writes
    ∙ ap (child_with s y.block) (sym same)
    ∙ sym (child_by S F s f.child.slot y.block there f.child.writes)
    ∙ e

pub child_again : (S T : List ℕ) (F : List Slot) (s dir : ℕ) (y : Item)
    → ((w : ℕ) → w < 66 → word_at S y.block w ≡ word_at T y.block w)
    → word_at T y.block 66 ≡ dir
    → word_at T y.block 67 ≡ 2
    → dir < 2 ^ 20
    → child_of S F s ≡ Some y
    → child_of T F s ≡ Some (record y { table = dir; version = 2 })
child_again S T F s dir y same table version low e =
    let f = follows S F s y e in
    let there : slice_get F s ≡ Some f.child.slot = ap (slice_get F) (sym f.syllable) ∙ f.child.there in
    let said : child_with s y.block (block_of S y.block) ≡ Some y = sym (child_by S F s f.child.slot y.block there f.child.writes) ∙ e in
    child_by T F s f.child.slot y.block there f.child.writes ∙ go (block_of S y.block) refl said
  where
    go : (o : Option Contents) → block_of S y.block ≡ o → child_with s y.block o ≡ Some y → child_with s y.block (block_of T y.block) ≡ Some (record y { table = dir; version = 2 })
    go None is f = absurd (let h : None ≡ Some y = f in cc)
    go (Some contents) is f =
        let made : record { syllable = s; block = y.block; pages = contents.pages; table = contents.table; version = contents.version } ≡ y =
        same_Some record { syllable = s; block = y.block; pages = contents.pages; table = contents.table; version = contents.version } y f
        in
        ap (child_with s y.block) (block_again S T y.block dir contents same table version low is)
        ∙ ap (λ (z : Item). Some record { syllable = z.syllable; block = z.block; pages = z.pages; table = dir; version = 2 }) made

-- two lists of machines that begin alike
same_cons : (x y : Item) (xs ys : List Item) → x ∷ xs ≡ y ∷ ys → (x ≡ y) × (xs ≡ ys)
same_cons x y xs ys e = (cc, cc)

no_path : (S : List ℕ) (F : List Slot) (j : ℕ) (path : List ℕ) → machines S F j path ≡ Some [] → [] ≡ path
no_path S F j path e = (machines_chained S F j path [] e).0

-- The machines on a path, where the blocks and tables of those around the last stay, and the last becomes another.
pub machines_again : (S T : List ℕ) (F : List Slot) (j : ℕ) (path : List ℕ) (outer : List Item) (x z : Item)
    → ((i : ℕ) (y : Item) → slice_get outer i ≡ Some y → y.pages ≤ 1048576)
    → ((p w : ℕ) → w < 1024 → has p (blocks_of outer) ≡ true → word_at S p w ≡ word_at T p w)
    → ((p w : ℕ) → w < 1024 → has p (tables_along S F j outer) ≡ true → word_at S p w ≡ word_at T p w)
    → ((s : ℕ) → child_of S (along S F j outer) s ≡ Some x → child_of T (along S F j outer) s ≡ Some z)
    → machines S F j path ≡ Some (outer ++ x ∷ [])
    → (machines T F j path ≡ Some (outer ++ z ∷ [])) × (along T F j outer ≡ along S F j outer)
unfolding machines along tables_along
machines_again S T F j [] [] x z sized blocks tables last e = absurd (let f : Some [] ≡ Some (x ∷ []) = e in cc)
machines_again S T F j [] (y ∷ ys) x z sized blocks tables last e = absurd (let f : Some [] ≡ Some (y ∷ (ys ++ x ∷ [])) = e in cc)
machines_again S T F j (s ∷ path) [] x z sized blocks tables last e =
    let b = begins_with S F j s path (x ∷ []) e in
    let both = same_cons b.head x b.rest [] b.whole in
    let child : child_of S F s ≡ Some x = b.child ∙ ap Some both.0 in
    let none : [] ≡ path = no_path S (compose S F j b.head.pages b.head.table b.head.version) (j + 1) path (b.others ∙ ap Some both.1) in
    (subst (λ (p : List ℕ). machines T F j (s ∷ p) ≡ Some (z ∷ [])) none (begins_from T F j s [] z [] (last s child) refl), refl)
machines_again S T F j (s ∷ path) (y ∷ ys) x z sized blocks tables last e =
    let b = begins_with S F j s path (y ∷ (ys ++ x ∷ [])) e in
    let both = same_cons b.head y b.rest (ys ++ x ∷ []) b.whole in
    let child : child_of S F s ≡ Some y = b.child ∙ ap Some both.0 in
    let G : List Slot = compose S F j y.pages y.table y.version in
    let own = directory_of F y ++ tables_of S F j y in
    let rest : machines S G (j + 1) path ≡ Some (ys ++ x ∷ []) =
    ap (λ (h : Item). machines S (compose S F j h.pages h.table h.version) (j + 1) path) (sym both.0) ∙ b.others ∙ ap Some both.1
    in
    let same : G ≡ compose T F j y.pages y.table y.version =
    composed_agrees S T F j y.pages y.table y.version (each_table_word (λ p w. word_at S p w ≡ word_at T p w) S F j y (sized 0 y refl) (λ p w low h. tables p w low (has_left p own (tables_along S G (j + 1) ys) h)))
    in
    let kept : child_of T F s ≡ Some y =
    child_kept S T F s y (block_alike S T y.block y.block (λ w low. blocks y.block w low (has_left y.block (y.block ∷ []) (blocks_of ys) (has_one y.block)))) child
    in
    let r = machines_again S T G (j + 1) path ys x z (λ i k is. sized (suc i) k is)
    (λ p w low h. blocks p w low (has_right p (y.block ∷ []) (blocks_of ys) h))
    (λ p w low h. tables p w low (has_right p own (tables_along S G (j + 1) ys) h))
    last rest
    in (
      begins_from T F j s path y (ys ++ z ∷ []) kept (ap (λ (H : List Slot). machines T H (j + 1) path) (sym same) ∙ r.0),
      ap (λ (H : List Slot). along T H (j + 1) ys) (sym same) ∙ r.1,
    )

-- a table word that lets its page be fetched says the same of all else
module _ (e : ℕ) where
  marked_present : field_put e 2 1 1 % 2 ≡ e % 2
  marked_present = omega arith

  marked_write : field_put e 2 1 1 / 2 % 2 ≡ e / 2 % 2
  marked_write = omega arith

  marked_fetch : field_put e 2 1 1 / 4 % 2 ≡ 1
  marked_fetch = omega arith

  marked_page : field_of (field_put e 2 1 1) 12 20 ≡ field_of e 12 20
  marked_page = ap (λ (q : ℕ). q % 1048576) (let h : field_put e 2 1 1 / 4096 ≡ e / 4096 = omega arith in h)

-- the slot by a present word of version v, which isn't 2, and by the marked word of version 2
module _ (F : List Slot) (j v i e : ℕ) (plain : v ≢ 2) where
  fetch_plain : no_fetch v e ≡ false
  fetch_plain = ap (λ (b : Bool). b && (e / 4 % 2 == 0)) (ne_eqb v 2 plain)

  fetch_marked : no_fetch 2 (field_put e 2 1 1) ≡ false
  fetch_marked = ap (λ (q : ℕ). q == 0) (marked_fetch e)

  write_marked : no_write (field_put e 2 1 1) ≡ no_write e
  write_marked = ap (λ (q : ℕ). q == 0) (marked_write e)

  through_marked : (o : Option Slot) → slot_through j 2 i (field_put e 2 1 1) o ≡ slot_through j v i e o
  through_marked None = refl
  through_marked (Some s) = λ k. record {
    read = s.read;
    write = cond (write_marked k) (Shut j 2 i None) s.write;
    fetch = cond ((fetch_marked ∙ sym fetch_plain) k) (Shut j 7 i None) s.fetch;
  }

  named_marked : slot_of F j 2 i (Named (field_put e 2 1 1)) ≡ slot_of F j v i (Named e)
  named_marked =
      ap (λ (q : ℕ). slot_through j 2 i (field_put e 2 1 1) (slice_get F q)) (marked_page e)
      ∙ through_marked (slice_get F (field_of e 12 20))

  pub slot_marked : slot_of F j 2 i (present j i (with_fetch e)) ≡ slot_of F j v i (present j i e)
  slot_marked = go (e % 2 == 0) refl
    where
      go : (b : Bool) → (e % 2 == 0) ≡ b → slot_of F j 2 i (present j i (with_fetch e)) ≡ slot_of F j v i (present j i e)
      go true is =
          ap (λ (b : Bool). slot_of F j 2 i (present j i (cond b e (field_put e 2 1 1)))) is
          ∙ ap (λ (b : Bool). slot_of F j 2 i (cond b (Stopped (Shut j 1 i None)) (Named e))) is
          ∙ sym (ap (λ (b : Bool). slot_of F j v i (cond b (Stopped (Shut j 1 i None)) (Named e))) is)
      go false is =
          let bit : (field_put e 2 1 1 % 2 == 0) ≡ false = ap (λ (q : ℕ). q == 0) (marked_present e) ∙ is in
          ap (λ (b : Bool). slot_of F j 2 i (present j i (cond b e (field_put e 2 1 1)))) is
          ∙ ap (λ (b : Bool). slot_of F j 2 i (cond b (Stopped (Shut j 1 i None)) (Named (field_put e 2 1 1)))) bit
          ∙ named_marked
          ∙ sym (ap (λ (b : Bool). slot_of F j v i (cond b (Stopped (Shut j 1 i None)) (Named e))) is)

-- the word of a directory names the page of the table
directory_names : (T : List ℕ) (j i t c k word : ℕ) → word ≡ directory_word t c k → k < c → t + k < 2 ^ 20 → page_named (present j i word) ≡ Named (t + k)
directory_names T j i t c k word is lt low =
    let value : word ≡ (t + k) * 4096 + 1 = is ∙ ap (λ (b : Bool). cond b ((t + k) * 4096 + 1) 0) (lt-ltb k c lt) in
    let odd : word % 2 ≢ 0 = omega (arith, value) in
    let page : field_of word 12 20 ≡ t + k = omega (arith, value, low) in
    ap (λ (b : Bool). page_named (cond b (Stopped (Shut j 1 i None)) (Named word))) (ne_eqb (word % 2) 0 odd)
    ∙ ap (λ (q : ℕ). Named q) page

-- the map of the upgraded machine, where its parent has the same map in both storages
module _ (S T : List ℕ) (F : List Slot) (j : ℕ) (x : Item) (dir d : ℕ) (table : ℕ → ℕ) (plain : x.version ≢ 2) (sized : x.pages ≤ 2 ^ 20) (inside : x.table + table_pages x.pages ≤ 2 ^ 20) (directory : reading F dir ≡ Some (Open d)) (tables : (k : ℕ) → k < table_pages x.pages → reading F (x.table + k) ≡ Some (Open (table k))) (named : (w : ℕ) → w < 1024 → word_at T d w ≡ directory_word x.table (table_pages x.pages) w) (marked : (i : ℕ) → i < x.pages → word_at T (table (i / 1024)) (i % 1024) ≡ with_fetch (word_at S (table (i / 1024)) (i % 1024))) where
  entry_before : (i : ℕ) → i < x.pages → entry_of S (reading F) j x.table x.version i ≡ present j i (word_at S (table (i / 1024)) (i % 1024))
  entry_before i lt =
      ap (word_in S (reading F) j i) (table_plain S (reading F) j x.table x.version i plain)
      ∙ ap (look S j i (i % 1024)) (tables (i / 1024) (omega arith))

  entry_after : (i : ℕ) → i < x.pages → entry_of T (reading F) j dir 2 i ≡ present j i (with_fetch (word_at S (table (i / 1024)) (i % 1024)))
  entry_after i lt =
      let low : i / 1024 < 1024 = omega (arith, lt, sized) in
      let page : i / 1024 < table_pages x.pages = omega arith in
      let fits : x.table + i / 1024 < 2 ^ 20 = omega (arith, page, inside) in
      let found : table_of T (reading F) j dir 2 i ≡ Named (x.table + i / 1024) =
      ap (λ (o : Option Way). page_named (look T j i (i / 1024) o)) directory
      ∙ directory_names T j i x.table (table_pages x.pages) (i / 1024) (word_at T d (i / 1024)) (named (i / 1024) low) page fits
      in
      ap (word_in T (reading F) j i) found
      ∙ ap (look T j i (i % 1024)) (tables (i / 1024) page)
      ∙ ap (present j i) (marked i lt)

  pub composed_again : compose T F j x.pages dir 2 ≡ compose S F j x.pages x.table x.version
  unfolding compose compose_slot
  composed_again =
      map_range_alike (compose_slot T F j dir 2) (compose_slot S F j x.table x.version) 0 x.pages (λ i low high.
      let lt : i < x.pages = omega arith in
      ap (slot_of F j 2 i) (entry_after i lt)
      ∙ slot_marked F j x.version i (word_at S (table (i / 1024)) (i % 1024)) plain
      ∙ sym (ap (slot_of F j x.version i) (entry_before i lt)))
