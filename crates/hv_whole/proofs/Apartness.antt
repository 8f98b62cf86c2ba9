-- What follows where all bare pages that a machine stands on are different.
use Rattle.std.proofs.Common.{◌≡◌, ◌≢◌, ℕ, zero, suc, ◌+◌, ◌*◌, ◌<◌, ◌≤◌, ◌⊎◌, inl, inr, Bool, true, false, cond, List, [], ◌∷◌, ◌++◌, length, Option, Some, None, refl, ap, ◌∙◌, sym, subst, arith, slice_get}
use Rattle.std.specs.Prelude.{◌==◌, ◌/◌, ◌%◌}
use Rattle.std.specs.Option.{option_map}
use Rattle.std.proofs.lemmas.Bool.{eq-eqb}
use Rattle.std.proofs.lemmas.Option.{same_Some}
use Rattle.hv_word.specs.Storage.{page_count, word_at}
use Rattle.hv_store.specs.declared.access.Access.TheVariants.{Read}
use Rattle.hv_store.specs.declared.access.Slot.{Slot}
use Rattle.hv_store.specs.declared.access.Way.{Way}
use Rattle.hv_store.specs.declared.access.Way.TheVariants.{Open, Shut}
use Rattle.hv_store.specs.Access.{identity}
use Rattle.hv_block.specs.Block.{Contents, block_of, IsOther}
use Rattle.hv_block.proofs.Blocks.{block_sized}
use Rattle.hv_map.specs.Item.{Item}
use Rattle.hv_map.specs.Compose.{Named, Stopped, look, page_named, table_of, reading, compose}
use Rattle.hv_map.specs.Chain.{child_with, child_through, child_at, machines, map_along, pin_of}
use Rattle.hv_limits.specs.Limits.{depth_limit}
use Rattle.hv_map.specs.Apart.{are_distinct, open_page, open_pages, table_pages, table_open, tables_of, directory_of, tables_along, blocks_of, is_apart}
use Rattle.hv_map.specs.Carried.{Opens}
use Rattle.hv_map.specs.Words.{EachChain, syllables}
use Rattle.hv_map.proofs.Assoc.{begins_with}
use Rattle.hv_map.proofs.Handed.{reading_slot}
use Rattle.hv_map.proofs.Words.{follows, machines_chained}
use Rattle.hv_nest.specs.Received.{HasBlock}
use Rattle.hv_nest.proofs.Received.{OpensInside, composed_inside, writes_inside, identity_inside}
use Rattle.hv_whole.specs.Linked.{EachBlock, BlocksDiffer, Unread, Aside, IsOneToOne, Alone}
use Rattle.hv_whole.proofs.Members.{Has, has_left, has_right, has_range, has_each, Parted, parted}

-- a page that F opens for reading is among its open pages
pub has_open : (F : List Slot) (y x : ℕ) → reading F y ≡ Some (Open x) → Has x (open_pages F)
has_open F y x e =
    let r = reading_slot F y (Open x) e in
    has_each Slot (λ (s : Slot). open_page s.read) F y x r.0 r.1 (rw r.2 (inl refl))

pub one_open : (F : List Slot) → are_distinct (open_pages F) ≡ true → IsOneToOne F
one_open [] d y z x e f = absurd (let p : None ≡ Some (Open x) = e in cc)
one_open (r ∷ F) d zero zero x e f = refl
one_open (r ∷ F) d zero (suc z) x e f =
    let h : Has x (open_page r.read) = rw (same_Some r.read (Open x) e) (inl refl) in
    absurd ((parted (open_page r.read) (open_pages F) d).apart x h (has_open F z x f))
one_open (r ∷ F) d (suc y) zero x e f =
    let h : Has x (open_page r.read) = rw (same_Some r.read (Open x) f) (inl refl) in
    absurd ((parted (open_page r.read) (open_pages F) d).apart x h (has_open F y x e))
one_open (r ∷ F) d (suc y) (suc z) x e f = ap suc (one_open F (parted (open_page r.read) (open_pages F) d).last y z x e f)

-- and so it is where it is told by the slot
pub reading_at : (F : List Slot) (y x : ℕ) (s : Slot) → slice_get F y ≡ Some s → s.read ≡ Open x → reading F y ≡ Some (Open x)
reading_at F y x s is e = ap (option_map (λ (r : Slot). r.read)) is ∙ ap Some e

pub has_opened : (F : List Slot) (x : ℕ) → Opens F Read x → Has x (open_pages F)
has_opened F x o = has_open F o.0 x (reading_at F o.0 x o.1 o.2 o.3)

-- The table page of page i is that of the first page whose word is in it.
named_page : (S : List ℕ) (j i k w u : ℕ) (way : Option Way) → page_named (look S j i w way) ≡ Named u → page_named (look S j k w way) ≡ Named u
named_page S j i k w u None e = absurd (let f : Stopped (Shut j 4 i None) ≡ Named u = e in cc)
named_page S j i k w u (Some (Open g)) e = by (word_at S g w % 2 == 0) e
  where
    by : (b : Bool) → page_named (cond b (Stopped (Shut j 1 i None)) (Named (word_at S g w))) ≡ Named u → page_named (cond b (Stopped (Shut j 1 k None)) (Named (word_at S g w))) ≡ Named u
    by true f = absurd (let h : Stopped (Shut j 1 i None) ≡ Named u = f in cc)
    by false f = f
named_page S j i k w u (Some (Shut l c p o)) e = e

table_first : (S : List ℕ) (reads : ℕ → Option Way) (j t v i u : ℕ) → table_of S reads j t v i ≡ Named u → table_of S reads j t v (1024 * (i / 1024)) ≡ Named u
table_first S reads j t v i u e = by (v == 2) e
  where
    same : 1024 * (i / 1024) / 1024 ≡ i / 1024
    same = omega arith

    by : (b : Bool) → cond b (page_named (look S j i (i / 1024) (reads t))) (Named (t + i / 1024)) ≡ Named u
        → cond b (page_named (look S j (1024 * (i / 1024)) (1024 * (i / 1024) / 1024) (reads t))) (Named (t + 1024 * (i / 1024) / 1024)) ≡ Named u
    by true f = rw same (named_page S j i (1024 * (i / 1024)) (i / 1024) u (reads t) f)
    by false f = rw same f

pub has_directory : (F : List Slot) (x : Item) (g : ℕ) → x.version ≡ 2 → reading F x.table ≡ Some (Open g) → Has g (directory_of F x)
has_directory F x g v e = rw (eq-eqb x.version 2 v, e) (inl refl)

pub has_table : (S : List ℕ) (F : List Slot) (j : ℕ) (x : Item) (i u g : ℕ) → i < x.pages → table_of S (reading F) j x.table x.version i ≡ Named u → reading F u ≡ Some (Open g) → Has g (tables_of S F j x)
has_table S F j x i u g h e p =
    let k : ℕ = i / 1024 in
    let inside : k < 0 + table_pages x.pages = omega arith in
    has_range (λ n. table_open F (table_of S (reading F) j x.table x.version (1024 * n))) 0 (table_pages x.pages) k g (omega arith) inside
    (rw (table_first S (reading F) j x.table x.version i u e, p) (inl refl))

-- each of these machines has as many pages as a machine can have
pub EachSized : List Item → Type 0
EachSized [] = Unit {0}
EachSized (x ∷ xs) = (x.pages ≤ 1048576) × EachSized xs

-- what holds of the words that say pages, table and version in the blocks, and of the words of tables and directories
module _ (P : ℕ → ℕ → Type 0) where
  pub each_word : (S : List ℕ) (F : List Slot) (j : ℕ) (xs : List Item) → EachSized xs
      → EachBlock (λ b. (w : ℕ) → 65 ≤ w → w ≤ 67 → P b w) xs
      → ((g w : ℕ) → w < 1024 → Has g (tables_along S F j xs) → P g w)
      → EachChain P S F j xs
  unfolding tables_along EachSized
  each_word S F j [] sized blocks tables = tt
  each_word S F j (x ∷ xs) sized blocks tables =
      let more : List ℕ = tables_along S (compose S F j x.pages x.table x.version) (j + 1) xs in
      let own : List ℕ = directory_of F x ++ tables_of S F j x in (
        record {
          pages = blocks.0 65 (omega arith) (omega arith);
          table = blocks.0 66 (omega arith) (omega arith);
          version = blocks.0 67 (omega arith) (omega arith);
          words = record {
            directory = λ i g h v e.
                let low : i / 1024 < 1024 = omega (arith, h, sized.0) in
                tables g (i / 1024) low (has_left g own more (has_left g (directory_of F x) (tables_of S F j x) (has_directory F x g v e)));
            table = λ i u g h t e.
                let low : i % 1024 < 1024 = omega arith in
                tables g (i % 1024) low (has_left g own more (has_right g (directory_of F x) (tables_of S F j x) (has_table S F j x i u g h t e)));
          };
        },
        each_word S (compose S F j x.pages x.table x.version) (j + 1) xs sized.1 blocks.1 (λ g w low h. tables g w low (has_right g own more h)),
      )

-- a child has as many pages as a block can say
contents_sized : (S : List ℕ) (g s : ℕ) (x : Item) (o : Option Contents) → block_of S g ≡ o → child_with s g o ≡ Some x → x.pages ≤ 1048576
contents_sized S g s x None is e = absurd (let f : None ≡ Some x = e in cc)
contents_sized S g s x (Some contents) is e =
    let item : record { syllable = s; block = g; pages = contents.pages; table = contents.table; version = contents.version } ≡ x = same_Some record { syllable = s; block = g; pages = contents.pages; table = contents.table; version = contents.version } x e in
    subst (λ (y : Item). y.pages ≤ 1048576) item (block_sized S g contents is).pages

through_sized : (S : List ℕ) (s : ℕ) (x : Item) (way : Way) → child_through S s way ≡ Some x → x.pages ≤ 1048576
through_sized S s x (Open g) e = contents_sized S g s x (block_of S g) refl e
through_sized S s x (Shut l c p w) e = absurd (let f : None ≡ Some x = e in cc)

child_sized : (S : List ℕ) (s : ℕ) (x : Item) (o : Option Slot) → child_at S s o ≡ Some x → x.pages ≤ 1048576
child_sized S s x None e = absurd (let f : None ≡ Some x = e in cc)
child_sized S s x (Some slot) e = through_sized S s x slot.write e

pub machines_sized : (S : List ℕ) (F : List Slot) (j : ℕ) (path : List ℕ) (items : List Item) → machines S F j path ≡ Some items → EachSized items
unfolding EachSized machines
machines_sized S F j [] items e = subst EachSized (same_Some [] items e) tt
machines_sized S F j (s ∷ path) items e =
    let b = begins_with S F j s path items e in
    subst EachSized b.whole
    (child_sized S s b.head (slice_get F s) b.child, machines_sized S (compose S F j b.head.pages b.head.table b.head.version) (j + 1) path b.rest b.others)

machines_inside : (P : ℕ) (S : List ℕ) (F : List Slot) (j : ℕ) (path : List ℕ) (items : List Item) → OpensInside P F → machines S F j path ≡ Some items → EachBlock (λ b. b < P) items
unfolding machines
machines_inside P S F j [] items inside e = subst (EachBlock (λ b. b < P)) (same_Some [] items e) tt
machines_inside P S F j (s ∷ path) items inside e =
    let b = begins_with S F j s path items e in
    let f = follows S F s b.head b.child in
    let has : HasBlock F b.head.syllable b.head.block = record { slot = f.child.slot; there = f.child.there; writes = f.child.writes } in
    subst (EachBlock (λ g. g < P)) b.whole (
      writes_inside P F b.head.syllable b.head.block inside has,
      machines_inside P S (compose S F j b.head.pages b.head.table b.head.version) (j + 1) path b.rest (composed_inside P S F j b.head.pages b.head.table b.head.version inside) b.others,
    )

-- blocks
blocks_each : (P : ℕ → Type 0) (items : List Item) → ((b : ℕ) → Has b (blocks_of items) → P b) → EachBlock P items
blocks_each P [] f = tt
blocks_each P (x ∷ xs) f = (f x.block (inl refl), blocks_each P xs (λ b h. f b (inr h)))

blocks_differ : (items : List Item) → are_distinct (blocks_of items) ≡ true → BlocksDiffer items
blocks_differ [] d = tt
blocks_differ (x ∷ xs) d =
    let p : Parted (x.block ∷ []) (blocks_of xs) = parted (x.block ∷ []) (blocks_of xs) d in
    (blocks_each (λ b. x.block ≢ b) xs (λ b h e. p.apart b (inl (sym e)) h), blocks_differ xs p.last)

length-syllables : (items : List Item) → length (syllables items) ≡ length items
length-syllables [] = refl
length-syllables (x ∷ xs) = ap suc (length-syllables xs)

-- what is so of machines that stand apart
pub alone : (S path : List ℕ) (items : List Item) → length path ≤ depth_limit → pin_of S path ≡ Some items → is_apart S items ≡ true → Alone S items (map_along S items)
unfolding pin_of map_along
alone S path items short e d =
    let I : List Slot = identity (page_count S) in
    let blocks : List ℕ = blocks_of items in
    let tables : List ℕ = tables_along S I 0 items in
    let opens : List ℕ = open_pages (map_along S items) in
    let p : Parted blocks (tables ++ opens) = parted blocks (tables ++ opens) d in
    let q : Parted tables opens = parted tables opens p.last in
    let m = machines_chained S I 0 path items e in
    let long : length (syllables items) ≡ length path = ap length m.0 in
    let block_unread : (b : ℕ) → Has b blocks → Unread (map_along S items) b = (λ b h o. p.apart b h (has_right b tables opens (has_opened (map_along S items) b o))) in
    record {
      map = refl;
      chained = m.1;
      chain =
          each_word (Aside (map_along S items) items) S I 0 items (machines_sized S I 0 path items e)
          (blocks_each (λ b. (w : ℕ) → 65 ≤ w → w ≤ 67 → Aside (map_along S items) items b w) items (λ b h w low high. (omega arith, block_unread b h, blocks_each (λ g. (b ≢ g) ⊎ IsOther w) items (λ g k. inr (omega arith, λ f. omega arith)))))
          (λ g w low h. (low, λ o. q.apart g h (has_opened (map_along S items) g o), blocks_each (λ b. (g ≢ b) ⊎ IsOther w) items (λ b k. inl (λ f. p.apart b k (has_left b tables opens (rw (← f) h))))));
      unread = blocks_each (Unread (map_along S items)) items block_unread;
      blocks = blocks_differ items p.first;
      inside = machines_inside (page_count S) S I 0 path items (identity_inside (page_count S)) e;
      one = one_open (map_along S items) q.last;
      short = omega (arith, long, length-syllables items);
    }
