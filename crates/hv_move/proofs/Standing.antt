-- A machine that stands apart, when its pages and its registers are replaced: it is there as before.
use Rattle.std.proofs.Common.{◌≡◌, ◌≢◌, ℕ, zero, suc, ◌+◌, ◌*◌, ◌/◌, ◌<◌, ◌≤◌, ◌⊎◌, inl, inr, Bool, true, cond, ◌&&◌, List, [], ◌∷◌, length, map, Option, Some, None, slice_get, refl, ap, ◌∙◌, sym, subst, arith}
use Rattle.std.specs.Prelude.{IfSome, nat_le, nat_lt, slice_index, ◌==◌, ◌||◌}
use Rattle.std.specs.Option.{option_map}
use Rattle.std.proofs.Math.Dec.{lit<}
use Rattle.std.proofs.lemmas.Bool.{and_from, and_parts, lt-ltb, ltb-true}
use Rattle.std.proofs.lemmas.Option.{same_Some, slice_get_within}
use Rattle.hv_limits.specs.Limits.{depth_limit}
use Rattle.hv_word.specs.Storage.{page_count, word_at}
use Rattle.hv_store.specs.declared.access.Access.TheVariants.{Read}
use Rattle.hv_store.specs.declared.access.Slot.{Slot}
use Rattle.hv_store.specs.declared.access.Way.TheVariants.{Open}
use Rattle.hv_store.specs.Access.{identity}
use Rattle.hv_block.specs.Block.{Contents, IsOther, block_of, contents_at, fits_hart, fits_pages, fits_size, is_block, pages_at, put_regs, regs_at, table_at, version_at}
use Rattle.hv_block.proofs.Blocks.{block_alike, block_holds}
use Rattle.hv_block.proofs.Fits.{hart_fits}
use Rattle.hv_block.proofs.Words.{length-put_regs, put_other, regs_back}
use Rattle.hv_map.specs.Item.{Item}
use Rattle.hv_map.specs.Apart.{is_apart}
use Rattle.hv_map.specs.Carried.{Opens}
use Rattle.hv_map.specs.Chain.{child_at, child_of, child_through, child_with, machines, map_along, pin_of}
use Rattle.hv_map.specs.Compose.{compose, reading}
use Rattle.hv_map.specs.Links.{last_block, syllable_of}
use Rattle.hv_map.specs.Seen.{seen}
use Rattle.hv_map.specs.Words.{Chained, EachChain, IsChild}
use Rattle.hv_map.proofs.Assoc.{begins_from, begins_with}
use Rattle.hv_map.proofs.Words.{chained_agrees, each_chain}
use Rattle.hv_apart.proofs.Upgraded.{maps_same, written_reads}
use Rattle.hv_whole.specs.Linked.{Alone, Aside, BlocksDiffer, EachBlock, Unread}
use Rattle.hv_whole.proofs.Apartness.{alone}
use Rattle.hv_capsule.specs.Parked.{IsParked, Parked}
use Rattle.hv_move.specs.Saved.{first_absent, opens}
use Rattle.hv_move.specs.Placed.{AreHosts, AreWritten, DifferAll, IsBeside, IsPlaced}
use Rattle.hv_move.proofs.Blocks.{HasBlock, child_block, pinned_block}
use Rattle.hv_move.proofs.Firsts.{absent_nowhere}
use Rattle.hv_move.proofs.Moving.{all_seen, same_count, same_map}

-- a path is as long as there are machines on it
long_path : (xs : List Item) → length (map syllable_of xs) ≡ length xs
long_path [] = refl
long_path (x ∷ xs) = ap suc (long_path xs)

-- what holds of each block holds of the last
each_last : (P : ℕ → Type 0) (xs : List Item) (b : ℕ) → EachBlock P xs → last_block xs ≡ Some b → P b
each_last P [] b each e = absurd (let f : None ≡ Some b = e in cc)
each_last P (x ∷ []) b each e = subst P (same_Some x.block b e) each.0
each_last P (x ∷ (y ∷ ys)) b each e = each_last P (y ∷ ys) b each.1 e

-- a page that is read is opened
opens_at : (F : List Slot) (y x : ℕ) → reading F y ≡ Some (Open x) → Opens F Read x
opens_at F y x e = at (slice_get F y) refl e
  where
    at : (o : Option Slot) → slice_get F y ≡ o → option_map (λ (s : Slot). s.read) o ≡ Some (Open x) → Opens F Read x
    at None is h = absurd (let f : None ≡ Some (Open x) = h in cc)
    at (Some s) is h = (y, s, is, same_Some s.read (Open x) h)

-- a well-formed block in the page that a parent can write is its child
child_back : (T : List ℕ) (F : List Slot) (x : Item) → IsChild T F x → is_block T x.block ≡ true → child_of T F x.syllable ≡ Some x
child_back T F x c fits =
    ap (child_at T x.syllable) c.there
    ∙ ap (child_through T x.syllable) c.writes
    ∙ ap (λ (b : Bool). child_with x.syllable x.block (cond b (Some (contents_at T x.block)) None)) fits
    ∙ (λ i. Some record { syllable = x.syllable; block = x.block; pages = c.pages i; table = c.table i; version = c.version i })

-- and so are the machines on a path
machines_back : (T : List ℕ) (F : List Slot) (j : ℕ) (xs : List Item) → Chained T F j xs → EachBlock (λ b. is_block T b ≡ true) xs → machines T F j (map syllable_of xs) ≡ Some xs
unfolding machines
machines_back T F j [] chained fits = refl
machines_back T F j (x ∷ xs) chained fits =
    begins_from T F j x.syllable (map syllable_of xs) x xs (child_back T F x chained.0 fits.0)
    (machines_back T (compose T F j x.pages x.table x.version) (j + 1) xs chained.1 fits.1)

-- the blocks of the machines on a path are well formed
fits_of : (S : List ℕ) (g n : ℕ) → HasBlock S g n → is_block S g ≡ true
fits_of S g n has = (block_holds S g has.contents has.is).0

blocks_fit : (S : List ℕ) (F : List Slot) (j : ℕ) (path : List ℕ) (items : List Item) → machines S F j path ≡ Some items → EachBlock (λ b. is_block S b ≡ true) items
unfolding machines
blocks_fit S F j [] items e = subst (EachBlock (λ b. is_block S b ≡ true)) (same_Some [] items e) tt
blocks_fit S F j (s ∷ path) items e =
    let b = begins_with S F j s path items e in
    subst (EachBlock (λ k. is_block S k ≡ true)) b.whole
    (fits_of S b.head.block b.head.pages (child_block S F s b.head b.child), blocks_fit S (compose S F j b.head.pages b.head.table b.head.version) (j + 1) path b.rest b.others)

-- a size that can be can be with another next
sized_with : (n t v next other : ℕ) → fits_size n t v next ≡ true → other < n → fits_size n t v other ≡ true
sized_with n t v next other f low =
    let a = and_parts (nat_lt 0 n && nat_le n 1048576 && nat_lt t 1048576 && nat_lt next n) ((v == 0) || (v == 2)) f in
    let b = and_parts (nat_lt 0 n && nat_le n 1048576 && nat_lt t 1048576) (nat_lt next n) a.0 in
    and_from (nat_lt 0 n && nat_le n 1048576 && nat_lt t 1048576 && nat_lt other n) ((v == 0) || (v == 2))
    (and_from (nat_lt 0 n && nat_le n 1048576 && nat_lt t 1048576) (nat_lt other n) b.0 (lt-ltb other n low))
    a.1

some_pages : (n t v next : ℕ) → fits_size n t v next ≡ true → 0 < n
some_pages n t v next f =
    let a = and_parts (nat_lt 0 n && nat_le n 1048576 && nat_lt t 1048576 && nat_lt next n) ((v == 0) || (v == 2)) f in
    let b = and_parts (nat_lt 0 n && nat_le n 1048576 && nat_lt t 1048576) (nat_lt next n) a.0 in
    let d = and_parts (nat_lt 0 n && nat_le n 1048576) (nat_lt t 1048576) b.0 in
    ltb-true 0 n (and_parts (nat_lt 0 n) (nat_le n 1048576) d.0).0

next_low : (r n : ℕ) → 0 < n → (r ≢ 0 → r < n) → r < n
next_low zero n some low = some
next_low (suc r) n some low = low (λ e. let f : suc r ≡ 0 = e in absurd (omega arith))

-- where it stands apart, the pages that the machine writes are those that it reads, and are all different
module _ (S : List ℕ) (items : List Item) (hosts : List ℕ) (short : length items ≤ depth_limit) (pinned : pin_of S (map syllable_of items) ≡ Some items) (apart : is_apart S items ≡ true) (found : AreHosts (page_count S) (map_along S items) hosts) where
  stand : Alone S items (map_along S items)
  stand = alone S (map syllable_of items) items (omega (arith, short, long_path items)) pinned apart

  reads : (i : ℕ) → i < length (map_along S items) → reading (map_along S items) i ≡ Some (Open (slice_index hosts i))
  reads i low = written_reads (map_along S items) i (slice_index hosts i) (maps_same S items) (found.found i low)

  pub differ : (n : ℕ) → n ≡ length (map_along S items) → DifferAll n hosts
  differ n e i j low high same =
      stand.one i j (slice_index hosts i) (reads i (omega (arith, low, e))) (reads j (omega (arith, high, e)) ∙ ap (λ x. Some (Open x)) (sym same))

  module _ (T1 T : List ℕ) (m : Parked) (b : ℕ) (copy : length m.storage ≡ 1024 * page_count m.storage) (count : page_count m.storage ≡ length (map_along S items)) (last : last_block items ≡ Some b) (low : b < page_count S) (parked : IsParked m) (written : AreWritten S T1 hosts m.storage (page_count m.storage)) (put : T ≡ put_regs T1 b m.regs) where
    long : length T ≡ length S
    long = ap length put ∙ length-put_regs T1 b m.regs ∙ written.len

    unread : Unread (map_along S items) b
    unread = each_last (Unread (map_along S items)) items b stand.unread last

    words : (y x w : ℕ) (s : Slot) → slice_get (map_along S items) y ≡ Some s → s.read ≡ Open x → w < 1024 → word_at T x w ≡ word_at m.storage y w
    words y x w s is r h =
        let inside : y < length (map_along S items) = slice_get_within (map_along S items) y s is in
        let here : reading (map_along S items) y ≡ Some (Open x) = ap (option_map (λ (q : Slot). q.read)) is ∙ ap Some r in
        let same : Open x ≡ Open (slice_index hosts y) = same_Some (Open x) (Open (slice_index hosts y)) (sym here ∙ reads y inside) in
        let at : x ≡ slice_index hosts y = cc (same) in
        ap (λ (X : List ℕ). word_at X x w) put
        ∙ put_other T1 b m.regs x w h (inl (λ e. unread (subst (Opens (map_along S items) Read) e (opens_at (map_along S items) y x here))))
        ∙ ap (λ k. word_at T1 k w) at
        ∙ written.words y w (omega (arith, inside, count)) h

    readable : first_absent (map_along S items) ≡ None
    readable = sym (absent_nowhere (map_along S items) (λ i lt. ap opens (reads i lt)))

    seen_is : seen T (map_along S items) ≡ m.storage
    seen_is = sym (all_seen T m.storage (map_along S items) (copy ∙ ap (λ n. 1024 * n) count) words readable)

    stays : (g w : ℕ) → w < 1024 → (Opens (map_along S items) Read g → ⊥) → IsBeside (last_block items) g w → word_at T g w ≡ word_at S g w
    stays g w h closed beside =
        ap (λ (X : List ℕ). word_at X g w) put
        ∙ put_other T1 b m.regs g w h (subst (λ o. IsBeside o g w) last beside)
        ∙ written.stays g w h (λ i lt e. closed (subst (Opens (map_along S items) Read) (sym e) (opens_at (map_along S items) i (slice_index hosts i) (reads i (omega (arith, lt, count))))))

    chain : EachChain (λ g w. word_at S g w ≡ word_at T g w) S (identity (page_count S)) 0 items
    chain =
        each_chain (Aside (map_along S items) items) (λ g w. word_at S g w ≡ word_at T g w)
        (λ g w a. sym (stays g w a.0 a.1 (subst (λ o. IsBeside o g w) (sym last) (each_last (λ k. (g ≢ k) ⊎ IsOther w) items b a.2 last))))
        S (identity (page_count S)) 0 items stand.chain

    map_kept : map_along T items ≡ map_along S items
    map_kept = same_map S T items long chain

    regs_are : regs_at T b ≡ m.regs
    regs_are =
        let inside : b < page_count T1 = subst (λ n. b < n / 1024) (sym written.len) low in
        ap (λ (X : List ℕ). regs_at X b) put ∙ regs_back T1 b m.regs inside

    -- words 65 to 67 of the block
    beside_last : (w : ℕ) → w < 1024 → IsOther w → word_at T b w ≡ word_at S b w
    beside_last w h other = stays b w h unread (subst (λ o. IsBeside o b w) (sym last) (inr other))

    block_size : pages_at S b ≡ length (map_along S items)
    block_size =
        let has = pinned_block S (map syllable_of items) items b pinned last in
        ap (λ (k : Contents). k.pages) (block_holds S b has.contents has.is).1 ∙ has.pages

    last_fits : is_block S b ≡ true → is_block T b ≡ true
    last_fits fits =
        let parts = and_parts (fits_hart (regs_at S b)) (fits_pages S b) fits in
        let some : 0 < pages_at S b = some_pages (pages_at S b) (table_at S b) (version_at S b) (word_at S b 64) parts.1 in
        let size : page_count m.storage ≡ pages_at S b = count ∙ sym block_size in
        let next : m.regs.next < pages_at S b = next_low m.regs.next (pages_at S b) some (λ ne. subst (λ n. m.regs.next < n) size (parked.next ne)) in
        let sized : fits_size (pages_at S b) (table_at S b) (version_at S b) m.regs.next ≡ true = sized_with (pages_at S b) (table_at S b) (version_at S b) (word_at S b 64) m.regs.next parts.1 next in
        and_from (fits_hart (regs_at T b)) (fits_pages T b)
        (ap fits_hart regs_are ∙ hart_fits m.regs parked.fits)
        ((λ i. fits_size (beside_last 65 (lit< tt) (omega arith, omega arith) i) (beside_last 66 (lit< tt) (omega arith, omega arith) i) (beside_last 67 (lit< tt) (omega arith, omega arith) i) (regs_are i).next) ∙ sized)

    outer_fits : (x : ℕ) → Unread (map_along S items) x → x ≢ b → is_block S x ≡ true → is_block T x ≡ true
    outer_fits x closed ne fits =
        let same : (w : ℕ) → w < 1024 → word_at T x w ≡ word_at S x w = (λ w h. stays x w h closed (subst (λ o. IsBeside o x w) (sym last) (inl ne))) in
        let there : block_of S x ≡ Some (contents_at S x) = ap (λ (t : Bool). cond t (Some (contents_at S x)) None) fits in
        (block_holds T x (contents_at S x) (block_alike T S x x same ∙ there)).0

    each_fits : (xs : List Item) → last_block xs ≡ Some b → EachBlock (λ k. is_block S k ≡ true) xs → EachBlock (Unread (map_along S items)) xs → BlocksDiffer xs → EachBlock (λ k. is_block T k ≡ true) xs
    each_fits [] e fits closed apart' = tt
    each_fits (x ∷ []) e fits closed apart' =
        let at : x.block ≡ b = same_Some x.block b e in
        (subst (λ k. is_block T k ≡ true) (sym at) (last_fits (subst (λ k. is_block S k ≡ true) at fits.0)), tt)
    each_fits (x ∷ (y ∷ ys)) e fits closed apart' =
        (outer_fits x.block closed.0 (each_last (λ k. x.block ≢ k) (y ∷ ys) b apart'.0 e) fits.0, each_fits (y ∷ ys) e fits.1 closed.1 apart'.1)

    there : pin_of T (map syllable_of items) ≡ Some items
    unfolding pin_of
    there =
        let chained : Chained T (identity (page_count S)) 0 items = chained_agrees S T (identity (page_count S)) 0 items chain stand.chained in
        let fits = blocks_fit S (identity (page_count S)) 0 (map syllable_of items) items pinned in
        subst (λ n. machines T (identity n) 0 (map syllable_of items) ≡ Some items) (sym (same_count S T items long chain))
        (machines_back T (identity (page_count S)) 0 items chained (each_fits items last fits stand.unread stand.blocks))

    pub placed : IsPlaced S T items m
    placed = record {
      len = long;
      storage = ap (seen T) map_kept ∙ seen_is;
      readable = ap first_absent map_kept ∙ readable;
      regs = subst (λ o. IfSome o (λ g. regs_at T g ≡ m.regs)) (sym last) regs_are;
      pinned = there;
      map_kept = map_kept;
      stays = stays;
    }
