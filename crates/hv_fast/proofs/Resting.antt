-- What is kept stays right after words changed, where it rests on none of them.
use Rattle.std.proofs.Common.{◌≡◌, ◌≢◌, ◌⊎◌, ℕ, zero, suc, ◌+◌, ◌*◌, ◌/◌, ◌%◌, ◌<◌, ◌≤◌, inl, inr, Bool, true, false, ◌||◌, cond, List, [], ◌∷◌, ◌++◌, length, get_or, Option, Some, None, refl, ap, ◌∙◌, sym, subst, arith, lit<, slice_get, length-set, get_or-set_other}
use Rattle.std.specs.Prelude.{◌==◌, All, IfSome, slice_index, slice_set}
use Rattle.std.specs.List.{AllByRecursion, flat_map, range_with_len}
use Rattle.std.proofs.lemmas.Bool.{cases_lt, eq-eqb, eqb-true}
use Rattle.std.proofs.lemmas.Bool.Decides.{eqb_tells}
use Rattle.std.proofs.lemmas.List.{get_or_past}
use Rattle.std.proofs.lemmas.Option.{get_or_from_slice_get, same_Some, slice_get-get_or, slice_get_cases, slice_get_within}
use Rattle.hv_word.specs.Storage.{word_at}
use Rattle.hv_word.specs.Words.{has}
use Rattle.hv_cpu.specs.Regs.{Regs}
use Rattle.hv_csr.specs.Interrupts.{pending_of}
use Rattle.hv_block.specs.Block.{is_block, regs_at}
use Rattle.hv_block.proofs.Blocks.{block_alike, regs_alike}
use Rattle.hv_map.specs.Apart.{blocks_of}
use Rattle.hv_map.specs.Chain.{child_with}
use Rattle.hv_map.specs.Held.{Nexts, SameNexts, SamePage, SamePages, SaysItem, SaysItems}
use Rattle.hv_map.specs.Item.{Item}
use Rattle.hv_map.specs.Links.{last_block}
use Rattle.hv_map.proofs.Holding.{held_stays, pin_stays}
use Rattle.hv_nest.specs.Changes.{difference_at, differences, differences_to}
use Rattle.hv_nest.specs.declared.changed.ChangedRow.{ChangedRow}
use Rattle.hv_cache.specs.Holding.{Entry}
use Rattle.hv_fast.specs.Beside.{EntriesAreRight, EntryIsRight, IsBlockStill, IsMounted, IsReady, IsRightBeside, IsSpared, IsUnpinned, SamePins}
use Rattle.hv_fast.specs.Marked.{BlocksIn, Marked, has_mark, listed}
use Rattle.hv_fast.specs.Rides.{Quiet, QuietBlocks}
use Rattle.hv_fast.specs.declared.beside.Beside.{Beside}
use Rattle.hv_fast.specs.declared.pin.Pin.{Pin}
use Rattle.hv_fast.proofs.Dropping.{Dropped}
use Rattle.hv_fast.proofs.Remembering.{memo_kept}
use Rattle.hv_fast.proofs.Saying.{page_same, still_says}
use Rattle.hv_fast.proofs.Staying.{placed_says}

-- What is true of the places of all rows is true of each place where the words differ.
each_place : (P : ℕ → Type 0) (S T ks : List ℕ) (a : ℕ)
    → AllByRecursion (λ (row : ChangedRow). P row.at) (flat_map (difference_at S T) ks)
    → has a ks ≡ true
    → slice_index S a ≢ slice_index T a
    → P a
each_place P S T [] a all there differ = absurd (let f : false ≡ true = there in cc)
each_place P S T (k ∷ ks) a all there differ =
    go (slice_index S k == slice_index T k) refl (a == k) refl all there (each_place P S T ks a)
  where
    rows_with : Bool → List ChangedRow
    rows_with b = cond b [] (record { at = k; value = slice_index T k } ∷ []) ++ flat_map (difference_at S T) ks

    go : (b : Bool) → (slice_index S k == slice_index T k) ≡ b
        → (c : Bool) → (a == k) ≡ c
        → AllByRecursion (λ (row : ChangedRow). P row.at) (rows_with b)
        → (c || has a ks) ≡ true
        → (AllByRecursion (λ (row : ChangedRow). P row.at) (flat_map (difference_at S T) ks) → has a ks ≡ true → slice_index S a ≢ slice_index T a → P a)
        → P a
    go true same true here all there rest =
        absurd (differ (subst (λ (n : ℕ). slice_index S n ≡ slice_index T n) (sym (eqb-true a k here)) (eqb-true (slice_index S k) (slice_index T k) same)))
    go true same false apart all there rest = rest all there differ
    go false other true here all there rest = subst P (sym (eqb-true a k here)) all.0
    go false other false apart all there rest = rest all.1 there differ

in_range : (n b a : ℕ) → b ≤ a → a < b + n → has a (range_with_len b n) ≡ true
in_range zero b a low high = absurd (omega arith)
in_range (suc n) b a low high = elim (eqb_tells a b) [
  | inl agree ↦ ap (λ (x : Bool). x || has a (range_with_len (b + 1) n)) agree.0
  | inr differ ↦
      ap (λ (x : Bool). x || has a (range_with_len (b + 1) n)) differ.0
      ∙ in_range n (b + 1) a (omega (arith, differ.1)) (omega arith)
]

each_change : (P : ℕ → Type 0) (S T : List ℕ) (a : ℕ)
    → AllByRecursion (λ (row : ChangedRow). P row.at) (differences S T)
    → length S ≡ length T
    → slice_index S a ≢ slice_index T a
    → P a
unfolding differences_to
each_change P S T a all long differ = each_place P S T (range_with_len 0 (length S)) a all (in_range (length S) 0 a (omega arith) inside) differ
  where
    inside : a < 0 + length S
    inside = elim (cases_lt a (length S)) [
      | inl lt ↦ omega (arith, lt)
      | inr le ↦ absurd (differ (get_or_past S a 0 le ∙ sym (get_or_past T a 0 (omega (arith, le, long)))))
    ]

-- a word is the same where no row can be at its place
same_unless : (P : ℕ → Type 0) (S T : List ℕ) (a : ℕ)
    → AllByRecursion (λ (row : ChangedRow). P row.at) (differences S T)
    → length S ≡ length T
    → (P a → ⊥)
    → slice_index S a ≡ slice_index T a
same_unless P S T a all long never = elim (eqb_tells (slice_index S a) (slice_index T a)) [
  | inl alike ↦ alike.1
  | inr apart ↦ absurd (never (each_change P S T a all long apart.1))
]

-- a page in which no row is
page_unless : (S T : List ℕ) (g : ℕ)
    → AllByRecursion (λ (row : ChangedRow). row.at / 1024 ≢ g) (differences S T)
    → length S ≡ length T
    → SamePage S T g
page_unless S T g none long k lt =
    same_unless (λ a. a / 1024 ≢ g) S T (1024 * g + k) none long (λ ne. ne (omega (arith, lt)))

or_right : (a b : Bool) → b ≡ true → (a || b) ≡ true
or_right true b e = refl
or_right false b e = e

-- pages that no row is in
pages_unless : (P : ℕ → Bool) (S T gs : List ℕ)
    → AllByRecursion (λ (row : ChangedRow). P (row.at / 1024) ≡ false) (differences S T)
    → length S ≡ length T
    → ((g : ℕ) → has g gs ≡ true → P g ≡ true)
    → SamePages S T gs
pages_unless P S T [] none long all = tt
pages_unless P S T (g ∷ gs) none long all = (
  λ k lt.
      same_unless (λ a. P (a / 1024) ≡ false) S T (1024 * g + k) none long
      (λ off.
      let page : (1024 * g + k) / 1024 ≡ g = omega (arith, lt) in
      let f : false ≡ true = sym off ∙ ap P page ∙ all g (ap (λ (b : Bool). b || has g gs) (eq-eqb g g refl)) in
      cc),
  pages_unless P S T gs none long (λ h there. all h (or_right (h == g) (has h gs) there)),
)

-- what each property says, a weaker one says
all_weaker : {X : Type 0} (P Q : X → Type 0) → ((x : X) → P x → Q x) → (xs : List X) → AllByRecursion P xs → AllByRecursion Q xs
all_weaker P Q f [] all = tt
all_weaker P Q f (x ∷ xs) all = (f x all.0, all_weaker P Q f xs all.1)

-- Two storages of one length, and the marks on pages in which no word differs.
module _ (S T : List ℕ) (long : length S ≡ length T) (m : Marked) (unmarked : AllByRecursion (λ (row : ChangedRow). has_mark m (row.at / 1024) ≡ false) (differences S T)) where
  tables_same : SamePages S T m.tables
  tables_same =
      pages_unless (has_mark m) S T m.tables unmarked long (λ g there. ap (λ (b : Bool). b || has g m.blocks) there)

  blocks_same : SamePages S T m.blocks
  blocks_same = pages_unless (has_mark m) S T m.blocks unmarked long (λ g there. or_right (has g m.tables) (has g m.blocks) there)

  block_same : (g : ℕ) → has g m.blocks ≡ true → SamePage S T g
  block_same g there = page_same S T g m.blocks there blocks_same

  -- the registers in a marked block are the same
  regs_same : (g : ℕ) → has g m.blocks ≡ true → regs_at S g ≡ regs_at T g
  regs_same g there = regs_alike S T g g (block_same g there)

  all_say : (items : List Item) → BlocksIn m.blocks items → SaysItems S items → SaysItems T items
  all_say [] blocks says = tt
  all_say (x ∷ xs) blocks says = (
    ap (child_with x.syllable x.block) (sym (block_alike S T x.block x.block (block_same x.block blocks.0))) ∙ says.0,
    all_say xs blocks.1 says.1,
  )

  all_next : (items : List Item) → BlocksIn m.blocks items → SameNexts S T items
  all_next [] blocks = tt
  all_next (x ∷ xs) blocks = (block_same x.block blocks.0 64 (lit< tt), all_next xs blocks.1)

  quiet_from : (k : ℕ) (items : List Item) → has k m.blocks ≡ true → BlocksIn m.blocks items → Quiet S (regs_at S k) items → Quiet T (regs_at T k) items
  quiet_from k [] there blocks quiet = tt
  quiet_from k (x ∷ xs) there blocks quiet =
      (ap pending_of (sym (regs_same k there)) ∙ quiet.0, quiet_from x.block xs blocks.0 blocks.1 quiet.1)

  all_quiet : (items : List Item) → BlocksIn m.blocks items → QuietBlocks S items → QuietBlocks T items
  all_quiet [] blocks quiet = tt
  all_quiet (x ∷ xs) blocks quiet = quiet_from x.block xs blocks.0 blocks.1 quiet

  -- a pin stays right
  ready_stays : (r : Regs) (p : Pin) → IsReady S r m p → IsReady T r m p
  ready_stays r p ready =
      let says : SaysItems T p.chain = all_say p.chain ready.blocks (placed_says S _ (listed m.tables) 0 p.chain ready.pin.placed) in
      record {
        pin = pin_stays S T r r p.chain (listed m.tables) long tables_same says (all_next p.chain ready.blocks) refl ready.pin;
        path = ready.path;
        ends = ready.ends;
        blocks = ready.blocks;
        quiet = all_quiet p.chain ready.blocks ready.quiet;
        memo =
            memo_kept S T p.chain m.tables m.tables p.memo
            (λ page slot held. held_stays S T p.chain (listed m.tables) page slot long tables_same says held) ready.memo;
      }

  last_in : (items : List Item) (g : ℕ) → last_block items ≡ Some g → BlocksIn m.blocks items → has g m.blocks ≡ true
  last_in [] g last blocks = absurd (let f : None ≡ Some g = last in cc)
  last_in (x ∷ []) g last blocks =
      subst (λ (k : ℕ). has k m.blocks ≡ true) (same_Some x.block g last) blocks.0
  last_in (x ∷ (y ∷ ys)) g last blocks = last_in (y ∷ ys) g last blocks.1

  -- the registers at its end are the same
  end_same : (r : Regs) (p : Pin) → IsReady S r m p → regs_at S p.block ≡ regs_at T p.block
  end_same r p ready = regs_same p.block (last_in p.chain p.block ready.ends ready.blocks)

-- And an entry that is spared by each word that differs.
module _ (S T : List ℕ) (long : length S ≡ length T) (e : Entry) (spared : AllByRecursion (λ (row : ChangedRow). IsSpared T row.at e) (differences S T)) where
  rested : SamePages S T (e.1).tables
  rested =
      pages_unless (λ g. has g (e.1).tables) S T (e.1).tables
      (all_weaker (λ (row : ChangedRow). IsSpared T row.at e) (λ (row : ChangedRow). has (row.at / 1024) (e.1).tables ≡ false) (λ row s. s.tables) (differences S T) spared)
      long (λ g there. there)

  -- a block is well formed, or no row is in its page
  still_or : (g : ℕ) → has g (e.1).blocks ≡ true → (rows : List ChangedRow) → AllByRecursion (λ (row : ChangedRow). IsSpared T row.at e) rows → (is_block T g ≡ true) ⊎ AllByRecursion (λ (row : ChangedRow). row.at / 1024 ≢ g) rows
  still_or g there [] all = inr tt
  still_or g there (row ∷ rows) all = elim (eqb_tells (row.at / 1024) g) [
    | inl agree ↦
        inl (subst (λ (k : ℕ). is_block T k ≡ true) agree.1 (all.0.blocks (subst (λ (k : ℕ). has k (e.1).blocks ≡ true) (sym agree.1) there)).block)
    | inr differ ↦ elim (still_or g there rows all.1) [
      | inl fits ↦ inl fits
      | inr none ↦ inr (differ.1, none)
    ]
  ]

  -- one of the words of a block that say what its machine is
  word_stays : (g w : ℕ) → has g (e.1).blocks ≡ true → w < 1024 → ((T : List ℕ) (k : ℕ) → IsBlockStill T g k → k ≢ w) → word_at T g w ≡ word_at S g w
  word_stays g w there lt never =
      sym (same_unless (λ a. IsSpared T a e) S T (1024 * g + w) spared long (λ s.
      let page : (1024 * g + w) / 1024 ≡ g = omega (arith, lt) in
      let word : (1024 * g + w) % 1024 ≡ w = omega (arith, lt) in
      let still = s.blocks (subst (λ (k : ℕ). has k (e.1).blocks ≡ true) (sym page) there) in
      never T ((1024 * g + w) % 1024) (subst (λ (k : ℕ). IsBlockStill T k ((1024 * g + w) % 1024)) page still) word))

  item_says : (x : Item) → has x.block (e.1).blocks ≡ true → SaysItem S x → SaysItem T x
  item_says x there says = elim (still_or x.block there (differences S T) spared) [
    | inl fits ↦
        still_says S T x says
        (word_stays x.block 65 there (lit< tt) (λ U k still. still.pages))
        (word_stays x.block 66 there (lit< tt) (λ U k still. still.table))
        (word_stays x.block 67 there (lit< tt) (λ U k still. still.version))
        fits
    | inr none ↦
        ap (child_with x.syllable x.block) (sym (block_alike S T x.block x.block (page_unless S T x.block none long))) ∙ says
  ]

  items_say : (items : List Item) → ((g : ℕ) → has g (blocks_of items) ≡ true → has g (e.1).blocks ≡ true) → SaysItems S items → SaysItems T items
  items_say [] within says = tt
  items_say (x ∷ xs) within says = (
    item_says x (within x.block (ap (λ (b : Bool). b || has x.block (blocks_of xs)) (eq-eqb x.block x.block refl))) says.0,
    items_say xs (λ g there. within g (or_right (g == x.block) (has g (blocks_of xs)) there)) says.1,
  )

  entry_stays : (paths : List (List ℕ)) → EntryIsRight S paths e → EntryIsRight T paths e
  entry_stays paths right = record {
    items = right.items;
    named = right.named;
    blocks = right.blocks;
    held =
        held_stays S T right.items (listed (e.1).tables) (e.0).1 (e.1).slot long rested
        (items_say right.items (λ g there. ap (has g) right.blocks ∙ there) (placed_says S _ (listed (e.1).tables) 0 right.items right.held.placed))
        right.held;
  }

heads : (T : List ℕ) (e : Entry) (es : List Entry) (rows : List ChangedRow)
    → AllByRecursion (λ (row : ChangedRow). AllByRecursion (IsSpared T row.at) (e ∷ es)) rows
    → AllByRecursion (λ (row : ChangedRow). IsSpared T row.at e) rows
heads T e es rows all =
    all_weaker (λ (row : ChangedRow). AllByRecursion (IsSpared T row.at) (e ∷ es)) (λ (row : ChangedRow). IsSpared T row.at e) (λ row both. both.0) rows all

tails : (T : List ℕ) (e : Entry) (es : List Entry) (rows : List ChangedRow)
    → AllByRecursion (λ (row : ChangedRow). AllByRecursion (IsSpared T row.at) (e ∷ es)) rows
    → AllByRecursion (λ (row : ChangedRow). AllByRecursion (IsSpared T row.at) es) rows
tails T e es rows all =
    all_weaker (λ (row : ChangedRow). AllByRecursion (IsSpared T row.at) (e ∷ es)) (λ (row : ChangedRow). AllByRecursion (IsSpared T row.at) es) (λ row both. both.1) rows all

entries_stay : (S T : List ℕ) (paths : List (List ℕ)) (es : List Entry)
    → length S ≡ length T
    → AllByRecursion (λ (row : ChangedRow). AllByRecursion (IsSpared T row.at) es) (differences S T)
    → EntriesAreRight S paths es
    → EntriesAreRight T paths es
entries_stay S T paths [] long spared right = tt
entries_stay S T paths (e ∷ es) long spared right = (
  entry_stays S T long e (heads T e es (differences S T) spared) paths right.0,
  entries_stay S T paths es long (tails T e es (differences S T) spared) right.1,
)

-- the others' registers are as they were
other_regs : (R : List Regs) (h k : ℕ) (r q : Regs) → k ≢ h → slice_get (slice_set R h r) k ≡ Some q → slice_get R k ≡ Some q
other_regs R h k r q ne e =
    let within : k < length R = omega (arith, slice_get_within (slice_set R h r) k q e, length-set R h r) in
    slice_get-get_or R k q within
    ∙ ap (λ (x : Regs). Some x) (sym (get_or-set_other R h k r q ne) ∙ get_or_from_slice_get (slice_set R h r) k q q e)

-- a pin in use is none of those that aren't
none_live : (ps : List Pin) (h : ℕ) (p : Pin) → All (λ (p : Pin). p.live ≡ false) ps → slice_get ps h ≡ Some p → p.live ≡ true → ⊥
none_live ps h p dead there live =
    let is : get_or ps h p ≡ p = get_or_from_slice_get ps h p p there in
    let own : (get_or ps h p).live ≡ false = dead h p (slice_get_within ps h p there) in
    let f : true ≡ false = sym live ∙ ap (λ (q : Pin). q.live) (sym is) ∙ own in
    cc

dead_at : (o : Option Pin) (p : Pin) → IfSome o (λ (p : Pin). p.live ≡ false) → o ≡ Some p → p.live ≡ true → ⊥
dead_at o p dead there live =
    let own : p.live ≡ false = subst (λ (t : Option Pin). IfSome t (λ (p : Pin). p.live ≡ false)) there dead in
    let f : true ≡ false = sym live ∙ own in
    cc

-- Everything is right after a step of hart h, whose pin was dropped, and then what rests on the words that the step changed.
module _ (S T : List ℕ) (R : List Regs) (h : ℕ) (r : Regs) (a b c : Beside) (right : IsRightBeside S R a) (gone : IsUnpinned h a b) (long : length S ≡ length T) where
  -- a pin that is in use still is that of another hart
  was_pinned : (k : ℕ) (p : Pin) → slice_get b.pins.items k ≡ Some p → k ≢ h → slice_get a.pins.items k ≡ Some p
  was_pinned k p there ne = sym (gone.others k ne) ∙ there

  module _ (same : SamePins b c) (unmarked : AllByRecursion (λ (row : ChangedRow). has_mark b.marks (row.at / 1024) ≡ false) (differences S T)) where
    all_unmarked : AllByRecursion (λ (row : ChangedRow). has_mark a.marks (row.at / 1024) ≡ false) (differences S T)
    all_unmarked =
        subst (λ (m : Marked). AllByRecursion (λ (row : ChangedRow). has_mark m (row.at / 1024) ≡ false) (differences S T)) gone.marks unmarked

    in_b : (k : ℕ) (p : Pin) → slice_get c.pins.items k ≡ Some p → slice_get b.pins.items k ≡ Some p
    in_b k p there = sym (λ i. slice_get (same.pins i).items k) ∙ there

    pins_stay : (k : ℕ) (q : Regs) (p : Pin) → slice_get (slice_set R h r) k ≡ Some q → slice_get c.pins.items k ≡ Some p → p.live ≡ true → IsReady T q c.marks p
    pins_stay k q p has_regs there live = elim (eqb_tells k h) [
      | inl agree ↦
          absurd (dead_at (slice_get b.pins.items h) p gone.own (subst (λ (n : ℕ). slice_get b.pins.items n ≡ Some p) agree.1 (in_b k p there)) live)
      | inr differ ↦
          subst (λ (m : Marked). IsReady T q m p) (sym (same.marks ∙ gone.marks))
          (ready_stays S T long a.marks all_unmarked q p
          (right.pins k q p (other_regs R h k r q differ.1 has_regs) (was_pinned k p (in_b k p there) differ.1) live))
    ]

    rider_stays : (k : ℕ) (p : Pin) → c.rider ≡ Some k → slice_get c.pins.items k ≡ Some p → IsMounted T p c.inner
    rider_stays k p rides there = elim gone.rider [
      | inl none ↦ absurd (let f : None ≡ Some k = sym none ∙ sym same.rider ∙ rides in cc)
      | inr kept ↦
          let ne : k ≢ h = λ e. kept.1 (sym same.rider ∙ rides ∙ ap (λ (n : ℕ). Some n) e) in
          let was : slice_get a.pins.items k ≡ Some p = was_pinned k p (in_b k p there) ne in
          let before = right.rider k p (sym kept.0 ∙ sym same.rider ∙ rides) was in
          let within : k < length R = omega (arith, slice_get_within a.pins.items k p was, right.count) in
          let ready = right.pins k (get_or R k r) p (slice_get-get_or R k r within) was before.live in
          record {
            live = before.live;
            regs = sym (end_same S T long a.marks all_unmarked (get_or R k r) p ready) ∙ before.regs ∙ sym (same.inner ∙ gone.inner);
          }
    ]

  after_right : Dropped T (differences S T) b c → IsRightBeside T (slice_set R h r) c
  after_right dropped = record {
    count = dropped.count ∙ gone.count ∙ right.count ∙ sym (length-set R h r);
    pins = λ k q p has_regs there live. elim dropped.pins [
      | inl stay ↦ pins_stay stay.0 stay.1 k q p has_regs there live
      | inr dead ↦ absurd (none_live c.pins.items k p dead.0 there live)
    ];
    rider = λ k p rides there. elim dropped.pins [
      | inl stay ↦ rider_stays stay.0 stay.1 k p rides there
      | inr dead ↦ absurd (let f : None ≡ Some k = sym dead.1 ∙ rides in cc)
    ];
    held =
        subst (λ (paths : List (List ℕ)). EntriesAreRight T paths c.cache.entries) (sym (dropped.ids ∙ gone.ids))
        (entries_stay S T a.ids c.cache.entries long dropped.spared
        (dropped.kept S a.ids (subst (λ (es : List Entry). EntriesAreRight S a.ids es) (sym (λ i. (gone.cache i).entries)) right.held)));
  }

-- the same of all rows of a step
pub all_right : (S T : List ℕ) (R : List Regs) (h : ℕ) (r : Regs) (a b c : Beside) (rows changed : List ChangedRow)
    → rows ≡ changed
    → IsUnpinned h a b
    → Dropped T rows b c
    → IsRightBeside S R a
    → length S ≡ length T
    → changed ≡ differences S T
    → IsRightBeside T (slice_set R h r) c
all_right S T R h r a b c rows changed is gone dropped right long all =
    after_right S T R h r a b c right gone long (subst (λ (rs : List ChangedRow). Dropped T rs b c) (is ∙ all) dropped)

-- where no pin is in use, everything is right if each held translation is
pub unpinned_right : (S : List ℕ) (R : List Regs) (b : Beside)
    → length b.pins.items ≡ length R
    → All (λ (p : Pin). p.live ≡ false) b.pins.items
    → b.rider ≡ None
    → EntriesAreRight S b.ids b.cache.entries
    → IsRightBeside S R b
unpinned_right S R b count dead none held = record {
  count = count;
  pins = λ k q p has_regs there live. absurd (none_live b.pins.items k p dead there live);
  rider = λ k p rides there. absurd (let f : None ≡ Some k = sym none ∙ rides in cc);
  held = held;
}

-- and so it is where none is held
pub idle_right : (b : Beside) (n : ℕ)
    → length b.pins.items ≡ n
    → All (λ (p : Pin). p.live ≡ false) b.pins.items
    → b.rider ≡ None
    → b.cache.entries ≡ []
    → (S : List ℕ) (R : List Regs)
    → length R ≡ n
    → IsRightBeside S R b
idle_right b n many dead none empty S R long =
    unpinned_right S R b (many ∙ sym long) dead none (subst (λ (es : List Entry). EntriesAreRight S b.ids es) (sym empty) tt)

-- a pin that isn't in use needn't be dropped
pub unpinned_already : (S : List ℕ) (R : List Regs) (b : Beside) (h : ℕ) (p : Pin) → IsRightBeside S R b → slice_get b.pins.items h ≡ Some p → p.live ≡ false → IsUnpinned h b b
unpinned_already S R b h p right there off = record {
  count = refl;
  own = subst (λ (o : Option Pin). IfSome o (λ (q : Pin). q.live ≡ false)) (sym there) off;
  others = λ k ne. refl;
  marks = refl;
  rider = inr (refl, λ rides. let f : true ≡ false = sym (right.rider h p rides there).live ∙ off in cc);
  ids = refl;
  cache = refl;
  inner = refl;
}

-- a pin of a machine is that of a hart that runs one
runs_one : (S : List ℕ) (r : Regs) (items : List Item) (block : ℕ) → last_block items ≡ Some block → Nexts S r items → r.next ≢ 0
runs_one S r [] block ends nexts idle = cc
runs_one S r (x ∷ xs) block ends nexts idle = let e : r.next ≡ x.syllable = (nexts.0).0 in let some : 0 < x.syllable = (nexts.0).1 in omega (arith, e, some, idle)

-- so a hart that runs no machine has no pin in use
pub idle_unpinned : (S : List ℕ) (R : List Regs) (b : Beside) (h : ℕ) (r : Regs) → IsRightBeside S R b → slice_get R h ≡ Some r → r.next ≡ 0 → IsUnpinned h b b
idle_unpinned S R b h r right has idle = by ((slice_get_cases b.pins.items h).1)
  where
    unpinned : (p : Pin) → slice_get b.pins.items h ≡ Some p → IsUnpinned h b b
    unpinned p there =
        unpinned_already S R b h p right there
        (elim p.live as (λ v. p.live ≡ v → p.live ≡ false) [
          | true ↦ λ on. let k = right.pins h r p has there on in absurd (runs_one S r p.chain p.block k.ends k.pin.nexts idle)
          | false ↦ λ off. off
        ] refl)

    by : ((p : Pin) × (h < length b.pins.items) × (slice_get b.pins.items h ≡ Some p) × (get_or b.pins.items h p ≡ p)) ⊎ ((length b.pins.items ≤ h) × (slice_get b.pins.items h ≡ None)) → IsUnpinned h b b
    by (inl found) = unpinned found.0 found.2
    by (inr past) = absurd (let lt : h < length R = slice_get_within R h r has in let le : length b.pins.items ≤ h = past.0 in omega (arith, lt, le, right.count))
