-- All that is kept beside the state is right after a ride.
use Rattle.std.proofs.Common.{◌≡◌, ℕ, suc, ◌+◌, ◌/◌, ◌<◌, ◌==◌, ◌&&◌, ◌||◌, nat_le, nat_lt, inl, inr, Bool, true, false, List, [], ◌∷◌, map, Option, Some, None, refl, ap, ◌∙◌, sym, subst, slice_get, length}
use Rattle.std.specs.Prelude.{All, IfNone}
use Rattle.std.specs.Option.{is_some}
use Rattle.std.specs.List.{AllByRecursion}
use Rattle.std.proofs.lemmas.Bool.{and_parts, ltb-true}
use Rattle.std.proofs.lemmas.Bool.Decides.{eqb_tells}
use Rattle.std.proofs.lemmas.Option.{get_or_from_slice_get, same_Some, slice_get_within}
use Rattle.hv_word.specs.Storage.{page_count, word_at}
use Rattle.hv_word.specs.Words.{has}
use Rattle.hv_cpu.specs.Regs.{Regs}
use Rattle.hv_csr.specs.Interrupts.{pending_of}
use Rattle.hv_store.specs.declared.access.Slot.{Slot}
use Rattle.hv_exec.specs.Act.{act_of}
use Rattle.hv_store.specs.Access.{identity}
use Rattle.hv_block.specs.Block.{Contents, fits_hart, fits_pages, is_block, pages_at, regs_at, table_at, version_at}
use Rattle.hv_block.proofs.Words.{regs_back}
use Rattle.hv_map.specs.Chain.{along, map_along, pin_of}
use Rattle.hv_map.specs.Compose.{compose}
use Rattle.hv_map.specs.Gathered.{bare_gathered_map}
use Rattle.hv_map.specs.Apart.{blocks_of}
use Rattle.hv_map.specs.Held.{SaysItems}
use Rattle.hv_map.proofs.Slots.{length-composed}
use Rattle.hv_map.specs.Item.{Item}
use Rattle.hv_map.specs.Links.{last_block, syllable_of}
use Rattle.hv_map.proofs.Machines.{pinned_fits}
use Rattle.hv_nest.specs.Step.{Worked, host_step_of}
use Rattle.hv_nest.specs.declared.notes.Note.{Note}
use Rattle.hv_cache.specs.Holding.{Entry}
use Rattle.hv_fast.specs.Beside.{EntriesAreRight, EntryIsRight, IsMounted, IsReady, IsRightBeside, NoPins}
use Rattle.hv_fast.specs.declared.beside.Beside.{Beside}
use Rattle.hv_fast.specs.declared.pin.Pin.{Pin}
use Rattle.hv_fast.specs.Marked.{BlocksIn, Marked, listed}
use Rattle.hv_fast.specs.Memo.{Opens}
use Rattle.hv_fast.specs.Rides.{HasRidden, IsRidden, Quiet, QuietBlocks, marked_by}
use Rattle.hv_fast.proofs.Descending.{ride}
use Rattle.hv_fast.proofs.Filling.{own_pin}
use Rattle.hv_fast.proofs.Growing.{pin_ends}
use Rattle.hv_fast.proofs.Remembering.{memo_kept, right_opens}
use Rattle.hv_fast.proofs.Saying.{says_block}
use Rattle.hv_fast.proofs.Staying.{held_rides, pin_rides, placed_says, quiet_rides}

-- the blocks of the items are in the pages of their blocks
blocks_push : (g : ℕ) (gs : List ℕ) (items : List Item) → BlocksIn gs items → BlocksIn (g ∷ gs) items
blocks_push g gs [] h = tt
blocks_push g gs (x ∷ xs) h = (or_right (x.block == g) (has x.block gs) h.0, blocks_push g gs xs h.1)
  where
    or_right : (a b : Bool) → b ≡ true → (a || b) ≡ true
    or_right true b e = refl
    or_right false b e = e

has_first : (g : ℕ) (gs : List ℕ) → has g (g ∷ gs) ≡ true
has_first g gs = ap (λ (b : Bool). b || has g gs) (same_number g)
  where
    same_number : (k : ℕ) → (k == k) ≡ true
    same_number k = elim (eqb_tells k k) [ inl e ↦ e.0 | inr e ↦ absurd (e.1 refl) ]

pub blocks_own : (items : List Item) → BlocksIn (blocks_of items) items
blocks_own [] = tt
blocks_own (x ∷ xs) = (has_first x.block (blocks_of xs), blocks_push x.block (blocks_of xs) xs (blocks_own xs))

-- held translations
entry_rides : (S T U : List ℕ) (paths : List (List ℕ)) (e : Entry) (g : ℕ) (q : Regs) → IsRidden S T U (marked_by e.1) g q → EntryIsRight S paths e → EntryIsRight U paths e
entry_rides S T U paths e g q ridden right = record {
  items = right.items;
  named = right.named;
  blocks = right.blocks;
  held =
      held_rides S T U q right.items (marked_by e.1) g e.0.1 e.1.slot ridden
      (subst (λ (gs : List ℕ). BlocksIn gs right.items) (sym right.blocks) (blocks_own right.items)) right.held;
}

pub entries_ride : (S T U : List ℕ) (paths : List (List ℕ)) (es : List Entry) (g : ℕ) (q : Regs) → AllByRecursion (λ (e : Entry). IsRidden S T U (marked_by e.1) g q) es → EntriesAreRight S paths es → EntriesAreRight U paths es
entries_ride S T U paths [] g q ridden right = tt
entries_ride S T U paths (e ∷ es) g q ridden right =
    (entry_rides S T U paths e g q ridden.0 right.0, entries_ride S T U paths es g q ridden.1 right.1)

-- a pin of any hart
pin_stays_ready : (S T U : List ℕ) (m : Marked) (g : ℕ) (q r : Regs) (p : Pin) → IsRidden S T U m g q → (regs_at S g).next ≡ 0 → q.next ≡ 0 → IsReady S r m p → IsReady U r m p
pin_stays_ready S T U m g q r p ridden idle none ready = record {
  pin = pin_rides S T U r q p.chain m g ridden idle none ready.blocks ready.pin;
  path = ready.path;
  ends = ready.ends;
  blocks = ready.blocks;
  quiet = quiet_rides S T U r q p.chain m g ridden idle ready.blocks ready.pin ready.quiet;
  memo =
      memo_kept S U p.chain m.tables m.tables p.memo
      (λ page slot held. held_rides S T U q p.chain m g page slot ridden ready.blocks held) ready.memo;
}

-- the registers that were put into a block are those in it
own_regs : (S T U : List ℕ) (m : Marked) (g : ℕ) (q : Regs) → IsRidden S T U m g q → regs_at U g ≡ q
own_regs S T U m g q ridden =
    ap (λ (X : List ℕ). regs_at X g) ridden.put
    ∙ regs_back T g q (subst (λ (n : ℕ). g < n / 1024) ridden.len ridden.there)

-- no pin is in use
none_live : (ps : List Pin) (k : ℕ) (o : Pin) → All (λ (p : Pin). p.live ≡ false) ps → slice_get ps k ≡ Some o → o.live ≡ false
none_live ps k o none found =
    ap (λ (p : Pin). p.live) (sym (get_or_from_slice_get ps k o o found)) ∙ none k o (slice_get_within ps k o found)

-- the map of the last of the items has as many pages as its block says, which are some
last_pages : (S : List ℕ) (F : List Slot) (j : ℕ) (items : List Item) (g : ℕ)
    → SaysItems S items
    → last_block items ≡ Some g
    → (length (along S F j items) ≡ pages_at S g) × (0 < pages_at S g)
unfolding along
last_pages S F j [] g says last = absurd (let f : None ≡ Some g = last in cc)
last_pages S F j (x ∷ []) g says last =
    let at : x.block ≡ g = same_Some x.block g last in
    let b = says_block S x says.0 in (
      length-composed S F j x.pages x.table x.version ∙ sym (ap (λ (c : Contents). c.pages) b.1) ∙ ap (pages_at S) at,
      subst (λ (k : ℕ). 0 < pages_at S k) at (some_pages S x.block b.0),
    )
  where
    some_pages : (T : List ℕ) (k : ℕ) → is_block T k ≡ true → 0 < pages_at T k
    some_pages T k fits =
        let n : ℕ = pages_at T k in
        let v : Bool = (version_at T k == 0) || (version_at T k == 2) in
        let sizes : Bool = nat_lt 0 n && nat_le n 1048576 && nat_lt (table_at T k) 1048576 in
        let a = and_parts (sizes && nat_lt (word_at T k 64) n) v (and_parts (fits_hart (regs_at T k)) (fits_pages T k) fits).1 in
        let b = and_parts sizes (nat_lt (word_at T k 64) n) a.0 in
        let c = and_parts (nat_lt 0 n && nat_le n 1048576) (nat_lt (table_at T k) 1048576) b.0 in
        ltb-true 0 n (and_parts (nat_lt 0 n) (nat_le n 1048576) c.0).0
last_pages S F j (x ∷ (y ∷ ys)) g says last =
    last_pages S (compose S F j x.pages x.table x.version) (j + 1) (y ∷ ys) g says.1 last

last_marked : (gs : List ℕ) (items : List Item) (g : ℕ) → BlocksIn gs items → last_block items ≡ Some g → has g gs ≡ true
last_marked gs [] g blocks last = absurd (let f : None ≡ Some g = last in cc)
last_marked gs (x ∷ []) g blocks last = subst (λ (k : ℕ). has k gs ≡ true) (same_Some x.block g last) blocks.0
last_marked gs (x ∷ (y ∷ ys)) g blocks last = last_marked gs (y ∷ ys) g blocks.1 last

-- the last of some items, by its place
record LastFound (items : List Item) (g : ℕ) : Type 0 where
  place : ℕ
  item : Item
  there : slice_get items place ≡ Some item
  is : item.block ≡ g

last_found : (items : List Item) (g : ℕ) → last_block items ≡ Some g → LastFound items g
last_found [] g last = absurd (let f : None ≡ Some g = last in cc)
last_found (x ∷ []) g last = record { place = 0; item = x; there = refl; is = same_Some x.block g last }
last_found (x ∷ (y ∷ ys)) g last =
    let e = last_found (y ∷ ys) g last in
    record { place = suc e.place; item = e.item; there = e.there; is = e.is }

-- the last of the machines on a path has its block in a page of the storage
last_inside : (S : List ℕ) (items : List Item) (g : ℕ) → pin_of S (map syllable_of items) ≡ Some items → last_block items ≡ Some g → g < page_count S
last_inside S items g pinned last =
    let e = last_found items g last in
    subst (λ (k : ℕ). k < page_count S) e.is (pinned_fits S items e.place e.item pinned e.there).block

-- what a ride asks for is so of the pin of the hart that rode last
pub record CanRide (S : List ℕ) (b : Beside) (p : Pin) : Type 0 where
  pub memo : Opens S p.chain p.memo
  pub there : p.block < page_count S
  pub marked : has p.block b.marks.blocks ≡ true
  pub regs : regs_at S p.block ≡ b.inner
  pub next : b.inner.next ≡ 0
  pub pages : length (map_along S p.chain) ≡ pages_at S p.block
  pub some : 0 < pages_at S p.block

pub can_ride : (S : List ℕ) (R : List Regs) (b : Beside) (h : ℕ) (r : Regs) (p : Pin)
    → IsRightBeside S R b
    → slice_get R h ≡ Some r
    → slice_get b.pins.items h ≡ Some p
    → b.rider ≡ Some h
    → CanRide S b p
unfolding map_along
can_ride S R b h r p right hart mine rider =
    let mounted : IsMounted S p b.inner = right.rider h p rider mine in
    let ready : IsReady S r b.marks p = right.pins h r p hart mine mounted.live in
    let says : SaysItems S p.chain = placed_says S (bare_gathered_map (page_count S)) (listed b.marks.tables) 0 p.chain ready.pin.placed in
    let n = last_pages_along p.chain p.block says ready.ends in
    record {
      memo = right_opens S p.chain b.marks.tables p.memo ready.memo;
      there = last_inside S p.chain p.block (own_pin S r b.marks p ready) ready.ends;
      marked = last_marked b.marks.blocks p.chain p.block ready.blocks ready.ends;
      regs = mounted.regs;
      next =
          ap (λ (q : Regs). q.next) (sym mounted.regs) ∙ (pin_ends S r p.chain b.marks p.block ready.pin ready.ends).1;
      pages = n.0;
      some = n.1;
    }
  where
    last_pages_along : (items : List Item) (g : ℕ) → SaysItems S items → last_block items ≡ Some g → (length (map_along S items) ≡ pages_at S g) × (0 < pages_at S g)
    last_pages_along items g says last = last_pages S (identity (page_count S)) 0 items g says last

-- where no other machine runs then
pub ridden_right : (S U : List ℕ) (R : List Regs) (b c : Beside) (h : ℕ) (r q : Regs) (p : Pin) (notes : List Note)
    → IsRightBeside S R b
    → slice_get R h ≡ Some r
    → slice_get b.pins.items h ≡ Some p
    → b.rider ≡ Some h
    → HasRidden S U b.marks b.cache.entries p.chain p.block b.inner q
    → q.next ≡ 0
    → c ≡ record b { inner = q; notes = notes }
    → IsRightBeside U R c
ridden_right S U R b c h r q p notes right hart mine rider rode none is = subst (IsRightBeside U R) (sym is) now
  where
    mounted : IsMounted S p b.inner
    mounted = right.rider h p rider mine

    ready : IsReady S r b.marks p
    ready = right.pins h r p hart mine mounted.live

    idle : (regs_at S p.block).next ≡ 0
    idle = (pin_ends S r p.chain b.marks p.block ready.pin ready.ends).1

    now : IsRightBeside U R (record b { inner = q; notes = notes })
    now = record {
      count = right.count;
      pins = λ k s o there found lives.
          pin_stays_ready S rode.after U b.marks p.block q s o rode.marked idle none (right.pins k s o there found lives);
      rider = λ k o says found.
          let same : k ≡ h = same_Some k h (sym says ∙ rider) in
          let here : o ≡ p = same_Some o p (sym found ∙ ap (slice_get b.pins.items) same ∙ mine) in
          record {
            live = ap (λ (x : Pin). x.live) here ∙ mounted.live;
            regs = ap (λ (x : Pin). regs_at U x.block) here ∙ own_regs S rode.after U b.marks p.block q rode.marked;
          };
      held = entries_ride S rode.after U b.ids b.cache.entries p.block q rode.held right.held;
    }

-- where another machine runs then, and all pins are dropped
pub ridden_dropped : (S U : List ℕ) (R : List Regs) (b c d : Beside) (h : ℕ) (q : Regs) (p : Pin) (notes : List Note)
    → IsRightBeside S R b
    → HasRidden S U b.marks b.cache.entries p.chain p.block b.inner q
    → c ≡ record b { inner = q; notes = notes }
    → NoPins c d
    → IsRightBeside U R d
ridden_dropped S U R b c d h q p notes right rode is dropped = record {
  count = dropped.count ∙ ap (λ (x : Beside). length x.pins.items) is ∙ right.count;
  pins = λ k s o there found lives. absurd (let f : true ≡ false = sym lives ∙ none_live d.pins.items k o dropped.none found in cc);
  rider = λ k o says found. absurd (let f : None ≡ Some k = sym dropped.rider ∙ says in cc);
  held =
      let entries : d.cache.entries ≡ b.cache.entries = ap (λ x. x.entries) (dropped.cache ∙ ap (λ (x : Beside). x.cache) is) in
      let ids : d.ids ≡ b.ids = dropped.ids ∙ ap (λ (x : Beside). x.ids) is in
      let rides = entries_ride S rode.after U b.ids b.cache.entries p.block q rode.held right.held in
      subst (λ (es : List Entry). EntriesAreRight U d.ids es) (sym entries)
      (subst (λ (paths : List (List ℕ)). EntriesAreRight U paths b.cache.entries) (sym ids) rides);
}

-- the step of the hart
pub ridden_step : (S U : List ℕ) (R : List Regs) (b : Beside) (h : ℕ) (r q : Regs) (p : Pin)
    → IsRightBeside S R b
    → slice_get R h ≡ Some r
    → slice_get b.pins.items h ≡ Some p
    → b.rider ≡ Some h
    → pending_of r ≡ None
    → pending_of b.inner ≡ None
    → HasRidden S U b.marks b.cache.entries p.chain p.block b.inner q
    → host_step_of S h r ≡ Worked U r
ridden_step S U R b h r q p right hart mine rider quiet idle rode =
    let mounted : IsMounted S p b.inner = right.rider h p rider mine in
    let ready : IsReady S r b.marks p = right.pins h r p hart mine mounted.live in
    ride S rode.after U h r q p.chain b.marks p.block
    ready.pin
    ready.blocks
    (all_quiet p.chain ready.quiet)
    ready.ends
    (ap pending_of mounted.regs ∙ idle)
    (ap (λ (k : Regs). act_of S (map_along S p.chain) 0 k) mounted.regs ∙ rode.acts)
    rode.marked
  where
    all_quiet : (items : List Item) → QuietBlocks S items → Quiet S r items
    all_quiet [] h = tt
    all_quiet (x ∷ xs) h = (quiet, h)

-- there is none where there isn't some
pub is_none : {A : Type 0} → (o : Option A) → is_some o ≡ false → o ≡ None
is_none None e = refl
is_none (Some x) e = absurd (let f : true ≡ false = e in cc)

pub none_holds : {A : Type 0} → (o : Option A) (P : Type 0) → is_some o ≡ false → IfNone o P → P
none_holds None P e h = h
none_holds (Some x) P e h = absurd (let f : true ≡ false = e in cc)

pub ruleset riders = (can_ride, ridden_right, ridden_dropped, ridden_step)
