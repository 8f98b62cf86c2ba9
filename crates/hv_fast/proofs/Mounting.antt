-- What is kept beside the state stays right where more is marked, where the path of a hart is pinned, and where the
-- registers at its end are fetched.
use Rattle.std.proofs.Common.{◌≡◌, ◌≢◌, ◌++◌, ℕ, zero, suc, ◌<◌, inl, inr, true, false, Bool, ◌||◌, List, [], ◌∷◌, length, Option, Some, None, IfSome, ap, ◌∙◌, sym, subst, arith, slice_get, get_or, set, length-set}
use Rattle.std.specs.List.{AllByRecursion}
use Rattle.std.proofs.lemmas.Bool.Decides.{eqb_tells}
use Rattle.std.proofs.lemmas.List.{get_or-set_other, get_or-set_same}
use Rattle.std.proofs.lemmas.Option.{get_or_from_slice_get, same_Some, slice_get-get_or, slice_get_within}
use Rattle.hv_word.specs.Words.{has}
use Rattle.hv_cpu.specs.Regs.{Regs}
use Rattle.hv_store.specs.declared.access.Access.{Access}
use Rattle.hv_block.specs.declared.Block.{Block}
use Rattle.hv_block.specs.Block.{Contents, block_of, regs_at}
use Rattle.hv_block.specs.Contents.{contents_of}
use Rattle.hv_block.proofs.Blocks.{block_holds}
use Rattle.hv_map.specs.Gathered.{Listed}
use Rattle.hv_map.specs.Held.{IsPin, Lists}
use Rattle.hv_map.specs.Item.{Item}
use Rattle.hv_map.specs.Links.{last_block}
use Rattle.hv_map.specs.Words.{syllables}
use Rattle.hv_nest.specs.declared.notes.Note.{Note}
use Rattle.hv_cache.specs.Holding as holding
use Rattle.hv_fast.specs.declared.beside.Beside.{Beside}
use Rattle.hv_fast.specs.declared.pin.Pin.{Pin}
use Rattle.hv_fast.specs.Beside.{EntriesAreRight, IsMounted, IsReady, IsRightBeside}
use Rattle.hv_fast.specs.Marked.{BlocksIn, IsMore, Marked, listed}
use Rattle.hv_fast.specs.Memo.{Entries, IsHeldAt, IsRightMemo, entries_for}
use Rattle.hv_fast.specs.Rides.{Quiet, QuietBlocks}
use Rattle.hv_fast.proofs.Growing.{blocks_more, held_more, pin_more}

-- translations at hand, and a pin in use, rest on more
held_at_more : (S : List ℕ) (items : List Item) (m n : Marked) (a : Access) (page g : ℕ) → IsMore m n → IsHeldAt S items m.tables a page g → IsHeldAt S items n.tables a page g
held_at_more S items m n a page g more h =
    record { slot = h.slot; held = held_more S items m n page h.slot more h.held; opens = h.opens }

memo_more : (S : List ℕ) (items : List Item) (m n : Marked) (memo : Entries) → IsMore m n → IsRightMemo S items m.tables memo → IsRightMemo S items n.tables memo
memo_more S items m n memo more right = λ a k d lt ne.
    held_at_more S items m n a (get_or (entries_for memo a) k d).page (get_or (entries_for memo a) k d).host more (right a k d lt ne)

pub ready_more : (S : List ℕ) (r : Regs) (m n : Marked) (p : Pin) → IsMore m n → IsReady S r m p → IsReady S r n p
ready_more S r m n p more ready = record {
  pin = pin_more S r p.chain m n more ready.pin;
  path = ready.path;
  ends = ready.ends;
  blocks = blocks_more p.chain m n more ready.blocks;
  quiet = ready.quiet;
  memo = memo_more S p.chain m n p.memo more ready.memo;
}

held_same : (S : List ℕ) (b c : Beside) → c.ids ≡ b.ids → c.cache ≡ b.cache → EntriesAreRight S b.ids b.cache.entries → EntriesAreRight S c.ids c.cache.entries
held_same S b c ids cache right =
    subst (λ (k : holding.Holding). EntriesAreRight S c.ids k.entries) (sym cache)
    (subst (λ (paths : List (List ℕ)). EntriesAreRight S paths b.cache.entries) (sym ids) right)

-- more is marked
pub right_more : (S : List ℕ) (R : List Regs) (b c : Beside)
    → IsMore b.marks c.marks
    → c.pins.items ≡ b.pins.items
    → c.ids ≡ b.ids
    → c.cache ≡ b.cache
    → c.rider ≡ b.rider
    → c.inner ≡ b.inner
    → IsRightBeside S R b
    → IsRightBeside S R c
right_more S R b c more pins ids cache rider inner right = record {
  count = ap length pins ∙ right.count;
  pins = λ h r p at there live.
      ready_more S r b.marks c.marks p more
      (right.pins h r p at (ap (λ (ps : List Pin). slice_get ps h) (sym pins) ∙ there) live);
  rider = λ h p is there.
      let before = right.rider h p (sym rider ∙ is) (ap (λ (ps : List Pin). slice_get ps h) (sym pins) ∙ there) in
      record { live = before.live; regs = before.regs ∙ sym inner };
  held = held_same S b c ids cache right.held;
}

-- an element of a list in which one was replaced
pub set_here : (ps : List Pin) (h : ℕ) (p q : Pin) → slice_get (set ps h p) h ≡ Some q → p ≡ q
set_here ps h p q there =
    let inside : h < length ps = omega (arith, slice_get_within (set ps h p) h q there, length-set ps h p) in
    sym (get_or-set_same ps h p q inside) ∙ get_or_from_slice_get (set ps h p) h q q there

pub set_elsewhere : (ps : List Pin) (k h : ℕ) (p q : Pin) → h ≢ k → slice_get (set ps k p) h ≡ Some q → slice_get ps h ≡ Some q
set_elsewhere ps k h p q ne there =
    let inside : h < length ps = omega (arith, slice_get_within (set ps k p) h q there, length-set ps k p) in
    slice_get-get_or ps h q inside
    ∙ ap Some (sym (get_or-set_other ps k h p q ne) ∙ get_or_from_slice_get (set ps k p) h q q there)

-- the path of a hart is pinned
pub right_pinned : (S : List ℕ) (R : List Regs) (b c : Beside) (hart : ℕ) (r : Regs) (p : Pin)
    → IsMore b.marks c.marks
    → c.pins.items ≡ set b.pins.items hart p
    → c.ids ≡ b.ids
    → c.cache ≡ b.cache
    → c.rider ≡ None
    → IsReady S r c.marks p
    → slice_get R hart ≡ Some r
    → IsRightBeside S R b
    → IsRightBeside S R c
right_pinned S R b c hart r p more pins ids cache rider ready at right = record {
  count = ap length pins ∙ length-set b.pins.items hart p ∙ right.count;
  pins = λ h q o names there live. elim (eqb_tells h hart) [
    | inl agree ↦ here q o (ap (slice_get R) (sym agree.1) ∙ names) (ap (slice_get (set b.pins.items hart p)) (sym agree.1) ∙ ap (λ (ps : List Pin). slice_get ps h) (sym pins) ∙ there)
    | inr differ ↦
        ready_more S q b.marks c.marks o more
        (right.pins h q o names (set_elsewhere b.pins.items hart h p o differ.1 (ap (λ (ps : List Pin). slice_get ps h) (sym pins) ∙ there)) live)
  ];
  rider = λ h o is there. absurd (none h (sym rider ∙ is));
  held = held_same S b c ids cache right.held;
}
  where
    none : (h : ℕ) → None ≡ Some h → ⊥
    none h e = cc

    here : (q : Regs) (o : Pin) → slice_get R hart ≡ Some q → slice_get (set b.pins.items hart p) hart ≡ Some o → IsReady S q c.marks o
    here q o names there =
        subst (λ (k : Regs). IsReady S k c.marks o) (same_Some r q (sym at ∙ names))
        (subst (IsReady S r c.marks) (set_here b.pins.items hart p o there) ready)

-- the registers at the end of a pin in use are fetched
pub right_mounted : (S : List ℕ) (R : List Regs) (b c : Beside) (hart : ℕ) (p : Pin)
    → c.pins.items ≡ b.pins.items
    → c.marks ≡ b.marks
    → c.ids ≡ b.ids
    → c.cache ≡ b.cache
    → c.rider ≡ Some hart
    → slice_get b.pins.items hart ≡ Some p
    → p.live ≡ true
    → regs_at S p.block ≡ c.inner
    → IsRightBeside S R b
    → IsRightBeside S R c
right_mounted S R b c hart p pins marks ids cache rider there live regs right = record {
  count = ap length pins ∙ right.count;
  pins = λ h r o at names used.
      subst (λ (m : Marked). IsReady S r m o) (sym marks)
      (right.pins h r o at (ap (λ (ps : List Pin). slice_get ps h) (sym pins) ∙ names) used);
  rider = λ h o is names. here h o (same_Some hart h (sym rider ∙ is)) (ap (λ (ps : List Pin). slice_get ps h) (sym pins) ∙ names);
  held = held_same S b c ids cache right.held;
}
  where
    here : (h : ℕ) (o : Pin) → hart ≡ h → slice_get b.pins.items h ≡ Some o → IsMounted S o c.inner
    here h o e names =
        let same : p ≡ o = same_Some p o (sym there ∙ ap (slice_get b.pins.items) e ∙ names) in
        record {
          live = ap (λ (q : Pin). q.live) (sym same) ∙ live;
          regs = ap (λ (q : Pin). regs_at S q.block) (sym same) ∙ regs;
        }

-- the room for notes says nothing
pub right_noted : (S : List ℕ) (R : List Regs) (b : Beside) (notes : List Note) → IsRightBeside S R b → IsRightBeside S R (record b { notes = notes })
right_noted S R b notes right =
    record { count = right.count; pins = right.pins; rider = right.rider; held = right.held }

-- the registers at hand are let go
pub right_unmounted : (S : List ℕ) (R : List Regs) (b c : Beside)
    → c.pins.items ≡ b.pins.items
    → c.marks ≡ b.marks
    → c.ids ≡ b.ids
    → c.cache ≡ b.cache
    → c.rider ≡ None
    → IsRightBeside S R b
    → IsRightBeside S R c
right_unmounted S R b c pins marks ids cache rider right = record {
  count = ap length pins ∙ right.count;
  pins = λ h r p at there live.
      subst (λ (m : Marked). IsReady S r m p) (sym marks)
      (right.pins h r p at (ap (λ (ps : List Pin). slice_get ps h) (sym pins) ∙ there) live);
  rider = λ h p is there. absurd (let f : None ≡ Some h = sym rider ∙ is in cc);
  held = held_same S b c ids cache right.held;
}

-- the registers of a block that is read
pub block_regs : (S : List ℕ) (g : ℕ) (b : Block) → Some (contents_of b) ≡ block_of S g → regs_at S g ≡ b.cpu
block_regs S g b e = ap (λ (k : Contents). k.regs) (block_holds S g (contents_of b) (sym e)).1

-- a pin is in use
pub live_there : (ps : List Pin) (h : ℕ) (d : Pin) → h < length ps → (get_or ps h d).live ≡ true → IfSome (slice_get ps h) (λ (p : Pin). p.live ≡ true)
live_there ps h d inside live =
    subst (λ (o : Option Pin). IfSome o (λ (p : Pin). p.live ≡ true)) (sym (slice_get-get_or ps h d inside)) live

pub live_set : (ps qs : List Pin) (h : ℕ) (p : Pin) → h < length ps → qs ≡ set ps h p → p.live ≡ true → IfSome (slice_get qs h) (λ (q : Pin). q.live ≡ true)
live_set ps qs h p inside is live =
    let long : h < length qs = omega (arith, ap length is, length-set ps h p) in
    live_there qs h p long (ap (λ (xs : List Pin). (get_or xs h p).live) is ∙ ap (λ (q : Pin). q.live) (get_or-set_same ps h p p inside) ∙ live)

-- the machines on a path, with all that was found, are ready
quiet_blocks : (S : List ℕ) (r : Regs) (items : List Item) → Quiet S r items → QuietBlocks S items
quiet_blocks S r [] quiet = tt
quiet_blocks S r (x ∷ xs) quiet = quiet.1

pub has_listed : (gs hs : List ℕ) → Lists (listed hs) gs → (g : ℕ) → has g gs ≡ true → has g hs ≡ true
has_listed [] hs lists g e = absurd (let f : false ≡ true = e in cc)
has_listed (k ∷ gs) hs lists g e = elim (eqb_tells g k) [
  | inl agree ↦ subst (λ (h : ℕ). has h hs ≡ true) (sym agree.1) lists.0
  | inr differ ↦ has_listed gs hs lists.1 g (sym (ap (λ (b : Bool). b || has g gs) differ.0) ∙ e)
]

pub found_ready : (S : List ℕ) (r : Regs) (m : Marked) (t : Listed) (gs : List ℕ) (p : Pin)
    → IsPin S r p.chain t
    → t.full ≡ false
    → gs ≡ t.pages
    → Lists (listed m.tables) gs
    → p.path ≡ syllables p.chain
    → Some p.block ≡ last_block p.chain
    → BlocksIn m.blocks p.chain
    → Quiet S r p.chain
    → IsRightMemo S p.chain m.tables p.memo
    → IsReady S r m p
found_ready S r m t gs p pin room is lists path ends blocks quiet memo = record {
  pin = pin_more S r p.chain tables m more (subst (IsPin S r p.chain) (λ i. record { pages = sym is i; full = room i }) pin);
  path = path;
  ends = sym ends;
  blocks = blocks;
  quiet = quiet_blocks S r p.chain quiet;
  memo = memo;
}
  where
    tables : Marked
    tables = record { tables = gs; blocks = [] }

    more : IsMore tables m
    more = record { tables = has_listed gs m.tables lists; blocks = λ g e. absurd (let f : false ≡ true = e in cc) }

pub live_at : (o : Option Pin) (p : Pin) → o ≡ Some p → IfSome o (λ (q : Pin). q.live ≡ true) → p.live ≡ true
live_at o p is live = subst (λ (q : Option Pin). IfSome q (λ (r : Pin). r.live ≡ true)) is live

-- pins that say nothing
abbrev pub Unused : List Pin → Type 0
Unused ps = AllByRecursion (λ (p : Pin). p.live ≡ false) ps

pub unused_more : (ps qs : List Pin) (p : Pin) → qs ≡ ps ++ p ∷ [] → p.live ≡ false → Unused ps → Unused qs
unused_more ps qs p is off all = subst Unused (sym is) (go ps all)
  where
    go : (os : List Pin) → Unused os → Unused (os ++ p ∷ [])
    go [] h = (off, tt)
    go (o ∷ os) h = (h.0, go os h.1)

unused_at : (ps : List Pin) (h : ℕ) (p : Pin) → Unused ps → slice_get ps h ≡ Some p → p.live ≡ false
unused_at [] h p all there = absurd (let f : None ≡ Some p = there in cc)
unused_at (o ∷ os) zero p all there = ap (λ (q : Pin). q.live) (sym (same_Some o p there)) ∙ all.0
unused_at (o ∷ os) (suc h) p all there = unused_at os h p all.1 there

-- nothing is kept
pub right_new : (S : List ℕ) (R : List Regs) (b : Beside)
    → length b.pins.items ≡ length R
    → Unused b.pins.items
    → b.rider ≡ None
    → b.cache.entries ≡ []
    → IsRightBeside S R b
right_new S R b count off rider empty = record {
  count = count;
  pins = λ h r p at there live.
      absurd (let f : true ≡ false = sym live ∙ unused_at b.pins.items h p off there in cc);
  rider = λ h p is there. absurd (let f : None ≡ Some h = sym rider ∙ is in cc);
  held = subst (EntriesAreRight S b.ids) (sym empty) tt;
}
