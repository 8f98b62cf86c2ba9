-- The machines on a path, and the bare pages of their control blocks.
use Rattle.std.proofs.Common.{length, ◌≡◌, ℕ, zero, suc, ◌+◌, ◌<◌, ◌≤◌, ◌^◌, List, [], ◌∷◌, Option, Some, None, refl, ap, ◌∙◌, sym, subst, arith, slice_get, take, map}
use Rattle.std.proofs.lemmas.List.{take_all}
use Rattle.std.proofs.lemmas.Option.{slice_get_within, same_Some}
use Rattle.hv_word.specs.Storage.{page_count}
use Rattle.hv_store.specs.declared.access.Access.{Access}
use Rattle.hv_store.specs.declared.access.Access.TheVariants.{Read, Write, Fetch}
use Rattle.hv_store.specs.declared.access.Slot.{Slot}
use Rattle.hv_store.specs.declared.access.Way.{Way}
use Rattle.hv_store.specs.declared.access.Way.TheVariants.{Open, Shut}
use Rattle.hv_store.specs.Access.{identity, open_at, way_for}
use Rattle.hv_store.proofs.Identity.{length-identity, slice_get-identity}
use Rattle.hv_block.specs.Block.{Contents, block_of}
use Rattle.hv_block.proofs.Blocks.{block_sized}
use Rattle.hv_map.specs.Item.{Item}
use Rattle.hv_map.specs.Compose.{compose}
use Rattle.hv_map.specs.Chain.{child_with, child_through, child_at, child_of, machines, pin_of}
use Rattle.hv_map.specs.Links.{syllable_of, last_block}
use Rattle.hv_map.proofs.Assoc.{begins_with, begins_from}
use Rattle.hv_map.proofs.Handed.{composed_opens}
use Rattle.hv_map.proofs.Words.{machines_chained}

-- the machines on the first part of a path are the first machines on the path
pub machines-take : (S : List ℕ) (F : List Slot) (j : ℕ) (path : List ℕ) (items : List Item) (k : ℕ) → machines S F j path ≡ Some items → machines S F j (take k path) ≡ Some (take k items)
unfolding machines
machines-take S F j path items zero e = refl
machines-take S F j [] items (suc k) e = ap (λ (xs : List Item). Some (take (suc k) xs)) (same_Some [] items e)
machines-take S F j (s ∷ path) items (suc k) e =
    let b = begins_with S F j s path items e in
    begins_from S F j s (take k path) b.head (take k b.rest) b.child (machines-take S (compose S F j b.head.pages b.head.table b.head.version) (j + 1) path b.rest k b.others)
    ∙ ap (λ (xs : List Item). Some (take (suc k) xs)) b.whole

-- each open way of F opens a bare page below P
abbrev pub OpensBelow : ℕ → List Slot → Type 0
OpensBelow P F = (y : ℕ) (s : Slot) (a : Access) (x : ℕ) → slice_get F y ≡ Some s → way_for s a ≡ Open x → x < P

pub identity_below : (P : ℕ) → OpensBelow P (identity P)
identity_below P y s a x is e = go a e
  where
    inside : y < P
    inside = omega (arith, slice_get_within (identity P) y s is, length-identity P)

    same : s ≡ open_at y
    same = same_Some s (open_at y) (sym is ∙ slice_get-identity P y inside)

    go : (b : Access) → way_for s b ≡ Open x → x < P
    go Read h = let r : x ≡ y = (let f : Open y ≡ Open x = sym (ap (λ (t : Slot). t.read) same) ∙ h in cc) in omega (arith, inside)
    go Write h = let r : x ≡ y = (let f : Open y ≡ Open x = sym (ap (λ (t : Slot). t.write) same) ∙ h in cc) in omega (arith, inside)
    go Fetch h = let r : x ≡ y = (let f : Open y ≡ Open x = sym (ap (λ (t : Slot). t.fetch) same) ∙ h in cc) in omega (arith, inside)

pub composed_below : (P : ℕ) (S : List ℕ) (F : List Slot) (j n t v : ℕ) → OpensBelow P F → OpensBelow P (compose S F j n t v)
composed_below P S F j n t v below y s a x is e =
    let o = composed_opens F j S n t v y s a x is e in
    below o.0 o.1 a x o.2 o.3

-- the block of a child lies in a page that its parent can write, and is well formed
pub record Fits (P : ℕ) (x : Item) : Type 0 where
  pub block : x.block < P
  pub pages : x.pages ≤ 2 ^ 20

child_fits : (P : ℕ) (S : List ℕ) (F : List Slot) (s : ℕ) (x : Item) → OpensBelow P F → child_of S F s ≡ Some x → Fits P x
child_fits P S F s x below e = at (slice_get F s) refl e
  where
    contents : (slot : Slot) (g : ℕ) → slice_get F s ≡ Some slot → slot.write ≡ Open g → (o : Option Contents) → block_of S g ≡ o → child_with s g o ≡ Some x → Fits P x
    contents slot g is w None b h = cc
    contents slot g is w (Some k) b h =
        let sized = block_sized S g k b in
        let same = same_Some record { syllable = s; block = g; pages = k.pages; table = k.table; version = k.version } x h in
        subst (Fits P) same record { block = below s slot Write g is w; pages = sized.pages }

    through : (slot : Slot) (way : Way) → slice_get F s ≡ Some slot → slot.write ≡ way → child_through S s way ≡ Some x → Fits P x
    through slot (Open g) is w h = contents slot g is w (block_of S g) refl h
    through slot (Shut l c p w) is q h = cc

    at : (o : Option Slot) → slice_get F s ≡ o → child_at S s o ≡ Some x → Fits P x
    at None is h = cc
    at (Some slot) is h = through slot slot.write is refl h

all_fit : (P : ℕ) (S : List ℕ) (F : List Slot) (j : ℕ) (path : List ℕ) (items : List Item) (i : ℕ) (x : Item) → OpensBelow P F → machines S F j path ≡ Some items → slice_get items i ≡ Some x → Fits P x
unfolding machines
all_fit P S F j [] items i x below e is =
    let none : slice_get [] i ≡ Some x = ap (λ (xs : List Item). slice_get xs i) (same_Some [] items e) ∙ is in
    cc
all_fit P S F j (s ∷ path) items i x below e is =
    let b = begins_with S F j s path items e in
    let deeper = composed_below P S F j b.head.pages b.head.table b.head.version below in
    let more : (k : ℕ) → slice_get b.rest k ≡ Some x → Fits P x =
    (λ k h. all_fit P S (compose S F j b.head.pages b.head.table b.head.version) (j + 1) path b.rest k x deeper b.others h)
    in
    one_of b.head b.rest (child_fits P S F s b.head below b.child) more i (ap (λ (xs : List Item). slice_get xs i) b.whole ∙ is)
  where
    one_of : (first : Item) (others : List Item) → Fits P first → ((k : ℕ) → slice_get others k ≡ Some x → Fits P x) → (k : ℕ) → slice_get (first ∷ others) k ≡ Some x → Fits P x
    one_of first others fits more zero h = subst (Fits P) (same_Some first x h) fits
    one_of first others fits more (suc k) h = more k h

-- the same for the machines of a chain of the store
pub pinned_first : (S : List ℕ) (items : List Item) (level i : ℕ) (whole path : List ℕ)
    → pin_of S (map syllable_of items) ≡ Some items
    → whole ≡ map syllable_of items
    → path ≡ take i (take level whole)
    → length (take level whole) ≤ i
    → pin_of S path ≡ Some (take level items)
unfolding pin_of
pinned_first S items level i whole path e all part end =
    ap (pin_of S) (part ∙ take_all i (take level whole) end ∙ ap (take level) all)
    ∙ machines-take S (identity (page_count S)) 0 (map syllable_of items) items level e

pub pinned_fits : (S : List ℕ) (items : List Item) (i : ℕ) (x : Item) → pin_of S (map syllable_of items) ≡ Some items → slice_get items i ≡ Some x → Fits (page_count S) x
unfolding pin_of
pinned_fits S items i x e is =
    all_fit (page_count S) S (identity (page_count S)) 0 (map syllable_of items) items i x (identity_below (page_count S)) e is

-- the chain of a path is that of its own path, so what `pin` gives is a chain of the store
pub pinned_own : (S path : List ℕ) (items : List Item) → pin_of S path ≡ Some items → pin_of S (map syllable_of items) ≡ Some items
unfolding pin_of
pinned_own S path items e =
    ap (machines S (identity (page_count S)) 0) (machines_chained S (identity (page_count S)) 0 path items e).0 ∙ e

-- the last machine's block, where there is a machine
pub last_there : (items : List Item) (n : ℕ) (x : Item) → length items ≡ n + 1 → slice_get items n ≡ Some x → Some x.block ≡ last_block items
last_there [] n x e is = cc
last_there (y ∷ []) zero x e is = ap (λ (o : Option Item). block_at o) (sym is)
  where
    block_at : Option Item → Option ℕ
    block_at None = None
    block_at (Some z) = Some z.block
last_there (y ∷ []) (suc n) x e is = cc
last_there (y ∷ (z ∷ zs)) zero x e is = absurd (omega arith)
last_there (y ∷ (z ∷ zs)) (suc n) x e is = last_there (z ∷ zs) n x (omega arith) is

pub last_none : (items : List Item) → length items ≡ 0 → None ≡ last_block items
last_none [] e = refl
last_none (x ∷ xs) e = absurd (omega arith)

pub last_fits : (S : List ℕ) (items : List Item) (n : ℕ) (x : Item) → slice_get items n ≡ Some x → pin_of S (map syllable_of items) ≡ Some items → x.block < page_count S
last_fits S items n x is e = (pinned_fits S items n x e is).block
