-- Each machine on a path has as many pages as a block can say.
use Rattle.std.proofs.Common.{◌≡◌, ℕ, ◌+◌, ◌≤◌, List, [], ◌∷◌, Option, Some, None, refl, subst, slice_get}
use Rattle.std.proofs.lemmas.Option.{same_Some}
use Rattle.hv_store.specs.declared.access.Slot.{Slot}
use Rattle.hv_store.specs.declared.access.Way.{Way}
use Rattle.hv_store.specs.declared.access.Way.TheVariants.{Open, Shut}
use Rattle.hv_block.specs.Block.{Contents, block_of}
use Rattle.hv_block.proofs.Blocks.{block_sized}
use Rattle.hv_map.specs.Item.{Item}
use Rattle.hv_map.specs.Compose.{compose}
use Rattle.hv_map.specs.Chain.{child_with, child_through, child_at, machines}
use Rattle.hv_map.proofs.Assoc.{begins_with}

abbrev pub EachFew : List Item → Type 0
EachFew [] = Unit {0}
EachFew (x ∷ xs) = (x.pages ≤ 1048576) × EachFew xs

-- a child has as many pages as a block can say
contents_sized : (S : List ℕ) (g s : ℕ) (x : Item) (o : Option Contents) → block_of S g ≡ o → child_with s g o ≡ Some x → x.pages ≤ 1048576
contents_sized S g s x None is e = absurd (let f : None ≡ Some x = e in cc)
contents_sized S g s x (Some contents) is e =
    let item : record { syllable = s; block = g; pages = contents.pages; table = contents.table; version = contents.version } ≡ x = same_Some record { syllable = s; block = g; pages = contents.pages; table = contents.table; version = contents.version } x e in
    subst (λ (y : Item). y.pages ≤ 1048576) item (block_sized S g contents is).pages

through_sized : (S : List ℕ) (s : ℕ) (x : Item) (way : Way) → child_through S s way ≡ Some x → x.pages ≤ 1048576
through_sized S s x (Open g) e = contents_sized S g s x (block_of S g) refl e
through_sized S s x (Shut l c p w) e = absurd (let f : None ≡ Some x = e in cc)

child_sized : (S : List ℕ) (s : ℕ) (x : Item) (o : Option Slot) → child_at S s o ≡ Some x → x.pages ≤ 1048576
child_sized S s x None e = absurd (let f : None ≡ Some x = e in cc)
child_sized S s x (Some slot) e = through_sized S s x slot.write e

pub machines_few : (S : List ℕ) (F : List Slot) (j : ℕ) (path : List ℕ) (items : List Item) → machines S F j path ≡ Some items → EachFew items
unfolding machines
machines_few S F j [] items e = subst EachFew (same_Some [] items e) tt
machines_few S F j (s ∷ path) items e =
    let b = begins_with S F j s path items e in
    subst EachFew b.whole
    (child_sized S s b.head (slice_get F s) b.child, machines_few S (compose S F j b.head.pages b.head.table b.head.version) (j + 1) path b.rest b.others)
