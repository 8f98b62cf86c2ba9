-- The block of a machine that is there.
use Rattle.std.proofs.Common.{◌≡◌, ℕ, ◌+◌, Option, Some, None, List, [], ◌∷◌, length, refl, sym, ap, ◌∙◌, subst}
use Rattle.std.specs.Prelude.{slice_get}
use Rattle.std.specs.Option.{option_and_then}
use Rattle.std.proofs.lemmas.Option.{same_Some}
use Rattle.hv_word.specs.Storage.{page_count}
use Rattle.hv_store.specs.declared.access.Slot.{Slot}
use Rattle.hv_store.specs.declared.access.Way.{Way}
use Rattle.hv_store.specs.declared.access.Way.TheVariants.{Open, Shut}
use Rattle.hv_store.specs.Access.{identity}
use Rattle.hv_block.specs.Block.{Contents, block_of}
use Rattle.hv_map.specs.Item.{Item}
use Rattle.hv_map.specs.Compose.{compose}
use Rattle.hv_map.specs.Chain.{along, map_along, child_with, child_through, child_at, child_of, option_cons, machines, pin_of}
use Rattle.hv_map.proofs.Slots.{length-composed}
use Rattle.hv_nest.specs.Watched.{last_block}

-- page g has a well-formed block, of a machine with so many pages
pub record HasBlock (S : List ℕ) (g pages : ℕ) : Type 0 where
  pub contents : Contents
  pub block : block_of S g ≡ Some contents
  pub size : contents.pages ≡ pages

-- a child's
child_block : (S : List ℕ) (F : List Slot) (s : ℕ) (x : Item) → child_of S F s ≡ Some x → HasBlock S x.block x.pages
child_block S F s x e = at (slice_get F s) e
  where
    contents : (g : ℕ) (o : Option Contents) → block_of S g ≡ o → child_with s g o ≡ Some x → HasBlock S x.block x.pages
    contents g None b h = absurd (cc)
    contents g (Some k) b h =
        let same = same_Some record { syllable = s; block = g; pages = k.pages; table = k.table; version = k.version } x h in
        subst (λ (y : Item). HasBlock S y.block y.pages) same record { contents = k; block = b; size = refl }

    through : (way : Way) → child_through S s way ≡ Some x → HasBlock S x.block x.pages
    through (Open g) h = contents g (block_of S g) refl h
    through (Shut l c p w) h = absurd (cc)

    at : (o : Option Slot) → child_at S s o ≡ Some x → HasBlock S x.block x.pages
    at None h = absurd (cc)
    at (Some slot) h = through slot.write h

-- what is behind the child that x describes
abbrev behind_child : List ℕ → List Slot → ℕ → List ℕ → Item → Option (List Item)
behind_child S F j path x = machines S (compose S F j x.pages x.table x.version) (j + 1) path

-- that of the last machine
last_parked : (path : List ℕ) (S : List ℕ) (F : List Slot) (j : ℕ) (items : List Item) (g : ℕ) → machines S F j path ≡ Some items → last_block items ≡ Some g → HasBlock S g (length (along S F j items))
unfolding machines along
last_parked [] S F j items g e b =
    let none : [] ≡ items = same_Some [] items e in
    let no : last_block [] ≡ Some g = ap last_block none ∙ b in
    absurd (cc)
last_parked (s ∷ path) S F j items g e b =
    at (λ x xs. last_parked path S (compose S F j x.pages x.table x.version) (j + 1) xs g) (child_of S F s) refl e
  where
    at : ((x : Item) (xs : List Item) → behind_child S F j path x ≡ Some xs → last_block xs ≡ Some g → HasBlock S g (length (along S (compose S F j x.pages x.table x.version) (j + 1) xs))) → (o : Option Item) → child_of S F s ≡ o → option_and_then (λ (x : Item). option_cons x (behind_child S F j path x)) o ≡ Some items → HasBlock S g (length (along S F j items))
    at deeper None there h = absurd (cc)
    at deeper (Some x) there h = behind (behind_child S F j path x) refl h
      where
        own : (xs : List Item) → behind_child S F j path x ≡ Some xs → last_block (x ∷ xs) ≡ Some g → HasBlock S g (length (along S F j (x ∷ xs)))
        own [] m l =
            let here : x.block ≡ g = same_Some x.block g l in
            subst (λ (k : ℕ). HasBlock S k (length (compose S F j x.pages x.table x.version))) here
            (subst (HasBlock S x.block) (sym (length-composed S F j x.pages x.table x.version)) (child_block S F s x there))
        own (y ∷ ys) m l = deeper x (y ∷ ys) m l

        behind : (o : Option (List Item)) → behind_child S F j path x ≡ o → option_cons x o ≡ Some items → HasBlock S g (length (along S F j items))
        behind None m i = absurd (cc)
        behind (Some xs) m i =
            let same : x ∷ xs ≡ items = same_Some (x ∷ xs) items i in
            subst (λ (zs : List Item). HasBlock S g (length (along S F j zs))) same (own xs m (ap last_block same ∙ b))

pub pinned_parked : (S path : List ℕ) (items : List Item) (g : ℕ) → pin_of S path ≡ Some items → last_block items ≡ Some g → HasBlock S g (length (map_along S items))
unfolding pin_of map_along
pinned_parked S path items g e b = last_parked path S (identity (page_count S)) 0 items g e b
