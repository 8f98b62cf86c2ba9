-- What the block of a machine on a path says, and the registers that 50 words spell.
use Rattle.std.proofs.Common.{◌≡◌, ℕ, ◌+◌, ◌<◌, IsSome, List, [], ◌∷◌, length, Option, Some, None, refl, ap, ◌∙◌, sym, subst, arith, slice_get}
use Rattle.std.proofs.lemmas.Option.{same_Some}
use Rattle.hv_word.specs.Storage.{page_count}
use Rattle.hv_cpu.specs.Regs.{FitsHart, Regs, spelled}
use Rattle.hv_store.specs.declared.access.Slot.{Slot}
use Rattle.hv_store.specs.declared.access.Way.{Way}
use Rattle.hv_store.specs.declared.access.Way.TheVariants.{Open, Shut}
use Rattle.hv_store.specs.Access.{identity}
use Rattle.hv_block.specs.Block.{Contents, block_of, regs_at}
use Rattle.hv_block.specs.Contents.{contents_of}
use Rattle.hv_block.specs.declared.Block.{Block}
use Rattle.hv_block.proofs.Blocks.{block_holds}
use Rattle.std.specs.Option.{option_map}
use Rattle.hv_nest.specs.Kinds.{NextBelow}
use Rattle.hv_map.specs.Item.{Item}
use Rattle.hv_map.specs.Compose.{compose}
use Rattle.hv_map.specs.Chain.{along, map_along, child_with, child_through, child_at, child_of, machines, pin_of}
use Rattle.hv_map.specs.Links.{last_block}
use Rattle.hv_map.proofs.Assoc.{begins_with}
use Rattle.hv_map.proofs.Slots.{length-composed}
use Rattle.hv_capsule.specs.Parked.{IsParked, regs_of_words}

-- spelled registers are read back
pub spelled_back : (r : Regs) → regs_of_words (spelled r) ≡ r
spelled_back r = refl

-- and they are those of a parked machine
pub parked_spelled : (ws : List ℕ) (r : Regs) (S : List ℕ) → ws ≡ spelled r → FitsHart r → NextBelow (page_count S) r → (length ws ≡ 50) × IsParked record { regs = regs_of_words ws; storage = S }
parked_spelled ws r S e fits next = subst (λ (xs : List ℕ). (length xs ≡ 50) × IsParked record { regs = regs_of_words xs; storage = S }) (sym e) (refl, record { fits = fits; next = next })

-- a machine on a path that isn't empty has a block
pub has_last : (items : List Item) → 0 < length items → IsSome (last_block items)
has_last [] h = absurd (omega arith)
has_last (x ∷ []) h = refl
has_last (x ∷ (y ∷ ys)) h = has_last (y ∷ ys) (omega arith)

-- a well-formed block is in bare page g, of a machine with n pages
pub record HasBlock (S : List ℕ) (g n : ℕ) : Type 0 where
  pub contents : Contents
  pub is : block_of S g ≡ Some contents
  pub pages : contents.pages ≡ n

-- a child's block is in its page
pub child_block : (S : List ℕ) (F : List Slot) (s : ℕ) (x : Item) → child_of S F s ≡ Some x → HasBlock S x.block x.pages
child_block S F s x e = at (slice_get F s) e
  where
    contents : (g : ℕ) (o : Option Contents) → block_of S g ≡ o → child_with s g o ≡ Some x → HasBlock S x.block x.pages
    contents g None b h = absurd (let f : None ≡ Some x = h in cc)
    contents g (Some k) b h =
        subst (λ (y : Item). HasBlock S y.block y.pages)
        (same_Some record { syllable = s; block = g; pages = k.pages; table = k.table; version = k.version } x h)
        record { contents = k; is = b; pages = refl }

    through : (way : Way) → child_through S s way ≡ Some x → HasBlock S x.block x.pages
    through (Open g) h = contents g (block_of S g) refl h
    through (Shut l c p w) h = absurd (let f : None ≡ Some x = h in cc)

    at : (o : Option Slot) → child_at S s o ≡ Some x → HasBlock S x.block x.pages
    at None h = absurd (let f : None ≡ Some x = h in cc)
    at (Some slot) h = through slot.write h

-- and so is the last block of the machines on a path
last_there : (path : List ℕ) (S : List ℕ) (F : List Slot) (j : ℕ) (items : List Item) (g : ℕ) → machines S F j path ≡ Some items → last_block items ≡ Some g → HasBlock S g (length (along S F j items))
unfolding machines along
last_there [] S F j items g e last =
    absurd (let f : None ≡ Some g = ap last_block (same_Some [] items e) ∙ last in cc)
last_there (s ∷ path) S F j items g e last =
    let b = begins_with S F j s path items e in
    subst (λ (xs : List Item). last_block xs ≡ Some g → HasBlock S g (length (along S F j xs))) b.whole (behind b.head b.rest (child_block S F s b.head b.child) (λ l. last_there path S (compose S F j b.head.pages b.head.table b.head.version) (j + 1) b.rest g b.others l)) last
  where
    behind : (x : Item) (rest : List Item) → HasBlock S x.block x.pages → (last_block rest ≡ Some g → HasBlock S g (length (along S (compose S F j x.pages x.table x.version) (j + 1) rest))) → last_block (x ∷ rest) ≡ Some g → HasBlock S g (length (along S (compose S F j x.pages x.table x.version) (j + 1) rest))
    behind x [] has deeper l =
        subst (λ k. HasBlock S k (length (compose S F j x.pages x.table x.version))) (same_Some x.block g l)
        (subst (HasBlock S x.block) (sym (length-composed S F j x.pages x.table x.version)) has)
    behind x (y ∷ ys) has deeper l = deeper l

pub pinned_block : (S path : List ℕ) (items : List Item) (g : ℕ) → pin_of S path ≡ Some items → last_block items ≡ Some g → HasBlock S g (length (map_along S items))
unfolding pin_of map_along
pinned_block S path items g e last = last_there path S (identity (page_count S)) 0 items g e last

-- what was read of a block that is there, as the code gives it
pub read_some : (S : List ℕ) (g n : ℕ) (o : Option Block) → option_map contents_of o ≡ block_of S g → HasBlock S g n → IsSome o
read_some S g n None e has = absurd (let f : None ≡ Some has.contents = e ∙ has.is in cc)
read_some S g n (Some b) e has = refl

pub read_regs : (S : List ℕ) (g : ℕ) (o : Option Block) (b : Block) → option_map contents_of o ≡ block_of S g → o ≡ Some b → b.cpu ≡ regs_at S g
read_regs S g o b e is =
    let there : block_of S g ≡ Some (contents_of b) = sym e ∙ ap (option_map contents_of) is in
    sym (ap (λ (k : Contents). k.regs) (block_holds S g (contents_of b) there).1)

pub read_pages : (S : List ℕ) (g n : ℕ) (o : Option Block) (b : Block) → option_map contents_of o ≡ block_of S g → o ≡ Some b → HasBlock S g n → b.pages ≡ n
read_pages S g n o b e is has =
    let there : block_of S g ≡ Some (contents_of b) = sym e ∙ ap (option_map contents_of) is in
    ap (λ (k : Contents). k.pages) (same_Some (contents_of b) has.contents (sym there ∙ has.is)) ∙ has.pages
