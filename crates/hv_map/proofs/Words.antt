-- The words that the map along a row of machines is read from.
use Rattle.std.proofs.Common.{◌≡◌, ℕ, ◌+◌, ◌/◌, ◌%◌, List, [], ◌∷◌, Option, Some, None, refl, ap, ◌∙◌, sym, subst, slice_get}
use Rattle.std.proofs.lemmas.Option.{same_Some}
use Rattle.hv_word.specs.Storage.{word_at}
use Rattle.hv_store.specs.declared.access.Slot.{Slot}
use Rattle.hv_store.specs.declared.access.Way.{Way}
use Rattle.hv_store.specs.declared.access.Way.TheVariants.{Open, Shut}
use Rattle.hv_block.specs.Block.{Contents, block_of}
use Rattle.hv_block.proofs.Blocks.{block_holds}
use Rattle.hv_map.specs.Item.{Item}
use Rattle.hv_map.specs.Compose.{compose}
use Rattle.hv_map.specs.Chain.{along, child_with, child_through, child_at, child_of, machines}
use Rattle.hv_map.specs.Words.{EachItem, EachChain, IsChild, Chained, syllables}
use Rattle.hv_map.proofs.Agree.{composed_agrees}
use Rattle.hv_map.proofs.Assoc.{begins_with}

-- what holds of each word, and follows from what held
module _ (P Q : ℕ → ℕ → Type 0) (step : (g w : ℕ) → P g w → Q g w) where
  pub each_item : (S : List ℕ) (F : List Slot) (j : ℕ) (x : Item) → EachItem P S F j x → EachItem Q S F j x
  each_item S F j x each = record {
    pages = step x.block 65 each.pages;
    table = step x.block 66 each.table;
    version = step x.block 67 each.version;
    words = record {
      directory = λ i g h e p. step g (i / 1024) (each.words.directory i g h e p);
      table = λ i u g h e p. step g (i % 1024) (each.words.table i u g h e p);
    };
  }

  pub each_chain : (S : List ℕ) (F : List Slot) (j : ℕ) (xs : List Item) → EachChain P S F j xs → EachChain Q S F j xs
  each_chain S F j [] each = tt
  each_chain S F j (x ∷ xs) each = (each_item S F j x each.0, each_chain S (compose S F j x.pages x.table x.version) (j + 1) xs each.1)

-- the map along the machines depends on these words alone
pub along_agrees : (S A : List ℕ) (F : List Slot) (j : ℕ) (xs : List Item) → EachChain (λ g w. word_at S g w ≡ word_at A g w) S F j xs → along S F j xs ≡ along A F j xs
unfolding along
along_agrees S A F j [] each = refl
along_agrees S A F j (x ∷ xs) each =
    along_agrees S A (compose S F j x.pages x.table x.version) (j + 1) xs each.1
    ∙ ap (λ (G : List Slot). along A G (j + 1) xs) (composed_agrees S A F j x.pages x.table x.version each.0.words)

-- and the machines stay where they are
pub chained_agrees : (S A : List ℕ) (F : List Slot) (j : ℕ) (xs : List Item) → EachChain (λ g w. word_at S g w ≡ word_at A g w) S F j xs → Chained S F j xs → Chained A F j xs
chained_agrees S A F j [] each chained = tt
chained_agrees S A F j (x ∷ xs) each chained =
    let c = chained.0 in (
      record {
        slot = c.slot;
        there = c.there;
        writes = c.writes;
        pages = sym each.0.pages ∙ c.pages;
        table = sym each.0.table ∙ c.table;
        version = sym each.0.version ∙ c.version;
      },
      subst (λ (G : List Slot). Chained A G (j + 1) xs) (composed_agrees S A F j x.pages x.table x.version each.0.words)
          (chained_agrees S A (compose S F j x.pages x.table x.version) (j + 1) xs each.1 chained.1),
    )

-- the child that is found on a page is on it, and has the size that a block can have
pub record Follows (S : List ℕ) (F : List Slot) (s : ℕ) (x : Item) : Type 0 where
  pub syllable : x.syllable ≡ s
  pub child : IsChild S F x

module _ (S : List ℕ) (F : List Slot) (s : ℕ) (x : Item) where
  follows_contents : (g : ℕ) (slot : Slot) → slice_get F s ≡ Some slot → slot.write ≡ Open g → child_with s g (block_of S g) ≡ Some x → Follows S F s x
  follows_contents g slot there writes e = go (block_of S g) refl e
    where
      go : (o : Option Contents) → block_of S g ≡ o → child_with s g o ≡ Some x → Follows S F s x
      go None is f = absurd (let h : None ≡ Some x = f in cc)
      go (Some contents) is f =
          let says = (block_holds S g contents is).1 in
          subst (Follows S F s) (same_Some record { syllable = s; block = g; pages = contents.pages; table = contents.table; version = contents.version } x f) record {
            syllable = refl;
            child = record {
              slot = slot;
              there = there;
              writes = writes;
              pages = ap (λ (h : Contents). h.pages) says;
              table = ap (λ (h : Contents). h.table) says;
              version = ap (λ (h : Contents). h.version) says;
            };
          }

  follows_through : (way : Way) (slot : Slot) → slice_get F s ≡ Some slot → slot.write ≡ way → child_through S s way ≡ Some x → Follows S F s x
  follows_through (Open g) slot there writes e = follows_contents g slot there writes e
  follows_through (Shut l c p w) slot there writes e = absurd (let f : None ≡ Some x = e in cc)

  follows_at : (o : Option Slot) → slice_get F s ≡ o → child_at S s o ≡ Some x → Follows S F s x
  follows_at None there e = absurd (let f : None ≡ Some x = e in cc)
  follows_at (Some slot) there e = follows_through slot.write slot there refl e

  pub follows : child_of S F s ≡ Some x → Follows S F s x
  follows e = follows_at (slice_get F s) refl e

-- the machines on a path are each on its page
pub machines_chained : (S : List ℕ) (F : List Slot) (j : ℕ) (path : List ℕ) (items : List Item) → machines S F j path ≡ Some items → (syllables items ≡ path) × Chained S F j items
unfolding machines
machines_chained S F j [] items e = subst (λ (xs : List Item). (syllables xs ≡ []) × Chained S F j xs) (same_Some [] items e) (refl, tt)
machines_chained S F j (s ∷ path) items e =
    let b = begins_with S F j s path items e in
    let f = follows S F s b.head b.child in
    let r = machines_chained S (compose S F j b.head.pages b.head.table b.head.version) (j + 1) path b.rest b.others in
    subst (λ (xs : List Item). (syllables xs ≡ s ∷ path) × Chained S F j xs) b.whole
    (ap (λ (t : ℕ). t ∷ syllables b.rest) f.syllable ∙ ap (λ (p : List ℕ). s ∷ p) r.0, (f.child, r.1))
