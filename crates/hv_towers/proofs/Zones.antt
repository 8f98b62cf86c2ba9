-- The words of the monitors' own pages that no step of a tower changes: their programs, what the blocks say of pages, tables
-- and versions, and the tables.
use Rattle.std.proofs.Common.{◌≡◌, ◌≢◌, ℕ, ◌+◌, ◌/◌, ◌%◌, ◌<◌, ◌≤◌, ◌⊎◌, inl, inr, cond, List, [], ◌∷◌, Option, Some, refl, ap, ◌∙◌, sym, subst, arith, lit<}
use Rattle.std.specs.Prelude.{◌==◌}
use Rattle.hv_word.specs.Storage.{page_count, word_at}
use Rattle.hv_store.specs.declared.access.Access.TheVariants.{Read}
use Rattle.hv_store.specs.declared.access.Slot.{Slot}
use Rattle.hv_store.specs.declared.access.Way.{Way}
use Rattle.hv_store.specs.declared.access.Way.TheVariants.{Open}
use Rattle.hv_map.specs.Item.{Item}
use Rattle.hv_map.specs.Apart.{table_pages}
use Rattle.hv_map.specs.Compose.{Looked, Named, page_named, look, table_of, reading, EachTableWord, Stopped}
use Rattle.hv_map.specs.Words.{IsChild, Chained}
use Rattle.hv_map.proofs.Agree.{composed_agrees}
use Rattle.hv_map.proofs.Handed.{reading_slot}
use Rattle.hv_whole.specs.Linked.{EachBlock}
use Rattle.hv_towers.proofs.Sizes.{EachFew}
use Rattle.hv_whole.proofs.Each.{each_block}
use Rattle.hv_towers.specs.Laid.{from_base, child_base, LaidAt, LaidFrom}
use Rattle.hv_towers.proofs.Bases.{base_way, same_page}
use Rattle.hv_towers.proofs.Floors.{Floor, Floors, top_base, top_pages}
use Rattle.hv_towers.proofs.Spares.{IsSize, Spared}

abbrev pub Zone : ℕ → List Item → ℕ → ℕ → Type 0
Zone base [] g w = ⊥
Zone base (x ∷ xs) g w =
    (g ≡ base)
    ⊎ (((g ≡ base + 1) × IsSize w)
    ⊎ (((base + 2 ≤ g) × (g < child_base base x.pages))
    ⊎ Zone (child_base base x.pages) xs g w))

-- each block is on page 1 of the machine that holds it
abbrev pub Numbered : ℕ → List Item → Type 0
Numbered base [] = Unit {0}
Numbered base (x ∷ xs) = (x.block ≡ base + 1) × Numbered (child_base base x.pages) xs

pub laid_numbered : (S : List ℕ) (j base n : ℕ) (items : List Item) → LaidFrom S j base n items → Numbered base items
laid_numbered S j base n [] laid = tt
laid_numbered S j base n (x ∷ xs) laid = (laid.0.block, laid_numbered S (j + 1) (child_base base x.pages) x.pages xs laid.1)

pub top_above : (base : ℕ) (items : List Item) → base ≤ top_base base items
unfolding top_base
top_above base [] = omega arith
top_above base (x ∷ xs) = omega (arith, top_above (child_base base x.pages) xs)

-- the last machine's pages are the last ones
pub top_ends : (S : List ℕ) (j base n : ℕ) (items : List Item) → LaidFrom S j base n items → top_base base items + top_pages n items ≤ base + n
unfolding top_base top_pages
top_ends S j base n [] laid = omega arith
top_ends S j base n (x ∷ xs) laid =
    let size : 2 + table_pages x.pages + x.pages ≤ n = laid.0.size in
    omega (arith, top_ends S (j + 1) (child_base base x.pages) x.pages xs laid.1, size)

blocks_above : (base : ℕ) (items : List Item) → Numbered base items → EachBlock (λ b. base < b) items
blocks_above base [] numbered = tt
blocks_above base (x ∷ xs) numbered = (
  (let e : x.block ≡ base + 1 = numbered.0 in omega (arith, e)),
  each_block (λ b. child_base base x.pages < b) (λ b. base < b) (λ b h. omega (arith, h)) xs (blocks_above (child_base base x.pages) xs numbered.1),
)

-- and all blocks are before them
pub blocks_below : (base : ℕ) (items : List Item) → Numbered base items → EachBlock (λ b. b < top_base base items) items
unfolding top_base
blocks_below base [] numbered = tt
blocks_below base (x ∷ xs) numbered = (
  (let e : x.block ≡ base + 1 = numbered.0 in omega (arith, e, top_above (child_base base x.pages) xs)),
  blocks_below (child_base base x.pages) xs numbered.1,
)

zone_above : (base : ℕ) (items : List Item) (g w : ℕ) → Zone base items g w → base ≤ g
zone_above base [] g w z = absurd z
zone_above base (x ∷ xs) g w (inl e) = omega (arith, e)
zone_above base (x ∷ xs) g w (inr (inl h)) = let e : g ≡ base + 1 = h.0 in omega (arith, e)
zone_above base (x ∷ xs) g w (inr (inr (inl h))) = let e : base + 2 ≤ g = h.0 in omega (arith, e)
zone_above base (x ∷ xs) g w (inr (inr (inr z))) = omega (arith, zone_above (child_base base x.pages) xs g w z)

pub zone_below : (base : ℕ) (items : List Item) (g w : ℕ) → Zone base items g w → g < top_base base items
unfolding top_base
zone_below base [] g w z = absurd z
zone_below base (x ∷ xs) g w (inl e) = omega (arith, e, top_above (child_base base x.pages) xs)
zone_below base (x ∷ xs) g w (inr (inl h)) = let e : g ≡ base + 1 = h.0 in omega (arith, e, top_above (child_base base x.pages) xs)
zone_below base (x ∷ xs) g w (inr (inr (inl h))) = let e : g < child_base base x.pages = h.1 in omega (arith, e, top_above (child_base base x.pages) xs)
zone_below base (x ∷ xs) g w (inr (inr (inr z))) = zone_below (child_base base x.pages) xs g w z

before : (base g w : ℕ) (x : Item) (xs : List Item) → Numbered base (x ∷ xs) → g < child_base base x.pages → EachBlock (λ b. (g ≢ b) ⊎ IsSize w) xs
before base g w x xs numbered h =
    each_block (λ b. child_base base x.pages < b) (λ b. (g ≢ b) ⊎ IsSize w) (λ b k. inl (λ e. omega (arith, e, h, k))) xs (blocks_above (child_base base x.pages) xs numbered.1)

-- these words are none of a block but those that say its sizes
pub zone_blocks : (base : ℕ) (items : List Item) (g w : ℕ) → Numbered base items → Zone base items g w → EachBlock (λ b. (g ≢ b) ⊎ IsSize w) items
zone_blocks base [] g w numbered z = tt
zone_blocks base (x ∷ xs) g w numbered (inl e) =
    let at : x.block ≡ base + 1 = numbered.0 in
    (inl (λ f. omega (arith, e, at, f)), before base g w x xs numbered (omega (arith, e)))
zone_blocks base (x ∷ xs) g w numbered (inr (inl h)) =
    let e : g ≡ base + 1 = h.0 in
    (inr h.1, before base g w x xs numbered (omega (arith, e)))
zone_blocks base (x ∷ xs) g w numbered (inr (inr (inl h))) =
    let at : x.block ≡ base + 1 = numbered.0 in
    let low : base + 2 ≤ g = h.0 in
    (inl (λ f. omega (arith, low, at, f)), before base g w x xs numbered h.1)
zone_blocks base (x ∷ xs) g w numbered (inr (inr (inr z))) =
    let at : x.block ≡ base + 1 = numbered.0 in
    let low : child_base base x.pages ≤ g = zone_above (child_base base x.pages) xs g w z in
    (inl (λ f. omega (arith, low, at, f)), zone_blocks (child_base base x.pages) xs g w numbered.1 z)

pub each_spared : (items : List Item) (g w : ℕ) → EachBlock (λ b. (g ≢ b) ⊎ IsSize w) items → Spared items g w
each_spared [] g w each = tt
each_spared (x ∷ []) g w each = elim each.0 [ inl ne ↦ inl ne | inr h ↦ inr (omega (arith, h.1)) ]
each_spared (x ∷ (y ∷ ys)) g w each = (each.0, each_spared (y ∷ ys) g w each.1)

-- the page of the table word of page i, in a table without a directory
pub table_named : (S : List ℕ) (reads : ℕ → Option Way) (j t v i : ℕ) → v ≡ 0 → table_of S reads j t v i ≡ Named (t + i / 1024)
table_named S reads j t v i e = ap (λ (k : ℕ). cond (k == 2) (page_named (look S j i (i / 1024) (reads t))) (Named (t + i / 1024))) e

named : Looked → ℕ
named (Named u) = u
named (Stopped way) = 0

-- where that is in the bare storage
pub table_place : (S : List ℕ) (j base n : ℕ) (x : Item) (i u g : ℕ) → x.table ≡ 2 → x.version ≡ 0 → i < x.pages
    → table_of S (reading (from_base base n)) j x.table x.version i ≡ Named u → reading (from_base base n) u ≡ Some (Open g)
    → (base + 2 ≤ g) × (g < child_base base x.pages)
unfolding named
table_place S j base n x i u g two plain h e p =
    let is : x.table + i / 1024 ≡ u = ap named (sym (table_named S (reading (from_base base n)) j x.table x.version i plain) ∙ e) in
    let r = reading_slot (from_base base n) u (Open g) p in
    let at : base + u ≡ g = same_page (base + u) g (sym (base_way base n u r.0 Read r.1) ∙ r.2) in
    (omega (arith, is, at, two), omega (arith, is, at, two, h))

-- What holds of the start holds of each monitor still where these words are those of the start.
module _ (A S : List ℕ) (pages : page_count S ≡ page_count A) where
  floor_now : (j base n : ℕ) (x : Item) (xs : List Item) → LaidAt A j base n x → IsChild A (from_base base n) x → x.pages ≤ 1048576 → x.block < page_count A
      → ((g w : ℕ) → w < 1024 → Zone base (x ∷ xs) g w → word_at S g w ≡ word_at A g w)
      → Floor S j base n x
  floor_now j base n x xs laid child few inside steady =
      let size_word : (w : ℕ) → 65 ≤ w → w ≤ 67 → word_at S x.block w ≡ word_at A x.block w = (λ w low high. steady x.block w (omega (arith, high)) (inr (inl (laid.block, (low, high))))) in
      let two : x.table ≡ 2 = laid.table in
      record {
        syllable = laid.syllable;
        block = laid.block;
        size = laid.size;
        inside = omega (arith, inside, pages);
        some = laid.some;
        few = few;
        early = omega (arith, two);
        plain = laid.version;
        pages = size_word 65 (omega arith) (omega arith) ∙ child.pages;
        table = size_word 66 (omega arith) (omega arith) ∙ child.table;
        version = size_word 67 (omega arith) (omega arith) ∙ child.version;
        slots = composed_agrees S A (from_base base n) j x.pages x.table x.version same_table ∙ laid.slots;
        program = record {
          lui = steady base 0 (lit< tt) (inl refl) ∙ laid.program.lui;
          addi = steady base 1 (lit< tt) (inl refl) ∙ laid.program.addi;
          vmenter = steady base 2 (lit< tt) (inl refl) ∙ laid.program.vmenter;
          jal = steady base 3 (lit< tt) (inl refl) ∙ laid.program.jal;
        };
      }
    where
      no_directory : x.version ≡ 2 → ⊥
      no_directory v = let plain : x.version ≡ 0 = laid.version in omega (arith, v, plain)

      same_table : EachTableWord (λ g w. word_at S g w ≡ word_at A g w) S (from_base base n) j x.pages x.table x.version
      same_table = record {
        directory = λ i g h v e. absurd (no_directory v);
        table = λ i u g h e p. steady g (i % 1024) (omega arith) (inr (inr (inl (table_place S j base n x i u g laid.table laid.version h e p))));
      }

  pub floors_now : (j base n : ℕ) (items : List Item) → LaidFrom A j base n items → Chained A (from_base base n) j items → EachFew items → EachBlock (λ b. b < page_count A) items
      → ((g w : ℕ) → w < 1024 → Zone base items g w → word_at S g w ≡ word_at A g w)
      → Floors S j base n items
  floors_now j base n [] laid chained sized inside steady = tt
  floors_now j base n (x ∷ xs) laid chained sized inside steady = (
    floor_now j base n x xs laid.0 chained.0 sized.0 inside.0 steady,
    floors_now (j + 1) (child_base base x.pages) x.pages xs laid.1 (subst (λ (F : List Slot). Chained A F (j + 1) xs) laid.0.slots chained.1) sized.1 inside.1
        (λ g w h z. steady g w h (inr (inr (inr z)))),
  )
