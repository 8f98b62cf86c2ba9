-- Where a page is read, by the pages of tables that are kept, in the form in which code comes to it.
use Rattle.std.proofs.Common.{◌≡◌, ◌≢◌, ℕ, zero, suc, ◌+◌, ◌*◌, ◌/◌, ◌%◌, ◌<◌, ◌≤◌, inl, inr, Bool, true, false, cond, ◌==◌, List, [], ◌∷◌, get_or, length, set, replicate, Option, Some, None, IfSome, refl, ap, ◌∙◌, sym, subst, arith, slice_get}
use Rattle.std.specs.Option.{option_map, option_to_list}
use Rattle.std.proofs.lemmas.Bool.Decides.{eqb_tells}
use Rattle.std.proofs.lemmas.Option.{same_Some, slice_get_past}
use Rattle.hv_word.specs.Words.{field_of}
use Rattle.hv_word.specs.Storage.{page_count, word_at}
use Rattle.hv_store.specs.declared.access.Slot.{Slot}
use Rattle.hv_store.specs.declared.access.Way.{Way}
use Rattle.hv_store.specs.declared.access.Way.TheVariants.{Open, Shut}
use Rattle.hv_map.specs.Apart.{open_page, open_page_if, table_open}
use Rattle.hv_map.specs.Compose.{Looked, Named, Stopped, present, look, page_named, table_of, word_in, entry_of, slot_through, slot_of, reading}
use Rattle.hv_map.specs.Item.{Item}
use Rattle.hv_map.specs.Levels.{map_at, table_at}
use Rattle.hv_map.specs.Tables.{IsCacheOf, IsTablePage, if_present, named}
use Rattle.hv_map.specs.declared.tables.TableCache.{TableCache}
use Rattle.hv_map.specs.declared.tables.TablePage.{TablePage}
use Rattle.hv_map.proofs.Levels.{slot_at-zero, slot_at-suc}

-- what a look-up stops at opens no page
abbrev IsStop : Looked → Type 0
IsStop (Named n) = Unit {0}
IsStop (Stopped way) = [] ≡ open_page way

module _ (S : List ℕ) (j i : ℕ) where
  present_stops : (w : ℕ) → IsStop (present j i w)
  present_stops w = elim (w % 2 == 0) as (λ b. IsStop (cond b (Stopped (Shut j 1 i None)) (Named w))) [ true ↦ refl | false ↦ tt ]

  look_stops : (k : ℕ) (o : Option Way) → IsStop (look S j i k o)
  look_stops k None = refl
  look_stops k (Some (Open g)) = present_stops (word_at S g k)
  look_stops k (Some (Shut l c p w)) = refl

  page_stops : (l : Looked) → IsStop l → IsStop (page_named l)
  page_stops (Named d) h = tt
  page_stops (Stopped way) h = h

  table_stops : (reads : ℕ → Option Way) (t v : ℕ) → IsStop (table_of S reads j t v i)
  table_stops reads t v = elim (v == 2) as (λ b. IsStop (cond b (page_named (look S j i (i / 1024) (reads t))) (Named (t + i / 1024)))) [
    | true ↦ page_stops (look S j i (i / 1024) (reads t)) (look_stops (i / 1024) (reads t))
    | false ↦ tt
  ]

-- where the page of a table is read, by what names it
opened_none : (F : List Slot) (l : Looked) → None ≡ named l → [] ≡ table_open F l
opened_none F (Named u) e = absurd (let f : None ≡ Some u = e in cc)
opened_none F (Stopped way) e = refl

opened_some : (F : List Slot) (l : Looked) (u : ℕ) → Some u ≡ named l → open_page_if (reading F u) ≡ table_open F l
opened_some F (Named n) u e = ap (λ (k : ℕ). open_page_if (reading F k)) (same_Some u n e)
opened_some F (Stopped way) u e = absurd (let f : Some u ≡ None = e in cc)

module _ (S : List ℕ) (items : List Item) (k n : ℕ) (x : Item) (is : slice_get items k ≡ Some x) where
  pub table_hidden : (host : Option ℕ) → host ≡ None → None ≡ named (table_at S items k x (1024 * n)) → IsTablePage S items k n host
  table_hidden host none e = subst (IsTablePage S items k n) (sym none) record {
    page = λ y there.
        opened_none (map_at S items k) (table_at S items k x (1024 * n)) e
        ∙ ap (λ (z : Item). table_open (map_at S items k) (table_at S items k z (1024 * n))) (same_Some x y (sym is ∙ there));
    bound = tt;
  }

  pub table_found : (u : ℕ) (host : Option ℕ)
      → Some u ≡ named (table_at S items k x (1024 * n))
      → option_to_list host ≡ open_page_if (reading (map_at S items k) u)
      → IfSome host (λ g. g < page_count S)
      → IsTablePage S items k n host
  table_found u host e opens below = record {
    page = λ y there.
        opens
        ∙ opened_some (map_at S items k) (table_at S items k x (1024 * n)) u e
        ∙ ap (λ (z : Item). table_open (map_at S items k) (table_at S items k z (1024 * n))) (same_Some x y (sym is ∙ there));
    bound = below;
  }

-- pages whose table words are in one page of the table
module _ (S : List ℕ) (F : List Slot) (j i m : ℕ) where
  by_directory : (k : ℕ) (o : Option Way) → table_open F (page_named (look S j i k o)) ≡ table_open F (page_named (look S j m k o))
  by_directory k None = refl
  by_directory k (Some (Open g)) = elim (word_at S g k % 2 == 0) as (λ b. table_open F (page_named (cond b (Stopped (Shut j 1 i None)) (Named (word_at S g k)))) ≡ table_open F (page_named (cond b (Stopped (Shut j 1 m None)) (Named (word_at S g k))))) [
    | true ↦ refl
    | false ↦ refl
  ]
  by_directory k (Some (Shut l c p w)) = refl

  pub table_open-same : (t v : ℕ) → i / 1024 ≡ m / 1024 → table_open F (table_of S (reading F) j t v i) ≡ table_open F (table_of S (reading F) j t v m)
  table_open-same t v e = elim (v == 2) as (λ b. table_open F (cond b (page_named (look S j i (i / 1024) (reading F t))) (Named (t + i / 1024))) ≡ table_open F (cond b (page_named (look S j m (m / 1024) (reading F t))) (Named (t + m / 1024)))) [
    | true ↦
        by_directory (i / 1024) (reading F t)
        ∙ ap (λ (k : ℕ). table_open F (page_named (look S j m k (reading F t)))) e
    | false ↦ ap (λ (k : ℕ). open_page_if (reading F (t + k))) e
  ]

-- the page that an entry names, where there is an entry
abbrev by_entry : List Slot → Option ℕ → List ℕ
by_entry F None = []
by_entry F (Some e) = open_page_if (reading F (field_of e 12 20))

-- a page of a child, by the page of the table that has its entry
module _ (S : List ℕ) (F : List Slot) (j v i : ℕ) where
  read_hidden : (l : Looked) → IsStop l → [] ≡ table_open F l → [] ≡ open_page (slot_of F j v i (word_in S (reading F) j i l)).read
  read_hidden (Named u) h e = through (i % 1024) (reading F u) e
    where
      through : (k : ℕ) (o : Option Way) → [] ≡ open_page_if o → [] ≡ open_page (slot_of F j v i (look S j i k o)).read
      through k None e = refl
      through k (Some (Open g)) e = absurd (let f : [] ≡ g ∷ [] = e in cc)
      through k (Some (Shut l c p w)) e = refl
  read_hidden (Stopped way) h e = h

  entered : (e : ℕ) (o : Option Slot) → open_page_if (option_map (λ (s : Slot). s.read) o) ≡ open_page (slot_through j v i e o).read
  entered e None = refl
  entered e (Some s) = refl

  marked : (w : ℕ) → by_entry F (if_present w) ≡ open_page (slot_of F j v i (present j i w)).read
  marked w = elim (w % 2 == 0) as (λ b. by_entry F (cond b None (Some w)) ≡ open_page (slot_of F j v i (cond b (Stopped (Shut j 1 i None)) (Named w))).read) [
    | true ↦ refl
    | false ↦ entered w (slice_get F (field_of w 12 20))
  ]

  read_entry : (l : Looked) (g : ℕ) → g ∷ [] ≡ table_open F l → by_entry F (if_present (word_at S g (i % 1024))) ≡ open_page (slot_of F j v i (word_in S (reading F) j i l)).read
  read_entry (Named u) g e = through (i % 1024) (reading F u) e
    where
      through : (k : ℕ) (o : Option Way) → g ∷ [] ≡ open_page_if o → by_entry F (if_present (word_at S g k)) ≡ open_page (slot_of F j v i (look S j i k o)).read
      through k None e = absurd (let f : g ∷ [] ≡ [] = e in cc)
      through k (Some (Open h)) e =
          let same : g ≡ h = (let f : g ∷ [] ≡ h ∷ [] = e in cc) in
          ap (λ (x : ℕ). by_entry F (if_present (word_at S x k))) same ∙ marked (word_at S h k)
      through k (Some (Shut l c p w)) e = absurd (let f : g ∷ [] ≡ [] = e in cc)
  read_entry (Stopped way) g e = absurd (let f : g ∷ [] ≡ [] = e in cc)

-- there is a machine below the deepest level
pub item_at : (items : List Item) (k : ℕ) → k < length items → (x : Item) × (slice_get items k ≡ Some x)
item_at [] k h = absurd (omega arith)
item_at (x ∷ xs) zero h = (x, refl)
item_at (x ∷ xs) (suc k) h = item_at xs k (omega arith)

-- level by level
pub read_past : (S : List ℕ) (items : List Item) (k i : ℕ) → length (map_at S items k) ≤ i → [] ≡ open_page_if (reading (map_at S items k) i)
read_past S items k i h =
    sym (ap (λ (o : Option Slot). open_page_if (option_map (λ (s : Slot). s.read) o)) (slice_get_past (map_at S items k) i h))

pub read_bare : (S : List ℕ) (items : List Item) (k i : ℕ) → k ≡ 0 → i < length (map_at S items k) → i ∷ [] ≡ open_page_if (reading (map_at S items k) i)
read_bare S items k i e h =
    sym (ap (λ (o : Option Slot). open_page_if (option_map (λ (s : Slot). s.read) o)) (slot_at-zero S items k i e h))

module _ (S : List ℕ) (items : List Item) (k j i : ℕ) (x : Item) (is : slice_get items k ≡ Some x) (deeper : j ≡ k + 1) (inside : i < length (map_at S items j)) where
  reads : open_page_if (reading (map_at S items j) i) ≡ open_page (slot_of (map_at S items k) k x.version i (entry_of S (reading (map_at S items k)) k x.table x.version i)).read
  reads = ap (λ (o : Option Slot). open_page_if (option_map (λ (s : Slot). s.read) o)) (slot_at-suc S items k j i x is deeper inside)

  found : (host : Option ℕ) → IsTablePage S items k (i / 1024) host → option_to_list host ≡ table_open (map_at S items k) (table_at S items k x i)
  found host page =
      page.page x is ∙ table_open-same S (map_at S items k) k (1024 * (i / 1024)) i x.table x.version (omega arith)

  pub read_no_table : (host : Option ℕ) → host ≡ None → IsTablePage S items k (i / 1024) None → option_to_list host ≡ open_page_if (reading (map_at S items j) i)
  read_no_table host none page =
      ap option_to_list none
      ∙ read_hidden S (map_at S items k) k x.version i (table_at S items k x i) (table_stops S k i (reading (map_at S items k)) x.table x.version) (found None page)
      ∙ sym reads

  read_by : (g : ℕ) (r : Option ℕ) → IsTablePage S items k (i / 1024) (Some g) → r ≡ if_present (word_at S g (i % 1024)) → by_entry (map_at S items k) r ≡ open_page_if (reading (map_at S items j) i)
  read_by g r page e =
      ap (by_entry (map_at S items k)) e
      ∙ read_entry S (map_at S items k) k x.version i (table_at S items k x i) g (found (Some g) page)
      ∙ sym reads

  pub read_no_entry : (host : Option ℕ) (g : ℕ)
      → host ≡ None
      → IsTablePage S items k (i / 1024) (Some g)
      → None ≡ if_present (word_at S g (i % 1024))
      → option_to_list host ≡ open_page_if (reading (map_at S items j) i)
  read_no_entry host g none page e = ap option_to_list none ∙ read_by g None page e

  pub read_deeper : (g e u : ℕ) (host : Option ℕ)
      → IsTablePage S items k (i / 1024) (Some g)
      → Some e ≡ if_present (word_at S g (i % 1024))
      → u ≡ field_of e 12 20
      → option_to_list host ≡ open_page_if (reading (map_at S items k) u)
      → option_to_list host ≡ open_page_if (reading (map_at S items j) i)
  read_deeper g e u host page entry field opens =
      opens ∙ ap (λ (q : ℕ). open_page_if (reading (map_at S items k) q)) field ∙ read_by g (Some e) page entry

-- what is kept
none_kept : (n i : ℕ) (page : TablePage) → slice_get (replicate n None) i ≡ Some (Some page) → ⊥
none_kept zero i page e = let f : None ≡ Some (Some page) = e in cc
none_kept (suc n) zero page e = let f : Some None ≡ Some (Some page) = e in cc
none_kept (suc n) (suc i) page e = none_kept n i page e

pub cache_new : (S : List ℕ) (items : List Item) (cache : TableCache) (n : ℕ) → cache.pages ≡ replicate n None → IsCacheOf S items cache
cache_new S items cache n is = record {
  each = λ i page there.
      absurd (none_kept n i page (ap (λ (ps : List (Option TablePage)). slice_get ps i) (sym is) ∙ there));
}

set_same : (ps : List (Option TablePage)) (i : ℕ) (p q : Option TablePage) → slice_get (set ps i p) i ≡ Some q → p ≡ q
set_same [] i p q e = absurd (let f : None ≡ Some q = e in cc)
set_same (r ∷ ps) zero p q e = same_Some p q e
set_same (r ∷ ps) (suc i) p q e = set_same ps i p q e

set_other : (ps : List (Option TablePage)) (i k : ℕ) (p : Option TablePage) → k ≢ i → slice_get (set ps i p) k ≡ slice_get ps k
set_other [] i k p ne = refl
set_other (r ∷ ps) zero zero p ne = absurd (ne refl)
set_other (r ∷ ps) zero (suc k) p ne = refl
set_other (r ∷ ps) (suc i) zero p ne = refl
set_other (r ∷ ps) (suc i) (suc k) p ne = set_other ps i k p (λ e. ne (ap suc e))

pub cache_more : (S : List ℕ) (items : List Item) (before after : TableCache) (i k : ℕ) (page : TablePage)
    → i / 16 ≡ k
    → after.pages ≡ set before.pages i (Some page)
    → IsCacheOf S items before
    → IsTablePage S items k page.number page.host
    → IsCacheOf S items after
cache_more S items before after i k page at written cache right = record {
  each = λ m q there. go m q (ap (λ (ps : List (Option TablePage)). slice_get ps m) (sym written) ∙ there);
}
  where
    go : (m : ℕ) (q : TablePage) → slice_get (set before.pages i (Some page)) m ≡ Some (Some q) → IsTablePage S items (m / 16) q.number q.host
    go m q there = elim (eqb_tells m i) [
      | inl e ↦
          let same : page ≡ q =
          same_Some page q
          (set_same before.pages i (Some page) (Some q) (ap (slice_get (set before.pages i (Some page))) (sym e.1) ∙ there))
          in
          let level : k ≡ m / 16 = sym at ∙ ap (λ (n : ℕ). n / 16) (sym e.1) in
          subst (λ (l : ℕ). IsTablePage S items l q.number q.host) level
          (subst (λ (p : TablePage). IsTablePage S items k p.number p.host) same right)
      | inr e ↦ cache.each m q (sym (set_other before.pages i m (Some page) e.1) ∙ there)
    ]

kept_at : (ps : List (Option TablePage)) (i : ℕ) (page : TablePage) → get_or ps i None ≡ Some page → slice_get ps i ≡ Some (Some page)
kept_at [] i page e = absurd (let f : None ≡ Some page = e in cc)
kept_at (p ∷ ps) zero page e = ap Some e
kept_at (p ∷ ps) (suc i) page e = kept_at ps i page e

pub cache_gives : (S : List ℕ) (items : List Item) (cache : TableCache) (i k n : ℕ) (page : TablePage)
    → IsCacheOf S items cache
    → get_or cache.pages i None ≡ Some page
    → i / 16 ≡ k
    → page.number ≡ n
    → IsTablePage S items k n page.host
cache_gives S items cache i k n page right there at number =
    subst (λ (l : ℕ). IsTablePage S items l n page.host) at
    (subst (λ (m : ℕ). IsTablePage S items (i / 16) m page.host) number (right.each i page (kept_at cache.pages i page there)))
