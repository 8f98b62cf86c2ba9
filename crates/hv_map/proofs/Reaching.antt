-- The pages that are read to find a page, and the blocks of the machines on a path, are pages of the storage.
use Rattle.std.proofs.Common.{◌≡◌, ℕ, suc, inl, inr, ◌+◌, ◌<◌, ◌≤◌, Bool, true, false, cond, ◌==◌, List, [], ◌∷◌, ◌++◌, length, map, Option, Some, None, refl, ap, ◌∙◌, sym, subst, arith, slice_get}
use Rattle.std.specs.List.{AllByRecursion, range_with_len}
use Rattle.std.specs.Option.{option_map}
use Rattle.std.proofs.lemmas.Option.{slice_get_past}
use Rattle.hv_word.specs.Words.{field_of, has}
use Rattle.hv_word.specs.Storage.{page_count}
use Rattle.hv_store.specs.declared.access.Access.TheVariants.{Read}
use Rattle.hv_store.specs.declared.access.Slot.{Slot}
use Rattle.hv_store.specs.declared.access.Way.{Way}
use Rattle.hv_store.specs.declared.access.Way.TheVariants.{Open, Shut}
use Rattle.hv_store.specs.Access.{identity}
use Rattle.hv_map.specs.Apart.{blocks_of}
use Rattle.hv_map.specs.Chain.{pin_of}
use Rattle.hv_map.specs.Compose.{Looked, Named, Stopped, compose, entry_of, reading, table_of}
use Rattle.hv_map.specs.Gathered.{Gathered, Listed, bare_gathered_map, block_pages, directory_pages, entry_pages, gathered_along, gathered_from, gathered_map, gathered_slot, listed_limit, pages_gathered, pages_read, pages_through, pin_pages, slots_of, table_word_pages, target_pages, with_page, with_pages, word_pages}
use Rattle.hv_map.specs.Item.{Item}
use Rattle.hv_map.specs.Links.{syllable_of}
use Rattle.hv_map.proofs.GatheredMaps.{bare_read, length-gathered_map, slice_get-gathered_map, slots-bare, slots-gathered_map}
use Rattle.hv_map.proofs.Machines.{OpensBelow, composed_below, identity_below, pinned_fits}
use Rattle.std.proofs.lemmas.Bool.{cases_lt}

-- each of some pages is below P
abbrev pub AllBelow : ℕ → List ℕ → Type 0
AllBelow P gs = AllByRecursion (λ g. g < P) gs

both_below : (P : ℕ) (gs hs : List ℕ) → AllBelow P gs → AllBelow P hs → AllBelow P (gs ++ hs)
both_below P [] hs a b = b
both_below P (g ∷ gs) hs a b = (a.0, both_below P gs hs a.1 b)

-- a map all of whose slots are found by pages below P, and open such pages
record Reaches (P : ℕ) (N : List Gathered) : Type 0 where
  reads : (u : ℕ) → AllBelow P (pages_read N u)
  opens : OpensBelow P (slots_of N)

reads_through : (P : ℕ) (F : List Slot) (gs : List ℕ) (u : ℕ) (s : Slot) (way : Way) → OpensBelow P F → AllBelow P gs → slice_get F u ≡ Some s → s.read ≡ way → AllBelow P (pages_through gs (Some way))
reads_through P F gs u s (Open g) opens all is way = both_below P gs (g ∷ []) all (opens u s Read g is way, tt)
reads_through P F gs u s (Shut l c p w) opens all is way = all

reads_word : (P : ℕ) (N : List Gathered) → Reaches P N → (u : ℕ) → AllBelow P (word_pages N u)
reads_word P N reach u = go (slice_get (slots_of N) u) refl
  where
    go : (o : Option Slot) → slice_get (slots_of N) u ≡ o → AllBelow P (pages_through (pages_read N u) (option_map (λ (s : Slot). s.read) o))
    go None is = reach.reads u
    go (Some s) is = reads_through P (slots_of N) (pages_read N u) u s s.read reach.opens (reach.reads u) is refl

module _ (P : ℕ) (S : List ℕ) (N : List Gathered) (reach : Reaches P N) (j t v i : ℕ) where
  reads_directory : AllBelow P (directory_pages N t v)
  reads_directory = go (v == 2)
    where
      go : (b : Bool) → AllBelow P (cond b (word_pages N t) [])
      go true = reads_word P N reach t
      go false = tt

  reads_table : (l : Looked) → AllBelow P (table_word_pages N l)
  reads_table (Named u) = reads_word P N reach u
  reads_table (Stopped way) = tt

  reads_target : (l : Looked) → AllBelow P (target_pages N l)
  reads_target (Named e) = reach.reads (field_of e 12 20)
  reads_target (Stopped way) = tt

  reads_slot : AllBelow P (gathered_slot S N j t v i).pages
  reads_slot =
      both_below P (entry_pages S N j t v i) (target_pages N (entry_of S (reading (slots_of N)) j t v i))
      (both_below P (directory_pages N t v) (table_word_pages N (table_of S (reading (slots_of N)) j t v i)) reads_directory
      (reads_table (table_of S (reading (slots_of N)) j t v i)))
      (reads_target (entry_of S (reading (slots_of N)) j t v i))

reaches_bare : (P : ℕ) → Reaches P (bare_gathered_map P)
reaches_bare P = record {
  reads = λ u. subst (AllBelow P) (sym (bare_read P u)) tt;
  opens = subst (OpensBelow P) (sym (slots-bare P)) (identity_below P);
}

reaches_child : (P : ℕ) (S : List ℕ) (N : List Gathered) (j n t v : ℕ) → Reaches P N → Reaches P (gathered_map S N j n t v)
reaches_child P S N j n t v reach = record {
  reads = λ u. elim (cases_lt u n) [
    | inl lt ↦
        subst (λ (o : Option Gathered). AllBelow P (pages_gathered o)) (sym (slice_get-gathered_map S N j n t v u lt))
        (reads_slot P S N reach j t v u)
    | inr ge ↦
        subst (λ (o : Option Gathered). AllBelow P (pages_gathered o))
        (sym (slice_get_past (gathered_map S N j n t v) u (omega (arith, ge, length-gathered_map S N j n t v)))) tt
  ];
  opens = subst (OpensBelow P) (sym (slots-gathered_map S N j n t v)) (composed_below P S (slots_of N) j n t v reach.opens);
}

reaches_from : (P : ℕ) (S : List ℕ) (N : List Gathered) (j : ℕ) (items : List Item) → Reaches P N → Reaches P (gathered_from S N j items)
unfolding gathered_from
reaches_from P S N j [] reach = reach
reaches_from P S N j (x ∷ xs) reach =
    reaches_from P S (gathered_map S N j x.pages x.table x.version) (j + 1) xs
    (reaches_child P S N j x.pages x.table x.version reach)

reads_blocks : (P : ℕ) (S : List ℕ) (N : List Gathered) (j : ℕ) (items : List Item) → Reaches P N → AllBelow P (block_pages S N j items)
unfolding block_pages
reads_blocks P S N j [] reach = tt
reads_blocks P S N j (x ∷ xs) reach =
    let N' : List Gathered = gathered_map S N j x.pages x.table x.version in
    both_below P (pages_read N x.syllable) (block_pages S N' (j + 1) xs) (reach.reads x.syllable)
    (reads_blocks P S N' (j + 1) xs (reaches_child P S N j x.pages x.table x.version reach))

-- what is read to find the machines on a path, and a page of the last of them
pub pin_pages_below : (S : List ℕ) (items : List Item) → AllBelow (page_count S) (pin_pages S items)
unfolding pin_pages
pin_pages_below S items = reads_blocks (page_count S) S (bare_gathered_map (page_count S)) 0 items (reaches_bare (page_count S))

pub pages_read_below : (S : List ℕ) (items : List Item) (page : ℕ) → AllBelow (page_count S) (pages_read (gathered_along S items) page)
unfolding gathered_along
pages_read_below S items page =
    (reaches_from (page_count S) S (bare_gathered_map (page_count S)) 0 items (reaches_bare (page_count S))).reads page

-- a list of such pages has such pages alone
page_below : (P : ℕ) (p : Listed) (g : ℕ) → AllBelow P p.pages → g < P → AllBelow P (with_page p g).pages
page_below P p g all lt = go (has g p.pages) (length p.pages == listed_limit)
  where
    go : (a b : Bool) → AllBelow P (cond a p (cond b (record p { full = true }) (record p { pages = p.pages ++ g ∷ [] }))).pages
    go true b = all
    go false true = all
    go false false = both_below P p.pages (g ∷ []) all (lt, tt)

pub listed_below : (P : ℕ) (p : Listed) (gs : List ℕ) → AllBelow P p.pages → AllBelow P gs → AllBelow P (with_pages p gs).pages
unfolding with_pages
listed_below P p [] all more = all
listed_below P p (g ∷ gs) all more = listed_below P (with_page p g) gs (page_below P p g all more.0) more.1

-- the blocks of the machines on a path
pub blocks_below : (S : List ℕ) (items : List Item) → pin_of S (map syllable_of items) ≡ Some items → AllBelow (page_count S) (blocks_of items)
blocks_below S items pinned = go items (λ i x is. (pinned_fits S items i x pinned is).block)
  where
    go : (xs : List Item) → ((i : ℕ) (x : Item) → slice_get xs i ≡ Some x → x.block < page_count S) → AllBelow (page_count S) (blocks_of xs)
    go [] all = tt
    go (x ∷ xs) all = (all 0 x refl, go xs (λ i y is. all (suc i) y is))

pub below_more : (P Q : ℕ) (gs : List ℕ) → P ≤ Q → AllBelow P gs → AllBelow Q gs
below_more P Q [] le all = tt
below_more P Q (g ∷ gs) le all = let h : g < P = all.0 in (omega (arith, h, le), below_more P Q gs le all.1)
