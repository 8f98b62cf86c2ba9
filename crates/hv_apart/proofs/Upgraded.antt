-- Which words an upgrade changes, and that it changes no others.
use Rattle.std.proofs.Common.{◌≡◌, ◌≢◌, ℕ, ◌+◌, ◌-◌, ◌*◌, ◌/◌, ◌%◌, ◌^◌, ◌<◌, ◌≤◌, inl, inr, true, false, List, [], ◌∷◌, ◌++◌, length, Option, Some, None, refl, ap, ◌∙◌, sym, subst, arith, slice_get}
use Rattle.std.specs.Option.{option_and_then, option_map, unwrap_or}
use Rattle.std.proofs.lemmas.Bool.{false≢true}
use Rattle.std.proofs.lemmas.Option.{same_Some}
use Rattle.hv_word.specs.Words.{has}
use Rattle.hv_word.specs.Storage.{page_count, word_at}
use Rattle.hv_store.specs.declared.access.Access.TheVariants.{Write}
use Rattle.hv_store.specs.declared.access.Slot.{Slot}
use Rattle.hv_store.specs.declared.access.Way.{Way}
use Rattle.hv_store.specs.declared.access.Way.TheVariants.{Open, Shut}
use Rattle.hv_store.specs.Access.{identity}
use Rattle.hv_map.specs.Apart.{blocks_of, is_apart, standing_on, table_open, table_pages, tables_of}
use Rattle.hv_map.specs.Carried.{OpensSame}
use Rattle.hv_map.specs.Chain.{along, map_along, pin_of}
use Rattle.hv_map.specs.Compose.{compose, reading, table_of}
use Rattle.hv_map.specs.Item.{Item}
use Rattle.hv_map.proofs.Machines.{OpensBelow, composed_below, identity_below, pinned_fits, pinned_own}
use Rattle.hv_map.proofs.Views.{along_same, identity_same}
use Rattle.hv_apart.specs.Upgrade.{IsListed, IsUpgraded, directory_word, host_opened, last_item, outer_items, page_found, parent_map, rewritten, upgrade_refusal, upgraded, upgraded_in, with_directory_words, with_fetch, with_fetchable_table, with_version, written_in}
use Rattle.hv_apart.proofs.Members.{has_one, has_range, has_right, range_one}
use Rattle.hv_apart.proofs.Refusals.{IsUpgradable, upgradable}
use Rattle.hv_apart.proofs.Rewriting.{directory_at, directory_other, length-rewritten, length-with_directory_words, length-with_fetchable_table, table_at, table_other, version_directory, version_other, version_two}
use Rattle.hv_apart.proofs.Stood.{StandsAlone, split_last, stands_alone, stands_on_block, stands_on_own, table_there}

-- a page that is written in a bare page has a slot that opens it for writing
pub record WrittenSlot (F : List Slot) (u g : ℕ) : Type 0 where
  pub slot : Slot
  pub there : slice_get F u ≡ Some slot
  pub opens : slot.write ≡ Open g

pub written_slot : (F : List Slot) (u g : ℕ) → written_in F u ≡ Some g → WrittenSlot F u g
written_slot F u g e = go (slice_get F u) refl e
  where
    through : (s : Slot) (way : Way) → slice_get F u ≡ Some s → s.write ≡ way → host_opened way ≡ Some g → WrittenSlot F u g
    through s (Open h) is w f = record { slot = s; there = is; opens = w ∙ ap (λ (k : ℕ). Open k) (same_Some h g f) }
    through s (Shut l c p o) is w f = absurd (let q : None ≡ Some g = f in cc)

    go : (o : Option Slot) → slice_get F u ≡ o → option_and_then (λ (s : Slot). host_opened s.write) o ≡ Some g → WrittenSlot F u g
    go None is f = absurd (let q : None ≡ Some g = f in cc)
    go (Some s) is f = through s s.write is refl f

-- where a map opens the same page for writing as for reading, it can be read there too
pub written_reads : (F : List Slot) (u g : ℕ) → OpensSame F → written_in F u ≡ Some g → reading F u ≡ Some (Open g)
written_reads F u g same e =
    let s = written_slot F u g e in
    ap (option_map (λ (r : Slot). r.read)) s.there ∙ ap Some (same u s.slot Write g s.there s.opens)

-- the maps of machines on a path open pages of the storage, for writing the same as for reading
along_opens : (P : ℕ) (S : List ℕ) (F : List Slot) (j : ℕ) (xs : List Item) → OpensBelow P F → OpensBelow P (along S F j xs)
unfolding along
along_opens P S F j [] below = below
along_opens P S F j (x ∷ xs) below =
    along_opens P S (compose S F j x.pages x.table x.version) (j + 1) xs (composed_below P S F j x.pages x.table x.version below)

pub maps_below : (S : List ℕ) (items : List Item) → OpensBelow (page_count S) (map_along S items)
unfolding map_along
maps_below S items = along_opens (page_count S) S (identity (page_count S)) 0 items (identity_below (page_count S))

pub maps_same : (S : List ℕ) (items : List Item) → OpensSame (map_along S items)
unfolding map_along
maps_same S items = along_same S (identity (page_count S)) 0 items (identity_same (page_count S))

pub written_below : (S : List ℕ) (items : List Item) (u g : ℕ) → written_in (map_along S items) u ≡ Some g → g < page_count S
written_below S items u g e =
    let s = written_slot (map_along S items) u g e in
    maps_below S items u s.slot Write g s.there s.opens

-- a page of the table, where it is written, is one on which the machine stands
pub own_page : (S : List ℕ) (outer : List Item) (x : Item) (k g : ℕ) → x.version ≢ 2 → k < table_pages x.pages → written_in (map_along S outer) (x.table + k) ≡ Some g → has g (tables_of S (map_along S outer) (length outer) x) ≡ true
own_page S outer x k g plain lt e =
    has_range (λ n. table_open (map_along S outer) (table_of S (reading (map_along S outer)) (length outer) x.table x.version (1024 * n))) 0 (table_pages x.pages) k g (omega arith) (omega arith)
    (table_there S (map_along S outer) (length outer) x k g plain (written_reads (map_along S outer) (x.table + k) g (maps_same S outer) e))

-- the last machine x of those on a path is behind others, all its pages are found, and nothing is refused
pub record Upgrading (S : List ℕ) (items outer : List Item) (x : Item) (dir : ℕ) : Type 0 where
  pub split : items ≡ outer ++ x ∷ []
  pub can : IsUpgradable S items (map_along S outer) x dir
  pub alone : StandsAlone S outer (map_along S outer) x
  pub block : x.block < page_count S
  pub pages : x.pages ≤ 2 ^ 20

pub upgrading : (S path : List ℕ) (items : List Item) (x : Item) (dir : ℕ) → pin_of S path ≡ Some items → last_item items ≡ Some x → upgrade_refusal S items dir ≡ None → Upgrading S items (outer_items items) x dir
upgrading S path items x dir pinned last none =
    let split : items ≡ outer_items items ++ x ∷ [] = split_last items x last in
    let can = upgradable S items x dir last none in
    let fits = pinned_fits S items (length items - 1) x (pinned_own S path items pinned) last in
    record {
      split = split;
      can = can;
      alone = stands_alone S (outer_items items) x (ap (is_apart S) (sym split) ∙ can.apart);
      block = fits.block;
      pages = fits.pages;
    }

-- what is written, where the parent has the map F
module _ (S : List ℕ) (items outer : List Item) (x : Item) (dir : ℕ) (up : Upgrading S items outer x dir) where
  -- the parent's map, the directory's bare page and those of the table
  F : List Slot
  F = map_along S outer

  d : ℕ
  d = page_found (written_in (map_along S outer) dir)

  table : ℕ → ℕ
  table k = page_found (written_in (map_along S outer) (x.table + k))

  T : List ℕ
  T = upgraded_in S (map_along S outer) x dir

  -- a page of the table is one on which the machine stands
  own_there : (k : ℕ) → k < table_pages x.pages → has (table k) (table_open F (table_of S (reading F) (length outer) x.table x.version (1024 * k))) ≡ true
  unfolding F table
  own_there k lt =
      table_there S (map_along S outer) (length outer) x k (table k) up.can.version
      (written_reads (map_along S outer) (x.table + k) (table k) (maps_same S outer) (up.can.tables_written k lt))

  own_has : (k : ℕ) → k < table_pages x.pages → has (table k) (tables_of S F (length outer) x) ≡ true
  unfolding F table
  own_has k lt = own_page S outer x k (table k) up.can.version lt (up.can.tables_written k lt)

  -- no two lie in one bare page
  own_one : (k m : ℕ) → k < table_pages x.pages → m < table_pages x.pages → table k ≡ table m → k ≡ m
  unfolding F
  own_one k m low high same =
      range_one (λ n. table_open (map_along S outer) (table_of S (reading (map_along S outer)) (length outer) x.table x.version (1024 * n))) (table_pages x.pages) k m (table k) up.alone.tables low high (own_there k low)
      (subst (λ (g : ℕ). has g (table_open (map_along S outer) (table_of S (reading (map_along S outer)) (length outer) x.table x.version (1024 * m))) ≡ true) (sym same) (own_there m high))

  own_below : (k : ℕ) → k < table_pages x.pages → table k < page_count S
  unfolding table
  own_below k lt = written_below S outer (x.table + k) (table k) (up.can.tables_written k lt)

  d_below : d < page_count S
  unfolding d
  d_below = written_below S outer dir d up.can.written

  -- the directory's page is none on which the machine stands
  not_stood : (p : ℕ) → has p (standing_on S (outer ++ x ∷ [])) ≡ true → p ≢ d
  unfolding d
  not_stood p h e =
      let free : has d (standing_on S (outer ++ x ∷ [])) ≡ false = ap (λ (xs : List Item). has d (standing_on S xs)) (sym up.split) ∙ up.can.free in
      false≢true (sym free ∙ ap (λ (q : ℕ). has q (standing_on S (outer ++ x ∷ []))) (sym e) ∙ h)

  d_block : x.block ≢ d
  d_block = not_stood x.block (stands_on_block S outer x x.block (has_right x.block (blocks_of outer) (x.block ∷ []) (has_one x.block)))

  d_table : (k : ℕ) → k < table_pages x.pages → table k ≢ d
  unfolding F
  d_table k lt = not_stood (table k) (stands_on_own S outer x (table k) (own_has k lt))

  block_table : (k : ℕ) → k < table_pages x.pages → table k ≢ x.block
  unfolding F
  block_table k lt = up.alone.own (table k) (own_has k lt)

  -- the storage part by part
  made : List ℕ
  made = with_directory_words S d x.table (table_pages x.pages)

  tabled : List ℕ
  tabled = with_fetchable_table (with_directory_words S d x.table (table_pages x.pages)) table x.pages

  made_pages : page_count made ≡ page_count S
  unfolding made
  made_pages = ap (λ (n : ℕ). n / 1024) (length-with_directory_words S d x.table (table_pages x.pages))

  tabled_pages : page_count tabled ≡ page_count S
  unfolding tabled made
  tabled_pages = ap (λ (n : ℕ). n / 1024) (length-with_fetchable_table made table x.pages) ∙ made_pages

  parts : T ≡ with_version tabled x.block dir
  unfolding T d table tabled rewritten
  parts = refl

  -- a word of another page than the block's, and one that is none of the table
  past_block : (g w : ℕ) → w < 1024 → g ≢ x.block → word_at T g w ≡ word_at tabled g w
  past_block g w low ne =
      ap (λ (U : List ℕ). word_at U g w) parts ∙ version_other tabled x.block dir g w low (λ e k. ne e)

  past_table : (g w : ℕ) → w < 1024 → ((i : ℕ) → i < x.pages → table (i / 1024) ≡ g → w ≡ i % 1024 → ⊥) → word_at tabled g w ≡ word_at made g w
  unfolding tabled made
  past_table g w low out = table_other made table x.pages g w low out

  page_of : (i : ℕ) → i < x.pages → i / 1024 < table_pages x.pages
  page_of i lt = omega arith

  directory_words : (w : ℕ) → w < 1024 → word_at T d w ≡ directory_word x.table (table_pages x.pages) w
  unfolding made
  directory_words w low =
      let below : d < page_count S = d_below in
      past_block d w low (λ e. d_block (sym e))
      ∙ past_table d w low (λ i lt e k. d_table (i / 1024) (page_of i lt) e)
      ∙ directory_at S d x.table (table_pages x.pages) w (omega (arith, below)) low

  table_words : (i : ℕ) → i < x.pages → word_at T (table (i / 1024)) (i % 1024) ≡ with_fetch (word_at S (table (i / 1024)) (i % 1024))
  unfolding tabled made
  table_words i lt =
      let page = page_of i lt in
      let low : i % 1024 < 1024 = omega arith in
      past_block (table (i / 1024)) (i % 1024) low (block_table (i / 1024) page)
      ∙ table_at made table x.pages i own_one (λ k high. subst (λ (P : ℕ). table k < P) (sym made_pages) (own_below k high)) lt
      ∙ ap with_fetch (directory_other S d x.table (table_pages x.pages) (table (i / 1024)) (i % 1024) (d_table (i / 1024) page) low)

  other_words : (g w : ℕ) → w < 1024 → (IsListed F x dir g w → ⊥) → word_at T g w ≡ word_at S g w
  unfolding F d table made
  other_words g w low out =
      ap (λ (U : List ℕ). word_at U g w) parts
      ∙ version_other tabled x.block dir g w low (λ e k. out (inr (inr (e, k))))
      ∙ past_table g w low (λ i lt e k. out (inr (inl (i, lt, up.can.tables_written (i / 1024) (page_of i lt) ∙ ap Some e, k))))
      ∙ directory_other S d x.table (table_pages x.pages) g w (λ e. out (inl (up.can.written ∙ ap Some (sym e)))) low

  pub is_upgraded : IsUpgraded S (upgraded_in S (map_along S outer) x dir) (map_along S outer) x dir
  unfolding F d table T
  is_upgraded =
      let inside : x.block < page_count tabled = subst (λ (P : ℕ). x.block < P) (sym tabled_pages) up.block in
      record {
        directory = λ g w e low.
            let same : d ≡ g = same_Some d g (sym up.can.written ∙ e) in
            subst (λ (p : ℕ). word_at T p w ≡ directory_word x.table (table_pages x.pages) w) same (directory_words w low);
        table = λ i g lt e.
            let same : table (i / 1024) ≡ g = same_Some (table (i / 1024)) g (sym (up.can.tables_written (i / 1024) (page_of i lt)) ∙ e) in
            subst (λ (p : ℕ). word_at T p (i % 1024) ≡ with_fetch (word_at S p (i % 1024))) same (table_words i lt);
        directory_page = ap (λ (U : List ℕ). word_at U x.block 66) parts ∙ version_directory tabled x.block dir inside;
        version = ap (λ (U : List ℕ). word_at U x.block 67) parts ∙ version_two tabled x.block dir inside;
        stays = record {
          len = length-rewritten S x dir d table;
          words = other_words;
        };
      }

-- what is written is what the last machine is upgraded to
pub upgraded_last : (S : List ℕ) (items : List Item) (x : Item) (dir : ℕ) → last_item items ≡ Some x → upgraded S items dir ≡ upgraded_in S (parent_map S items) x dir
upgraded_last S items x dir last =
    ap (λ (o : Option Item). unwrap_or (option_map (λ (y : Item). upgraded_in S (parent_map S items) y dir) o) S) last

pub words_law : (S path : List ℕ) (items : List Item) (x : Item) (dir : ℕ) → pin_of S path ≡ Some items → last_item items ≡ Some x → upgrade_refusal S items dir ≡ None → IsUpgraded S (upgraded S items dir) (parent_map S items) x dir
words_law S path items x dir pinned last none =
    subst (λ (T : List ℕ). IsUpgraded S T (parent_map S items) x dir) (sym (upgraded_last S items x dir last))
    (is_upgraded S items (outer_items items) x dir (upgrading S path items x dir pinned last none))
