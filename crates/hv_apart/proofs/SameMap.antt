-- An upgraded machine is on its path, and has the map that it had.
use Rattle.std.proofs.Common.{◌≡◌, ◌≢◌, ℕ, zero, suc, ◌+◌, ◌-◌, ◌/◌, ◌^◌, ◌<◌, ◌≤◌, ◌⊎◌, inl, inr, true, List, [], ◌∷◌, ◌++◌, length, Option, Some, None, refl, ap, ◌∙◌, sym, arith, slice_get, take}
use Rattle.std.specs.Option.{option_map, unwrap_or}
use Rattle.std.proofs.lemmas.Bool.{false≢true}
use Rattle.std.proofs.lemmas.Option.{slice_get-get_or}
use Rattle.std.proofs.Math.ListN.{get_or}
use Rattle.hv_word.specs.Words.{has}
use Rattle.hv_word.specs.Storage.{page_count, word_at}
use Rattle.hv_store.specs.declared.access.Slot.{Slot}
use Rattle.hv_store.specs.Access.{identity}
use Rattle.hv_map.specs.Apart.{blocks_of, standing_on, table_pages, tables_along, tables_of}
use Rattle.hv_map.specs.Chain.{along, machines, map_along, map_of, pin_of}
use Rattle.hv_map.specs.Compose.{compose}
use Rattle.hv_map.specs.Item.{Item}
use Rattle.hv_map.specs.Levels.{map_at}
use Rattle.hv_map.proofs.Levels.{pages_at-suc, pages_at-zero}
use Rattle.hv_map.proofs.Machines.{pinned_fits, pinned_own}
use Rattle.hv_map.proofs.Slots.{along-snoc}
use Rattle.hv_apart.specs.Upgrade.{IsListed, IsUpgraded, last_item, outer_items, page_found, parent_map, upgrade_refusal, upgraded, upgraded_in, written_in}
use Rattle.hv_apart.proofs.Members.{has_left, has_one, has_right}
use Rattle.hv_apart.proofs.Repinned.{child_again, composed_again, machines_again}
use Rattle.hv_apart.proofs.Stood.{stands_on_block, stands_on_table}
use Rattle.hv_apart.proofs.Upgraded.{Upgrading, is_upgraded, maps_same, own_page, upgraded_last, upgrading, written_reads}

-- an item of a list is there in a longer one
slice_first : (xs ys : List Item) (i : ℕ) (y : Item) → slice_get xs i ≡ Some y → slice_get (xs ++ ys) i ≡ Some y
slice_first [] ys i y e = absurd (let f : None ≡ Some y = e in cc)
slice_first (x ∷ xs) ys zero y e = e
slice_first (x ∷ xs) ys (suc i) y e = slice_first xs ys i y e

-- no machine on a path has more pages than a storage or a block can have
map_length : (S path : List ℕ) (items : List Item) (k : ℕ) → page_count S ≤ 2 ^ 20 → pin_of S path ≡ Some items → k ≤ length items → length (map_along S (take k items)) ≤ 2 ^ 20
unfolding map_at
map_length S path items zero small pinned le = omega (arith, pages_at-zero S items 0 refl, small)
map_length S path items (suc k) small pinned le =
    let none : Item = record { syllable = 0; block = 0; pages = 0; table = 0; version = 0 } in
    let y : Item = get_or items k none in
    let is : slice_get items k ≡ Some y = slice_get-get_or items k none (omega arith) in
    let next : suc k ≡ k + 1 = omega arith in
    omega (arith, pages_at-suc S items k (suc k) y is next, (pinned_fits S items k y (pinned_own S path items pinned) is).pages)

-- of the machine x behind others on a path
module _ (S path : List ℕ) (items outer : List Item) (x : Item) (dir : ℕ) (small : length (map_along S outer) ≤ 2 ^ 20) (pinned : pin_of S path ≡ Some items) (up : Upgrading S items outer x dir) where
  T : List ℕ
  T = upgraded_in S (map_along S outer) x dir

  words : IsUpgraded S T (map_along S outer) x dir
  unfolding T
  words = is_upgraded S items outer x dir up

  -- a page that is neither the directory's nor one of the table nor the block's stays
  page_stays : (p w : ℕ) → w < 1024
      → has p (standing_on S (outer ++ x ∷ [])) ≡ true
      → ((g : ℕ) → has g (tables_of S (map_along S outer) (length outer) x) ≡ true → p ≢ g)
      → (p ≡ x.block → (w ≡ 66) ⊎ (w ≡ 67) → ⊥)
      → word_at S p w ≡ word_at T p w
  page_stays p w low stood table block = sym (words.stays.words p w low listed)
    where
      free : has p (standing_on S (outer ++ x ∷ [])) ≡ true → written_in (map_along S outer) dir ≡ Some p → ⊥
      free h e =
          let same : page_found (written_in (map_along S outer) dir) ≡ p = ap page_found e in
          false≢true
          (sym up.can.free
          ∙ ap (λ (q : ℕ). has q (standing_on S items)) same
          ∙ ap (λ (xs : List Item). has p (standing_on S xs)) up.split
          ∙ h)

      listed : IsListed (map_along S outer) x dir p w → ⊥
      listed (inl e) = free stood e
      listed (inr (inl h)) =
          let page : h.0 / 1024 < table_pages x.pages = omega (arith, h.1) in
          table p (own_page S outer x (h.0 / 1024) p up.can.version page h.2) refl
      listed (inr (inr h)) = block h.0 h.1

  blocks_stay : (p w : ℕ) → w < 1024 → has p (blocks_of outer) ≡ true → word_at S p w ≡ word_at T p w
  blocks_stay p w low h =
      page_stays p w low (stands_on_block S outer x p (has_left p (blocks_of outer) (x.block ∷ []) h))
      (λ g k. up.alone.block_tables p g h k)
      (λ e k. up.alone.block p h e)

  tables_stay : (p w : ℕ) → w < 1024 → has p (tables_along S (identity (page_count S)) 0 outer) ≡ true → word_at S p w ≡ word_at T p w
  tables_stay p w low h =
      page_stays p w low (stands_on_table S outer x p h)
      (λ g k. up.alone.table_tables p g h k)
      (λ e k. up.alone.table p h e)

  own_stays : (w : ℕ) → w < 66 → word_at S x.block w ≡ word_at T x.block w
  own_stays w lt =
      page_stays x.block w (omega arith) (stands_on_block S outer x x.block (has_right x.block (blocks_of outer) (x.block ∷ []) (has_one x.block)))
      (λ g k e. up.alone.own g k (sym e))
      (λ e k. not_those k)
    where
      not_those : (w ≡ 66) ⊎ (w ≡ 67) → ⊥
      not_those (inl e) = omega arith
      not_those (inr e) = omega arith

  same_pages : page_count T ≡ page_count S
  same_pages = ap (λ (n : ℕ). n / 1024) words.stays.len

  -- with its directory
  after : Item
  after = record x { table = dir; version = 2 }

  again : (machines T (identity (page_count S)) 0 path ≡ Some (outer ++ after ∷ [])) × (along T (identity (page_count S)) 0 outer ≡ along S (identity (page_count S)) 0 outer)
  unfolding after pin_of map_along
  again =
      let low : dir < 2 ^ 20 = omega (arith, up.can.directory, small) in
      machines_again S T (identity (page_count S)) 0 path outer x (record x { table = dir; version = 2 })
      (λ i y is. (pinned_fits S items i y (pinned_own S path items pinned) (ap (λ (xs : List Item). slice_get xs i) up.split ∙ slice_first outer (x ∷ []) i y is)).pages)
      blocks_stay tables_stay
      (λ s e. child_again S T (along S (identity (page_count S)) 0 outer) s dir x own_stays words.directory_page words.version low e)
      (pinned ∙ ap Some up.split)

  pub on_path : pin_of (upgraded_in S (map_along S outer) x dir) path ≡ Some (outer ++ record x { table = dir; version = 2 } ∷ [])
  unfolding T after pin_of
  on_path = ap (λ (P : ℕ). machines T (identity P) 0 path) same_pages ∙ again.0

  same_parent : map_along T outer ≡ map_along S outer
  unfolding map_along
  same_parent = ap (λ (P : ℕ). along T (identity P) 0 outer) same_pages ∙ again.1

  composed : compose T (map_along S outer) (length outer) x.pages dir 2 ≡ compose S (map_along S outer) (length outer) x.pages x.table x.version
  composed =
      composed_again S T (map_along S outer) (length outer) x dir
      (page_found (written_in (map_along S outer) dir))
      (λ k. page_found (written_in (map_along S outer) (x.table + k)))
      up.can.version up.pages (omega (arith, up.can.tables, small))
      (written_reads (map_along S outer) dir (page_found (written_in (map_along S outer) dir)) (maps_same S outer) up.can.written)
      (λ k lt. written_reads (map_along S outer) (x.table + k) (page_found (written_in (map_along S outer) (x.table + k))) (maps_same S outer) (up.can.tables_written k lt))
      (λ w low. words.directory (page_found (written_in (map_along S outer) dir)) w up.can.written low)
      (λ i lt.
      let page : i / 1024 < table_pages x.pages = omega arith in
      words.table i (page_found (written_in (map_along S outer) (x.table + i / 1024))) lt (up.can.tables_written (i / 1024) page))

  pub same_map : map_along (upgraded_in S (map_along S outer) x dir) (outer ++ record x { table = dir; version = 2 } ∷ []) ≡ map_along S items
  unfolding T map_along
  same_map =
      let level : 0 + length outer ≡ length outer = omega arith in
      along-snoc T (identity (page_count T)) 0 outer (record x { table = dir; version = 2 })
      ∙ ap (λ (j : ℕ). compose T (along T (identity (page_count T)) 0 outer) j x.pages dir 2) level
      ∙ ap (λ (G : List Slot). compose T G (length outer) x.pages dir 2) same_parent
      ∙ composed
      ∙ sym
      (ap (along S (identity (page_count S)) 0) up.split
      ∙ along-snoc S (identity (page_count S)) 0 outer x
      ∙ ap (λ (j : ℕ). compose S (along S (identity (page_count S)) 0 outer) j x.pages x.table x.version) level)

pub path_law : (S path : List ℕ) (items : List Item) (x : Item) (dir : ℕ) → page_count S ≤ 2 ^ 20 → pin_of S path ≡ Some items → last_item items ≡ Some x → upgrade_refusal S items dir ≡ None → pin_of (upgraded S items dir) path ≡ Some (outer_items items ++ record x { table = dir; version = 2 } ∷ [])
path_law S path items x dir small pinned last none =
    ap (λ (U : List ℕ). pin_of U path) (upgraded_last S items x dir last)
    ∙ on_path S path items (outer_items items) x dir (map_length S path items (length items - 1) small pinned (omega arith)) pinned (upgrading S path items x dir pinned last none)

pub map_law : (S path : List ℕ) (items : List Item) (dir : ℕ) → page_count S ≤ 2 ^ 20 → pin_of S path ≡ Some items → upgrade_refusal S items dir ≡ None → map_of (upgraded S items dir) path ≡ map_of S path
map_law S path items dir small pinned none = go (last_item items) refl
  where
    go : (o : Option Item) → last_item items ≡ o → map_of (upgraded S items dir) path ≡ map_of S path
    go None is =
        ap (λ (o : Option Item). map_of (unwrap_or (option_map (λ (y : Item). upgraded_in S (parent_map S items) y dir) o) S) path) is
    go (Some x) is =
        let T : List ℕ = upgraded S items dir in
        let there : pin_of T path ≡ Some (outer_items items ++ record x { table = dir; version = 2 } ∷ []) = path_law S path items x dir small pinned is none in
        ap (option_map (map_along T)) there
        ∙ ap (λ (U : List ℕ). Some (map_along U (outer_items items ++ record x { table = dir; version = 2 } ∷ []))) (upgraded_last S items x dir is)
        ∙ ap Some (same_map S path items (outer_items items) x dir (map_length S path items (length items - 1) small pinned (omega arith)) pinned (upgrading S path items x dir pinned is none))
        ∙ sym (ap (option_map (map_along S)) pinned)
