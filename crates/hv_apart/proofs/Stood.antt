-- The pages of blocks, directories and tables on which machines stand, and what follows where these are all different.
use Rattle.std.proofs.Common.{◌≡◌, ◌≢◌, ℕ, ◌+◌, ◌-◌, ◌*◌, ◌/◌, ◌%◌, ◌<◌, ◌≤◌, Bool, true, false, cond, List, [], ◌∷◌, ◌++◌, length, Option, Some, None, ap, ◌∙◌, sym, subst, arith}
use Rattle.std.specs.Prelude.{◌==◌}
use Rattle.std.proofs.lemmas.Bool.{eq-eqb}
use Rattle.std.proofs.lemmas.List.{map_push, take_all}
use Rattle.std.proofs.lemmas.Option.{slice_get_within}
use Rattle.hv_word.specs.Words.{has}
use Rattle.hv_word.specs.Storage.{page_count, word_at}
use Rattle.hv_store.specs.declared.access.Slot.{Slot}
use Rattle.hv_store.specs.declared.access.Way.{Way}
use Rattle.hv_store.specs.declared.access.Way.TheVariants.{Open, Shut}
use Rattle.hv_store.specs.Access.{identity}
use Rattle.hv_map.specs.Apart.{are_distinct, blocks_of, directory_of, is_apart, open_pages, standing_on, table_open, table_pages, tables_along, tables_of}
use Rattle.hv_map.specs.Chain.{along, map_along}
use Rattle.hv_map.specs.Compose.{EachTableWord, Named, Stopped, look, page_named, reading, table_of}
use Rattle.hv_map.specs.Item.{Item}
use Rattle.hv_map.proofs.Rows.{table_plain}
use Rattle.hv_apart.specs.Upgrade.{last_item, outer_items}
use Rattle.hv_apart.proofs.Growing.{tables_along-push, take-push}
use Rattle.hv_apart.proofs.Members.{has_left, has_one, has_range, has_right, parted}

-- the table page of page i is that of the first page whose word is in it
named_page : (S : List ℕ) (j i k w u : ℕ) (way : Option Way) → page_named (look S j i w way) ≡ Named u → page_named (look S j k w way) ≡ Named u
named_page S j i k w u None e = absurd (let f : Stopped (Shut j 4 i None) ≡ Named u = e in cc)
named_page S j i k w u (Some (Open g)) e = by (word_at S g w % 2 == 0) e
  where
    by : (b : Bool) → page_named (cond b (Stopped (Shut j 1 i None)) (Named (word_at S g w))) ≡ Named u → page_named (cond b (Stopped (Shut j 1 k None)) (Named (word_at S g w))) ≡ Named u
    by true f = absurd (let h : Stopped (Shut j 1 i None) ≡ Named u = f in cc)
    by false f = f
named_page S j i k w u (Some (Shut l c p o)) e = e

table_first : (S : List ℕ) (reads : ℕ → Option Way) (j t v i u : ℕ) → table_of S reads j t v i ≡ Named u → table_of S reads j t v (1024 * (i / 1024)) ≡ Named u
table_first S reads j t v i u e = by (v == 2) e
  where
    same : 1024 * (i / 1024) / 1024 ≡ i / 1024
    same = omega arith

    by : (b : Bool) → cond b (page_named (look S j i (i / 1024) (reads t))) (Named (t + i / 1024)) ≡ Named u
        → cond b (page_named (look S j (1024 * (i / 1024)) (1024 * (i / 1024) / 1024) (reads t))) (Named (t + 1024 * (i / 1024) / 1024)) ≡ Named u
    by true f = rw same (named_page S j i (1024 * (i / 1024)) (i / 1024) u (reads t) f)
    by false f = rw same f

has_directory : (F : List Slot) (x : Item) (g : ℕ) → x.version ≡ 2 → reading F x.table ≡ Some (Open g) → has g (directory_of F x) ≡ true
has_directory F x g v e = rw (eq-eqb x.version 2 v, e) (has_one g)

has_table : (S : List ℕ) (F : List Slot) (j : ℕ) (x : Item) (i u g : ℕ) → i < x.pages → table_of S (reading F) j x.table x.version i ≡ Named u → reading F u ≡ Some (Open g) → has g (tables_of S F j x) ≡ true
has_table S F j x i u g h e p =
    let inside : i / 1024 < 0 + table_pages x.pages = omega arith in
    has_range (λ k. table_open F (table_of S (reading F) j x.table x.version (1024 * k))) 0 (table_pages x.pages) (i / 1024) g (omega arith) inside
    (rw (table_first S (reading F) j x.table x.version i u e, p) (has_one g))

-- what holds of all words of these pages holds of those that the child's map is read from
pub each_table_word : (P : ℕ → ℕ → Type 0) (S : List ℕ) (F : List Slot) (j : ℕ) (x : Item) → x.pages ≤ 1048576
    → ((g w : ℕ) → w < 1024 → has g (directory_of F x ++ tables_of S F j x) ≡ true → P g w)
    → EachTableWord P S F j x.pages x.table x.version
each_table_word P S F j x sized all = record {
  directory = λ i g h v e.
      all g (i / 1024) (omega (arith, h, sized)) (has_left g (directory_of F x) (tables_of S F j x) (has_directory F x g v e));
  table = λ i u g h t e.
      all g (i % 1024) (omega arith) (has_right g (directory_of F x) (tables_of S F j x) (has_table S F j x i u g h t e));
}

-- page k of a table of version 0
pub table_there : (S : List ℕ) (F : List Slot) (j : ℕ) (x : Item) (k g : ℕ) → x.version ≢ 2 → reading F (x.table + k) ≡ Some (Open g) → has g (table_open F (table_of S (reading F) j x.table x.version (1024 * k))) ≡ true
table_there S F j x k g plain e =
    let same : 1024 * k / 1024 ≡ k = omega arith in
    let named : table_of S (reading F) j x.table x.version (1024 * k) ≡ Named (x.table + k) =
    table_plain S (reading F) j x.table x.version (1024 * k) plain ∙ ap (λ (m : ℕ). Named (x.table + m)) same
    in
    rw (named, e) (has_one g)

-- the machines are those around the last one, and then this
pub split_last : (items : List Item) (x : Item) → last_item items ≡ Some x → items ≡ outer_items items ++ x ∷ []
split_last items x last =
    let inside : length items - 1 < length items = slice_get_within items (length items - 1) x last in
    sym (take_all (length items - 1 + 1) items (omega arith)) ∙ take-push Item items (length items - 1) x last

-- What follows for the last machine x where all is different, F being its parent's map: nothing else on the way stands
-- in its block's page or in a page of its table, and no two pages of that lie in one.
pub record StandsAlone (S : List ℕ) (outer : List Item) (F : List Slot) (x : Item) : Type 0 where
  pub block : (p : ℕ) → has p (blocks_of outer) ≡ true → p ≢ x.block
  pub table : (p : ℕ) → has p (tables_along S (identity (page_count S)) 0 outer) ≡ true → p ≢ x.block
  pub block_tables :
      (p g : ℕ) → has p (blocks_of outer) ≡ true → has g (tables_of S F (length outer) x) ≡ true → p ≢ g
  pub table_tables :
      (p g : ℕ)
      → has p (tables_along S (identity (page_count S)) 0 outer) ≡ true
      → has g (tables_of S F (length outer) x) ≡ true
      → p ≢ g
  pub own : (g : ℕ) → has g (tables_of S F (length outer) x) ≡ true → g ≢ x.block
  pub tables : are_distinct (tables_of S F (length outer) x) ≡ true

-- the list of all pages, with the last machine's apart
pub standing_parts : (S : List ℕ) (outer : List Item) (x : Item)
    → standing_on S (outer ++ x ∷ [])
    ≡ (blocks_of outer ++ x.block ∷ [])
    ++ ((tables_along S (identity (page_count S)) 0 outer ++ (directory_of (map_along S outer) x ++ tables_of S (map_along S outer) (length outer) x))
    ++ open_pages (map_along S (outer ++ x ∷ [])))
unfolding map_along
standing_parts S outer x =
    let I = identity (page_count S) in
    let level : 0 + length outer ≡ length outer = omega arith in
    let opens = open_pages (along S I 0 (outer ++ x ∷ [])) in
    ap (λ (bs : List ℕ). bs ++ (tables_along S I 0 (outer ++ x ∷ []) ++ opens)) (map_push (λ (y : Item). y.block) outer x)
    ∙ ap (λ (ts : List ℕ). (blocks_of outer ++ x.block ∷ []) ++ (ts ++ opens)) (tables_along-push S I 0 outer x)
    ∙ ap (λ (j : ℕ). (blocks_of outer ++ x.block ∷ []) ++ ((tables_along S I 0 outer ++ (directory_of (along S I 0 outer) x ++ tables_of S (along S I 0 outer) j x)) ++ opens)) level

module _ (S : List ℕ) (outer : List Item) (x : Item) where
  -- that list, and its parts
  blocks : List ℕ
  blocks = blocks_of outer

  tables : List ℕ
  tables = tables_along S (identity (page_count S)) 0 outer

  directory : List ℕ
  directory = directory_of (map_along S outer) x

  own : List ℕ
  own = tables_of S (map_along S outer) (length outer) x

  opens : List ℕ
  opens = open_pages (map_along S (outer ++ x ∷ []))

  pub stands_alone : is_apart S (outer ++ x ∷ []) ≡ true → StandsAlone S outer (map_along S outer) x
  unfolding blocks tables directory own opens
  stands_alone e =
      let all = parted (blocks ++ x.block ∷ []) ((tables ++ (directory ++ own)) ++ opens) (ap are_distinct (sym (standing_parts S outer x)) ∙ e) in
      let b = parted blocks (x.block ∷ []) all.first in
      let t = parted (tables ++ (directory ++ own)) opens all.last in
      let r = parted tables (directory ++ own) t.first in
      let o = parted directory own r.last in
      record {
        block = λ p h q. b.apart p h (subst (λ (k : ℕ). has p (k ∷ []) ≡ true) q (has_one p));
        table = λ p h q.
            all.apart x.block (has_right x.block blocks (x.block ∷ []) (has_one x.block))
            (has_left x.block (tables ++ (directory ++ own)) opens (has_left x.block tables (directory ++ own) (subst (λ (k : ℕ). has k tables ≡ true) q h)));
        block_tables = λ p g h k q.
            all.apart p (has_left p blocks (x.block ∷ []) h)
            (has_left p (tables ++ (directory ++ own)) opens (has_right p tables (directory ++ own) (has_right p directory own (subst (λ (m : ℕ). has m own ≡ true) (sym q) k))));
        table_tables = λ p g h k q.
            r.apart p h (has_right p directory own (subst (λ (m : ℕ). has m own ≡ true) (sym q) k));
        own = λ g k q.
            all.apart x.block (has_right x.block blocks (x.block ∷ []) (has_one x.block))
            (has_left x.block (tables ++ (directory ++ own)) opens (has_right x.block tables (directory ++ own) (has_right x.block directory own (subst (λ (m : ℕ). has m own ≡ true) q k))));
        tables = o.last;
      }

  -- and each of these pages is one on which the machine stands
  pub stands_on_block : (p : ℕ) → has p (blocks_of outer ++ x.block ∷ []) ≡ true → has p (standing_on S (outer ++ x ∷ [])) ≡ true
  unfolding blocks tables directory own opens
  stands_on_block p h =
      ap (has p) (standing_parts S outer x) ∙ has_left p (blocks ++ x.block ∷ []) ((tables ++ (directory ++ own)) ++ opens) h

  pub stands_on_table : (p : ℕ) → has p (tables_along S (identity (page_count S)) 0 outer) ≡ true → has p (standing_on S (outer ++ x ∷ [])) ≡ true
  unfolding blocks tables directory own opens
  stands_on_table p h =
      ap (has p) (standing_parts S outer x)
      ∙ has_right p (blocks ++ x.block ∷ []) ((tables ++ (directory ++ own)) ++ opens)
      (has_left p (tables ++ (directory ++ own)) opens (has_left p tables (directory ++ own) h))

  pub stands_on_own : (p : ℕ) → has p (tables_of S (map_along S outer) (length outer) x) ≡ true → has p (standing_on S (outer ++ x ∷ [])) ≡ true
  unfolding blocks tables directory own opens
  stands_on_own p h =
      ap (has p) (standing_parts S outer x)
      ∙ has_right p (blocks ++ x.block ∷ []) ((tables ++ (directory ++ own)) ++ opens)
      (has_left p (tables ++ (directory ++ own)) opens (has_right p tables (directory ++ own) (has_right p directory own h)))
