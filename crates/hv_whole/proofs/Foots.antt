-- Which places a machine's foot has, and what stays where the words at those places stay.
use Rattle.std.proofs.Common.{◌≡◌, ◌≢◌, ℕ, ◌+◌, ◌*◌, ◌<◌, ◌⊎◌, inl, inr, List, [], ◌∷◌, ◌++◌, map, Option, Some, None, refl, ◌∙◌, sym, subst, arith}
use Rattle.std.specs.Prelude.{◌/◌, ◌%◌}
use Rattle.std.specs.List.{range_with_len, flat_map}
use Rattle.std.proofs.lemmas.Option.{same_Some}
use Rattle.hv_word.specs.Storage.{page_count}
use Rattle.hv_store.specs.declared.access.Access.TheVariants.{Read}
use Rattle.hv_store.specs.declared.access.Slot.{Slot}
use Rattle.hv_store.specs.Access.{identity}
use Rattle.hv_block.specs.Block.{IsOther}
use Rattle.hv_map.specs.Item.{Item}
use Rattle.hv_map.specs.Compose.{compose, reading, table_of}
use Rattle.hv_map.specs.Chain.{map_along}
use Rattle.hv_map.specs.Apart.{table_pages, table_open, directory_of, open_pages}
use Rattle.hv_map.specs.Carried.{Opens}
use Rattle.hv_map.specs.Words.{EachChain}
use Rattle.hv_map.proofs.Words.{each_chain}
use Rattle.hv_nest.specs.Watched.{places, chain_foot, last_block, own_places, page_foot, standing_places, but_lines, foot}
use Rattle.hv_whole.specs.Linked.{EachBlock, Unread, Aside, Alone}
use Rattle.hv_whole.proofs.Members.{Has, has_left, has_right, has_range, has_joined, has_below, has_mapped, has_still}
use Rattle.hv_whole.proofs.Apartness.{has_opened, has_directory}

-- the words that the map along the machines is read from
pub chain_has : (S : List ℕ) (F : List Slot) (j : ℕ) (xs : List Item) → EachChain (λ g w. Has (1024 * g + w) (chain_foot S F j xs)) S F j xs
unfolding chain_foot
chain_has S F j [] = tt
chain_has S F j (x ∷ xs) =
    let G : List Slot = compose S F j x.pages x.table x.version in
    let block : List ℕ = places x.block (65 ∷ 66 ∷ 67 ∷ []) in
    let directory : List ℕ = flat_map (λ d. places d (range_with_len 0 (table_pages x.pages))) (directory_of F x) in
    let tables : List ℕ = flat_map (λ i. map (λ g. 1024 * g + i % 1024) (table_open F (table_of S (reading F) j x.table x.version i))) (range_with_len 0 x.pages) in
    let rest : List ℕ = chain_foot S G (j + 1) xs in
    let first : (a : ℕ) → Has a (block ++ (directory ++ tables)) → Has a ((block ++ (directory ++ tables)) ++ rest) = (λ a h. has_left a (block ++ (directory ++ tables)) rest h) in
    let in_block : (k : ℕ) → Has k (65 ∷ 66 ∷ 67 ∷ []) → Has (1024 * x.block + k) ((block ++ (directory ++ tables)) ++ rest) =
    (λ k h. first (1024 * x.block + k) (has_left (1024 * x.block + k) block (directory ++ tables) (has_mapped (λ n. 1024 * x.block + n) k (65 ∷ 66 ∷ 67 ∷ []) h)))
    in (
      record {
        pages = in_block 65 (inl refl);
        table = in_block 66 (inr (inl refl));
        version = in_block 67 (inr (inr (inl refl)));
        words = record {
          directory = λ i g h v e.
              let k : ℕ = i / 1024 in
              let inside : k < 0 + table_pages x.pages = omega (arith, h) in
              first (1024 * g + k)
              (has_right (1024 * g + k) block (directory ++ tables)
              (has_left (1024 * g + k) directory tables
              (has_joined (λ d. places d (range_with_len 0 (table_pages x.pages))) (directory_of F x) g (1024 * g + k) (has_directory F x g v e)
              (has_mapped (λ n. 1024 * g + n) k (range_with_len 0 (table_pages x.pages)) (has_below 0 (table_pages x.pages) k (omega arith) inside)))));
          table = λ i u g h t e.
              first (1024 * g + i % 1024)
              (has_right (1024 * g + i % 1024) block (directory ++ tables)
              (has_right (1024 * g + i % 1024) directory tables
              (has_range (λ n. map (λ d. 1024 * d + n % 1024) (table_open F (table_of S (reading F) j x.table x.version n))) 0 x.pages i (1024 * g + i % 1024) (omega arith) (omega (arith, h))
              (rw (t, e) (inl refl)))));
        };
      },
      each_chain (λ g w. Has (1024 * g + w) rest) (λ g w. Has (1024 * g + w) ((block ++ (directory ++ tables)) ++ rest)) (λ g w h. has_right (1024 * g + w) (block ++ (directory ++ tables)) rest h) S G (j + 1) xs (chain_has S G (j + 1) xs),
    )

-- what holds of each word, and follows from two facts
module _ (P Q R : ℕ → ℕ → Type 0) (step : (g w : ℕ) → P g w → Q g w → R g w) where
  pub each_both : (S : List ℕ) (F : List Slot) (j : ℕ) (xs : List Item) → EachChain P S F j xs → EachChain Q S F j xs → EachChain R S F j xs
  each_both S F j [] p q = tt
  each_both S F j (x ∷ xs) p q = (
    record {
      pages = step x.block 65 p.0.pages q.0.pages;
      table = step x.block 66 p.0.table q.0.table;
      version = step x.block 67 p.0.version q.0.version;
      words = record {
        directory = λ i g h e r. step g (i / 1024) (p.0.words.directory i g h e r) (q.0.words.directory i g h e r);
        table = λ i u g h e r. step g (i % 1024) (p.0.words.table i u g h e r) (q.0.words.table i u g h e r);
      };
    },
    each_both S (compose S F j x.pages x.table x.version) (j + 1) xs p.1 q.1,
  )

-- the last block is one of the blocks
pub last_each : (P : ℕ → Type 0) (items : List Item) (b : ℕ) → EachBlock P items → last_block items ≡ Some b → P b
last_each P [] b each e = absurd (let f : None ≡ Some b = e in cc)
last_each P (x ∷ []) b each e = subst P (same_Some x.block b e) each.0
last_each P (x ∷ (y ∷ ys)) b each e = last_each P (y ∷ ys) b each.1 e

-- a place is in the foot where it isn't that of the word with the lines
in_foot : (S : List ℕ) (items : List Item) (a : ℕ) → ((b : ℕ) → last_block items ≡ Some b → a ≢ 1024 * b + 42) → Has a (standing_places S items) → Has a (foot S items)
unfolding foot
in_foot S items a ne h = by (last_block items) ne
  where
    by : (o : Option ℕ) → ((b : ℕ) → o ≡ Some b → a ≢ 1024 * b + 42) → Has a (but_lines o (standing_places S items))
    by None ne = h
    by (Some b) ne = has_still a (1024 * b + 42) (standing_places S items) (ne b refl) h

-- a place of another page, or of another word of that page
other_word : (g w b : ℕ) → w < 1024 → (g ≢ b) ⊎ IsOther w → 1024 * g + w ≢ 1024 * b + 42
other_word g w b h (inl ne) e = ne (omega (arith, h, e))
other_word g w b h (inr o) e = omega (arith, h, o.0, e)

module _ (S : List ℕ) (items : List Item) where
  -- the words that the map is read from
  pub foot_chain : (F : List Slot) → Alone S items F → EachChain (λ g w. Has (1024 * g + w) (foot S items)) S (identity (page_count S)) 0 items
  unfolding standing_places
  foot_chain F stand =
      each_both (Aside F items) (λ g w. Has (1024 * g + w) (chain_foot S (identity (page_count S)) 0 items)) (λ g w. Has (1024 * g + w) (foot S items))
      (λ g w aside h.
      in_foot S items (1024 * g + w)
      (λ b e. other_word g w b aside.0 (last_each (λ c. (g ≢ c) ⊎ IsOther w) items b aside.2 e))
      (has_left (1024 * g + w) (chain_foot S (identity (page_count S)) 0 items) (own_places (last_block items) ++ page_foot (map_along S items)) h))
      S (identity (page_count S)) 0 items stand.chain (chain_has S (identity (page_count S)) 0 items)

  -- the words of a page that the machine can read
  page_has : (n : ℕ) (F : List Slot) (x w : ℕ) → w < n → Has x (open_pages F) → Has (1024 * x + w) (flat_map (λ g. places g (range_with_len 0 n)) (open_pages F))
  page_has n F x w h o =
      has_joined (λ g. places g (range_with_len 0 n)) (open_pages F) x (1024 * x + w) o
      (has_mapped (λ k. 1024 * x + k) w (range_with_len 0 n) (has_below 0 n w (omega arith) (omega (arith, h))))

  pub foot_page : Alone S items (map_along S items) → (x w : ℕ) → w < 1024 → Opens (map_along S items) Read x → Has (1024 * x + w) (foot S items)
  unfolding standing_places
  foot_page stand x w h o =
      in_foot S items (1024 * x + w)
      (λ b e f. last_each (Unread (map_along S items)) items b stand.unread e (subst (Opens (map_along S items) Read) (page_of x b f) o))
      (has_right (1024 * x + w) (chain_foot S (identity (page_count S)) 0 items) (own_places (last_block items) ++ page_foot (map_along S items))
      (has_right (1024 * x + w) (own_places (last_block items)) (page_foot (map_along S items))
      (page_has 1024 (map_along S items) x w h (has_opened (map_along S items) x o))))
    where
      page_of : (x b : ℕ) → 1024 * x + w ≡ 1024 * b + 42 → x ≡ b
      page_of x b f = omega (arith, h, f)

  -- the words of the last block that hold registers, but for that with the lines
  pub foot_own : (b k : ℕ) → last_block items ≡ Some b → k < 1024 → k ≢ 42 → Has k (range_with_len 0 42 ++ (range_with_len 43 6 ++ 64 ∷ [])) → Has (1024 * b + k) (foot S items)
  unfolding standing_places
  foot_own b k e low ne h =
      in_foot S items (1024 * b + k)
      (λ d f g. ne (let same : b ≡ d = same_Some b d (sym e ∙ f) in omega (arith, low)))
      (has_right (1024 * b + k) (chain_foot S (identity (page_count S)) 0 items) (own_places (last_block items) ++ page_foot (map_along S items))
      (has_left (1024 * b + k) (own_places (last_block items)) (page_foot (map_along S items))
      (rw e (has_mapped (λ n. 1024 * b + n) k (range_with_len 0 42 ++ (range_with_len 43 6 ++ 64 ∷ [])) h))))
