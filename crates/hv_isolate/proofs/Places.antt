-- What holds of each place that a machine stands on.
use Rattle.std.proofs.Common.{◌≡◌, ℕ, zero, suc, ◌+◌, ◌*◌, ◌<◌, ◌≤◌, inl, inr, Bool, true, false, cond, List, [], ◌∷◌, ◌++◌, map, Option, Some, None, refl, subst, arith}
use Rattle.std.specs.Prelude.{◌==◌, ◌/◌, ◌%◌}
use Rattle.std.specs.List.{range_with_len, flat_map}
use Rattle.std.proofs.lemmas.Bool.{eqb-true}
use Rattle.hv_store.specs.declared.access.Slot.{Slot}
use Rattle.hv_store.specs.declared.access.Way.{Way}
use Rattle.hv_store.specs.declared.access.Way.TheVariants.{Open, Shut}
use Rattle.hv_map.specs.Item.{Item}
use Rattle.hv_map.specs.Compose.{EachTableWord, Looked, Named, Stopped, compose, reading, table_of}
use Rattle.hv_map.specs.Words.{EachChain}
use Rattle.hv_map.specs.Apart.{blocks_of, directory_of, open_page_if, open_pages, table_open, table_pages}
use Rattle.hv_nest.specs.Watched.{chain_foot, own_places, page_foot, places, without}
use Rattle.hv_whole.specs.Linked.{EachBlock}
use Rattle.hv_whole.proofs.Members.{Has}

-- P holds of each number of a list
abbrev pub Each : (ℕ → Type 0) → List ℕ → Type 0
Each P [] = Unit {0}
Each P (a ∷ rest) = P a × Each P rest

pub each_append : (P : ℕ → Type 0) (xs ys : List ℕ) → Each P xs → Each P ys → Each P (xs ++ ys)
each_append P [] ys p q = q
each_append P (x ∷ xs) ys p q = (p.0, each_append P xs ys p.1 q)

each_mapped : (P : ℕ → Type 0) (f : ℕ → ℕ) (ks : List ℕ) → Each (λ k. P (f k)) ks → Each P (map f ks)
each_mapped P f [] p = tt
each_mapped P f (k ∷ ks) p = (p.0, each_mapped P f ks p.1)

each_below : (P : ℕ → Type 0) (a n : ℕ) → ((i : ℕ) → a ≤ i → i < a + n → P i) → Each P (range_with_len a n)
each_below P a zero p = tt
each_below P a (suc n) p = (p a (omega arith) (omega arith), each_below P (a + 1) n (λ i low high. p i (omega arith) (omega arith)))

each_range : (P : ℕ → Type 0) (f : ℕ → List ℕ) (a n : ℕ) → ((i : ℕ) → a ≤ i → i < a + n → Each P (f i)) → Each P (flat_map f (range_with_len a n))
each_range P f a zero p = tt
each_range P f a (suc n) p =
    each_append P (f a) (flat_map f (range_with_len (a + 1) n)) (p a (omega arith) (omega arith))
    (each_range P f (a + 1) n (λ i low high. p i (omega arith) (omega arith)))

each_joined : (P : ℕ → Type 0) (f : ℕ → List ℕ) (xs : List ℕ) → ((x : ℕ) → Has x xs → Each P (f x)) → Each P (flat_map f xs)
each_joined P f [] p = tt
each_joined P f (x ∷ xs) p = each_append P (f x) (flat_map f xs) (p x (inl refl)) (each_joined P f xs (λ y h. p y (inr h)))

pub each_without : (P : ℕ → Type 0) (a : ℕ) (xs : List ℕ) → Each P xs → Each P (without a xs)
unfolding without
each_without P a [] p = tt
each_without P a (x ∷ xs) p = by (x == a) (each_without P a xs p.1)
  where
    by : (t : Bool) → Each P (without a xs) → Each P (cond t (without a xs) (x ∷ without a xs))
    by true q = q
    by false q = (p.0, q)

module _ (P : ℕ → Type 0) where
  -- the first words of a page
  first_places : (g n : ℕ) → ((w : ℕ) → w < n → P (1024 * g + w)) → Each P (places g (range_with_len 0 n))
  first_places g n p = each_mapped P (λ k. 1024 * g + k) (range_with_len 0 n) (each_below (λ k. P (1024 * g + k)) 0 n (λ i low high. p i (omega arith)))

  -- the words of the directory
  directory_places : (S : List ℕ) (F : List Slot) (j : ℕ) (x : Item)
      → EachTableWord (λ g w. P (1024 * g + w)) S F j x.pages x.table x.version
      → Each P (flat_map (λ d. places d (range_with_len 0 (table_pages x.pages))) (directory_of F x))
  directory_places S F j x c = by (x.version == 2) refl
    where
      way : x.version ≡ 2 → (o : Option Way) → reading F x.table ≡ o → Each P (flat_map (λ d. places d (range_with_len 0 (table_pages x.pages))) (open_page_if o))
      way v None e = tt
      way v (Some (Open d)) e =
          each_append P (places d (range_with_len 0 (table_pages x.pages))) []
          (first_places d (table_pages x.pages)
          (λ w low.
          let inside : 1024 * w < x.pages = omega (arith, low) in
          let same : 1024 * w / 1024 ≡ w = omega arith in
          subst (λ (k : ℕ). P (1024 * d + k)) same (c.directory (1024 * w) d inside v e)))
          tt
      way v (Some (Shut l k q w)) e = tt

      by : (t : Bool) → (x.version == 2) ≡ t → Each P (flat_map (λ d. places d (range_with_len 0 (table_pages x.pages))) (cond t (open_page_if (reading F x.table)) []))
      by true e = way (eqb-true x.version 2 e) (reading F x.table) refl
      by false e = tt

  -- the table word of a page
  table_place : (S : List ℕ) (F : List Slot) (j : ℕ) (x : Item)
      → EachTableWord (λ g w. P (1024 * g + w)) S F j x.pages x.table x.version
      → (i : ℕ)
      → i < x.pages
      → Each P (map (λ g. 1024 * g + i % 1024) (table_open F (table_of S (reading F) j x.table x.version i)))
  table_place S F j x c i h = looked (table_of S (reading F) j x.table x.version i) refl
    where
      way : (u : ℕ) → table_of S (reading F) j x.table x.version i ≡ Named u → (o : Option Way) → reading F u ≡ o → Each P (map (λ g. 1024 * g + i % 1024) (open_page_if o))
      way u t None e = tt
      way u t (Some (Open g)) e = (c.table i u g h t e, tt)
      way u t (Some (Shut l k q w)) e = tt

      looked : (l : Looked) → table_of S (reading F) j x.table x.version i ≡ l → Each P (map (λ g. 1024 * g + i % 1024) (table_open F l))
      looked (Named u) t = way u t (reading F u) refl
      looked (Stopped w) t = tt

  -- the words that the map along the machines is read from
  pub chain_places : (S : List ℕ) (F : List Slot) (j : ℕ) (xs : List Item) → EachChain (λ g w. P (1024 * g + w)) S F j xs → Each P (chain_foot S F j xs)
  unfolding chain_foot
  chain_places S F j [] c = tt
  chain_places S F j (x ∷ xs) c =
      let G : List Slot = compose S F j x.pages x.table x.version in
      let block : List ℕ = places x.block (65 ∷ 66 ∷ 67 ∷ []) in
      let directory : List ℕ = flat_map (λ d. places d (range_with_len 0 (table_pages x.pages))) (directory_of F x) in
      let words : List ℕ = flat_map (λ i. map (λ g. 1024 * g + i % 1024) (table_open F (table_of S (reading F) j x.table x.version i))) (range_with_len 0 x.pages) in
      each_append P (block ++ (directory ++ words)) (chain_foot S G (j + 1) xs)
      (each_append P block (directory ++ words) (c.0.pages, (c.0.table, (c.0.version, tt)))
      (each_append P directory words (directory_places S F j x c.0.words)
      (each_range P (λ i. map (λ g. 1024 * g + i % 1024) (table_open F (table_of S (reading F) j x.table x.version i))) 0 x.pages
      (λ i low high. table_place S F j x c.0.words i (omega (arith, high))))))
      (chain_places S G (j + 1) xs c.1)

  -- the words of the registers in the last block
  pub block_places : (o : Option ℕ) → ((g w : ℕ) → o ≡ Some g → w < 1024 → P (1024 * g + w)) → Each P (own_places o)
  block_places None p = tt
  block_places (Some g) p =
      each_mapped P (λ k. 1024 * g + k) (range_with_len 0 42 ++ (range_with_len 43 6 ++ 64 ∷ []))
      (each_append (λ k. P (1024 * g + k)) (range_with_len 0 42) (range_with_len 43 6 ++ 64 ∷ [])
      (each_below (λ k. P (1024 * g + k)) 0 42 (λ i low high. p g i refl (omega arith)))
      (each_append (λ k. P (1024 * g + k)) (range_with_len 43 6) (64 ∷ [])
      (each_below (λ k. P (1024 * g + k)) 43 6 (λ i low high. p g i refl (omega arith)))
      (p g 64 refl (omega arith), tt)))

  read_places : (n : ℕ) (pages : List ℕ) → ((g w : ℕ) → Has g pages → w < n → P (1024 * g + w)) → Each P (flat_map (λ g. places g (range_with_len 0 n)) pages)
  read_places n pages p = each_joined P (λ g. places g (range_with_len 0 n)) pages (λ g h. first_places g n (λ w low. p g w h low))

  -- the words of the pages that can be read
  pub page_places : (F : List Slot) → ((g w : ℕ) → Has g (open_pages F) → w < 1024 → P (1024 * g + w)) → Each P (page_foot F)
  page_places F p = read_places 1024 (open_pages F) p

-- what holds of each block
pub blocks_each : (P : ℕ → Type 0) (items : List Item) → ((b : ℕ) → Has b (blocks_of items) → P b) → EachBlock P items
blocks_each P [] f = tt
blocks_each P (x ∷ xs) f = (f x.block (inl refl), blocks_each P xs (λ b h. f b (inr h)))
