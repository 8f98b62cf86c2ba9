-- Which places have kept words, and what stays where these words stay.
use Rattle.std.proofs.Common.{◌≡◌, ◌≢◌, ℕ, ◌+◌, ◌*◌, ◌<◌, ◌⊎◌, inl, inr, List, [], ◌∷◌, ◌++◌, Option, Some, None, refl, ◌∙◌, sym, subst, arith}
use Rattle.std.specs.List.{range_with_len, flat_map}
use Rattle.std.proofs.lemmas.Option.{same_Some}
use Rattle.hv_word.specs.Storage.{page_count, word_at}
use Rattle.hv_store.specs.declared.access.Access.TheVariants.{Read}
use Rattle.hv_store.specs.declared.access.Slot.{Slot}
use Rattle.hv_store.specs.Access.{identity}
use Rattle.hv_block.specs.Block.{IsOther}
use Rattle.hv_map.specs.Item.{Item}
use Rattle.hv_map.specs.Compose.{compose}
use Rattle.hv_map.specs.Chain.{map_along}
use Rattle.hv_map.specs.Apart.{open_pages}
use Rattle.hv_map.specs.Carried.{Opens}
use Rattle.hv_map.specs.Words.{EachChain, Chained}
use Rattle.hv_map.proofs.Agree.{composed_agrees}
use Rattle.hv_nest.specs.Watched.{places, chain_foot, last_block, own_places, page_foot, but_lines}
use Rattle.hv_whole.specs.Linked.{Unread, Aside, Alone}
use Rattle.hv_whole.proofs.Members.{Has, has_left, has_right, has_joined, has_below, has_mapped, has_still}
use Rattle.hv_whole.proofs.Apartness.{has_opened}
use Rattle.hv_whole.proofs.Foots.{chain_has, each_both, last_each}
use Rattle.hv_pager.specs.Paging.{outer, size_places, all_kept, kept_places}

-- the words of all machines but the last
pub each_outer : (P : ℕ → ℕ → Type 0) (S : List ℕ) (F : List Slot) (j : ℕ) (xs : List Item) → EachChain P S F j xs → EachChain P S F j (outer xs)
each_outer P S F j [] each = tt
each_outer P S F j (x ∷ []) each = tt
each_outer P S F j (x ∷ (y ∷ ys)) each = (each.0, each_outer P S (compose S F j x.pages x.table x.version) (j + 1) (y ∷ ys) each.1)

-- The machines stay where they are if those words stay, and the size of the last.
pub chained_outer : (S A : List ℕ) (F : List Slot) (j : ℕ) (xs : List Item)
    → EachChain (λ g w. word_at S g w ≡ word_at A g w) S F j (outer xs)
    → ((b k : ℕ) → last_block xs ≡ Some b → Has k (65 ∷ 66 ∷ 67 ∷ []) → word_at S b k ≡ word_at A b k)
    → Chained S F j xs → Chained A F j xs
chained_outer S A F j [] each size chained = tt
chained_outer S A F j (x ∷ []) each size chained =
    let c = chained.0 in (
      record {
        slot = c.slot;
        there = c.there;
        writes = c.writes;
        pages = sym (size x.block 65 refl (inl refl)) ∙ c.pages;
        table = sym (size x.block 66 refl (inr (inl refl))) ∙ c.table;
        version = sym (size x.block 67 refl (inr (inr (inl refl)))) ∙ c.version;
      },
      tt,
    )
chained_outer S A F j (x ∷ (y ∷ ys)) each size chained =
    let c = chained.0 in (
      record {
        slot = c.slot;
        there = c.there;
        writes = c.writes;
        pages = sym each.0.pages ∙ c.pages;
        table = sym each.0.table ∙ c.table;
        version = sym each.0.version ∙ c.version;
      },
      subst (λ (G : List Slot). Chained A G (j + 1) (y ∷ ys)) (composed_agrees S A F j x.pages x.table x.version each.0.words)
          (chained_outer S A (compose S F j x.pages x.table x.version) (j + 1) (y ∷ ys) each.1 size chained.1),
    )

in_kept : (S : List ℕ) (items : List Item) (a : ℕ) → ((b : ℕ) → last_block items ≡ Some b → a ≢ 1024 * b + 42) → Has a (all_kept S items) → Has a (kept_places S items)
unfolding kept_places
in_kept S items a ne h = by (last_block items) ne
  where
    by : (o : Option ℕ) → ((b : ℕ) → o ≡ Some b → a ≢ 1024 * b + 42) → Has a (but_lines o (all_kept S items))
    by None ne = h
    by (Some b) ne = has_still a (1024 * b + 42) (all_kept S items) (ne b refl) h

-- a place of another page, or of another word of that page
other_word : (g w b : ℕ) → w < 1024 → (g ≢ b) ⊎ IsOther w → 1024 * g + w ≢ 1024 * b + 42
other_word g w b h (inl ne) e = ne (omega (arith, h, e))
other_word g w b h (inr o) e = omega (arith, h, o.0, e)

module _ (S : List ℕ) (items : List Item) where
  abbrev chain_part : List ℕ
  chain_part = chain_foot S (identity (page_count S)) 0 (outer items)

  abbrev size_part : List ℕ
  size_part = size_places (last_block items)

  abbrev own_part : List ℕ
  own_part = own_places (last_block items)

  abbrev page_part : List ℕ
  page_part = page_foot (map_along S items)

  -- the words that the maps of the machines further out are read from
  pub kept_chain : (F : List Slot) → Alone S items F → EachChain (λ g w. Has (1024 * g + w) (kept_places S items)) S (identity (page_count S)) 0 (outer items)
  unfolding all_kept
  kept_chain F stand =
      each_both (Aside F items) (λ g w. Has (1024 * g + w) chain_part) (λ g w. Has (1024 * g + w) (kept_places S items))
      (λ g w aside h.
      in_kept S items (1024 * g + w)
      (λ b e. other_word g w b aside.0 (last_each (λ c. (g ≢ c) ⊎ IsOther w) items b aside.2 e))
      (has_left (1024 * g + w) chain_part (size_part ++ (own_part ++ page_part)) h))
      S (identity (page_count S)) 0 (outer items)
      (each_outer (Aside F items) S (identity (page_count S)) 0 items stand.chain)
      (chain_has S (identity (page_count S)) 0 (outer items))

  pub kept_size : (b k : ℕ) → last_block items ≡ Some b → k < 1024 → k ≢ 42 → Has k (65 ∷ 66 ∷ 67 ∷ []) → Has (1024 * b + k) (kept_places S items)
  unfolding all_kept
  kept_size b k e low ne h =
      in_kept S items (1024 * b + k)
      (λ d f g. ne (let same : b ≡ d = same_Some b d (sym e ∙ f) in omega (arith, low)))
      (has_right (1024 * b + k) chain_part (size_part ++ (own_part ++ page_part))
      (has_left (1024 * b + k) size_part (own_part ++ page_part)
      (rw e (has_mapped (λ n. 1024 * b + n) k (65 ∷ 66 ∷ 67 ∷ []) h))))

  page_has : (n : ℕ) (F : List Slot) (x w : ℕ) → w < n → Has x (open_pages F) → Has (1024 * x + w) (flat_map (λ g. places g (range_with_len 0 n)) (open_pages F))
  page_has n F x w h o =
      has_joined (λ g. places g (range_with_len 0 n)) (open_pages F) x (1024 * x + w) o
      (has_mapped (λ k. 1024 * x + k) w (range_with_len 0 n) (has_below 0 n w (omega arith) (omega (arith, h))))

  pub kept_page : Alone S items (map_along S items) → (x w : ℕ) → w < 1024 → Opens (map_along S items) Read x → Has (1024 * x + w) (kept_places S items)
  unfolding all_kept
  kept_page stand x w h o =
      in_kept S items (1024 * x + w)
      (λ b e f. last_each (Unread (map_along S items)) items b stand.unread e (subst (Opens (map_along S items) Read) (page_is x b f) o))
      (has_right (1024 * x + w) chain_part (size_part ++ (own_part ++ page_part))
      (has_right (1024 * x + w) size_part (own_part ++ page_part)
      (has_right (1024 * x + w) own_part page_part
      (page_has 1024 (map_along S items) x w h (has_opened (map_along S items) x o)))))
    where
      page_is : (x b : ℕ) → 1024 * x + w ≡ 1024 * b + 42 → x ≡ b
      page_is x b f = omega (arith, h, f)

  pub kept_own : (b k : ℕ) → last_block items ≡ Some b → k < 1024 → k ≢ 42 → Has k (range_with_len 0 42 ++ (range_with_len 43 6 ++ 64 ∷ [])) → Has (1024 * b + k) (kept_places S items)
  unfolding all_kept
  kept_own b k e low ne h =
      in_kept S items (1024 * b + k)
      (λ d f g. ne (let same : b ≡ d = same_Some b d (sym e ∙ f) in omega (arith, low)))
      (has_right (1024 * b + k) chain_part (size_part ++ (own_part ++ page_part))
      (has_right (1024 * b + k) size_part (own_part ++ page_part)
      (has_left (1024 * b + k) own_part page_part
      (rw e (has_mapped (λ n. 1024 * b + n) k (range_with_len 0 42 ++ (range_with_len 43 6 ++ 64 ∷ [])) h)))))
