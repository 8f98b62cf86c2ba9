-- The foot of the machine at the end of a tower has only words that no monitor's step changes.
use Rattle.std.proofs.Common.{◌≡◌, ◌≢◌, ℕ, zero, suc, ◌+◌, ◌*◌, ◌%◌, ◌<◌, ◌≤◌, ◌⊎◌, inl, inr, Bool, true, false, cond, ◌&&◌, List, [], ◌∷◌, ◌++◌, map, Option, Some, None, refl, ap, ◌∙◌, sym, subst, arith, lit<}
use Rattle.std.specs.Prelude.{◌==◌, slice_index}
use Rattle.std.specs.List.{range_with_len, flat_map}
use Rattle.std.proofs.lemmas.Bool.{eq-eqb}
use Rattle.std.proofs.lemmas.Option.{same_Some}
use Rattle.hv_word.specs.Storage.{page_count, word_at}
use Rattle.hv_cpu.specs.Regs.{Regs}
use Rattle.hv_cpu.specs.Lines.{lines, unlined}
use Rattle.hv_store.specs.declared.access.Slot.{Slot}
use Rattle.hv_store.specs.declared.access.Way.{Way}
use Rattle.hv_store.specs.declared.access.Way.TheVariants.{Open, Shut}
use Rattle.hv_store.specs.Access.{identity, open_at}
use Rattle.hv_map.specs.Item.{Item}
use Rattle.hv_map.specs.Compose.{Looked, Named, Stopped, compose, reading, table_of}
use Rattle.hv_map.specs.Chain.{map_along}
use Rattle.hv_map.specs.Apart.{open_page, open_page_if, open_pages, table_pages, table_open, directory_of}
use Rattle.hv_nest.specs.Bare.{alone}
use Rattle.hv_nest.specs.Routing.{regs_along}
use Rattle.hv_nest.specs.Watched.{places, item_foot, chain_foot, last_block, own_places, page_foot, standing_places, without, but_lines, foot, are_same, same_status, keeps_foot, lines_of}
use Rattle.hv_whole.specs.Linked.{EachBlock, BlocksDiffer}
use Rattle.hv_whole.proofs.Each.{each_block}
use Rattle.hv_whole.proofs.Untouched.{own_last, lines_own}
use Rattle.hv_towers.specs.Laid.{from_base, child_base, LaidAt, LaidFrom}
use Rattle.hv_towers.proofs.Floors.{top_base, top_pages}
use Rattle.hv_towers.proofs.Spares.{IsSize, Spared, Spares, regs_same}
use Rattle.hv_towers.proofs.Zones.{Zone, laid_numbered, blocks_below, zone_blocks, each_spared, table_place}

-- P holds of each number
abbrev pub Each : (ℕ → Type 0) → List ℕ → Type 0
Each P [] = Unit {0}
Each P (a ∷ rest) = P a × Each P rest

module _ (P : ℕ → Type 0) where
  each_append : (xs ys : List ℕ) → Each P xs → Each P ys → Each P (xs ++ ys)
  each_append [] ys p q = q
  each_append (x ∷ xs) ys p q = (p.0, each_append xs ys p.1 q)

  each_range : (f : ℕ → List ℕ) (a n : ℕ) → ((i : ℕ) → a ≤ i → i < a + n → Each P (f i)) → Each P (flat_map f (range_with_len a n))
  each_range f a zero h = tt
  each_range f a (suc n) h =
      each_append (f a) (flat_map f (range_with_len (a + 1) n)) (h a (omega arith) (omega arith))
      (each_range f (a + 1) n (λ i low high. h i (omega (arith, low)) (omega (arith, high))))

  each_mapped : (f : ℕ → ℕ) (a n : ℕ) → ((i : ℕ) → a ≤ i → i < a + n → P (f i)) → Each P (map f (range_with_len a n))
  each_mapped f a zero h = tt
  each_mapped f a (suc n) h = (
    h a (omega arith) (omega arith),
    each_mapped f (a + 1) n (λ i low high. h i (omega (arith, low)) (omega (arith, high))),
  )

  each_joined : (Q : ℕ → Type 0) (f : ℕ → List ℕ) → ((g : ℕ) → Q g → Each P (f g)) → (gs : List ℕ) → Each Q gs → Each P (flat_map f gs)
  each_joined Q f h [] q = tt
  each_joined Q f h (g ∷ gs) q = each_append (f g) (flat_map f gs) (h g q.0) (each_joined Q f h gs q.1)

  without_one : (t : Bool) (x : ℕ) (xs : List ℕ) → P x → Each P xs → Each P (cond t xs (x ∷ xs))
  without_one true x xs p q = q
  without_one false x xs p q = (p, q)

  each_without : (a : ℕ) (xs : List ℕ) → Each P xs → Each P (without a xs)
  unfolding without
  each_without a [] p = tt
  each_without a (x ∷ xs) p = without_one (x == a) x (without a xs) p.0 (each_without a xs p.1)

  each_but : (o : Option ℕ) (xs : List ℕ) → Each P xs → Each P (but_lines o xs)
  each_but None xs p = p
  each_but (Some g) xs p = each_without (1024 * g + 42) xs p

  -- the words that the map of a child is read from
  module _ (A : List ℕ) (j base n : ℕ) (x : Item) (xs : List Item) (laid : LaidAt A j base n x) (zone : (g w : ℕ) → w < 1024 → Zone base (x ∷ xs) g w → P (1024 * g + w)) where
    each_directory : (f : ℕ → List ℕ) → Each P (flat_map f (directory_of (from_base base n) x))
    each_directory f = subst (λ (v : ℕ). Each P (flat_map f (cond (v == 2) (open_page_if (reading (from_base base n) x.table)) []))) (sym laid.version) tt

    each_table : (i : ℕ) → i < x.pages → Each P (map (λ g. 1024 * g + i % 1024) (table_open (from_base base n) (table_of A (reading (from_base base n)) j x.table x.version i)))
    each_table i h = by (table_of A (reading (from_base base n)) j x.table x.version i) refl
      where
        found : (u : ℕ) → table_of A (reading (from_base base n)) j x.table x.version i ≡ Named u → (o : Option Way) → reading (from_base base n) u ≡ o → Each P (map (λ g. 1024 * g + i % 1024) (open_page_if o))
        found u e None p = tt
        found u e (Some (Open g)) p = (zone g (i % 1024) (omega arith) (inr (inr (inl (table_place A j base n x i u g laid.table laid.version h e p)))), tt)
        found u e (Some (Shut l c q w)) p = tt

        by : (l : Looked) → table_of A (reading (from_base base n)) j x.table x.version i ≡ l → Each P (map (λ g. 1024 * g + i % 1024) (table_open (from_base base n) l))
        by (Named u) e = found u e (reading (from_base base n) u) refl
        by (Stopped way) e = tt

    each_size : (w : ℕ) → 65 ≤ w → w ≤ 67 → P (1024 * x.block + w)
    each_size w low high = zone x.block w (omega (arith, high)) (inr (inl (laid.block, (low, high))))

    each_item : Each P
        (places x.block (65 ∷ 66 ∷ 67 ∷ [])
        ++ (flat_map (λ d. places d (range_with_len 0 (table_pages x.pages))) (directory_of (from_base base n) x)
        ++ flat_map (λ i. map (λ g. 1024 * g + i % 1024) (table_open (from_base base n) (table_of A (reading (from_base base n)) j x.table x.version i))) (range_with_len 0 x.pages)))
    each_item =
        each_append (places x.block (65 ∷ 66 ∷ 67 ∷ [])) _
        (each_size 65 (omega arith) (omega arith), (each_size 66 (omega arith) (omega arith), (each_size 67 (omega arith) (omega arith), tt)))
        (each_append (flat_map (λ d. places d (range_with_len 0 (table_pages x.pages))) (directory_of (from_base base n) x)) _
        (each_directory (λ d. places d (range_with_len 0 (table_pages x.pages))))
        (each_range (λ i. map (λ g. 1024 * g + i % 1024) (table_open (from_base base n) (table_of A (reading (from_base base n)) j x.table x.version i))) 0 x.pages (λ i low high. each_table i (omega (arith, high)))))

  each_chain : (A : List ℕ) (j base n : ℕ) (xs : List Item) → LaidFrom A j base n xs → ((g w : ℕ) → w < 1024 → Zone base xs g w → P (1024 * g + w)) → Each P (chain_foot A (from_base base n) j xs)
  unfolding chain_foot
  each_chain A j base n [] laid zone = tt
  each_chain A j base n (x ∷ xs) laid zone =
      each_append (item_foot A (from_base base n) j x) (chain_foot A (compose A (from_base base n) j x.pages x.table x.version) (j + 1) xs)
      (each_item A j base n x xs laid.0 zone)
      (subst (λ (F : List Slot). Each P (chain_foot A F (j + 1) xs)) (sym laid.0.slots)
      (each_chain A (j + 1) (child_base base x.pages) x.pages xs laid.1 (λ g w h z. zone g w h (inr (inr (inr z))))))

  -- the words of the last block that hold registers
  each_own : (o : Option ℕ) → ((b w : ℕ) → o ≡ Some b → w < 72 → P (1024 * b + w)) → Each P (own_places o)
  each_own None h = tt
  each_own (Some b) h =
      mapped_append (range_with_len 0 42) (range_with_len 43 6 ++ 64 ∷ [])
      (each_mapped (λ k. 1024 * b + k) 0 42 (λ i low high. h b i refl (omega (arith, high))))
      (mapped_append (range_with_len 43 6) (64 ∷ [])
      (each_mapped (λ k. 1024 * b + k) 43 6 (λ i low high. h b i refl (omega (arith, high))))
      (h b 64 refl (lit< tt), tt))
    where
      mapped_append : (ks ls : List ℕ) → Each P (map (λ k. 1024 * b + k) ks) → Each P (map (λ k. 1024 * b + k) ls) → Each P (map (λ k. 1024 * b + k) (ks ++ ls))
      mapped_append [] ls p q = q
      mapped_append (k ∷ ks) ls p q = (p.0, mapped_append ks ls p.1 q)

-- the bare pages of a map of pages in their order
each_opened : (Q : ℕ → Type 0) (f : ℕ → ℕ) (a n : ℕ) → ((i : ℕ) → Q (f i)) → Each Q (flat_map (λ (s : Slot). open_page s.read) (map (λ i. open_at (f i)) (range_with_len a n)))
each_opened Q f a zero h = tt
each_opened Q f a (suc n) h = (h a, each_opened Q f (a + 1) n h)

pages_from : (base n : ℕ) → Each (λ g. base ≤ g) (open_pages (from_base base n))
unfolding from_base
pages_from base n = each_opened (λ g. base ≤ g) (λ i. base + i) 0 n (λ i. omega arith)

-- the last block's words for registers
pub last_spared : (items : List Item) (b w : ℕ) → BlocksDiffer items → last_block items ≡ Some b → w < 72 → Spared items b w
last_spared [] b w differ e h = tt
last_spared (x ∷ []) b w differ e h = inr h
last_spared (x ∷ (y ∷ ys)) b w differ e h = (inl (λ f. ne (y ∷ ys) differ.0 e (sym f)), last_spared (y ∷ ys) b w differ.1 e h)
  where
    ne : (xs : List Item) → EachBlock (λ c. x.block ≢ c) xs → last_block xs ≡ Some b → x.block ≡ b → ⊥
    ne [] each is f = absurd (let g : None ≡ Some b = is in cc)
    ne (z ∷ []) each is f = each.0 (f ∙ sym (same_Some z.block b is))
    ne (z ∷ (v ∷ vs)) each is f = ne (v ∷ vs) each.1 is f

module _ (A : List ℕ) (items : List Item) (laid : LaidFrom A 0 0 (page_count A) items) (root : identity (page_count A) ≡ from_base 0 (page_count A)) (map_is : map_along A items ≡ from_base (top_base 0 items) (top_pages (page_count A) items)) (differ : BlocksDiffer items) where
  page_spared : (g w : ℕ) → top_base 0 items ≤ g → Spared items g w
  page_spared g w low =
      each_spared items g w
      (each_block (λ b. b < top_base 0 items) (λ b. (g ≢ b) ⊎ IsSize w) (λ b h. inl (λ e. omega (arith, e, h, low))) items (blocks_below 0 items (laid_numbered A 0 0 (page_count A) items laid)))

  -- what holds of each word that is spared holds of each word of the foot
  foot_each : (P : ℕ → Type 0) → ((g w : ℕ) → w < 1024 → Spared items g w → P (1024 * g + w)) → Each P (foot A items)
  unfolding foot standing_places
  foot_each P each =
      each_but P (last_block items) (standing_places A items)
      (each_append P (chain_foot A (identity (page_count A)) 0 items) (own_places (last_block items) ++ page_foot (map_along A items))
      (subst (λ (F : List Slot). Each P (chain_foot A F 0 items)) (sym root) (each_chain P A 0 0 (page_count A) items laid (λ g w h z. each g w h (each_spared items g w (zone_blocks 0 items g w (laid_numbered A 0 0 (page_count A) items laid) z)))))
      (each_append P (own_places (last_block items)) (page_foot (map_along A items))
      (each_own P (last_block items) (λ b w e h. each b w (omega (arith, h)) (last_spared items b w differ e h)))
      (subst (λ (F : List Slot). Each P (page_foot F)) (sym map_is) (in_pages 1024 (omega arith)))))
    where
      in_pages : (n : ℕ) → n ≤ 1024 → Each P (flat_map (λ g. places g (range_with_len 0 n)) (open_pages (from_base (top_base 0 items) (top_pages (page_count A) items))))
      in_pages n small =
          each_joined P (λ g. top_base 0 items ≤ g) (λ g. places g (range_with_len 0 n))
          (λ g low. each_mapped P (λ k. 1024 * g + k) 0 n (λ i from high. each g i (omega (arith, high, small)) (page_spared g i low)))
          (open_pages (from_base (top_base 0 items) (top_pages (page_count A) items)))
          (pages_from (top_base 0 items) (top_pages (page_count A) items))

  all_same : (S U : List ℕ) (xs : List ℕ) → Each (λ a. slice_index S a ≡ slice_index U a) xs → are_same xs S U ≡ true
  unfolding are_same
  all_same S U [] e = refl
  all_same S U (a ∷ rest) e = λ i. ((eq-eqb (slice_index S a) (slice_index U a) e.0) i) && ((all_same S U rest e.1) i)

  -- a step that spares them keeps the foot, the lines and the registers of the machine at the end
  module _ (b : ℕ) (is_last : last_block items ≡ Some b) (S U : List ℕ) (spares : Spares items S U) where
    last_word : (w : ℕ) → w < 72 → word_at U b w ≡ word_at S b w
    last_word w h = spares.same b w (omega (arith, h)) (last_spared items b w differ is_last h)

    pub foot_kept : keeps_foot (foot A items) items S U ≡ true
    foot_kept = λ i.
        ((all_same S U (foot A items) (foot_each (λ a. slice_index S a ≡ slice_index U a) (λ g w h s. sym (spares.same g w h s)))) i)
        && (status i)
      where
        status : same_status (last_block items) S U ≡ true
        status = ap (λ (o : Option ℕ). same_status o S U) is_last ∙ eq-eqb (unlined (word_at S b 42)) (unlined (word_at U b 42)) (ap unlined (sym (last_word 42 (lit< tt))))

    pub own_kept : (r q : Regs) → regs_along U items q ≡ regs_along S items r
    own_kept r q = own_last U items b q is_last ∙ regs_same S U b last_word ∙ sym (own_last S items b r is_last)

    pub lines_kept : (r q : Regs) → lines_of 0 items (alone S r) ≡ lines_of 0 items (alone U q)
    lines_kept r q = lines_own 0 items (alone S r) ∙ ap (λ (c : Regs). lines c.mip) (sym (own_kept r q)) ∙ sym (lines_own 0 items (alone U q))
