-- The bare pages that a tower stands on are all different.
use Rattle.std.proofs.Common.{◌≡◌, ℕ, zero, suc, ◌+◌, ◌*◌, ◌/◌, ◌<◌, ◌≤◌, ◌⊎◌, inl, inr, ⊎_elim, Bool, true, false, not, ◌&&◌, ◌||◌, eqb, List, [], ◌∷◌, ◌++◌, map, Option, refl, ap, ◌∙◌, sym, arith}
use Rattle.std.specs.List.{range_with_len, flat_map}
use Rattle.std.specs.Option.{option_map}
use Rattle.std.proofs.lemmas.Bool.{or_cases, and_parts, eqb-true, eq-eqb, true≢false}
use Rattle.hv_limits.specs.Limits.{pages_limit}
use Rattle.hv_word.specs.Storage.{page_count}
use Rattle.hv_store.specs.declared.access.Slot.{Slot}
use Rattle.hv_store.specs.Access.{identity, open_at}
use Rattle.hv_word.specs.Words.{has}
use Rattle.hv_map.specs.Apart.{are_distinct, open_page_if, open_pages, table_pages, table_open, tables_of, tables_along, blocks_of, standing_on, is_apart}
use Rattle.hv_map.specs.Compose.{compose, reading, table_of}
use Rattle.hv_map.specs.Chain.{map_along}
use Rattle.hv_apart.proofs.Lists.{has-append}
use Rattle.hv_towers.specs.Laid.{from_base, child_base}
use Rattle.hv_towers.proofs.Bases.{base_slot, base_zero}
use Rattle.hv_towers.proofs.Storeys.{Storeys, item_of, items_of, end_base, end_size, slots, map_is}

-- what is in a list
has_cases : (a b : ℕ) (bs : List ℕ) → has a (b ∷ bs) ≡ true → (a ≡ b) ⊎ (has a bs ≡ true)
has_cases a b bs is = ⊎_elim (λ (e : eqb a b ≡ true). inl (eqb-true a b e)) (λ (h : has a bs ≡ true). inr h) (or_cases (eqb a b) (has a bs) is)

append_cases : (a : ℕ) (xs ys : List ℕ) → has a (xs ++ ys) ≡ true → (has a xs ≡ true) ⊎ (has a ys ≡ true)
append_cases a xs ys is = or_cases (has a xs) (has a ys) (sym (has-append a xs ys) ∙ is)

range_has : (a g c : ℕ) → has a (range_with_len g c) ≡ true → (g ≤ a) × (a < g + c)
range_has a g zero is = absurd (true≢false (sym is))
range_has a g (suc c) is = ⊎_elim first (λ (h : has a (range_with_len (g + 1) c) ≡ true). rest (range_has a (g + 1) c h)) (has_cases a g (range_with_len (g + 1) c) is)
  where
    first : a ≡ g → (g ≤ a) × (a < g + suc c)
    first e = (omega arith, omega arith)

    rest : (g + 1 ≤ a) × (a < g + 1 + c) → (g ≤ a) × (a < g + suc c)
    rest r = (omega (arith, r.0), omega (arith, r.1))

-- lists of different numbers
distinct_cons : (a : ℕ) (xs : List ℕ) → (has a xs ≡ true → ⊥) → are_distinct xs ≡ true → are_distinct (a ∷ xs) ≡ true
unfolding are_distinct
distinct_cons a xs not_in rest = by (has a xs) refl
  where
    by : (b : Bool) → has a xs ≡ b → (not b && are_distinct xs) ≡ true
    by true is = absurd (not_in is)
    by false is = rest

distinct_parts : (a : ℕ) (xs : List ℕ) → are_distinct (a ∷ xs) ≡ true → (has a xs ≡ true → ⊥) × (are_distinct xs ≡ true)
unfolding are_distinct
distinct_parts a xs is = let p = and_parts (not (has a xs)) (are_distinct xs) is in (λ h. true≢false (sym p.0 ∙ ap not h), p.1)

distinct_append : (xs ys : List ℕ) → are_distinct xs ≡ true → are_distinct ys ≡ true → ((a : ℕ) → has a xs ≡ true → has a ys ≡ true → ⊥) → are_distinct (xs ++ ys) ≡ true
distinct_append [] ys left right apart = right
distinct_append (x ∷ xs) ys left right apart =
    let p = distinct_parts x xs left in
    distinct_cons x (xs ++ ys)
    (λ is. ⊎_elim p.0 (λ (h : has x ys ≡ true). apart x (here x xs) h) (append_cases x xs ys is))
    (distinct_append xs ys p.1 right (λ a h. apart a (later a x xs h)))
  where
    or_true : (b : Bool) → (b || true) ≡ true
    or_true true = refl
    or_true false = refl

    later : (a b : ℕ) (bs : List ℕ) → has a bs ≡ true → has a (b ∷ bs) ≡ true
    later a b bs h = ap (λ (c : Bool). eqb a b || c) h ∙ or_true (eqb a b)

    same : (a : ℕ) → eqb a a ≡ true
    same a = eq-eqb a a refl

    here : (a : ℕ) (bs : List ℕ) → has a (a ∷ bs) ≡ true
    here a bs = ap (λ (c : Bool). c || has a bs) (same a)

range_distinct : (g c : ℕ) → are_distinct (range_with_len g c) ≡ true
unfolding are_distinct
range_distinct g zero = refl
range_distinct g (suc c) =
    distinct_cons g (range_with_len (g + 1) c) (λ is. let r = range_has g (g + 1) c is in let low : g + 1 ≤ g = r.0 in omega arith) (range_distinct (g + 1) c)

-- where the pages of the last machine begin
pub end_up : (base : ℕ) (ms : List ℕ) → base ≤ end_base base ms
unfolding end_base
end_up base [] = omega arith
end_up base (m ∷ ms) = let h : child_base base m ≤ end_base (child_base base m) ms = end_up (child_base base m) ms in omega (arith, h)

-- the blocks and the tables
unfoldable tables_list : ℕ → List ℕ → List ℕ
tables_list base [] = []
tables_list base (m ∷ ms) = range_with_len (base + 2) (table_pages m) ++ tables_list (child_base base m) ms

block_in : (a base : ℕ) (ms : List ℕ) → has a (blocks_of (items_of base ms)) ≡ true → (base < a) × (a < end_base base ms)
unfolding items_of end_base
block_in a base [] is = absurd (true≢false (sym is))
block_in a base (m ∷ ms) is = ⊎_elim first (λ (h : has a (blocks_of (items_of (child_base base m) ms)) ≡ true). rest (block_in a (child_base base m) ms h)) (has_cases a (base + 1) (blocks_of (items_of (child_base base m) ms)) is)
  where
    up : child_base base m ≤ end_base (child_base base m) ms
    up = end_up (child_base base m) ms

    first : a ≡ base + 1 → (base < a) × (a < end_base (child_base base m) ms)
    first e = let h : child_base base m ≤ end_base (child_base base m) ms = up in (omega arith, omega (arith, h))

    rest : (child_base base m < a) × (a < end_base (child_base base m) ms) → (base < a) × (a < end_base (child_base base m) ms)
    rest r = let low : child_base base m < a = r.0 in (omega arith, r.1)

table_in : (a base : ℕ) (ms : List ℕ) → has a (tables_list base ms) ≡ true → (base + 1 < a) × (a < end_base base ms)
unfolding tables_list end_base
table_in a base [] is = absurd (true≢false (sym is))
table_in a base (m ∷ ms) is = ⊎_elim first (λ (h : has a (tables_list (child_base base m) ms) ≡ true). rest (table_in a (child_base base m) ms h)) (append_cases a (range_with_len (base + 2) (table_pages m)) (tables_list (child_base base m) ms) is)
  where
    up : child_base base m ≤ end_base (child_base base m) ms
    up = end_up (child_base base m) ms

    first : has a (range_with_len (base + 2) (table_pages m)) ≡ true → (base + 1 < a) × (a < end_base (child_base base m) ms)
    first h =
        let r = range_has a (base + 2) (table_pages m) h in
        let low : base + 2 ≤ a = r.0 in
        let high : a < base + 2 + table_pages m = r.1 in
        let top : base + (2 + table_pages m) ≤ end_base (child_base base m) ms = up in
        (omega arith, omega arith)

    rest : (child_base base m + 1 < a) × (a < end_base (child_base base m) ms) → (base + 1 < a) × (a < end_base (child_base base m) ms)
    rest r = let low : child_base base m + 1 < a = r.0 in (omega arith, r.1)

blocks_distinct : (base : ℕ) (ms : List ℕ) → are_distinct (blocks_of (items_of base ms)) ≡ true
unfolding items_of are_distinct
blocks_distinct base [] = refl
blocks_distinct base (m ∷ ms) =
    distinct_cons (base + 1) (blocks_of (items_of (child_base base m) ms))
    (λ is. let r = block_in (base + 1) (child_base base m) ms is in let low : child_base base m < base + 1 = r.0 in omega arith)
    (blocks_distinct (child_base base m) ms)

tables_distinct : (base : ℕ) (ms : List ℕ) → are_distinct (tables_list base ms) ≡ true
unfolding tables_list are_distinct
tables_distinct base [] = refl
tables_distinct base (m ∷ ms) =
    distinct_append (range_with_len (base + 2) (table_pages m)) (tables_list (child_base base m) ms)
    (range_distinct (base + 2) (table_pages m)) (tables_distinct (child_base base m) ms)
    (λ a here later.
    let r = range_has a (base + 2) (table_pages m) here in
    let high : a < base + 2 + table_pages m = r.1 in
    let s = table_in a (child_base base m) ms later in
    let low : child_base base m + 1 < a = s.0 in
    omega arith)

blocks_off_tables : (a base : ℕ) (ms : List ℕ) → has a (blocks_of (items_of base ms)) ≡ true → has a (tables_list base ms) ≡ true → ⊥
unfolding items_of tables_list
blocks_off_tables a base [] b t = true≢false (sym b)
blocks_off_tables a base (m ∷ ms) b t = ⊎_elim first (λ (later : has a (blocks_of (items_of (child_base base m) ms)) ≡ true). rest later (blocks_off_tables a (child_base base m) ms later)) (has_cases a (base + 1) (blocks_of (items_of (child_base base m) ms)) b)
  where
    tables : (has a (range_with_len (base + 2) (table_pages m)) ≡ true) ⊎ (has a (tables_list (child_base base m) ms) ≡ true)
    tables = append_cases a (range_with_len (base + 2) (table_pages m)) (tables_list (child_base base m) ms) t

    first : a ≡ base + 1 → ⊥
    first e =
        ⊎_elim
        (λ (h : has a (range_with_len (base + 2) (table_pages m)) ≡ true).
        let r = range_has a (base + 2) (table_pages m) h in
        let low : base + 2 ≤ a = r.0 in
        let none : ⊥ = omega arith in
        none)
        (λ (h : has a (tables_list (child_base base m) ms) ≡ true).
        let r = table_in a (child_base base m) ms h in
        let low : child_base base m + 1 < a = r.0 in
        let none : ⊥ = omega arith in
        none)
        tables

    rest : has a (blocks_of (items_of (child_base base m) ms)) ≡ true → (has a (tables_list (child_base base m) ms) ≡ true → ⊥) → ⊥
    rest later off =
        let s = block_in a (child_base base m) ms later in
        let up : child_base base m < a = s.0 in
        ⊎_elim
        (λ (h : has a (range_with_len (base + 2) (table_pages m)) ≡ true).
        let r = range_has a (base + 2) (table_pages m) h in
        let high : a < base + 2 + table_pages m = r.1 in
        let none : ⊥ = omega arith in
        none)
        off
        tables

-- they are those of the machines
flat_range : (f : ℕ → List ℕ) (g a c : ℕ) → ((k : ℕ) → a ≤ k → k < a + c → f k ≡ (g + k) ∷ []) → flat_map f (range_with_len a c) ≡ range_with_len (g + a) c
flat_range f g a zero each = refl
flat_range f g a (suc c) each =
    let next : g + (a + 1) ≡ g + a + 1 = omega arith in
    ap (λ (l : List ℕ). l ++ flat_map f (range_with_len (a + 1) c)) (each a (omega arith) (omega arith))
    ∙ ap (λ (l : List ℕ). (g + a) ∷ l) (flat_range f g (a + 1) c (λ k low high. each k (omega (arith, low)) (omega (arith, high))))
    ∙ ap (λ (x : ℕ). (g + a) ∷ range_with_len x c) next

opens_base : (base a n : ℕ) → open_pages (map (λ i. open_at (base + i)) (range_with_len a n)) ≡ range_with_len (base + a) n
opens_base base a zero = refl
opens_base base a (suc n) =
    let next : base + (a + 1) ≡ base + a + 1 = omega arith in
    ap (λ (l : List ℕ). (base + a) ∷ l) (opens_base base (a + 1) n ∙ ap (λ (x : ℕ). range_with_len x n) next)

opens_are : (base n : ℕ) → open_pages (from_base base n) ≡ range_with_len base n
unfolding from_base
opens_are base n = let none : base + 0 ≡ base = omega arith in opens_base base 0 n ∙ ap (λ (x : ℕ). range_with_len x n) none

tables_are : (S : List ℕ) (j base n : ℕ) (ms : List ℕ) → n ≤ pages_limit → Storeys S base n ms → tables_along S (from_base base n) j (items_of base ms) ≡ tables_list base ms
unfolding tables_along tables_list items_of
tables_are S j base n [] few all = refl
tables_are S j base n (m ∷ ms) few all =
    let h : 2 + table_pages m + m ≤ n = all.0.size in
    ap (λ (l : List ℕ). l ++ tables_along S (compose S (from_base base n) j m 2 0) (j + 1) (items_of (child_base base m) ms)) here
    ∙ ap (λ (F : List Slot). range_with_len (base + 2) (table_pages m) ++ tables_along S F (j + 1) (items_of (child_base base m) ms)) (slots S j base n m few all.0)
    ∙ ap (λ (l : List ℕ). range_with_len (base + 2) (table_pages m) ++ l) (tables_are S (j + 1) (child_base base m) m ms (omega (arith, h, few)) all.1)
  where
    one : (k : ℕ) → k < table_pages m → table_open (from_base base n) (table_of S (reading (from_base base n)) j 2 0 (1024 * k)) ≡ (base + 2 + k) ∷ []
    one k lt =
        let h : 2 + table_pages m + m ≤ n = all.0.size in
        let page : 2 + 1024 * k / 1024 ≡ 2 + k = omega arith in
        let sum : base + (2 + k) ≡ base + 2 + k = omega arith in
        ap (λ (u : ℕ). open_page_if (reading (from_base base n) u)) page
        ∙ ap (λ (o : Option Slot). open_page_if (option_map (λ (s : Slot). s.read) o)) (base_slot base n (2 + k) (omega (arith, h, lt)))
        ∙ ap (λ (x : ℕ). x ∷ []) sum

    here : tables_of S (from_base base n) j (item_of base m) ≡ range_with_len (base + 2) (table_pages m)
    here =
        let none : base + 2 + 0 ≡ base + 2 = omega arith in
        flat_range (λ k. table_open (from_base base n) (table_of S (reading (from_base base n)) j 2 0 (1024 * k))) (base + 2) 0 (table_pages m) (λ k low high. one k (omega (arith, high)))
        ∙ ap (λ (x : ℕ). range_with_len x (table_pages m)) none

pub apart_are : (S : List ℕ) (P : ℕ) (ms : List ℕ) → page_count S ≡ P → P ≤ pages_limit → Storeys S 0 P ms → is_apart S (items_of 0 ms) ≡ true
apart_are S P ms is few all =
    ap are_distinct stands
    ∙ distinct_append blocks (tables ++ pages) (blocks_distinct 0 ms)
    (distinct_append tables pages (tables_distinct 0 ms) (range_distinct (end_base 0 ms) (end_size P ms)) (λ a t p.
    let r = range_has a (end_base 0 ms) (end_size P ms) p in
    let low : end_base 0 ms ≤ a = r.0 in
    let s = table_in a 0 ms t in
    let high : a < end_base 0 ms = s.1 in
    let none : ⊥ = omega arith in
    none))
    (λ a b more.
    let s = block_in a 0 ms b in
    let high : a < end_base 0 ms = s.1 in
    ⊎_elim (blocks_off_tables a 0 ms b) (λ (p : has a pages ≡ true).
    let r = range_has a (end_base 0 ms) (end_size P ms) p in
    let low : end_base 0 ms ≤ a = r.0 in
    let none : ⊥ = omega arith in
    none) (append_cases a tables pages more))
  where
    blocks : List ℕ
    blocks = blocks_of (items_of 0 ms)

    tables : List ℕ
    tables = tables_list 0 ms

    pages : List ℕ
    pages = range_with_len (end_base 0 ms) (end_size P ms)

    stands : standing_on S (items_of 0 ms) ≡ blocks ++ (tables ++ pages)
    stands =
        ap (λ (F : List Slot). blocks_of (items_of 0 ms) ++ (tables_along S F 0 (items_of 0 ms) ++ open_pages (map_along S (items_of 0 ms)))) (ap identity is ∙ base_zero P)
        ∙ ap (λ (l : List ℕ). blocks_of (items_of 0 ms) ++ (l ++ open_pages (map_along S (items_of 0 ms)))) (tables_are S 0 0 P ms few all)
        ∙ ap (λ (F : List Slot). blocks_of (items_of 0 ms) ++ (tables_list 0 ms ++ open_pages F)) (map_is S P ms is few all)
        ∙ ap (λ (l : List ℕ). blocks_of (items_of 0 ms) ++ (tables_list 0 ms ++ l)) (opens_are (end_base 0 ms) (end_size P ms))
