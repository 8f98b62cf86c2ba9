-- Maps with gathered pages: without these they are maps, and what stands in them slot by slot and level by level.
use Rattle.std.proofs.Common.{◌≡◌, ℕ, suc, ◌+◌, ◌<◌, ◌≤◌, List, [], ◌∷◌, ◌++◌, map, length, Option, Some, None, refl, ap, ◌∙◌, sym, arith, append_assoc, slice_get, take}
use Rattle.std.specs.List.{range_with_len}
use Rattle.std.specs.Option.{option_map}
use Rattle.std.proofs.Math.Seq.{take-length}
use Rattle.std.proofs.lemmas.List.{append-nil, take_more, length-take-le, length-map}
use Rattle.std.proofs.lemmas.List.FromFn.{length-map-range_with_len, get_or-map-range_with_len}
use Rattle.std.proofs.lemmas.Option.{slice_get-get_or, slice_get-map, slice_get_past, slice_get_within, get_or_from_slice_get}
use Rattle.std.proofs.lemmas.Simd.{map-map}
use Rattle.hv_word.specs.Storage.{page_count}
use Rattle.hv_store.specs.declared.access.Slot.{Slot}
use Rattle.hv_store.specs.Access.{identity}
use Rattle.hv_map.specs.Item.{Item}
use Rattle.hv_map.specs.Compose.{compose}
use Rattle.hv_map.specs.Chain.{along, map_along}
use Rattle.hv_map.specs.Levels.{map_at}
use Rattle.hv_map.specs.Gathered.{Gathered, slots_of, pages_gathered, pages_read, gathered_slot, gathered_map, bare_gathered, bare_gathered_map, gathered_from, gathered_along, gathered_at, block_pages}
use Rattle.hv_map.proofs.Levels.{pages_at-suc}

-- without the gathered pages
pub slots-bare : (P : ℕ) → slots_of (bare_gathered_map P) ≡ identity P
unfolding bare_gathered_map identity
slots-bare P = map-map (λ (n : Gathered). n.slot) bare_gathered (range_with_len 0 P)

pub slots-gathered_map : (S : List ℕ) (N : List Gathered) (j n t v : ℕ) → slots_of (gathered_map S N j n t v) ≡ compose S (slots_of N) j n t v
unfolding gathered_map compose
slots-gathered_map S N j n t v = map-map (λ (m : Gathered). m.slot) (gathered_slot S N j t v) (range_with_len 0 n)

pub slots-from : (S : List ℕ) (N : List Gathered) (j : ℕ) (xs : List Item) → slots_of (gathered_from S N j xs) ≡ along S (slots_of N) j xs
unfolding gathered_from along
slots-from S N j [] = refl
slots-from S N j (x ∷ xs) =
    slots-from S (gathered_map S N j x.pages x.table x.version) (j + 1) xs
    ∙ ap (λ (F : List Slot). along S F (j + 1) xs) (slots-gathered_map S N j x.pages x.table x.version)

pub slots-along : (S : List ℕ) (items : List Item) → slots_of (gathered_along S items) ≡ map_along S items
unfolding gathered_along map_along
slots-along S items =
    slots-from S (bare_gathered_map (page_count S)) 0 items
    ∙ ap (λ (F : List Slot). along S F 0 items) (slots-bare (page_count S))

pub slots-at : (S : List ℕ) (items : List Item) (k : ℕ) → slots_of (gathered_at S items k) ≡ map_at S items k
unfolding gathered_at map_at
slots-at S items k = slots-along S (take k items)

-- slot by slot
pub length-gathered_map : (S : List ℕ) (N : List Gathered) (j n t v : ℕ) → length (gathered_map S N j n t v) ≡ n
unfolding gathered_map
length-gathered_map S N j n t v = length-map-range_with_len (gathered_slot S N j t v) 0 n

pub slice_get-gathered_map : (S : List ℕ) (N : List Gathered) (j n t v i : ℕ) → i < n → slice_get (gathered_map S N j n t v) i ≡ Some (gathered_slot S N j t v i)
unfolding gathered_map
slice_get-gathered_map S N j n t v i h =
    let inside : i < length (map (gathered_slot S N j t v) (range_with_len 0 n)) = omega (arith, length-map-range_with_len (gathered_slot S N j t v) 0 n) in
    slice_get-get_or (map (gathered_slot S N j t v) (range_with_len 0 n)) i (gathered_slot S N j t v 0) inside
    ∙ ap Some (get_or-map-range_with_len (gathered_slot S N j t v) 0 n i i (gathered_slot S N j t v 0) h (omega arith))

pub bare_read : (P u : ℕ) → pages_read (bare_gathered_map P) u ≡ []
unfolding bare_gathered_map
bare_read P u = ap pages_gathered (slice_get-map bare_gathered (range_with_len 0 P) u) ∙ nothing (slice_get (range_with_len 0 P) u)
  where
    nothing : (o : Option ℕ) → pages_gathered (option_map bare_gathered o) ≡ []
    nothing None = refl
    nothing (Some g) = refl

-- along one machine more
pub gathered_map-snoc : (S : List ℕ) (N : List Gathered) (j : ℕ) (xs : List Item) (x : Item) → gathered_from S N j (xs ++ x ∷ []) ≡ gathered_map S (gathered_from S N j xs) (j + length xs) x.pages x.table x.version
unfolding gathered_from
gathered_map-snoc S N j [] x = let e : j ≡ j + 0 = omega arith in ap (λ (k : ℕ). gathered_map S N k x.pages x.table x.version) e
gathered_map-snoc S N j (y ∷ xs) x =
    let e : j + 1 + length xs ≡ j + suc (length xs) = omega arith in
    gathered_map-snoc S (gathered_map S N j y.pages y.table y.version) (j + 1) xs x
    ∙ ap (λ (k : ℕ). gathered_map S (gathered_from S (gathered_map S N j y.pages y.table y.version) (j + 1) xs) k x.pages x.table x.version) e

pub block_pages-snoc : (S : List ℕ) (N : List Gathered) (j : ℕ) (xs : List Item) (x : Item) → block_pages S N j (xs ++ x ∷ []) ≡ block_pages S N j xs ++ pages_read (gathered_from S N j xs) x.syllable
unfolding gathered_from block_pages
block_pages-snoc S N j [] x = append-nil (pages_read N x.syllable)
block_pages-snoc S N j (y ∷ xs) x =
    ap (λ (gs : List ℕ). pages_read N y.syllable ++ gs) (block_pages-snoc S (gathered_map S N j y.pages y.table y.version) (j + 1) xs x)
    ∙ sym (append_assoc (pages_read N y.syllable) (block_pages S (gathered_map S N j y.pages y.table y.version) (j + 1) xs) (pages_read (gathered_from S (gathered_map S N j y.pages y.table y.version) (j + 1) xs) x.syllable))

-- level by level
pub gathered_at-length : (S : List ℕ) (items : List Item) → gathered_at S items (length items) ≡ gathered_along S items
unfolding gathered_at
gathered_at-length S items = ap (gathered_along S) (take-length items)

pub gathered_at-suc : (S : List ℕ) (items : List Item) (k : ℕ) (x : Item) → slice_get items k ≡ Some x → gathered_at S items (k + 1) ≡ gathered_map S (gathered_at S items k) k x.pages x.table x.version
unfolding gathered_at gathered_along
gathered_at-suc S items k x is =
    let inside : k < length items = slice_get_within items k x is in
    let more : take (k + 1) items ≡ take k items ++ x ∷ [] =
    take_more items k x inside ∙ ap (λ (y : Item). take k items ++ y ∷ []) (get_or_from_slice_get items k x x is)
    in
    let level : 0 + length (take k items) ≡ k = omega (arith, length-take-le k items (omega arith)) in
    ap (gathered_from S (bare_gathered_map (page_count S)) 0) more
    ∙ gathered_map-snoc S (bare_gathered_map (page_count S)) 0 (take k items) x
    ∙ ap (λ (j : ℕ). gathered_map S (gathered_from S (bare_gathered_map (page_count S)) 0 (take k items)) j x.pages x.table x.version) level

pub read_at-zero : (S : List ℕ) (items : List Item) (k u : ℕ) → k ≡ 0 → pages_read (gathered_at S items k) u ≡ []
unfolding gathered_at gathered_along gathered_from
read_at-zero S items k u e =
    ap (λ (j : ℕ). pages_read (gathered_at S items j) u) e ∙ bare_read (page_count S) u

pub read_at-suc : (S : List ℕ) (items : List Item) (k j i : ℕ) (x : Item)
    → slice_get items k ≡ Some x
    → j ≡ k + 1
    → i < length (map_at S items j)
    → pages_read (gathered_at S items j) i ≡ (gathered_slot S (gathered_at S items k) k x.table x.version i).pages
read_at-suc S items k j i x is e h =
    let inside : i < x.pages = omega (arith, pages_at-suc S items k j x is e) in
    ap (λ (n : ℕ). pages_read (gathered_at S items n) i) e
    ∙ ap (λ (N : List Gathered). pages_read N i) (gathered_at-suc S items k x is)
    ∙ ap pages_gathered (slice_get-gathered_map S (gathered_at S items k) k x.pages x.table x.version i inside)

pub read_at-past : (S : List ℕ) (items : List Item) (k u : ℕ) → length (map_at S items k) ≤ u → pages_read (gathered_at S items k) u ≡ []
read_at-past S items k u h =
    let long : length (gathered_at S items k) ≡ length (map_at S items k) =
    sym (length-map (gathered_at S items k) (λ (n : Gathered). n.slot)) ∙ ap length (slots-at S items k)
    in
    ap pages_gathered (slice_get_past (gathered_at S items k) u (omega (arith, long, h)))

pub ruleset gathered_chains = (gathered_at-length)
