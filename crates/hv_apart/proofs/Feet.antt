-- The places of a machine's words, some more each time.
use Rattle.std.proofs.Common.{◌≡◌, ℕ, zero, suc, ◌+◌, ◌*◌, ◌/◌, ◌%◌, ◌<◌, ◌≤◌, List, [], ◌∷◌, ◌++◌, length, map, Option, Some, None, refl, ap, ap₂, ◌∙◌, sym, arith, slice_get, take, append_assoc}
use Rattle.std.specs.List.{range_with_len, flat_map}
use Rattle.std.specs.Option.{option_to_list}
use Rattle.std.proofs.lemmas.List.{append-nil}
use Rattle.std.proofs.lemmas.List.Concat.{flat_map_single}
use Rattle.std.proofs.lemmas.List.FromFn.{map-range_with_len_more}
use Rattle.std.proofs.lemmas.Grind.{flat_map-append}
use Rattle.hv_word.specs.Storage.{page_count}
use Rattle.hv_store.specs.declared.access.Slot.{Slot}
use Rattle.hv_store.specs.Access.{identity}
use Rattle.hv_map.specs.Apart.{open_page_if, open_pages, directory_of, table_open, table_pages}
use Rattle.hv_map.specs.Chain.{along, map_along}
use Rattle.hv_map.specs.Compose.{compose, reading, table_of}
use Rattle.hv_map.specs.Item.{Item}
use Rattle.hv_map.specs.Links.{chain_item}
use Rattle.hv_map.specs.declared.chain.ChainItem.{ChainItem}
use Rattle.hv_map.proofs.Caching.{table_open-same}
use Rattle.hv_nest.specs.Watched.{places, item_foot, chain_foot, own_places, page_foot}
use Rattle.hv_apart.specs.Table.{item_of_chain, table_places, places_in}
use Rattle.hv_apart.proofs.Growing.{range-push, take-push, flat_map-push, pages-push}

-- words of one page
pub places-push : (g from k : ℕ) → places g (range_with_len from (k + 1)) ≡ places g (range_with_len from k) ++ (1024 * g + (from + k)) ∷ []
places-push g from k = map-range_with_len_more (λ (n : ℕ). 1024 * g + n) from k (from + k) refl

pub places-append : (g : ℕ) (ks ns : List ℕ) → places g (ks ++ ns) ≡ places g ks ++ places g ns
places-append g [] ns = refl
places-append g (k ∷ ks) ns = ap (λ (xs : List ℕ). (1024 * g + k) ∷ xs) (places-append g ks ns)

-- a control block's own words
pub own-parts : (o : Option ℕ) → own_places o ≡ places_in 0 42 (option_to_list o) ++ (places_in 43 6 (option_to_list o) ++ places_in 64 1 (option_to_list o))
own-parts None = refl
own-parts (Some g) =
    places-append g (range_with_len 0 42) (range_with_len 43 6 ++ 64 ∷ [])
    ∙ ap (λ (xs : List ℕ). places g (range_with_len 0 42) ++ xs) (places-append g (range_with_len 43 6) (64 ∷ []))
    ∙ ap₂ (λ (a b : List ℕ). a ++ (b ++ places g (64 ∷ []))) (sym (append-nil (places g (range_with_len 0 42)))) (sym (append-nil (places g (range_with_len 43 6))))

-- the pages that can be read
pub page_foot-push : (F : List Slot) (i : ℕ) → i < length F → page_foot (take (i + 1) F) ≡ page_foot (take i F) ++ places_in 0 1024 (open_page_if (reading F i))
page_foot-push F i h =
    ap (places_in 0 1024) (pages-push F i h)
    ∙ flat_map-append (λ (g : ℕ). places g (range_with_len 0 1024)) (open_pages (take i F)) (open_page_if (reading F i))

-- table words
pub table_places-push : (S : List ℕ) (F : List Slot) (j : ℕ) (x : Item) (i : ℕ)
    → table_places S F j x (i + 1) ≡ table_places S F j x i ++ places_in (i % 1024) 1 (table_open F (table_of S (reading F) j x.table x.version i))
table_places-push S F j x i =
    ap (flat_map of) (range-push 0 i)
    ∙ flat_map-push ℕ of (range_with_len 0 i) (0 + i)
    ∙ ap (λ (n : ℕ). flat_map of (range_with_len 0 i) ++ of n) (omega arith)
    ∙ ap (λ (xs : List ℕ). flat_map of (range_with_len 0 i) ++ xs) (sym (flat_map_single (λ (g : ℕ). 1024 * g + i % 1024) (opens i)))
  where
    opens : ℕ → List ℕ
    opens n = table_open F (table_of S (reading F) j x.table x.version n)

    of : ℕ → List ℕ
    of n = map (λ (g : ℕ). 1024 * g + n % 1024) (opens n)

-- those in one page of the table
places_in-push : (r : Option ℕ) (n : ℕ) → places_in 0 n (option_to_list r) ++ places_in n 1 (option_to_list r) ≡ places_in 0 (n + 1) (option_to_list r)
places_in-push None n = refl
places_in-push (Some g) n =
    ap₂ (λ (a b : List ℕ). a ++ b) (append-nil (places g (range_with_len 0 n))) (append-nil (places g (range_with_len n 1)))
    ∙ ap (λ (k : ℕ). places g (range_with_len 0 n) ++ (1024 * g + k) ∷ []) (omega arith)
    ∙ sym (places-push g 0 n)
    ∙ sym (append-nil (places g (range_with_len 0 (n + 1))))

pub table_places-chunk : (S : List ℕ) (F : List Slot) (j : ℕ) (x : Item) (k n : ℕ) (r : Option ℕ)
    → n ≤ 1024
    → option_to_list r ≡ table_open F (table_of S (reading F) j x.table x.version (1024 * k))
    → table_places S F j x (1024 * k + n) ≡ table_places S F j x (1024 * k) ++ places_in 0 n (option_to_list r)
table_places-chunk S F j x k zero r h is =
    let start : 1024 * k + 0 ≡ 1024 * k = omega arith in
    ap (table_places S F j x) start
    ∙ sym (append-nil (table_places S F j x (1024 * k)))
    ∙ ap (λ (xs : List ℕ). table_places S F j x (1024 * k) ++ xs) (none r)
  where
    none : (o : Option ℕ) → [] ≡ places_in 0 0 (option_to_list o)
    none None = refl
    none (Some g) = refl
table_places-chunk S F j x k (suc n) r h is =
    let more : 1024 * k + suc n ≡ 1024 * k + n + 1 = omega arith in
    let word : (1024 * k + n) % 1024 ≡ n = omega arith in
    let page : (1024 * k + n) / 1024 ≡ 1024 * k / 1024 = omega arith in
    let next : n + 1 ≡ suc n = omega arith in
    let before = table_places S F j x (1024 * k) in
    let some = places_in 0 n (option_to_list r) in
    let same : table_open F (table_of S (reading F) j x.table x.version (1024 * k + n)) ≡ option_to_list r =
    table_open-same S F j (1024 * k + n) (1024 * k) x.table x.version page ∙ sym is
    in
    ap (table_places S F j x) more
    ∙ table_places-push S F j x (1024 * k + n)
    ∙ ap₂ (λ (xs gs : List ℕ). xs ++ places_in ((1024 * k + n) % 1024) 1 gs) (table_places-chunk S F j x k n r (omega arith) is) same
    ∙ ap (λ (m : ℕ). (before ++ some) ++ places_in m 1 (option_to_list r)) word
    ∙ append_assoc before some (places_in n 1 (option_to_list r))
    ∙ ap (λ (xs : List ℕ). before ++ xs) (places_in-push r n)
    ∙ ap (λ (m : ℕ). before ++ places_in 0 m (option_to_list r)) next

-- what one machine's map is read from
pub item-parts : (S : List ℕ) (F : List Slot) (j : ℕ) (c : ChainItem)
    → item_foot S F j (item_of_chain c)
    ≡ places_in 65 3 (c.block ∷ [])
    ++ (places_in 0 (table_pages c.pages) (directory_of F (item_of_chain c)) ++ table_places S F j (item_of_chain c) c.pages)
item-parts S F j c = refl

-- and what that of one machine more is
pub chain_foot-push : (S : List ℕ) (F : List Slot) (j : ℕ) (xs : List Item) (x : Item)
    → chain_foot S F j (xs ++ x ∷ []) ≡ chain_foot S F j xs ++ item_foot S (along S F j xs) (j + length xs) x
unfolding chain_foot along
chain_foot-push S F j [] x =
    append-nil (item_foot S F j x) ∙ ap (λ (k : ℕ). item_foot S F k x) (omega arith)
chain_foot-push S F j (y ∷ ys) x =
    let G = compose S F j y.pages y.table y.version in
    let level : j + 1 + length ys ≡ j + suc (length ys) = omega arith in
    ap (λ (zs : List ℕ). item_foot S F j y ++ zs) (chain_foot-push S G (j + 1) ys x)
    ∙ sym (append_assoc (item_foot S F j y) (chain_foot S G (j + 1) ys) (item_foot S (along S G (j + 1) ys) (j + 1 + length ys) x))
    ∙ ap (λ (k : ℕ). (item_foot S F j y ++ chain_foot S G (j + 1) ys) ++ item_foot S (along S G (j + 1) ys) k x) level

pub chain_foot-more : (S : List ℕ) (items parent : List Item) (level : ℕ) (x : Item) (c : ChainItem)
    → slice_get items level ≡ Some x
    → chain_item x ≡ c
    → parent ≡ take level items
    → chain_foot S (identity (page_count S)) 0 (take (level + 1) items)
    ≡ chain_foot S (identity (page_count S)) 0 (take level items) ++ item_foot S (map_along S parent) (length parent) (item_of_chain c)
unfolding map_along
chain_foot-more S items parent level x c is said there =
    let P = identity (page_count S) in
    let first = take level items in
    let start : 0 + length first ≡ length first = omega arith in
    ap (chain_foot S P 0) (take-push Item items level x is)
    ∙ chain_foot-push S P 0 first x
    ∙ ap (λ (k : ℕ). chain_foot S P 0 first ++ item_foot S (along S P 0 first) k x) start
    ∙ ap (λ (d : ChainItem). chain_foot S P 0 first ++ item_foot S (along S P 0 first) (length first) (item_of_chain d)) said
    ∙ ap (λ (ps : List Item). chain_foot S P 0 first ++ item_foot S (along S P 0 ps) (length ps) (item_of_chain c)) (sym there)
