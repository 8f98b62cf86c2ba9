-- The pages of a machine and of those on the way to it, one more each time.
use Rattle.std.proofs.Common.{◌≡◌, ℕ, zero, suc, ◌+◌, ◌*◌, ◌<◌, ◌≤◌, List, [], ◌∷◌, ◌++◌, length, Option, Some, None, IfSome, refl, ap, ◌∙◌, sym, arith, slice_get, get_or, take, append_assoc}
use Rattle.std.specs.List.{range_with_len, flat_map}
use Rattle.std.specs.Option.{option_map}
use Rattle.std.proofs.lemmas.List.{append-nil, take_more}
use Rattle.std.proofs.lemmas.Grind.{flat_map-append}
use Rattle.std.proofs.lemmas.Option.{slice_get_within, get_or_from_slice_get, slice_get-get_or, same_Some}
use Rattle.hv_store.specs.declared.access.Slot.{Slot}
use Rattle.hv_store.specs.Access.{identity, open_at}
use Rattle.hv_limits.specs.Limits.{pages_limit}
use Rattle.hv_word.specs.Storage.{page_count}
use Rattle.hv_map.specs.Apart.{blocks_of, open_page, open_page_if, open_pages, table_open, tables_of, directory_of, tables_along}
use Rattle.hv_map.specs.Chain.{along, map_along}
use Rattle.hv_map.specs.Compose.{compose, reading, table_of}
use Rattle.hv_map.specs.Item.{Item}
use Rattle.hv_map.specs.Links.{chain_item}
use Rattle.hv_map.specs.declared.chain.ChainItem.{ChainItem}
use Rattle.hv_apart.specs.Table.{item_of_chain, first_tables}

-- one number more in a range
pub range-push : (a n : ℕ) → range_with_len a (n + 1) ≡ range_with_len a n ++ (a + n) ∷ []
range-push a zero = ap (λ (k : ℕ). k ∷ []) (omega arith)
range-push a (suc n) =
    let more : suc n + 1 ≡ suc (n + 1) = omega arith in
    ap (range_with_len a) more
    ∙ ap (λ (ks : List ℕ). a ∷ ks) (range-push (a + 1) n ∙ ap (λ (k : ℕ). range_with_len (a + 1) n ++ k ∷ []) (omega arith))

-- one item more
pub take-push : (X : Type 0) (xs : List X) (i : ℕ) (x : X) → slice_get xs i ≡ Some x → take (i + 1) xs ≡ take i xs ++ x ∷ []
take-push X xs i x is =
    take_more xs i x (slice_get_within xs i x is) ∙ ap (λ (y : X). take i xs ++ y ∷ []) (get_or_from_slice_get xs i x x is)

pub flat_map-push : (X : Type 0) (f : X → List ℕ) (xs : List X) (x : X) → flat_map f (xs ++ x ∷ []) ≡ flat_map f xs ++ f x
flat_map-push X f xs x = flat_map-append f xs (x ∷ []) ∙ ap (λ (ys : List ℕ). flat_map f xs ++ ys) (append-nil (f x))

-- the machine of a chain at a place
pub item_there : (items : List Item) (i : ℕ) (c : ChainItem) → option_map chain_item (slice_get items i) ≡ Some c → (x : Item) × (slice_get items i ≡ Some x) × (chain_item x ≡ c)
item_there items i c e = go (slice_get items i) refl e
  where
    go : (o : Option Item) → slice_get items i ≡ o → option_map chain_item o ≡ Some c → (x : Item) × (slice_get items i ≡ Some x) × (chain_item x ≡ c)
    go None is h = cc
    go (Some x) is h = (x, is, same_Some (chain_item x) c h)

-- blocks
map-push : (items : List Item) (x : Item) → blocks_of (items ++ x ∷ []) ≡ blocks_of items ++ x.block ∷ []
map-push [] x = refl
map-push (y ∷ ys) x = ap (λ (bs : List ℕ). y.block ∷ bs) (map-push ys x)

pub blocks-push : (items : List Item) (i : ℕ) (x : Item) → slice_get items i ≡ Some x → blocks_of (take (i + 1) items) ≡ blocks_of (take i items) ++ x.block ∷ []
blocks-push items i x is = ap blocks_of (take-push Item items i x is) ∙ map-push (take i items) x

-- pages
pub pages-push : (F : List Slot) (i : ℕ) → i < length F → open_pages (take (i + 1) F) ≡ open_pages (take i F) ++ open_page_if (reading F i)
pages-push F i h =
    let s : Slot = get_or F i (open_at 0) in
    let is : slice_get F i ≡ Some s = slice_get-get_or F i (open_at 0) h in
    ap open_pages (take-push Slot F i s is)
    ∙ flat_map-push Slot (λ (t : Slot). open_page t.read) (take i F) s
    ∙ ap (λ (o : Option Slot). open_pages (take i F) ++ open_page_if (option_map (λ (t : Slot). t.read) o)) (sym is)

-- tables
pub tables-push : (S : List ℕ) (F : List Slot) (j : ℕ) (x : Item) (k : ℕ) → first_tables S F j x (k + 1) ≡ first_tables S F j x k ++ table_open F (table_of S (reading F) j x.table x.version (1024 * k))
tables-push S F j x k =
    ap (flat_map of) (range-push 0 k)
    ∙ flat_map-push ℕ of (range_with_len 0 k) (0 + k)
    ∙ ap (λ (n : ℕ). flat_map of (range_with_len 0 k) ++ of n) (omega arith)
  where
    of : ℕ → List ℕ
    of n = table_open F (table_of S (reading F) j x.table x.version (1024 * n))

-- and those of one machine more
pub tables_along-push : (S : List ℕ) (F : List Slot) (j : ℕ) (xs : List Item) (x : Item)
    → tables_along S F j (xs ++ x ∷ []) ≡ tables_along S F j xs ++ (directory_of (along S F j xs) x ++ tables_of S (along S F j xs) (j + length xs) x)
unfolding tables_along along
tables_along-push S F j [] x =
    append-nil (directory_of F x ++ tables_of S F j x)
    ∙ ap (λ (k : ℕ). directory_of F x ++ tables_of S F k x) (omega arith)
tables_along-push S F j (y ∷ ys) x =
    let G = compose S F j y.pages y.table y.version in
    let level : j + 1 + length ys ≡ j + suc (length ys) = omega arith in
    ap (λ (zs : List ℕ). (directory_of F y ++ tables_of S F j y) ++ zs) (tables_along-push S G (j + 1) ys x)
    ∙ sym (append_assoc (directory_of F y ++ tables_of S F j y) (tables_along S G (j + 1) ys) (directory_of (along S G (j + 1) ys) x ++ tables_of S (along S G (j + 1) ys) (j + 1 + length ys) x))
    ∙ ap (λ (k : ℕ). ((directory_of F y ++ tables_of S F j y) ++ tables_along S G (j + 1) ys) ++ (directory_of (along S G (j + 1) ys) x ++ tables_of S (along S G (j + 1) ys) k x)) level

-- of a chain of the store, whose first machines are given as `parent`
pub tables_along-more : (S : List ℕ) (items parent : List Item) (level : ℕ) (x : Item) (c : ChainItem)
    → slice_get items level ≡ Some x
    → chain_item x ≡ c
    → parent ≡ take level items
    → tables_along S (identity (page_count S)) 0 (take (level + 1) items)
    ≡ tables_along S (identity (page_count S)) 0 (take level items)
    ++ (directory_of (map_along S parent) (item_of_chain c) ++ tables_of S (map_along S parent) (length parent) (item_of_chain c))
unfolding map_along
tables_along-more S items parent level x c is said there =
    let P = identity (page_count S) in
    let first = take level items in
    let start : 0 + length first ≡ length first = omega arith in
    ap (tables_along S P 0) (take-push Item items level x is)
    ∙ tables_along-push S P 0 first x
    ∙ ap (λ (k : ℕ). tables_along S P 0 first ++ (directory_of (along S P 0 first) x ++ tables_of S (along S P 0 first) k x)) start
    ∙ ap (λ (d : ChainItem). tables_along S P 0 first ++ (directory_of (along S P 0 first) (item_of_chain d) ++ tables_of S (along S P 0 first) (length first) (item_of_chain d))) said
    ∙ ap (λ (ps : List Item). tables_along S P 0 first ++ (directory_of (along S P 0 ps) (item_of_chain c) ++ tables_of S (along S P 0 ps) (length ps) (item_of_chain c))) (sym there)

-- a page that was found
pub found_below : (r : Option ℕ) (P : ℕ) → P ≤ pages_limit → IfSome r (λ g. g < P) → IfSome r (λ g. g < pages_limit)
found_below None P b h = h
found_below (Some g) P b h = omega arith
