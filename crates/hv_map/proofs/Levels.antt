-- The maps along a chain, level by level.
use Rattle.std.proofs.Common.{◌≡◌, ℕ, zero, suc, ◌+◌, ◌*◌, ◌^◌, ◌<◌, Bool, true, false, cond, not, ◌==◌, List, [], ◌∷◌, ◌++◌, length, Some, refl, ap, ap₂, ◌∙◌, sym, arith, slice_get, get_or, take}
use Rattle.std.specs.Prelude.{count_by}
use Rattle.std.proofs.lemmas.List.{take_more, length-take-le}
use Rattle.std.proofs.lemmas.List.Sums.{count_by_more_no, count_by_more_yes}
use Rattle.std.proofs.lemmas.Option.{slice_get_within, get_or_from_slice_get}
use Rattle.std.proofs.Math.Seq.{take-length}
use Rattle.std.proofs.Math.Nat.{mul-pos, mul_assoc, mul_comm, pow-suc}
use Rattle.std.proofs.Math.Numerals.{add-one}
use Rattle.std.proofs.lemmas.Nat.{pow_pos}
use Rattle.hv_word.specs.Storage.{page_count}
use Rattle.hv_store.specs.declared.access.Slot.{Slot}
use Rattle.hv_store.specs.Access.{identity, open_at}
use Rattle.hv_store.proofs.Identity.{length-identity, slice_get-identity}
use Rattle.hv_map.specs.Item.{Item}
use Rattle.hv_map.specs.Compose.{compose, compose_slot, reading, entry_of, slot_of}
use Rattle.hv_map.specs.Chain.{along, map_along}
use Rattle.hv_map.specs.Levels.{map_at, reads_at, reads_bound, has_directory, has_table_alone}
use Rattle.hv_map.proofs.Slots.{along-snoc, length-composed, slice_get-composed}

-- the map at level 0 is the bare machine's
pub map_at-zero : (S : List ℕ) (items : List Item) → map_at S items 0 ≡ identity (page_count S)
unfolding map_at map_along along
map_at-zero S items = refl

-- the map at the last level is the chain's
pub map_at-length : (S : List ℕ) (items : List Item) → map_at S items (length items) ≡ map_along S items
unfolding map_at
map_at-length S items = ap (map_along S) (take-length items)

-- the map one level deeper is that of a child
pub map_at-suc : (S : List ℕ) (items : List Item) (k : ℕ) (x : Item) → slice_get items k ≡ Some x → map_at S items (k + 1) ≡ compose S (map_at S items k) k x.pages x.table x.version
unfolding map_at map_along
map_at-suc S items k x is =
    let inside : k < length items = slice_get_within items k x is in
    let same : get_or items k x ≡ x = get_or_from_slice_get items k x x is in
    let more : take (k + 1) items ≡ take k items ++ x ∷ [] = take_more items k x inside ∙ ap (λ (y : Item). take k items ++ y ∷ []) same in
    let level : 0 + length (take k items) ≡ k = omega (arith, length-take-le k items (omega arith)) in
    ap (along S (identity (page_count S)) 0) more
    ∙ along-snoc S (identity (page_count S)) 0 (take k items) x
    ∙ ap (λ (j : ℕ). compose S (along S (identity (page_count S)) 0 (take k items)) j x.pages x.table x.version) level

-- how many pages the machines have
pub pages_at-zero : (S : List ℕ) (items : List Item) (k : ℕ) → k ≡ 0 → length (map_at S items k) ≡ page_count S
pages_at-zero S items k e =
    ap (λ (j : ℕ). length (map_at S items j)) e ∙ ap length (map_at-zero S items) ∙ length-identity (page_count S)

pub pages_at-suc : (S : List ℕ) (items : List Item) (k j : ℕ) (x : Item) → slice_get items k ≡ Some x → j ≡ k + 1 → length (map_at S items j) ≡ x.pages
pages_at-suc S items k j x is e =
    ap (λ (n : ℕ). length (map_at S items n)) e
    ∙ ap length (map_at-suc S items k x is)
    ∙ length-composed S (map_at S items k) k x.pages x.table x.version

-- and where their pages lie
pub slot_at-zero : (S : List ℕ) (items : List Item) (k i : ℕ) → k ≡ 0 → i < length (map_at S items k) → slice_get (map_at S items k) i ≡ Some (open_at i)
slot_at-zero S items k i e h =
    let inside : i < page_count S = omega (arith, pages_at-zero S items k e) in
    ap (λ (j : ℕ). slice_get (map_at S items j) i) e
    ∙ ap (λ (F : List Slot). slice_get F i) (map_at-zero S items)
    ∙ slice_get-identity (page_count S) i inside

pub slot_at-suc : (S : List ℕ) (items : List Item) (k j i : ℕ) (x : Item)
    → slice_get items k ≡ Some x
    → j ≡ k + 1
    → i < length (map_at S items j)
    → slice_get (map_at S items j) i ≡ Some (slot_of (map_at S items k) k x.version i (entry_of S (reading (map_at S items k)) k x.table x.version i))
unfolding compose_slot
slot_at-suc S items k j i x is e h =
    let inside : i < x.pages = omega (arith, pages_at-suc S items k j x is e) in
    ap (λ (n : ℕ). slice_get (map_at S items n) i) e
    ∙ ap (λ (F : List Slot). slice_get F i) (map_at-suc S items k x is)
    ∙ slice_get-composed S (map_at S items k) k x.pages x.table x.version i inside

-- how many table words are read
pub reads_at-length : (items : List Item) → reads_at items (length items) ≡ reads_bound items
unfolding reads_at
reads_at-length items = ap reads_bound (take-length items)

pub reads_at-some : (items : List Item) (k : ℕ) → 0 < reads_at items k
unfolding reads_at
reads_at-some items k = positive (count_by has_table_alone (take k items)) (count_by has_directory (take k items))
  where
    threes : (b : ℕ) → 0 < 3 ^ b
    threes zero = omega arith
    threes (suc b) = omega (arith, pow-suc 3 b, threes b)

    positive : (a b : ℕ) → 0 < 2 ^ a * 3 ^ b
    positive a b = mul-pos (pow_pos a) (threes b)

pub reads_at-zero : (items : List Item) (k : ℕ) → k ≡ 0 → reads_at items k ≡ 1
unfolding reads_at
reads_at-zero items k e = ap (λ (j : ℕ). reads_bound (take j items)) e

pub reads_at-suc : (items : List Item) (k j : ℕ) (x : Item) → slice_get items k ≡ Some x → j ≡ k + 1 → reads_at items j ≡ cond (x.version == 2) (3 * reads_at items k) (2 * reads_at items k)
unfolding reads_at
reads_at-suc items k j x is e = ap (λ (n : ℕ). reads_bound (take n items)) e ∙ go (x.version == 2) refl
  where
    inside : k < length items
    inside = slice_get_within items k x is

    same : get_or items k x ≡ x
    same = get_or_from_slice_get items k x x is

    go : (b : Bool) → (x.version == 2) ≡ b → reads_bound (take (k + 1) items) ≡ cond b (3 * reads_bound (take k items)) (2 * reads_bound (take k items))
    go true v =
        let yes : has_directory (get_or items k x) ≡ true = ap has_directory same ∙ v in
        let no : has_table_alone (get_or items k x) ≡ false = ap has_table_alone same ∙ ap not v in
        ap₂ (λ (a b : ℕ). 2 ^ a * 3 ^ b) (count_by_more_no has_table_alone items k x inside no) (count_by_more_yes has_directory items k x inside yes)
        ∙ thrice (2 ^ count_by has_table_alone (take k items)) (count_by has_directory (take k items))
      where
        thrice : (m b : ℕ) → m * 3 ^ (b + 1) ≡ 3 * (m * 3 ^ b)
        thrice m b = ap (λ (q : ℕ). m * q) (ap (λ (q : ℕ). 3 ^ q) (add-one b) ∙ pow-suc 3 b) ∙ sym (mul_assoc m (3 ^ b) 3) ∙ mul_comm (m * 3 ^ b) 3
    go false v =
        let no : has_directory (get_or items k x) ≡ false = ap has_directory same ∙ v in
        let yes : has_table_alone (get_or items k x) ≡ true = ap has_table_alone same ∙ ap not v in
        ap₂ (λ (a b : ℕ). 2 ^ a * 3 ^ b) (count_by_more_yes has_table_alone items k x inside yes) (count_by_more_no has_directory items k x inside no)
        ∙ twice (count_by has_table_alone (take k items)) (3 ^ count_by has_directory (take k items))
      where
        twice : (a m : ℕ) → 2 ^ (a + 1) * m ≡ 2 * (2 ^ a * m)
        twice a m = ap (λ (q : ℕ). q * m) (ap (λ (q : ℕ). 2 ^ q) (add-one a) ∙ pow-suc 2 a ∙ mul_comm (2 ^ a) 2) ∙ mul_assoc 2 (2 ^ a) m

pub ruleset levels = (pages_at-zero, pages_at-suc, slot_at-zero, slot_at-suc, reads_at-some, reads_at-zero, reads_at-suc)

pub ruleset chains = (map_at-length, reads_at-length)
