-- What a list has after pages were added, and the kinds of pages beside it.
use Rattle.std.proofs.Common.{◌≡◌, ℕ, zero, suc, ◌+◌, ◌<◌, ◌≤◌, ◌≢◌, inl, inr, Bool, true, false, ◌||◌, cond, ◌==◌, List, [], ◌∷◌, ◌++◌, length, set, take, get_or, refl, ap, ◌∙◌, sym, subst, arith, length-set, get_or-set_same, get_or-set_other}
use Rattle.std.specs.Prelude.{◌⊎◌, All, bit_and, bit_or}
use Rattle.std.specs.List.{IsDistinct}
use Rattle.std.proofs.lemmas.Bool.Decides.{eqb_tells}
use Rattle.std.proofs.lemmas.Cmp.{nat_eq_equiv}
use Rattle.std.proofs.lemmas.List.{get_or_read, length_push, take_more}
use Rattle.std.proofs.lemmas.List.Folds.{list_any-append, list_any_at}
use Rattle.std.proofs.lemmas.Map.Keys.{IsDistinct-push}
use Rattle.std.proofs.lemmas.Map.Steps.{length-le_from_distinct_below}
use Rattle.hv_limits.specs.Limits.{pages_limit}
use Rattle.hv_word.specs.Words.{has}
use Rattle.hv_map.specs.Held.{Lists}
use Rattle.hv_fast.specs.Marked.{IsMore, Marked, listed}
use Rattle.hv_fast.specs.Marking.{IsKinds, kind_of, with_each, with_new, with_table, with_tables}

same_number : (g : ℕ) → (g == g) ≡ true
same_number g = elim (eqb_tells g g) [ inl e ↦ e.0 | inr e ↦ absurd (e.1 refl) ]

or_true : (a : Bool) → (a || true) ≡ true
or_true true = refl
or_true false = refl

or_false : (a : Bool) → (a || false) ≡ a
or_false true = refl
or_false false = refl

-- a page that is pushed is there, those before it are, and no others
has_push : (h g : ℕ) (gs : List ℕ) → has h (gs ++ g ∷ []) ≡ (has h gs || ((h == g) || false))
has_push h g gs = list_any-append (λ (b : ℕ). h == b) gs (g ∷ [])

has_pushed : (g : ℕ) (gs : List ℕ) → has g (gs ++ g ∷ []) ≡ true
has_pushed g gs = has_push g g gs ∙ ap (λ (b : Bool). has g gs || (b || false)) (same_number g) ∙ or_true (has g gs)

has_before : (h g : ℕ) (gs : List ℕ) → has h gs ≡ true → has h (gs ++ g ∷ []) ≡ true
has_before h g gs e = has_push h g gs ∙ ap (λ (b : Bool). b || ((h == g) || false)) e

has_others : (h g : ℕ) (gs : List ℕ) → (h == g) ≡ false → has h (gs ++ g ∷ []) ≡ has h gs
has_others h g gs e = has_push h g gs ∙ ap (λ (b : Bool). has h gs || (b || false)) e ∙ or_false (has h gs)

-- the same of a page that is added where it isn't there yet
new_there : (g : ℕ) (gs : List ℕ) → has g (with_new gs g) ≡ true
new_there g gs = go (has g gs) refl
  where
    go : (b : Bool) → has g gs ≡ b → has g (cond b gs (gs ++ g ∷ [])) ≡ true
    go true e = e
    go false e = has_pushed g gs

new_keeps : (h g : ℕ) (gs : List ℕ) → has h gs ≡ true → has h (with_new gs g) ≡ true
new_keeps h g gs e = go (has g gs)
  where
    go : (b : Bool) → has h (cond b gs (gs ++ g ∷ [])) ≡ true
    go true = e
    go false = has_before h g gs e

each_keeps : (h : ℕ) (gs hs : List ℕ) → has h gs ≡ true → has h (with_each gs hs) ≡ true
unfolding with_each
each_keeps h gs [] e = e
each_keeps h gs (g ∷ hs) e = each_keeps h (with_new gs g) hs (new_keeps h g gs e)

-- each page of some that were added is there
pub each_there : (gs hs : List ℕ) → Lists (listed (with_each gs hs)) hs
unfolding with_each
each_there gs [] = tt
each_there gs (h ∷ hs) = (each_keeps h (with_new gs h) hs (new_there h gs), each_there (with_new gs h) hs)

pub tables_more : (m : Marked) (hs : List ℕ) → IsMore m (with_tables m hs)
tables_more m hs = record { tables = λ g e. each_keeps g m.tables hs e; blocks = λ g e. e }

-- one page more
pub each_push : (gs hs : List ℕ) (g : ℕ) → with_each gs (hs ++ g ∷ []) ≡ with_new (with_each gs hs) g
unfolding with_each
each_push gs [] g = refl
each_push gs (h ∷ hs) g = each_push (with_new gs h) hs g

pub tables_none : (m : Marked) → m ≡ with_tables m []
unfolding with_each
tables_none m = refl

pub tables_next : (m : Marked) (hs : List ℕ) (i : ℕ) → i < length hs → with_table (with_tables m (take i hs)) (get_or hs i 0) ≡ with_tables m (take (i + 1) hs)
tables_next m hs i lt =
    ap (λ (gs : List ℕ). record { tables = gs; blocks = m.blocks }) (
    sym (each_push m.tables (take i hs) (get_or hs i 0))
    ∙ sym (ap (with_each m.tables) (take_more hs i 0 lt))
    )

-- a number in a list that isn't 0 has a place in it
placed : (xs : List ℕ) (g : ℕ) → (get_or xs g 0 ≡ 0 → ⊥) → g < length xs
placed [] g some = absurd (some refl)
placed (x ∷ xs) zero some = omega arith
placed (x ∷ xs) (suc g) some = omega (arith, placed xs g some)

some_table : (b : Bool) → kind_of true b ≡ 0 → ⊥
some_table true e = omega arith
some_table false e = omega arith

some_block : (a : Bool) → kind_of a true ≡ 0 → ⊥
some_block true e = omega arith
some_block false e = omega arith

-- what is marked is below the limit
table_below : (ks ts bs : List ℕ) → IsKinds ks ts bs → (g : ℕ) → has g ts ≡ true → g < pages_limit
table_below ks ts bs is g e =
    let inside : g < length ks =
    placed ks g (λ z. some_table (has g bs) (sym (ap (λ (a : Bool). kind_of a (has g bs)) e) ∙ sym (is.each g) ∙ z))
    in
    omega (arith, inside, is.long)

block_below : (ks ts bs : List ℕ) → IsKinds ks ts bs → (g : ℕ) → has g bs ≡ true → g < pages_limit
block_below ks ts bs is g e =
    let inside : g < length ks =
    placed ks g (λ z. some_block (has g ts) (sym (ap (λ (b : Bool). kind_of (has g ts) b) e) ∙ sym (is.each g) ∙ z))
    in
    omega (arith, inside, is.long)

-- a list of different numbers below a limit has room for one that isn't there
has_room : (n : ℕ) (gs : List ℕ) (g : ℕ) → IsDistinct (λ a b. a == b) gs → ((h : ℕ) → has h gs ≡ true → h < n) → g < n → has g gs ≡ false → length gs < n
has_room n gs g apart below lt new =
    let long : length (gs ++ g ∷ []) ≤ n =
    length-le_from_distinct_below (gs ++ g ∷ []) n (IsDistinct-push nat_eq_equiv gs g apart new) (λ h e. all h (eqb_tells h g) e)
    in
    omega (arith, long, length_push gs g)
  where
    all : (h : ℕ) → (((h == g) ≡ true) × (h ≡ g)) ⊎ (((h == g) ≡ false) × (h ≢ g)) → has h (gs ++ g ∷ []) ≡ true → h < n
    all h (inl same) e = omega (arith, lt, same.1)
    all h (inr other) e = below h (sym (has_others h g gs other.0) ∙ e)

table_room : (ks ts bs : List ℕ) (g : ℕ) → IsKinds ks ts bs → g < pages_limit → has g ts ≡ false → length ts < pages_limit
table_room ks ts bs g is lt new = has_room pages_limit ts g is.tables_apart (table_below ks ts bs is) lt new

block_room : (ks ts bs : List ℕ) (g : ℕ) → IsKinds ks ts bs → g < pages_limit → has g bs ≡ false → length bs < pages_limit
block_room ks ts bs g is lt new = has_room pages_limit bs g is.blocks_apart (block_below ks ts bs is) lt new

-- the bits of a kind
no_table : (a b : Bool) → bit_and (kind_of a b) 1 ≡ 0 → a ≡ false
no_table true true e = absurd (omega arith)
no_table true false e = absurd (omega arith)
no_table false b e = refl

no_block : (a b : Bool) → bit_and (kind_of a b) 2 ≡ 0 → b ≡ false
no_block true true e = absurd (omega arith)
no_block false true e = absurd (omega arith)
no_block a false e = refl

add_table : (b : Bool) → bit_or (kind_of false b) 1 ≡ kind_of true b
add_table true = refl
add_table false = refl

add_block : (a : Bool) → bit_or (kind_of a false) 2 ≡ kind_of a true
add_block true = refl
add_block false = refl

table_new : (ks ts bs : List ℕ) (g : ℕ) → IsKinds ks ts bs → bit_and (get_or ks g 0) 1 ≡ 0 → has g ts ≡ false
table_new ks ts bs g is e = no_table (has g ts) (has g bs) (ap (λ (k : ℕ). bit_and k 1) (sym (is.each g)) ∙ e)

block_new : (ks ts bs : List ℕ) (g : ℕ) → IsKinds ks ts bs → bit_and (get_or ks g 0) 2 ≡ 0 → has g bs ≡ false
block_new ks ts bs g is e = no_block (has g ts) (has g bs) (ap (λ (k : ℕ). bit_and k 2) (sym (is.each g)) ∙ e)

-- a page that is marked anew, in its list and in the kinds
put_table : (ks ts bs : List ℕ) (g : ℕ) → IsKinds ks ts bs → g < pages_limit → has g ts ≡ false → IsKinds (set ks g (bit_or (get_or ks g 0) 1)) (ts ++ g ∷ []) bs
put_table ks ts bs g is lt new = record {
  long = length-set ks g (bit_or (get_or ks g 0) 1) ∙ is.long;
  each = λ h. at h (eqb_tells h g);
  tables_apart = IsDistinct-push nat_eq_equiv ts g is.tables_apart new;
  blocks_apart = is.blocks_apart;
}
  where
    inside : g < length ks
    inside = omega (arith, lt, is.long)

    at : (h : ℕ) → (((h == g) ≡ true) × (h ≡ g)) ⊎ (((h == g) ≡ false) × (h ≢ g)) → get_or (set ks g (bit_or (get_or ks g 0) 1)) h 0 ≡ kind_of (has h (ts ++ g ∷ [])) (has h bs)
    at h (inl same) =
        ap (λ (k : ℕ). get_or (set ks g (bit_or (get_or ks g 0) 1)) k 0) same.1
        ∙ get_or-set_same ks g (bit_or (get_or ks g 0) 1) 0 inside
        ∙ ap (λ (k : ℕ). bit_or k 1) (is.each g)
        ∙ ap (λ (a : Bool). bit_or (kind_of a (has g bs)) 1) new
        ∙ add_table (has g bs)
        ∙ sym (ap (λ (a : Bool). kind_of a (has g bs)) (has_pushed g ts))
        ∙ sym (ap (λ (k : ℕ). kind_of (has k (ts ++ g ∷ [])) (has k bs)) same.1)
    at h (inr other) =
        get_or-set_other ks g h (bit_or (get_or ks g 0) 1) 0 other.1
        ∙ is.each h
        ∙ sym (ap (λ (a : Bool). kind_of a (has h bs)) (has_others h g ts other.0))

put_block : (ks ts bs : List ℕ) (g : ℕ) → IsKinds ks ts bs → g < pages_limit → has g bs ≡ false → IsKinds (set ks g (bit_or (get_or ks g 0) 2)) ts (bs ++ g ∷ [])
put_block ks ts bs g is lt new = record {
  long = length-set ks g (bit_or (get_or ks g 0) 2) ∙ is.long;
  each = λ h. at h (eqb_tells h g);
  tables_apart = is.tables_apart;
  blocks_apart = IsDistinct-push nat_eq_equiv bs g is.blocks_apart new;
}
  where
    inside : g < length ks
    inside = omega (arith, lt, is.long)

    at : (h : ℕ) → (((h == g) ≡ true) × (h ≡ g)) ⊎ (((h == g) ≡ false) × (h ≢ g)) → get_or (set ks g (bit_or (get_or ks g 0) 2)) h 0 ≡ kind_of (has h ts) (has h (bs ++ g ∷ []))
    at h (inl same) =
        ap (λ (k : ℕ). get_or (set ks g (bit_or (get_or ks g 0) 2)) k 0) same.1
        ∙ get_or-set_same ks g (bit_or (get_or ks g 0) 2) 0 inside
        ∙ ap (λ (k : ℕ). bit_or k 2) (is.each g)
        ∙ ap (λ (b : Bool). bit_or (kind_of (has g ts) b) 2) new
        ∙ add_block (has g ts)
        ∙ sym (ap (λ (b : Bool). kind_of (has g ts) b) (has_pushed g bs))
        ∙ sym (ap (λ (k : ℕ). kind_of (has k ts) (has k (bs ++ g ∷ []))) same.1)
    at h (inr other) =
        get_or-set_other ks g h (bit_or (get_or ks g 0) 2) 0 other.1
        ∙ is.each h
        ∙ sym (ap (λ (b : Bool). kind_of (has h ts) b) (has_others h g bs other.0))

-- what marking a page anew comes to, where its kind was read: its list had room, and the kinds fit the longer one
pub record IsPut (ks ts bs : List ℕ) (long : ℕ) : Type 0 where
  pub room : long < pages_limit
  pub kinds : IsKinds ks ts bs

pub table_put : (ks ts bs : List ℕ) (g kind : ℕ)
    → IsKinds ks ts bs
    → g < pages_limit
    → kind ≡ get_or ks g kind
    → bit_and kind 1 ≡ 0
    → IsPut (set ks g (bit_or kind 1)) (ts ++ g ∷ []) bs (length ts)
table_put ks ts bs g kind is lt read e =
    let inside : g < length ks = omega (arith, lt, is.long) in
    let first : kind ≡ get_or ks g 0 = get_or_read ks g kind inside read 0 in
    let new : has g ts ≡ false = table_new ks ts bs g is (ap (λ (k : ℕ). bit_and k 1) (sym first) ∙ e) in
    record {
      room = table_room ks ts bs g is lt new;
      kinds =
          subst (λ (k : ℕ). IsKinds (set ks g (bit_or k 1)) (ts ++ g ∷ []) bs) (sym first)
          (put_table ks ts bs g is lt new);
    }

pub block_put : (ks ts bs : List ℕ) (g kind : ℕ)
    → IsKinds ks ts bs
    → g < pages_limit
    → kind ≡ get_or ks g kind
    → bit_and kind 2 ≡ 0
    → IsPut (set ks g (bit_or kind 2)) ts (bs ++ g ∷ []) (length bs)
block_put ks ts bs g kind is lt read e =
    let inside : g < length ks = omega (arith, lt, is.long) in
    let first : kind ≡ get_or ks g 0 = get_or_read ks g kind inside read 0 in
    let new : has g bs ≡ false = block_new ks ts bs g is (ap (λ (k : ℕ). bit_and k 2) (sym first) ∙ e) in
    record {
      room = block_room ks ts bs g is lt new;
      kinds =
          subst (λ (k : ℕ). IsKinds (set ks g (bit_or k 2)) ts (bs ++ g ∷ [])) (sym first)
          (put_block ks ts bs g is lt new);
    }

-- each page of a list is in it
all_has : (gs : List ℕ) → All (λ g. has g gs ≡ true) gs
all_has gs k d lt = list_any_at (λ (b : ℕ). get_or gs k d == b) gs k d lt (same_number (get_or gs k d))

pub tables_inside : (ks ts bs : List ℕ) → IsKinds ks ts bs → All (λ g. g < length ks) ts
tables_inside ks ts bs is k d lt = omega (arith, table_below ks ts bs is (get_or ts k d) (all_has ts k d lt), is.long)

pub blocks_inside : (ks ts bs : List ℕ) → IsKinds ks ts bs → All (λ g. g < length ks) bs
blocks_inside ks ts bs is k d lt = omega (arith, block_below ks ts bs is (get_or bs k d) (all_has bs k d lt), is.long)
