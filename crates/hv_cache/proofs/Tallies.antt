-- The tally stays that of the entries, where entries come and go.
use Rattle.std.proofs.Common.{◌≡◌, ℕ, ◌+◌, ◌-◌, ◌*◌, ◌≤◌, ◌==◌, Bool, List, [], ◌∷◌, length, take, Option, Some, None, slice_get, slice_index, inl, inr, refl, sym, subst, ap, ◌∙◌, arith}
use Rattle.std.proofs.lemmas.Bool.{cases_Bool}
use Rattle.std.proofs.lemmas.List.{take_all}
use Rattle.std.proofs.lemmas.List.Sums.{count_by-le-length}
use Rattle.std.specs.List.{AllByRecursion}
use Rattle.std.specs.Map.{lookup, lookup_entry, remove_entry}
use Rattle.std.specs.Option.{option_map, option_map_or}
use Rattle.lru.specs.LruCache.{IsValid, displaced, lru_cache, promoted, put_entries}
use Rattle.lru.proofs.CallerLemmas.{Contains-lookup_entry}
use Rattle.hv_cache.specs.Kept.{Kept}
use Rattle.hv_cache.specs.Holding.{Entry, Holding, Key, entries_limit, same, with_entry}
use Rattle.hv_limits.specs.Limits.{depth_limit}
use Rattle.hv_map.specs.Gathered.{listed_limit}
use Rattle.hv_cache.specs.Counting.{Adds, Covers, HasRoom, IsShort, IsTally, Tallied, pages_named, tables_named, total}
use Rattle.hv_cache.proofs.Staying.{all_found, all_removed, all_with_entry, same_is}
use Rattle.hv_cache.proofs.Totals.{entry_part, total-remove, total-take}

abbrev Short : Entry → Type 0
Short e = IsShort e.1

-- ---- an entry that is found, and the others
found : (test : Key → Bool) (es : List Entry) → option_map (λ (e : Entry). e.1) (lookup_entry test es) ≡ lookup test es
found test [] = refl
found test (e ∷ es) = elim (cases_Bool (test e.0)) [
  | inl t ↦ rw t refl
  | inr t ↦ rw t (found test es)
]

none_removed : (test : Key → Bool) (es : List Entry) → lookup_entry test es ≡ None → remove_entry test es ≡ es
none_removed test [] h = refl
none_removed test (e ∷ es) h = elim (cases_Bool (test e.0)) [
  | inl t ↦ let f : Some e ≡ None = rw t at h in cc
  | inr t ↦ rw t (ap (λ (fs : List Entry). e ∷ fs) (none_removed test es (rw t at h)))
]

one_removed : (test : Key → Bool) (es : List Entry) (e : Entry) → lookup_entry test es ≡ Some e → length (remove_entry test es) + 1 ≡ length es
one_removed test [] e h = cc
one_removed test (f ∷ es) e h = elim (cases_Bool (test f.0)) [
  | inl t ↦ rw t (omega arith)
  | inr t ↦ rw t (let rest = one_removed test es e (rw t at h) in omega (arith, rest))
]

-- ---- sums
total_found : (f : Kept → ℕ) (test : Key → Bool) (es : List Entry) (e : Entry) → lookup_entry test es ≡ Some e → total f (remove_entry test es) + f e.1 ≡ total f es
total_found f test es e h =
    let v : lookup test es ≡ Some e.1 = sym (found test es) ∙ ap (option_map (λ (d : Entry). d.1)) h in
    rw v at (total-remove f test es)

part_found : (f : Kept → ℕ) (test : Key → Bool) (es : List Entry) (k : Kept) → lookup test es ≡ Some k → total f (remove_entry test es) + f k ≡ total f es
part_found f test es k h = rw h at (total-remove f test es)

total_bound : (f : Kept → ℕ) (most : ℕ) (es : List Entry) → ((k : Kept) → IsShort k → f k ≤ most) → AllByRecursion Short es → total f es ≤ length es * most
unfolding total
total_bound f most [] bound all = omega arith
total_bound f most (e ∷ es) bound all = let rest = total_bound f most es bound all.1 in let here = bound e.1 all.0 in omega (arith, rest, here)

pages_bound : (g : ℕ) (k : Kept) → IsShort k → pages_named g k ≤ (depth_limit + listed_limit)
unfolding pages_named
pages_bound g k h = omega (arith, h, count_by-le-length (λ x. g == x) k.blocks, count_by-le-length (λ x. g == x) k.tables)

tables_bound : (g : ℕ) (k : Kept) → IsShort k → tables_named g k ≤ (depth_limit + listed_limit)
unfolding tables_named
tables_bound g k h = omega (arith, h, count_by-le-length (λ x. g == x) k.tables)

-- ---- an entry that is put
-- no entry under its key stays, and of the others as many as there is room for
kept_first : (c : Holding) (key : Key) (k : Kept) (o : Option Entry) → IsValid same c → lookup_entry (same key) c.entries ≡ o → option_map_or (λ (e : Entry). (e.0, k) ∷ remove_entry (same key) c.entries) o ((key, k) ∷ take (c.cap - 1) c.entries) ≡ with_entry c key k
kept_first c key k None valid h = ap (λ (es : List Entry). (key, k) ∷ take (c.cap - 1) es) (sym (none_removed (same key) c.entries h))
kept_first c key k (Some e) valid h =
    let is : e.0 ≡ key = sym (same_is key e.0 (Contains-lookup_entry (same key) c.entries e h).1) in
    let one = one_removed (same key) c.entries e h in
    let all : take (c.cap - 1) (remove_entry (same key) c.entries) ≡ remove_entry (same key) c.entries = take_all (c.cap - 1) (remove_entry (same key) c.entries) (omega (arith, one, valid.1)) in
    ap (λ (j : Key). (j, k) ∷ remove_entry (same key) c.entries) is ∙ ap (λ (es : List Entry). (key, k) ∷ es) (sym all)

pub put_first : (c : Holding) (key : Key) (k : Kept) → IsValid same c → put_entries same c key k ≡ with_entry c key k
put_first c key k valid = kept_first c key k (lookup_entry (same key) c.entries) valid refl

-- with what goes, the sum is what it was and one entry more
sum_put : (f : Kept → ℕ) (c : Holding) (key : Key) (k : Kept) (o : Option Entry) → IsValid same c → lookup_entry (same key) c.entries ≡ o → total f (option_map_or (λ (e : Entry). (e.0, k) ∷ remove_entry (same key) c.entries) o ((key, k) ∷ take (c.cap - 1) c.entries)) + entry_part f (option_map_or (λ (old : Kept). Some (key, old)) (option_map (λ (e : Entry). e.1) o) (slice_get c.entries (c.cap - 1))) ≡ f k + total f c.entries
unfolding total
sum_put f c key k None valid h = let rest = total-take f (c.cap - 1) c.entries (omega (arith, valid.1, valid.2)) in omega (arith, rest)
sum_put f c key k (Some e) valid h = let rest = total_found f (same key) c.entries e h in omega (arith, rest)

pub total_put : (f : Kept → ℕ) (c : Holding) (key : Key) (k : Kept) → IsValid same c → total f (put_entries same c key k) + entry_part f (displaced same c key k) ≡ f k + total f c.entries
total_put f c key k valid = rw (found (same key) c.entries) at (sum_put f c key k (lookup_entry (same key) c.entries) valid refl)

-- ---- the tally
pub tally_nil : (n : ℕ) (t : Tallied) → n ≤ entries_limit → ((g : ℕ) → slice_index t.pages g ≡ 0) → ((g : ℕ) → slice_index t.tables g ≡ 0) → IsTally (lru_cache [] n) t
unfolding total
tally_nil n t few pages tables = record { few = few; short = tt; pages = pages; tables = tables }

moved : (test : Key → Bool) (c : Holding) (t : Tallied) (o : Option Entry) → lookup_entry test c.entries ≡ o → IsTally c t → IsTally (lru_cache (option_map_or (λ (e : Entry). e ∷ remove_entry test c.entries) o c.entries) c.cap) t
unfolding total
moved test c t None h is = record { few = is.few; short = is.short; pages = is.pages; tables = is.tables }
moved test c t (Some e) h is = record {
  few = is.few;
  short = (all_found Short test c.entries e is.short h, all_removed Short test c.entries is.short);
  pages = λ g. let sum = total_found (pages_named g) test c.entries e h in let was = is.pages g in omega (arith, sum, was);
  tables = λ g. let sum = total_found (tables_named g) test c.entries e h in let was = is.tables g in omega (arith, sum, was);
}

pub tally_promoted : (test : Key → Bool) (c : Holding) (t : Tallied) → IsTally c t → IsTally (lru_cache (promoted test c.entries) c.cap) t
tally_promoted test c t is = moved test c t (lookup_entry test c.entries) refl is

pub covers_found : (test : Key → Bool) (c : Holding) (t : Tallied) (k : Kept) → lookup test c.entries ≡ Some k → IsTally c t → Covers t k
covers_found test c t k h is = record {
  pages = λ g. let sum = part_found (pages_named g) test c.entries k h in let was = is.pages g in omega (arith, sum, was);
  tables = λ g. let sum = part_found (tables_named g) test c.entries k h in let was = is.tables g in omega (arith, sum, was);
}

pub tally_removed : (test : Key → Bool) (c : Holding) (t u : Tallied) (k : Kept) → lookup test c.entries ≡ Some k → IsTally c t → Adds u k t → IsTally (lru_cache (remove_entry test c.entries) c.cap) u
tally_removed test c t u k h is adds = record {
  few = is.few;
  short = all_removed Short test c.entries is.short;
  pages = λ g. let sum = part_found (pages_named g) test c.entries k h in let was = is.pages g in let less = adds.pages g in omega (arith, sum, was, less);
  tables = λ g. let sum = part_found (tables_named g) test c.entries k h in let was = is.tables g in let less = adds.tables g in omega (arith, sum, was, less);
}

pub tally_same : (test : Key → Bool) (c : Holding) (t : Tallied) → lookup test c.entries ≡ None → IsTally c t → IsTally (lru_cache (remove_entry test c.entries) c.cap) t
tally_same test c t h is = record {
  few = is.few;
  short = all_removed Short test c.entries is.short;
  pages = λ g. let sum = rw h at (total-remove (pages_named g) test c.entries) in let was = is.pages g in omega (arith, sum, was);
  tables = λ g. let sum = rw h at (total-remove (tables_named g) test c.entries) in let was = is.tables g in omega (arith, sum, was);
}

pub has_room : (c : Holding) (t : Tallied) (k : Kept) → IsValid same c → IsTally c t → IsShort k → HasRoom t k
has_room c t k valid is short = record {
  pages = λ g.
      let sum = total_bound (pages_named g) (depth_limit + listed_limit) c.entries (pages_bound g) is.short in
      let was = is.pages g in
      let here = pages_bound g k short in
      omega (arith, sum, was, here, valid.1, is.few);
  tables = λ g.
      let sum = total_bound (tables_named g) (depth_limit + listed_limit) c.entries (tables_bound g) is.short in
      let was = is.tables g in
      let here = tables_bound g k short in
      omega (arith, sum, was, here, valid.1, is.few);
}

short_put : (c : Holding) (key : Key) (k : Kept) → IsValid same c → IsShort k → AllByRecursion Short c.entries → AllByRecursion Short (put_entries same c key k)
short_put c key k valid short all =
    subst (AllByRecursion Short) (sym (put_first c key k valid))
    (all_with_entry Short c key k short all)

pub tally_put : (c : Holding) (t u : Tallied) (key : Key) (k : Kept) → displaced same c key k ≡ None → IsValid same c → IsShort k → IsTally c t → Adds t k u → IsTally (lru_cache (put_entries same c key k) c.cap) u
tally_put c t u key k none valid short is adds = record {
  few = is.few;
  short = short_put c key k valid short is.short;
  pages = λ g. let sum = rw none at (total_put (pages_named g) c key k valid) in let was = is.pages g in let more = adds.pages g in omega (arith, sum, was, more);
  tables = λ g. let sum = rw none at (total_put (tables_named g) c key k valid) in let was = is.tables g in let more = adds.tables g in omega (arith, sum, was, more);
}

pub covers_gone : (c : Holding) (t u : Tallied) (key : Key) (k : Kept) (e : Entry) → displaced same c key k ≡ Some e → IsValid same c → IsTally c t → Adds t k u → Covers u e.1
covers_gone c t u key k e one valid is adds = record {
  pages = λ g. let sum = rw one at (total_put (pages_named g) c key k valid) in let was = is.pages g in let more = adds.pages g in omega (arith, sum, was, more);
  tables = λ g. let sum = rw one at (total_put (tables_named g) c key k valid) in let was = is.tables g in let more = adds.tables g in omega (arith, sum, was, more);
}

pub tally_pushed : (c : Holding) (t u v : Tallied) (key : Key) (k : Kept) (e : Entry) → displaced same c key k ≡ Some e → IsValid same c → IsShort k → IsTally c t → Adds t k u → Adds v e.1 u → IsTally (lru_cache (put_entries same c key k) c.cap) v
tally_pushed c t u v key k e one valid short is adds less = record {
  few = is.few;
  short = short_put c key k valid short is.short;
  pages = λ g. let sum = rw one at (total_put (pages_named g) c key k valid) in let was = is.pages g in let more = adds.pages g in let fewer = less.pages g in omega (arith, sum, was, more, fewer);
  tables = λ g. let sum = rw one at (total_put (tables_named g) c key k valid) in let was = is.tables g in let more = adds.tables g in let fewer = less.tables g in omega (arith, sum, was, more, fewer);
}

pub covers_added : (t u : Tallied) (k : Kept) → Adds t k u → Covers u k
covers_added t u k adds = record {
  pages = λ g. let more = adds.pages g in omega (arith, more);
  tables = λ g. let more = adds.tables g in omega (arith, more);
}

pub tally_back : (c : Holding) (t u v : Tallied) (k : Kept) → IsTally c t → Adds t k u → Adds v k u → IsTally c v
tally_back c t u v k is adds less = record {
  few = is.few;
  short = is.short;
  pages = λ g. let was = is.pages g in let more = adds.pages g in let fewer = less.pages g in omega (arith, was, more, fewer);
  tables = λ g. let was = is.tables g in let more = adds.tables g in let fewer = less.tables g in omega (arith, was, more, fewer);
}
