-- Going down a list: what is left of it, and the next of it.
use Rattle.std.proofs.Common.{◌≡◌, ℕ, suc, ◌+◌, ◌<◌, ◌≤◌, Bool, true, false, cond, List, ◌∷◌, length, map, drop, get_or, set, Some, None, sym, ap, ◌∙◌, add-one, drop-cons}
use Rattle.std.proofs.lemmas.List.{drop_all, get_or_default}
use Rattle.hv_map.specs.Chain.{map_of}
use Rattle.hv_load.specs.declared.parts.PlacedWatch.{PlacedWatch}
use Rattle.hv_load.specs.declared.parts.Mark.{Mark}
use Rattle.hv_load.specs.Build.{can_watch, watch_fault}
use Rattle.hv_load.specs.Pages.{marked, page_at, with_values}

-- what is left from i on is its first element and what is left behind it
pub left_at : {A : Type 0} (xs : List A) (i : ℕ) (x : A) → i < length xs → x ≡ get_or xs i x → drop i xs ≡ x ∷ drop (i + 1) xs
left_at xs i x h is = rw (add-one) (drop-cons xs i x h ∙ ap (λ y. y ∷ drop (suc i) xs) (sym is))

watch_here : (S : List ℕ) (a : PlacedWatch) (rest : List PlacedWatch) (b : Bool) → can_watch (map_of S a.watch.path) ≡ b → watch_fault S (a ∷ rest) ≡ cond b (watch_fault S rest) (Some a.line)
watch_here S a rest b is = ap (λ (c : Bool). cond c (watch_fault S rest) (Some a.line)) is

pub watch_more : (S : List ℕ) (asked : List PlacedWatch) (i : ℕ) (a : PlacedWatch) → i < length asked → a ≡ get_or asked i a → can_watch (map_of S a.watch.path) ≡ true → watch_fault S (drop i asked) ≡ watch_fault S (drop (i + 1) asked)
watch_more S asked i a h is there = ap (watch_fault S) (left_at asked i a h is) ∙ watch_here S a (drop (i + 1) asked) true there

pub watch_found : (S : List ℕ) (asked : List PlacedWatch) (i : ℕ) (a : PlacedWatch) → i < length asked → a ≡ get_or asked i a → can_watch (map_of S a.watch.path) ≡ false → watch_fault S (drop i asked) ≡ Some a.line
watch_found S asked i a h is other = ap (watch_fault S) (left_at asked i a h is) ∙ watch_here S a (drop (i + 1) asked) false other

pub watch_end : (S : List ℕ) (asked : List PlacedWatch) (i : ℕ) → length asked ≤ i → watch_fault S (drop i asked) ≡ None
watch_end S asked i h = ap (watch_fault S) (drop_all i asked h)

pub values_more : (S places values : List ℕ) (i : ℕ) → i < length places → i < length values → with_values S (drop i places) (drop i values) ≡ with_values (set S (get_or places i 0) (get_or values i 0)) (drop (i + 1) places) (drop (i + 1) values)
values_more S places values i h k =
    ap (λ (ps : List ℕ). with_values S ps (drop i values)) (left_at places i (get_or places i 0) h (get_or_default places i 0 (get_or places i 0) h))
    ∙ ap (with_values S (get_or places i 0 ∷ drop (i + 1) places)) (left_at values i (get_or values i 0) k (get_or_default values i 0 (get_or values i 0) k))

pub values_end : (S places values : List ℕ) (i : ℕ) → length places ≤ i → with_values S (drop i places) (drop i values) ≡ S
values_end S places values i h = ap (λ (ps : List ℕ). with_values S ps (drop i values)) (drop_all i places h)

pub marked_more : (mark : Mark) (places : List ℕ) (marks : List Mark) (i : ℕ) → i < length places → marked mark (map page_at (drop i places)) marks ≡ marked mark (map page_at (drop (i + 1) places)) (set marks (page_at (get_or places i 0)) mark)
marked_more mark places marks i h =
    ap (λ (ps : List ℕ). marked mark (map page_at ps) marks) (left_at places i (get_or places i 0) h (get_or_default places i 0 (get_or places i 0) h))

pub marked_end : (mark : Mark) (places : List ℕ) (marks : List Mark) (i : ℕ) → length places ≤ i → marked mark (map page_at (drop i places)) marks ≡ marks
marked_end mark places marks i h = ap (λ (ps : List ℕ). marked mark (map page_at ps) marks) (drop_all i places h)

pub ruleset lists = (watch_more, watch_found, watch_end, values_more, values_end, marked_more, marked_end)
