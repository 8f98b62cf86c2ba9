-- Definitions in the order of their names, and the first of a name among them.
use Rattle.std.proofs.Common.{◌≡◌, ℕ, ◌+◌, ◌<◌, ◌≤◌, Bool, true, false, cond, not, ◌&&◌, zero, suc, List, [], ◌∷◌, length, get_or, Option, Some, None, Ordering, Less, Equal, Greater, refl, sym, ap, ◌∙◌, subst, arith, ltb}
use Rattle.std.specs.Prelude.{All, filter, find}
use Rattle.std.specs.Cmp.{IsTotalOrder}
use Rattle.std.specs.Cmp.Lexicographic.{slice_cmp}
use Rattle.std.specs.List.{AllAdjacentBelow, IsAllAdjacentAnswer}
use Rattle.std.specs.List.Sorted.{IsNonDecreasingBy, IsPartitionPoint, IsPartitionedBy, IsPermutation, IsSortedBy, IsStableBy, ties}
use Rattle.std.specs.Option.{option_map}
use Rattle.std.specs.Ordering.{is_eq, is_lt, nat_cmp, ordering_index, ordering_reverse, ordering_then}
use Rattle.std.specs.Str.{bytes_eq}
use Rattle.std.proofs.lemmas.Bool.{false_from_ne_true, ltb-true, ltb-false}
use Rattle.std.proofs.lemmas.Cmp.{nat_cmp_total, nat_list_cmp_total, on_total, then_total, tied_itself}
use Rattle.std.proofs.lemmas.List.{get_or_default}
use Rattle.std.proofs.lemmas.List.Elements.{filter_agree}
use Rattle.std.proofs.lemmas.List.Sorted.{All-permutation, IsPartitionedBy-ltb, IsPermutation-sym, ranks_by, searchable_from_sorted, sorted_far}
use Rattle.std.proofs.lemmas.Map.Text.{is_eq-slice_cmp}
use Rattle.std.proofs.lemmas.Slice.Eq.{bytes_eq-Decides}
use Rattle.hv_asm.specs.Definitions.{IsFound, by_name, place_among}
use Rattle.hv_asm.specs.Heads.{head_of}
use Rattle.hv_asm.specs.declared.label_names.LabelName.{LabelName}
use Rattle.hv_asm.specs.declared.labels.Definition.{Definition}

-- by_name is an order, and its ties are the equal names
pub name_total : IsTotalOrder by_name
name_total = then_total (on_total (λ (n : LabelName). n.head) nat_cmp_total) (on_total (λ (n : LabelName). n.bytes.now) nat_list_cmp_total)

then_is_eq : (h s : Ordering) (b : Bool) → is_eq s ≡ b → (b ≡ true → h ≡ Equal) → b ≡ is_eq (ordering_then h s)
then_is_eq Less s true e same = sym (ap is_eq (same refl))
then_is_eq Less s false e same = refl
then_is_eq Equal s b e same = sym e
then_is_eq Greater s true e same = sym (ap is_eq (same refl))
then_is_eq Greater s false e same = refl

same_name : (n w : LabelName) → bytes_eq n.bytes.now w.bytes.now ≡ is_eq (by_name n w)
same_name n w =
    then_is_eq (nat_cmp n.head w.head) (slice_cmp nat_cmp n.bytes.now w.bytes.now) (bytes_eq n.bytes.now w.bytes.now) (is_eq-slice_cmp n.bytes.now w.bytes.now)
    (λ e.
    let heads : n.head ≡ w.head = n.headed ∙ ap head_of ((bytes_eq-Decides n.bytes.now w.bytes.now).0 e) ∙ sym w.headed in
    ap (λ h. nat_cmp h w.head) heads ∙ tied_itself nat_cmp_total w.head)

-- a name that has these bytes
name_of : List ℕ → LabelName
name_of q = record { head = head_of q; bytes = record { ref_ptr = (0, 0); now = q }; headed = refl }

abbrev pub goes_before : Definition → Definition → Bool
goes_before d e = is_lt (by_name d.name e.name)

abbrev pub has_name : List ℕ → Definition → Bool
has_name q d = bytes_eq d.name.bytes.now q

-- what is found is the first of what passes
first : {X : Type 0} → List X → Option X
first [] = None
first (x ∷ xs) = Some x

find_filter : {X : Type 0} (p : X → Bool) (xs : List X) → find p xs ≡ first (filter p xs)
unfolding first
find_filter p [] = refl
find_filter {X} p (x ∷ xs) =
    elim (p x) as (λ b. cond b (Some x) (find p xs) ≡ first (cond b (x ∷ filter p xs) (filter p xs))) [ true ↦ refl | false ↦ find_filter p xs ]

-- a stable sort keeps the first definition of a name
turned_tie : (r s : Ordering) → s ≡ ordering_reverse r → (not (is_lt s) && not (is_lt r)) ≡ is_eq r
turned_tie Less s e = ap (λ s. not (is_lt s) && not (is_lt Less)) e
turned_tie Equal s e = ap (λ s. not (is_lt s) && not (is_lt Equal)) e
turned_tie Greater s e = ap (λ s. not (is_lt s) && not (is_lt Greater)) e

pub same_places : (xs ys : List Definition) (q : List ℕ) → IsStableBy goes_before xs ys → place_among ys q ≡ place_among xs q
unfolding name_of
same_places xs ys q stable =
    let x : Definition = record { name = name_of q; place = record { line = 0; at = 0 } } in
    let agree : (d : Definition) → has_name q d ≡ ties goes_before x d =
    λ d. same_name d.name x.name ∙ sym (turned_tie (by_name d.name x.name) (by_name x.name d.name) (name_total.antisymm x.name d.name)) in
    ap (option_map (λ (d : Definition). d.place))
    (find_filter (has_name q) ys ∙ ap first (filter_agree (has_name q) (ties goes_before x) agree ys ∙ stable x ∙ sym (filter_agree (has_name q) (ties goes_before x) agree xs)) ∙ sym (find_filter (has_name q) xs))

find_here : {X : Type 0} (p : X → Bool) (xs : List X) (i : ℕ) (x : X) → i < length xs → get_or xs i x ≡ x → p x ≡ true → ((k : ℕ) (d : X) → k < i → p (get_or xs k d) ≡ false) → find p xs ≡ Some x
find_here p [] i x lt is passes others = let none : ⊥ = omega arith in absurd none
find_here {X} p (y ∷ ys) zero x lt is passes others = ap (λ b. cond b (Some y) (find p ys)) (ap p is ∙ passes) ∙ ap Some is
find_here {X} p (y ∷ ys) (suc i) x lt is passes others =
    ap (λ b. cond b (Some y) (find p ys)) (others 0 x (omega arith)) ∙ find_here p ys i x (omega arith) is passes (λ k d lt. others (suc k) d (omega arith))

find_nowhere : {X : Type 0} (p : X → Bool) (xs : List X) → ((k : ℕ) (d : X) → k < length xs → p (get_or xs k d) ≡ false) → find p xs ≡ None
find_nowhere p [] others = refl
find_nowhere {X} p (y ∷ ys) others =
    ap (λ b. cond b (Some y) (find p ys)) (others 0 y (omega arith)) ∙ find_nowhere p ys (λ k d lt. others (suc k) d (omega arith))

-- where a name stands against the wanted one: 0 before it, 1 at it, 2 behind it
module _ (w : LabelName) where
  abbrev side : Definition → ℕ
  side d = ordering_index (by_name d.name w)

  abbrev pub is_short : Definition → Bool
  is_short d = is_lt (by_name d.name w)

  side_lt : (o : Ordering) → ltb (ordering_index o) 1 ≡ is_lt o
  side_lt Less = refl
  side_lt Equal = refl
  side_lt Greater = refl

  rises : (xs : List Definition) → IsSortedBy goes_before xs → IsNonDecreasingBy side xs
  rises xs up = searchable_from_sorted name_total (λ (d : Definition). d.name) xs w up

  pub parted : (xs : List Definition) → IsSortedBy goes_before xs → IsPartitionedBy is_short xs
  parted xs up =
      subst (λ (p : Definition → Bool). IsPartitionedBy p xs) (λ i d. side_lt (by_name d.name w) i) (IsPartitionedBy-ltb side xs 1 (rises xs up))

  -- by the side: a name that isn't the wanted one
  other_side : (d : Definition) → (ordering_index (by_name d.name w) ≡ 1 → ⊥) → has_name w.bytes.now d ≡ false
  other_side d other = false_from_ne_true _ (λ e. other (at_one (by_name d.name w) (sym (same_name d.name w) ∙ e)))
    where
      at_one : (o : Ordering) → is_eq o ≡ true → ordering_index o ≡ 1
      at_one Less e = cc
      at_one Equal e = refl
      at_one Greater e = cc

  low_side : (o : Ordering) → is_lt o ≡ true → ordering_index o ≡ 0
  low_side Less e = refl
  low_side Equal e = cc
  low_side Greater e = cc

  high_side : (o : Ordering) → is_lt o ≡ false → is_eq o ≡ false → ordering_index o ≡ 2
  high_side Less e f = cc
  high_side Equal e f = cc
  high_side Greater e f = refl

  module _ (xs : List Definition) (i : ℕ) (up : IsSortedBy goes_before xs)
      (point : IsPartitionPoint (λ d. is_short d ≡ true) (λ d. is_short d ≡ false) xs i) where
    before : (k : ℕ) (d : Definition) → k < i → has_name w.bytes.now (get_or xs k d) ≡ false
    before k d lt =
        let low : side (get_or xs k d) ≡ 0 = low_side (by_name (get_or xs k d).name w) (point.0 k d (omega arith) lt) in
        other_side (get_or xs k d) (λ is. omega arith)

    pub found_at : (d : Definition) → i < length xs → get_or xs i d ≡ d → has_name w.bytes.now d ≡ true → Some d.place ≡ place_among xs w.bytes.now
    found_at d lt is same = ap (option_map (λ (d : Definition). d.place)) (sym (find_here (has_name w.bytes.now) xs i d lt is same before))

    pub found_past : length xs ≤ i → None ≡ place_among xs w.bytes.now
    found_past le = ap (option_map (λ (d : Definition). d.place)) (sym (find_nowhere (has_name w.bytes.now) xs (λ k d lt. before k d (omega arith))))

    pub found_other : (d : Definition) → i < length xs → get_or xs i d ≡ d → has_name w.bytes.now d ≡ false → None ≡ place_among xs w.bytes.now
    found_other d lt is other =
        let low : is_short d ≡ false = subst (λ (e : Definition). is_short e ≡ false) is (point.1 i d (omega arith) lt) in
        let high : side d ≡ 2 = high_side (by_name d.name w) low (sym (same_name d.name w) ∙ other) in
        let here : side (get_or xs i d) ≡ 2 = ap side is ∙ high in
        let behind : (k : ℕ) (e : Definition) → i ≤ k → k < length xs → has_name w.bytes.now (get_or xs k e) ≡ false =
        λ k e le less.
        let past : side (get_or xs i e) ≤ side (get_or xs k e) = rises xs up i k e le less in
        let same : side (get_or xs i e) ≡ side (get_or xs i d) = ap side (get_or_default xs i e d lt) in
        other_side (get_or xs k e) (λ is. omega arith) in
        ap (option_map (λ (d : Definition). d.place))
        (sym (find_nowhere (has_name w.bytes.now) xs (λ k e less. elim (ltb k i) as (λ b. ltb k i ≡ b → has_name w.bytes.now (get_or xs k e) ≡ false) [ true ↦ λ t. before k e (ltb-true k i t) | false ↦ λ f. behind k e (ltb-false k i f) less ] refl)))

-- where each name is before the next, each definition is the first of its name
pub each_found : (xs : List Definition) → IsSortedBy goes_before xs → AllAdjacentBelow (λ d e. true ≡ goes_before d e) xs (length xs) → All (IsFound (place_among xs)) xs
each_found xs up strict k d lt =
    let x : Definition = get_or xs k d in
    let is : get_or xs k x ≡ x = get_or_default xs k x d lt in
    let apart : (j : ℕ) (e : Definition) → j < k → has_name x.name.bytes.now (get_or xs j e) ≡ false =
    λ j e below.
    let a : Definition = get_or xs j e in
    let b : Definition = get_or xs (j + 1) e in
    let c : Definition = get_or xs k e in
    let same : c ≡ x = get_or_default xs k e d lt in
    let far : goes_before c b ≡ false = sorted_far goes_before (ranks_by name_total (λ (d : Definition). d.name)) xs up (j + 1) k e (omega arith) lt in
    let near : true ≡ goes_before a b = strict j e (omega arith) in
    ap (λ (z : Definition). has_name z.name.bytes.now a) (sym same)
    ∙ false_from_ne_true _ (λ e.
    let tied : by_name a.name c.name ≡ Equal = is_tied (by_name a.name c.name) (sym (same_name a.name c.name) ∙ e) in
    let flat : true ≡ false = near ∙ ap is_lt (name_total.congr a.name c.name b.name tied) ∙ far in
    cc) in
    ap (option_map (λ (d : Definition). d.place)) (find_here (has_name x.name.bytes.now) xs k x lt is ((bytes_eq-Decides x.name.bytes.now x.name.bytes.now).1 refl) apart)
  where
    is_tied : (o : Ordering) → is_eq o ≡ true → o ≡ Equal
    is_tied Less e = cc
    is_tied Equal e = refl
    is_tied Greater e = cc

pub sorted_found : (xs ys : List Definition) (r : Bool) → IsPermutation xs ys → IsSortedBy goes_before ys → IsAllAdjacentAnswer (λ d e b. b ≡ goes_before d e) ys r → r ≡ true → All (IsFound (place_among ys)) xs
sorted_found xs ys r moved up answer is =
    let strict : IsAllAdjacentAnswer (λ d e b. b ≡ goes_before d e) ys true = subst (IsAllAdjacentAnswer (λ d e b. b ≡ goes_before d e) ys) is answer in
    All-permutation (IsFound (place_among ys)) ys xs (IsPermutation-sym xs ys moved) (each_found ys up strict)
