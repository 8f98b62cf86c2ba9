-- Maps whose pages are bare pages in their order.
use Rattle.std.proofs.Common.{◌≡◌, ℕ, ◌+◌, ◌<◌, map, length, Some, refl, ap, ◌∙◌, sym, arith, slice_get}
use Rattle.std.specs.List.{range_with_len}
use Rattle.std.proofs.lemmas.Option.{slice_get-get_or, slice_get_within, same_Some}
use Rattle.std.proofs.lemmas.List.FromFn.{length-map-range_with_len, get_or-map-range_with_len}
use Rattle.hv_store.specs.declared.access.Access.{Access}
use Rattle.hv_store.specs.declared.access.Access.TheVariants.{Read, Write, Fetch}
use Rattle.hv_store.specs.declared.access.Slot.{Slot}
use Rattle.hv_store.specs.declared.access.Way.{Way}
use Rattle.hv_store.specs.declared.access.Way.TheVariants.{Open, Shut}
use Rattle.hv_store.specs.Access.{identity, open_at, way_for}
use Rattle.hv_map.specs.Carried.{Opens}
use Rattle.hv_towers.specs.Laid.{from_base}

pub length-base : (base n : ℕ) → length (from_base base n) ≡ n
unfolding from_base
length-base base n = length-map-range_with_len (λ i. open_at (base + i)) 0 n

pub base_slot : (base n i : ℕ) → i < n → slice_get (from_base base n) i ≡ Some (open_at (base + i))
unfolding from_base
base_slot base n i h =
    let inside : i < length (map (λ k. open_at (base + k)) (range_with_len 0 n)) = omega (arith, length-map-range_with_len (λ k. open_at (base + k)) 0 n) in
    slice_get-get_or (map (λ k. open_at (base + k)) (range_with_len 0 n)) i (open_at 0) inside
    ∙ ap Some (get_or-map-range_with_len (λ k. open_at (base + k)) 0 n i i (open_at 0) h (omega arith))

-- and there are no other slots
pub base_inside : (base n i : ℕ) (s : Slot) → slice_get (from_base base n) i ≡ Some s → i < n
base_inside base n i s e =
    let inside : i < length (from_base base n) = slice_get_within (from_base base n) i s e in
    omega (arith, length-base base n)

pub base_at : (base n i : ℕ) (s : Slot) → slice_get (from_base base n) i ≡ Some s → s ≡ open_at (base + i)
base_at base n i s e = same_Some s (open_at (base + i)) (sym e ∙ base_slot base n i (base_inside base n i s e))

pub base_way : (base n i : ℕ) (s : Slot) (a : Access) → slice_get (from_base base n) i ≡ Some s → way_for s a ≡ Open (base + i)
base_way base n i s a e = ap (λ (r : Slot). way_for r a) (base_at base n i s e) ∙ open_way a
  where
    open_way : (a : Access) → way_for (open_at (base + i)) a ≡ Open (base + i)
    open_way Read = refl
    open_way Write = refl
    open_way Fetch = refl

page_of : Way → ℕ
page_of (Open g) = g
page_of (Shut l c p w) = 0

pub same_page : (g x : ℕ) → Open g ≡ Open x → g ≡ x
unfolding page_of
same_page g x e = ap page_of e

-- such a map opens no page before its base
pub none_before : (base n g : ℕ) → g < base → Opens (from_base base n) Read g → ⊥
none_before base n g lt o =
    let e : base + o.0 ≡ g = same_page (base + o.0) g (sym (base_way base n o.0 o.1 Read o.2) ∙ o.3) in
    omega (arith, e, lt)

-- the bare machine's is one
pub base_zero : (n : ℕ) → identity n ≡ from_base 0 n
unfolding identity from_base
base_zero n = λ k. map (λ (i : ℕ). open_at ((zero_plus i) k)) (range_with_len 0 n)
  where
    zero_plus : (i : ℕ) → i ≡ 0 + i
    zero_plus i = omega arith
