-- The map at the end of a path in two parts is the map of the second part, in what the machine at the end of the first part
-- sees, carried through that machine's map.
use Rattle.std.proofs.Common.{◌≡◌, ℕ, suc, ◌+◌, ◌≤◌, inl, inr, List, [], ◌∷◌, ◌++◌, length, Option, Some, None, refl, ap, ◌∙◌, sym, subst, arith, slice_get}
use Rattle.std.specs.Option.{option_map, option_and_then}
use Rattle.std.proofs.lemmas.Option.{same_Some}
use Rattle.hv_word.specs.Storage.{page_count}
use Rattle.hv_store.specs.declared.access.Access.TheVariants.{Write}
use Rattle.hv_store.specs.declared.access.Slot.{Slot}
use Rattle.hv_store.specs.declared.access.Way.{Way}
use Rattle.hv_store.specs.declared.access.Way.TheVariants.{Open, Shut}
use Rattle.hv_store.specs.Access.{identity}
use Rattle.hv_store.proofs.Identity.{length-identity}
use Rattle.hv_block.specs.Block.{Contents, block_of}
use Rattle.hv_block.proofs.Blocks.{block_alike, block_sized}
use Rattle.hv_map.specs.Item.{Item}
use Rattle.hv_map.specs.Compose.{compose}
use Rattle.hv_map.specs.Chain.{along, map_along, child_with, child_through, child_at, child_of, option_cons, machines, pin_of, map_of}
use Rattle.hv_map.specs.Seen.{seen}
use Rattle.hv_map.specs.Carried.{WayLike, SlotLike, MapLike, ShutBelow, OpensSame, Agree}
use Rattle.hv_map.proofs.Slots.{length-composed, along-append}
use Rattle.hv_map.proofs.Like.{composed_like}
use Rattle.hv_map.proofs.Views.{seen_agrees, page_count-seen, identity_below, identity_same, along_below, along_same, identity_like}

-- a path in two parts passes the machines of the first, and from the last of these the machines of the second
pub record Parts (S : List ℕ) (F : List Slot) (j : ℕ) (p q : List ℕ) (items : List Item) : Type 0 where
  pub first : List Item
  pub second : List Item
  pub before : machines S F j p ≡ Some first
  pub after : machines S (along S F j first) (j + length first) q ≡ Some second
  pub whole : items ≡ first ++ second
  pub long : length first ≡ length p

option_cons_some : (x : Item) (o : Option (List Item)) (items : List Item) → option_cons x o ≡ Some items → (rest : List Item) × (o ≡ Some rest) × (x ∷ rest ≡ items)
option_cons_some x None items e = absurd (let f : None ≡ Some items = e in cc)
option_cons_some x (Some rest) items e = (rest, refl, same_Some (x ∷ rest) items e)

-- the first machine of a path, and the rest
pub record Begins (S : List ℕ) (F : List Slot) (j s : ℕ) (path : List ℕ) (items : List Item) : Type 0 where
  pub head : Item
  pub rest : List Item
  pub child : child_of S F s ≡ Some head
  pub others : machines S (compose S F j head.pages head.table head.version) (j + 1) path ≡ Some rest
  pub whole : head ∷ rest ≡ items

pub begins_with : (S : List ℕ) (F : List Slot) (j s : ℕ) (path : List ℕ) (items : List Item) → machines S F j (s ∷ path) ≡ Some items → Begins S F j s path items
unfolding machines
begins_with S F j s path items = go (child_of S F s) refl
  where
    go : (o : Option Item) → child_of S F s ≡ o → option_and_then (λ (x : Item). option_cons x (machines S (compose S F j x.pages x.table x.version) (j + 1) path)) o ≡ Some items → Begins S F j s path items
    go None is e = absurd (let f : None ≡ Some items = e in cc)
    go (Some x) is e =
        let r = option_cons_some x (machines S (compose S F j x.pages x.table x.version) (j + 1) path) items e in
        record { head = x; rest = r.0; child = is; others = r.1; whole = r.2 }

-- a machine and its children make a path
pub begins_from : (S : List ℕ) (F : List Slot) (j s : ℕ) (path : List ℕ) (x : Item) (rest : List Item) → child_of S F s ≡ Some x → machines S (compose S F j x.pages x.table x.version) (j + 1) path ≡ Some rest → machines S F j (s ∷ path) ≡ Some (x ∷ rest)
unfolding machines
begins_from S F j s path x rest is e =
    ap (λ (o : Option Item). option_and_then (λ (y : Item). option_cons y (machines S (compose S F j y.pages y.table y.version) (j + 1) path)) o) is
    ∙ ap (option_cons x) e

pub parts : (S : List ℕ) (F : List Slot) (j : ℕ) (p q : List ℕ) (items : List Item) → machines S F j (p ++ q) ≡ Some items → Parts S F j p q items
unfolding machines along
parts S F j [] q items e = record {
  first = [];
  second = items;
  before = refl;
  after = (let level : j ≡ j + 0 = omega arith in ap (λ (k : ℕ). machines S F k q) (sym level) ∙ e);
  whole = refl;
  long = refl;
}
parts S F j (s ∷ p) q items e =
    let b = begins_with S F j s (p ++ q) items e in
    let x : Item = b.head in
    let r = parts S (compose S F j x.pages x.table x.version) (j + 1) p q b.rest b.others in
    let level : j + suc (length r.first) ≡ j + 1 + length r.first = omega arith in
    record {
      first = x ∷ r.first;
      second = r.second;
      before = begins_from S F j s p x r.first b.child r.before;
      after = ap (λ (k : ℕ). machines S (along S (compose S F j x.pages x.table x.version) (j + 1) r.first) k q) level ∙ r.after;
      whole = sym b.whole ∙ ap (λ (xs : List Item). x ∷ xs) r.whole;
      long = ap suc r.long;
    }

-- a map goes by pages, table and version
composed_alike : (T : List ℕ) (G : List Slot) (j n n' t t' v v' : ℕ) → n ≡ n' → t ≡ t' → v ≡ v' → compose T G j n t v ≡ compose T G j n' t' v'
composed_alike T G j n n' t t' v v' p q r = λ i. compose T G j (p i) (q i) (r i)

-- the child that T has where S has the child x: the same pages, table and version
pub record Twin (o : Option Item) (x : Item) : Type 0 where
  pub twin : Item
  pub there : o ≡ Some twin
  pub pages : x.pages ≡ twin.pages
  pub table : x.table ≡ twin.table
  pub version : x.version ≡ twin.version
  pub bound : x.pages ≤ 1048576

module _ (k : ℕ) (F : List Slot) (S T : List ℕ) (below : ShutBelow k F) (same : OpensSame F) (agree : Agree F S T) where
  held_twin : (s g y : ℕ) (x : Item) → block_of S g ≡ block_of T y → child_with s g (block_of S g) ≡ Some x → Twin (child_with s y (block_of T y)) x
  held_twin s g y x alike e = go (block_of S g) refl e
    where
      go : (o : Option Contents) → block_of S g ≡ o → child_with s g o ≡ Some x → Twin (child_with s y (block_of T y)) x
      go None is f = absurd (let h : None ≡ Some x = f in cc)
      go (Some contents) is f =
          let made : record { syllable = s; block = g; pages = contents.pages; table = contents.table; version = contents.version } ≡ x =
          same_Some record { syllable = s; block = g; pages = contents.pages; table = contents.table; version = contents.version } x f in
          subst (Twin (child_with s y (block_of T y))) made record {
            twin = record { syllable = s; block = y; pages = contents.pages; table = contents.table; version = contents.version };
            there = ap (child_with s y) (sym alike ∙ is);
            pages = refl;
            table = refl;
            version = refl;
            bound = (block_sized S g contents is).pages;
          }

  through_twin : (s : ℕ) (x : Item) (h g : Way) → WayLike k F Write h g → child_through S s h ≡ Some x → Twin (child_through T s g) x
  through_twin s x (Shut l c p w) g like e = absurd (let f : None ≡ Some x = e in cc)
  through_twin s x (Open b) g (inl low) e = absurd low
  through_twin s x (Open b) (Shut l c p w) (inr carried) e = absurd (let f : Open b ≡ Shut (l + k) c p w = carried in cc)
  through_twin s x (Open b) (Open y) (inr carried) e =
      let read : carried.0.read ≡ Open b = same y carried.0 Write b carried.1 (sym carried.2) in
      held_twin s b y x (block_alike S T b y (λ w lt. agree y b w carried.0 carried.1 read lt)) e

  slot_twin : (s : ℕ) (x : Item) (o p : Option Slot) → SlotLike k F o p → child_at S s o ≡ Some x → Twin (child_at T s p) x
  slot_twin s x None p like e = absurd (let f : None ≡ Some x = e in cc)
  slot_twin s x (Some h) None like e = absurd like
  slot_twin s x (Some h) (Some g) like e = through_twin s x h.write g.write (like Write) e

  pub child_twin : (H G : List Slot) (s : ℕ) (x : Item) → MapLike k F H G → child_of S H s ≡ Some x → Twin (child_of T G s) x
  child_twin H G s x like e = slot_twin s x (slice_get H s) (slice_get G s) (like s) e

  -- the machines of a path in S have their twins in T
  pub record Twins (H G : List Slot) (j : ℕ) (path : List ℕ) (items : List Item) : Type 0 where
    pub twins : List Item
    pub there : machines T G j path ≡ Some twins
    pub size : length (along S H (j + k) items) ≡ length (along T G j twins)
    pub like : MapLike k F (along S H (j + k) items) (along T G j twins)

  pub twins_of : (H G : List Slot) (j : ℕ) (path : List ℕ) (items : List Item) → length H ≡ length G → MapLike k F H G → machines S H (j + k) path ≡ Some items → Twins H G j path items
  unfolding machines along
  twins_of H G j [] items size like e = subst (Twins H G j []) (same_Some [] items e) record { twins = []; there = refl; size = size; like = like }
  twins_of H G j (s ∷ path) items size like e =
      let b = begins_with S H (j + k) s path items e in
      let x : Item = b.head in
      let t = child_twin H G s x like b.child in
      let y : Item = t.twin in
      let level : j + k + 1 ≡ j + 1 + k = omega arith in
      let map_is : compose T G j x.pages x.table x.version ≡ compose T G j y.pages y.table y.version =
      composed_alike T G j x.pages y.pages x.table y.table x.version y.version t.pages t.table t.version in
      let deeper : MapLike k F (compose S H (j + k) x.pages x.table x.version) (compose T G j y.pages y.table y.version) =
      subst (λ (M : List Slot). MapLike k F (compose S H (j + k) x.pages x.table x.version) M) map_is
      (composed_like k F S T below agree H G like j x.pages x.table x.version t.bound) in
      let sizes : length (compose S H (j + k) x.pages x.table x.version) ≡ length (compose T G j y.pages y.table y.version) =
      length-composed S H (j + k) x.pages x.table x.version ∙ t.pages ∙ sym (length-composed T G j y.pages y.table y.version) in
      let r = twins_of (compose S H (j + k) x.pages x.table x.version) (compose T G j y.pages y.table y.version) (j + 1) path b.rest sizes deeper
      (ap (λ (l : ℕ). machines S (compose S H (j + k) x.pages x.table x.version) l path) (sym level) ∙ b.others) in
      subst (Twins H G j (s ∷ path)) b.whole record {
        twins = y ∷ r.twins;
        there = begins_from T G j s path y r.twins t.there r.there;
        size = subst (λ (l : ℕ). length (along S (compose S H (j + k) x.pages x.table x.version) l b.rest) ≡ length (along T (compose T G j y.pages y.table y.version) (j + 1) r.twins)) (sym level) r.size;
        like = subst (λ (l : ℕ). MapLike k F (along S (compose S H (j + k) x.pages x.table x.version) l b.rest) (along T (compose T G j y.pages y.table y.version) (j + 1) r.twins)) (sym level) r.like;
      }

map_of_some : (S path : List ℕ) (F : List Slot) → map_of S path ≡ Some F → (items : List Item) × (pin_of S path ≡ Some items) × (map_along S items ≡ F)
map_of_some S path F e = go (pin_of S path) refl e
  where
    go : (o : Option (List Item)) → pin_of S path ≡ o → option_map (map_along S) o ≡ Some F → (items : List Item) × (pin_of S path ≡ Some items) × (map_along S items ≡ F)
    go None is f = absurd (let h : None ≡ Some F = f in cc)
    go (Some items) is f = (items, is, same_Some (map_along S items) F f)

-- from the end of a path on
pub from_here : (S T : List ℕ) (F : List Slot) (k : ℕ) (q : List ℕ) (ys : List Item) → ShutBelow k F → OpensSame F → Agree F S T → length F ≡ page_count T → machines S F k q ≡ Some ys → (G : List Slot) × (map_of T q ≡ Some G) × (length (along S F k ys) ≡ length G) × MapLike k F (along S F k ys) G
unfolding map_along pin_of
from_here S T F k q ys below same agree pages e =
    let level : 0 + k ≡ k = omega arith in
    let like : MapLike k F F (identity (page_count T)) = subst (λ (n : ℕ). MapLike k F F (identity n)) pages (identity_like k F) in
    let size : length F ≡ length (identity (page_count T)) = pages ∙ sym (length-identity (page_count T)) in
    let r = twins_of k F S T below same agree F (identity (page_count T)) 0 q ys size like (ap (λ (l : ℕ). machines S F l q) level ∙ e) in (
      along T (identity (page_count T)) 0 r.twins,
      ap (option_map (map_along T)) r.there,
      ap (λ (l : ℕ). length (along S F l ys)) (sym level) ∙ r.size,
      subst (λ (l : ℕ). MapLike k F (along S F l ys) (along T (identity (page_count T)) 0 r.twins)) level r.like,
    )

-- the whole path, cut
joined : (S : List ℕ) (p q : List ℕ) (H : List Slot) (items : List Item) → map_along S items ≡ H → Parts S (identity (page_count S)) 0 p q items → (F : List Slot) × (G : List Slot) × (map_of S p ≡ Some F) × (map_of (seen S F) q ≡ Some G) × (length H ≡ length G) × MapLike (length p) F H G
unfolding map_along pin_of
joined S p q H items is r =
    let F : List Slot = map_along S r.first in
    let level : 0 + length r.first ≡ length p = omega (arith, r.long) in
    let below : ShutBelow (length p) F = subst (λ (k : ℕ). ShutBelow k F) level (along_below S (identity (page_count S)) 0 r.first (identity_below (page_count S))) in
    let same : OpensSame F = along_same S (identity (page_count S)) 0 r.first (identity_same (page_count S)) in
    let after : machines S F (length p) q ≡ Some r.second = ap (λ (k : ℕ). machines S F k q) (sym level) ∙ r.after in
    let map_is : along S F (length p) r.second ≡ H =
    ap (λ (k : ℕ). along S F k r.second) (sym level)
    ∙ sym (along-append S (identity (page_count S)) 0 r.first r.second)
    ∙ ap (map_along S) (sym r.whole)
    ∙ is in
    let g = from_here S (seen S F) F (length p) q r.second below same (seen_agrees S F) (sym (page_count-seen S F)) after in (
      F,
      g.0,
      ap (option_map (map_along S)) r.before,
      g.1,
      ap length (sym map_is) ∙ g.2,
      subst (λ (M : List Slot). MapLike (length p) F M g.0) map_is g.3,
    )

pub associative : (S p q : List ℕ) (H : List Slot) → map_of S (p ++ q) ≡ Some H → (F : List Slot) × (G : List Slot) × (map_of S p ≡ Some F) × (map_of (seen S F) q ≡ Some G) × (length H ≡ length G) × MapLike (length p) F H G
unfolding pin_of
associative S p q H e =
    let all = map_of_some S (p ++ q) H e in
    joined S p q H all.0 all.2 (parts S (identity (page_count S)) 0 p q all.0 all.1)
