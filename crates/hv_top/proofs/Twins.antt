-- The bare machine beside a watched one, at the start.
use Rattle.std.proofs.Common.{◌≡◌, ℕ, ◌*◌, ◌<◌, Option, Some, None, List, length, refl, sym, ap, ◌∙◌, subst, arith}
use Rattle.std.specs.Prelude.{All, IfSome, IsSome, slice_get}
use Rattle.std.specs.Option.{option_map}
use Rattle.hv_word.specs.Storage.{page_count}
use Rattle.std.proofs.lemmas.Option.{slice_get_within, get_or_from_slice_get}
use Rattle.hv_cpu.specs.Regs.{Regs}
use Rattle.hv_store.specs.declared.access.Slot.{Slot}
use Rattle.hv_block.specs.Block.{Contents, block_of}
use Rattle.hv_map.specs.Item.{Item}
use Rattle.hv_map.specs.Chain.{map_along, map_of, pin_of}
use Rattle.hv_map.specs.Seen.{seen}
use Rattle.hv_nest.specs.Kinds.{NextBelow}
use Rattle.hv_twin.proofs.Copies.{length-seen}
use Rattle.hv_top.specs.Check.{IsMachine}
use Rattle.hv_top.proofs.Parked.{pinned_parked}
use Rattle.hv_top.proofs.Played.{block_inside}

-- how many pages are seen
pages_seen : (S : List ℕ) (F : List Slot) (T : List ℕ) → T ≡ seen S F → length F ≡ page_count T
pages_seen S F T is =
    let long : length T ≡ 1024 * length F = ap (λ (ws : List ℕ). length ws) is ∙ length-seen S F in
    omega (arith, long)

pub next_there : (S path : List ℕ) (items : List Item) (T : List ℕ) (r : Regs) → Some items ≡ pin_of S path → T ≡ seen S (map_along S items) → IfSome (map_of S path) (λ F. NextBelow (length F) r) → NextBelow (page_count T) r
next_there S path items T r e is next =
    subst (λ (n : ℕ). NextBelow n r) (pages_seen S (map_along S items) T is)
    (subst (λ (o : Option (List Item)). IfSome (option_map (map_along S) o) (λ F. NextBelow (length F) r)) (sym e) next)

-- a block that is told
pub parked_inside : (S path : List ℕ) (g : ℕ) (block : Option ℕ) → IsMachine S block (pin_of S path) → Some g ≡ block → g < page_count S
parked_inside S path g block h e = at (pin_of S path) refl h
  where
    at : (o : Option (List Item)) → pin_of S path ≡ o → IsMachine S block o → g < page_count S
    at None is m = absurd m
    at (Some items) is m = subst (λ (o : Option ℕ). IfSome o (λ k. k < page_count S)) (sym (e ∙ m.0)) (block_inside S path items is)

some_block : (o : Option Contents) (contents : Contents) → o ≡ Some contents → IsSome o
some_block None contents e = cc
some_block (Some h) contents e = refl

pub parked_there : (S path : List ℕ) (g : ℕ) (block : Option ℕ) → IsMachine S block (pin_of S path) → Some g ≡ block → IsSome (block_of S g)
parked_there S path g block h e = at (pin_of S path) refl h
  where
    at : (o : Option (List Item)) → pin_of S path ≡ o → IsMachine S block o → IsSome (block_of S g)
    at None is m = absurd m
    at (Some items) is m =
        let b = pinned_parked S path items g is (sym (e ∙ m.0)) in
        some_block (block_of S g) b.contents b.block

pub parked_next : (S path : List ℕ) (g : ℕ) (block : Option ℕ) (r : Regs) → IsMachine S block (pin_of S path) → Some g ≡ block → IfSome (block_of S g) (λ contents. r.next < contents.pages) → IfSome (map_of S path) (λ F. NextBelow (length F) r)
parked_next S path g block r h e below = at (pin_of S path) refl h
  where
    at : (o : Option (List Item)) → pin_of S path ≡ o → IsMachine S block o → IfSome (option_map (map_along S) o) (λ F. NextBelow (length F) r)
    at None is m = tt
    at (Some items) is m = λ some.
        let b = pinned_parked S path items g is (sym (e ∙ m.0)) in
        let less : r.next < (b.contents).pages = subst (λ (o : Option Contents). IfSome o (λ contents. r.next < contents.pages)) b.block below in
        subst (λ (n : ℕ). r.next < n) b.size less

-- a hart that runs no machine
pub idle_next : (S path : List ℕ) (r : Regs) → r.next ≡ 0 → IfSome (map_of S path) (λ F. NextBelow (length F) r)
idle_next S path r none = at (map_of S path)
  where
    at : (o : Option (List Slot)) → IfSome o (λ F. NextBelow (length F) r)
    at None = tt
    at (Some F) = λ some. absurd (some none)

pub hart_idle : (hs : List Regs) (h : ℕ) (r : Regs) → All (λ (r : Regs). r.next ≡ 0) hs → slice_get hs h ≡ Some r → r.next ≡ 0
hart_idle hs h r idle at =
    subst (λ (q : Regs). q.next ≡ 0) (get_or_from_slice_get hs h r r at) (idle h r (slice_get_within hs h r at))
