-- What is held is right, and stays as long as what it rests on stays.
use Rattle.std.proofs.Common.{◌≡◌, ℕ, zero, suc, ◌+◌, ◌<◌, ◌≤◌, ◌^◌, inl, inr, Bool, true, false, ◌||◌, List, [], ◌∷◌, length, Option, Some, None, refl, ap, ◌∙◌, sym, subst, arith, slice_get}
use Rattle.std.specs.List.{AllByRecursion}
use Rattle.std.specs.Option.{option_map}
use Rattle.std.proofs.lemmas.Bool.Decides.{eqb_tells}
use Rattle.std.proofs.lemmas.Option.{slice_get-map, same_Some}
use Rattle.hv_limits.specs.Limits.{depth_limit}
use Rattle.hv_word.specs.Storage.{page_count}
use Rattle.hv_cpu.specs.Regs.{Regs}
use Rattle.hv_store.specs.declared.access.Slot.{Slot}
use Rattle.hv_store.specs.Access.{identity}
use Rattle.hv_block.specs.Block.{Contents, block_of, regs_at}
use Rattle.hv_block.proofs.Blocks.{block_sized}
use Rattle.hv_word.specs.Words.{has}
use Rattle.hv_map.specs.Chain.{map_along, child_with, child_through, child_at, child_of, machines, pin_of, child_next, run_on, running, running_path}
use Rattle.hv_map.specs.Compose.{compose}
use Rattle.hv_map.specs.Held.{Lists, SamePage, SamePages, SaysItem, SaysItems, SameNexts, IsPlaced, Placed, Nexts, IsPin, IsHeld, IsRight}
use Rattle.hv_map.specs.Item.{Item}
use Rattle.hv_map.specs.Gathered.{Listed, Gathered, slots_of, pages_gathered, pages_read, gathered_map, bare_gathered_map, gathered_along, block_pages, pin_pages}
use Rattle.hv_map.specs.Words.{syllables}
use Rattle.hv_map.proofs.Assoc.{begins_with, begins_from}
use Rattle.hv_map.proofs.GatheredMaps.{slots-bare, slots-gathered_map, slots-along}
use Rattle.hv_map.proofs.Rest.{first_all, second_all, KeepsMap, keeps_found, kept_gathered_map, kept_bare, kept_from}
use Rattle.hv_map.proofs.Words.{follows}

-- a listed page is the same where all listed pages are
pub listed_same : (S T : List ℕ) (g : ℕ) (hs : List ℕ) → has g hs ≡ true → SamePages S T hs → SamePage S T g
listed_same S T g [] e same = absurd (let f : false ≡ true = e in cc)
listed_same S T g (h ∷ hs) e same = elim (eqb_tells g h) [
  | inl agree ↦ subst (SamePage S T) (sym agree.1) same.0
  | inr differ ↦ listed_same S T g hs (sym (ap (λ (b : Bool). b || has g hs) differ.0) ∙ e) same.1
]

listed_all : (S T : List ℕ) (p : Listed) (gs : List ℕ) → Lists p gs → SamePages S T p.pages → SamePages S T gs
listed_all S T p [] lists same = tt
listed_all S T p (g ∷ gs) lists same = (listed_same S T g p.pages lists.0 same, listed_all S T p gs lists.1 same)

-- what a block says has a size that a block can have
says_size : (S : List ℕ) (x : Item) → SaysItem S x → x.pages ≤ 2 ^ 20
says_size S x e = go (block_of S x.block) refl e
  where
    go : (o : Option Contents) → block_of S x.block ≡ o → child_with x.syllable x.block o ≡ Some x → x.pages ≤ 2 ^ 20
    go None is f = absurd (let h : None ≡ Some x = f in cc)
    go (Some held) is f =
        let same : held.pages ≡ x.pages = ap (λ (y : Item). y.pages) (same_Some _ x f) in
        omega (arith, (block_sized S x.block held is).pages, same)

says_sizes : (S : List ℕ) (items : List Item) → SaysItems S items → AllByRecursion (λ (x : Item). x.pages ≤ 2 ^ 20) items
says_sizes S [] says = tt
says_sizes S (x ∷ xs) says = (says_size S x says.0, says_sizes S xs says.1)

-- the machines stay where they are
placed_stays : (S T : List ℕ) (M N : List Gathered) (p : Listed) (j : ℕ) (items : List Item)
    → KeepsMap S T M N
    → SamePages S T p.pages
    → SaysItems T items
    → Placed S M p j items
    → Placed T N p j items
placed_stays S T M N p j [] keeps same says placed = tt
placed_stays S T M N p j (x ∷ xs) keeps same says placed =
    let a = placed.0 in (
      record {
        gathered = a.gathered;
        found = keeps_found S T M N x.syllable a.gathered keeps a.found (listed_all S T p a.gathered.pages a.listed same);
        opens = a.opens;
        listed = a.listed;
        says = says.0;
      },
      placed_stays S T (gathered_map S M j x.pages x.table x.version) (gathered_map T N j x.pages x.table x.version) p (j + 1) xs
          (kept_gathered_map S T M N keeps j x.pages x.table x.version (says_size T x says.0)) same says.1 placed.1,
    )

pub held_stays : (S T : List ℕ) (items : List Item) (p : Listed) (page : ℕ) (slot : Slot)
    → length S ≡ length T
    → SamePages S T p.pages
    → SaysItems T items
    → IsHeld S items p page slot
    → IsHeld T items p page slot
unfolding gathered_along
held_stays S T items p page slot long same says held =
    let bare = kept_bare S T long in
    record {
      placed = placed_stays S T (bare_gathered_map (page_count S)) (bare_gathered_map (page_count T)) p 0 items bare same says held.placed;
      gathered = held.gathered;
      found =
          keeps_found S T (gathered_along S items) (gathered_along T items) page held.gathered
          (kept_from S T (bare_gathered_map (page_count S)) (bare_gathered_map (page_count T)) 0 items bare (says_sizes T items says))
          held.found (listed_all S T p held.gathered.pages held.listed same);
      same = held.same;
      listed = held.listed;
    }

-- each next names the next machine still
nexts_stay : (S T : List ℕ) (r q : Regs) (items : List Item) → SameNexts S T items → q.next ≡ r.next → Nexts S r items → Nexts T q items
nexts_stay S T r q [] same e nexts = e ∙ nexts
nexts_stay S T r q (x ∷ xs) same e nexts =
    ((e ∙ nexts.0.0, nexts.0.1), nexts_stay S T (regs_at S x.block) (regs_at T x.block) xs same.1 (sym same.0) nexts.1)

pub pin_stays : (S T : List ℕ) (r q : Regs) (items : List Item) (p : Listed)
    → length S ≡ length T
    → SamePages S T p.pages
    → SaysItems T items
    → SameNexts S T items
    → q.next ≡ r.next
    → IsPin S r items p
    → IsPin T q items p
pin_stays S T r q items p long same says nexts e pin = record {
  short = pin.short;
  placed = placed_stays S T (bare_gathered_map (page_count S)) (bare_gathered_map (page_count T)) p 0 items (kept_bare S T long) same says pin.placed;
  nexts = nexts_stay S T r q items nexts e pin.nexts;
}

-- a machine that is placed is the child on its page
placed_child : (S : List ℕ) (N : List Gathered) (p : Listed) (x : Item) → IsPlaced S N p x → child_of S (slots_of N) x.syllable ≡ Some x
placed_child S N p x placed =
    ap (child_at S x.syllable)
    (slice_get-map (λ (n : Gathered). n.slot) N x.syllable ∙ ap (option_map (λ (n : Gathered). n.slot)) placed.found)
    ∙ ap (child_through S x.syllable) placed.opens
    ∙ placed.says

placed_machines : (S : List ℕ) (N : List Gathered) (F : List Slot) (p : Listed) (j : ℕ) (items : List Item) → slots_of N ≡ F → Placed S N p j items → machines S F j (syllables items) ≡ Some items
unfolding machines
placed_machines S N F p j [] is placed = refl
placed_machines S N F p j (x ∷ xs) is placed =
    let child : child_of S F x.syllable ≡ Some x =
    ap (λ (G : List Slot). child_of S G x.syllable) (sym is) ∙ placed_child S N p x placed.0
    in
    let deeper : slots_of (gathered_map S N j x.pages x.table x.version) ≡ compose S F j x.pages x.table x.version =
    slots-gathered_map S N j x.pages x.table x.version ∙ ap (λ (G : List Slot). compose S G j x.pages x.table x.version) is
    in
    begins_from S F j x.syllable (syllables xs) x xs child
    (placed_machines S (gathered_map S N j x.pages x.table x.version) (compose S F j x.pages x.table x.version) p (j + 1) xs deeper placed.1)

pub placed_pin : (S : List ℕ) (items : List Item) (p : Listed) → Placed S (bare_gathered_map (page_count S)) p 0 items → pin_of S (syllables items) ≡ Some items
unfolding pin_of
placed_pin S items p placed =
    placed_machines S (bare_gathered_map (page_count S)) (identity (page_count S)) p 0 items (slots-bare (page_count S)) placed

pub held_right : (S : List ℕ) (items : List Item) (p : Listed) (page : ℕ) (slot : Slot)
    → IsHeld S items p page slot
    → (pin_of S (syllables items) ≡ Some items) × IsRight S (syllables items) page slot
held_right S items p page slot held =
    let there : pin_of S (syllables items) ≡ Some items = placed_pin S items p held.placed in
    let has_slot : slice_get (map_along S items) page ≡ Some slot =
    ap (λ (F : List Slot). slice_get F page) (sym (slots-along S items))
    ∙ slice_get-map (λ (n : Gathered). n.slot) (gathered_along S items) page
    ∙ ap (option_map (λ (n : Gathered). n.slot)) held.found
    ∙ ap Some held.same in
    (there, (map_along S items, ap (option_map (map_along S)) there, has_slot))

-- the running path goes by the same machines
next_runs : (S : List ℕ) (F : List Slot) (next s : ℕ) → next ≡ s → 0 < s → child_next S F next ≡ child_of S F s
next_runs S F next zero e some = absurd (omega arith)
next_runs S F next (suc s) e some = ap (child_next S F) e

placed_runs : (n : ℕ) (S : List ℕ) (N : List Gathered) (F : List Slot) (p : Listed) (j : ℕ) (r : Regs) (items : List Item)
    → slots_of N ≡ F
    → length items ≤ n
    → Placed S N p j items
    → Nexts S r items
    → running n S F j r ≡ syllables items
unfolding running
placed_runs zero S N F p j r [] is short placed nexts = refl
placed_runs zero S N F p j r (x ∷ xs) is short placed nexts = absurd (omega arith)
placed_runs (suc n) S N F p j r [] is short placed nexts = ap (λ (k : ℕ). run_on (running n) S F j (child_next S F k)) nexts
placed_runs (suc n) S N F p j r (x ∷ xs) is short placed nexts =
    let child : child_of S F x.syllable ≡ Some x =
    ap (λ (G : List Slot). child_of S G x.syllable) (sym is) ∙ placed_child S N p x placed.0
    in
    let deeper : slots_of (gathered_map S N j x.pages x.table x.version) ≡ compose S F j x.pages x.table x.version =
    slots-gathered_map S N j x.pages x.table x.version ∙ ap (λ (G : List Slot). compose S G j x.pages x.table x.version) is
    in
    ap (run_on (running n) S F j) (next_runs S F r.next x.syllable nexts.0.0 nexts.0.1 ∙ child)
    ∙ ap (λ (path : List ℕ). x.syllable ∷ path)
    (placed_runs n S (gathered_map S N j x.pages x.table x.version) (compose S F j x.pages x.table x.version) p (j + 1) (regs_at S x.block) xs deeper (omega arith) placed.1 nexts.1)

pub pin_right : (S : List ℕ) (r : Regs) (items : List Item) (p : Listed)
    → IsPin S r items p
    → (running_path S r ≡ syllables items) × (pin_of S (running_path S r) ≡ Some items)
pin_right S r items p pin =
    let runs : running_path S r ≡ syllables items =
    placed_runs depth_limit S (bare_gathered_map (page_count S)) (identity (page_count S)) p 0 r items (slots-bare (page_count S)) pin.short pin.placed pin.nexts
    in
    (runs, ap (pin_of S) runs ∙ placed_pin S items p pin.placed)

-- and what is found on a path is placed, where it is listed
pub record Noticed (N : List Gathered) (u : ℕ) (s : Slot) : Type 0 where
  pub gathered : Gathered
  pub found : slice_get N u ≡ Some gathered
  pub slot : gathered.slot ≡ s

pub noticed : (N : List Gathered) (F : List Slot) (u : ℕ) (s : Slot) → slots_of N ≡ F → slice_get F u ≡ Some s → Noticed N u s
noticed N F u s is e =
    go (slice_get N u) refl (sym (slice_get-map (λ (n : Gathered). n.slot) N u) ∙ ap (λ (G : List Slot). slice_get G u) is ∙ e)
  where
    go : (o : Option Gathered) → slice_get N u ≡ o → option_map (λ (n : Gathered). n.slot) o ≡ Some s → Noticed N u s
    go None there f = absurd (let h : None ≡ Some s = f in cc)
    go (Some n) there f = record { gathered = n; found = there; slot = same_Some n.slot s f }

pub child_is_placed : (S : List ℕ) (N : List Gathered) (F : List Slot) (p : Listed) (s : ℕ) (x : Item) → slots_of N ≡ F → child_of S F s ≡ Some x → Lists p (pages_read N x.syllable) → IsPlaced S N p x
child_is_placed S N F p s x is e lists =
    let f = follows S F s x e in
    let c = f.child in
    let n = noticed N F x.syllable c.slot is c.there in
    record {
      gathered = n.gathered;
      found = n.found;
      opens = ap (λ (t : Slot). t.write) n.slot ∙ c.writes;
      listed = subst (λ (o : Option Gathered). Lists p (pages_gathered o)) n.found lists;
      says =
          sym (ap (child_at S x.syllable) c.there ∙ ap (child_through S x.syllable) c.writes)
          ∙ ap (child_of S F) f.syllable
          ∙ e;
    }

machines_placed : (S : List ℕ) (N : List Gathered) (F : List Slot) (p : Listed) (j : ℕ) (path : List ℕ) (items : List Item) → slots_of N ≡ F → machines S F j path ≡ Some items → Lists p (block_pages S N j items) → Placed S N p j items
unfolding machines block_pages
machines_placed S N F p j [] items is e lists = subst (Placed S N p j) (same_Some [] items e) tt
machines_placed S N F p j (s ∷ path) items is e lists =
    let b = begins_with S F j s path items e in
    let x : Item = b.head in
    let all = subst (λ (xs : List Item). Lists p (block_pages S N j xs)) (sym b.whole) lists in
    let rest = block_pages S (gathered_map S N j x.pages x.table x.version) (j + 1) b.rest in
    let deeper : slots_of (gathered_map S N j x.pages x.table x.version) ≡ compose S F j x.pages x.table x.version =
    slots-gathered_map S N j x.pages x.table x.version ∙ ap (λ (G : List Slot). compose S G j x.pages x.table x.version) is
    in
    subst (Placed S N p j) b.whole (
      child_is_placed S N F p s x is b.child (first_all (λ g. has g p.pages ≡ true) (pages_read N x.syllable) rest all),
      machines_placed S (gathered_map S N j x.pages x.table x.version) (compose S F j x.pages x.table x.version) p (j + 1) path b.rest deeper b.others
          (second_all (λ g. has g p.pages ≡ true) (pages_read N x.syllable) rest all),
    )

pub pin_placed : (S path : List ℕ) (items : List Item) (p : Listed)
    → pin_of S path ≡ Some items
    → Lists p (pin_pages S items)
    → Placed S (bare_gathered_map (page_count S)) p 0 items
unfolding pin_of pin_pages
pin_placed S path items p e lists =
    machines_placed S (bare_gathered_map (page_count S)) (identity (page_count S)) p 0 path items (slots-bare (page_count S)) e lists
