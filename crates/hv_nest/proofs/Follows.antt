-- What is found by following next.
use Rattle.std.proofs.Common.{◌≡◌, ◌≢◌, ℕ, zero, suc, ◌+◌, ◌-◌, ◌<◌, Bool, true, false, cond, List, [], ◌∷◌, ◌++◌, length, map, Option, Some, None, nat_eq, refl, ap, ap₂, ◌∙◌, sym, arith, slice_get, length-append, append_assoc}
use Rattle.std.proofs.lemmas.Bool.{eqb-true, eqb-false}
use Rattle.std.proofs.lemmas.List.{append-nil, map-append, nil_from_length}
use Rattle.hv_word.specs.Storage.{page_count}
use Rattle.hv_cpu.specs.Regs.{Regs}
use Rattle.hv_store.specs.declared.access.Refusal.{Refusal}
use Rattle.hv_store.specs.declared.access.Slot.{Slot}
use Rattle.hv_store.specs.declared.access.Way.{Way}
use Rattle.hv_store.specs.declared.access.Way.TheVariants.{Open, Shut}
use Rattle.hv_store.specs.Access.{identity}
use Rattle.hv_store.proofs.Identity.{length-identity}
use Rattle.hv_block.specs.declared.Block.{Block}
use Rattle.hv_block.specs.Block.{regs_at, is_block, contents_at}
use Rattle.hv_map.specs.Item.{Item}
use Rattle.hv_map.specs.Compose.{compose}
use Rattle.hv_map.specs.Chain.{along, map_along, child_of, child_next, run_on, running, running_path}
use Rattle.hv_limits.specs.Limits.{depth_limit}
use Rattle.hv_map.specs.Links.{syllable_of}
use Rattle.hv_map.specs.declared.found.Found.{Found}
use Rattle.hv_map.specs.declared.found.Found.TheVariants.{Child, Malformed, Refused}
use Rattle.hv_map.specs.Found.{found_in, found_through, found_at, found_on, item_of}
use Rattle.hv_map.proofs.Pins.{child_there, child_malformed, child_refused}
use Rattle.hv_nest.specs.Beyond.{beyond}
use Rattle.hv_nest.proofs.Rows.{map_along-snoc, chain_longer, chain_next}

-- the registers of a child that is found are those that its block says
block_in : Option Found → ℕ
block_in None = 0
block_in (Some (Child g b)) = g
block_in (Some (Malformed g)) = g
block_in (Some (Refused e)) = 0

regs_in : Regs → Option Found → Regs
regs_in r None = r
regs_in r (Some (Child g b)) = b.cpu
regs_in r (Some (Malformed g)) = r
regs_in r (Some (Refused e)) = r

is_child : Option Found → Bool
is_child None = false
is_child (Some (Child g b)) = true
is_child (Some (Malformed g)) = false
is_child (Some (Refused e)) = false

pub child_regs : (S : List ℕ) (F : List Slot) (s g : ℕ) (b : Block) → Some (Child g b) ≡ found_on S F s → regs_at S g ≡ b.cpu
unfolding block_in regs_in is_child
child_regs S F s g b e = at (slice_get F s) e
  where
    no : true ≡ false → ⊥
    no p = cc

    in_page : (h : ℕ) (t : Bool) → Some (Child g b) ≡ Some (found_in h (cond t (Some (contents_at S h)) None)) → regs_at S g ≡ b.cpu
    in_page h true p = ap (regs_at S) (ap block_in p) ∙ sym (ap (regs_in b.cpu) p)
    in_page h false p = absurd (no (ap is_child p))

    through : (way : Way) → Some (Child g b) ≡ Some (found_through S way) → regs_at S g ≡ b.cpu
    through (Open h) p = in_page h (is_block S h) p
    through (Shut l c q w) p = absurd (no (ap is_child p))

    at : (o : Option Slot) → Some (Child g b) ≡ found_at S o → regs_at S g ≡ b.cpu
    at None p = absurd (no (ap is_child p))
    at (Some slot) p = through slot.write p

-- nothing further
pub follows_none : (n : ℕ) (S : List ℕ) (F : List Slot) (j : ℕ) (r : Regs) → r.next ≡ 0 → running n S F j r ≡ []
unfolding running
follows_none zero S F j r e = refl
follows_none (suc n) S F j r e = ap (λ (k : ℕ). run_on (running n) S F j (child_next S F k)) e

follows_deepest : (n : ℕ) (S : List ℕ) (F : List Slot) (j : ℕ) (r : Regs) → n ≡ 0 → running n S F j r ≡ []
unfolding running
follows_deepest n S F j r e = ap (λ (m : ℕ). running m S F j r) e

real_next : (S : List ℕ) (F : List Slot) (s : ℕ) → s ≢ 0 → child_next S F s ≡ child_of S F s
real_next S F zero ne = absurd (ne refl)
real_next S F (suc s) ne = refl

stops : (n : ℕ) (S : List ℕ) (F : List Slot) (j : ℕ) (r : Regs) (s : ℕ) → s ≡ r.next → s ≢ 0 → child_of S F s ≡ None → running n S F j r ≡ []
unfolding running
stops zero S F j r s is ne e = refl
stops (suc n) S F j r s is ne e =
    ap (λ (k : ℕ). run_on (running n) S F j (child_next S F k)) (sym is)
    ∙ ap (run_on (running n) S F j) (real_next S F s ne ∙ e)

goes_on : (n m : ℕ) (S : List ℕ) (F : List Slot) (j : ℕ) (r : Regs) (s : ℕ) (x : Item) → n ≡ suc m → s ≡ r.next → s ≢ 0 → child_of S F s ≡ Some x → running n S F j r ≡ x.syllable ∷ running m S (compose S F j x.pages x.table x.version) (j + 1) (regs_at S x.block)
unfolding running
goes_on n m S F j r s x fuel is ne e =
    ap (λ (k : ℕ). running k S F j r) fuel
    ∙ ap (λ (k : ℕ). run_on (running m) S F j (child_next S F k)) (sym is)
    ∙ ap (run_on (running m) S F j) (real_next S F s ne ∙ e)

ended : (S : List ℕ) (xs : List Item) (r : Regs) → running (depth_limit - length xs) S (map_along S xs) (length xs) r ≡ [] → map syllable_of xs ≡ beyond S xs r
unfolding beyond
ended S xs r e = sym (append-nil (map syllable_of xs)) ∙ ap (λ (p : List ℕ). map syllable_of xs ++ p) (sym e)

pub beyond_none : (S : List ℕ) (xs : List Item) (r : Regs) → r.next ≡ 0 → map syllable_of xs ≡ beyond S xs r
beyond_none S xs r e = ended S xs r (follows_none (depth_limit - length xs) S (map_along S xs) (length xs) r e)

pub beyond_deepest : (S : List ℕ) (xs : List Item) (r : Regs) → length xs ≡ depth_limit → map syllable_of xs ≡ beyond S xs r
beyond_deepest S xs r e =
    let fuel : depth_limit - length xs ≡ 0 = omega arith in
    ended S xs r (follows_deepest (depth_limit - length xs) S (map_along S xs) (length xs) r fuel)

pub beyond_stops : (S : List ℕ) (xs : List Item) (r : Regs) (s : ℕ) → s ≡ r.next → s ≢ 0 → child_of S (map_along S xs) s ≡ None → map syllable_of xs ≡ beyond S xs r
beyond_stops S xs r s is ne e = ended S xs r (stops (depth_limit - length xs) S (map_along S xs) (length xs) r s is ne e)

pub beyond_child : (S : List ℕ) (xs ys : List Item) (r : Regs) (s g : ℕ) (b : Block) → length xs < depth_limit → s ≡ r.next → s ≢ 0 → Some (Child g b) ≡ found_on S (map_along S xs) s → ys ≡ xs ++ item_of s g b ∷ [] → beyond S ys b.cpu ≡ beyond S xs r
unfolding beyond
beyond_child S xs ys r s g b lt is ne f e =
    let x : Item = item_of s g b in
    let m : ℕ = depth_limit - (length xs + 1) in
    let longer : length ys ≡ length xs + 1 = ap length e ∙ length-append xs (x ∷ []) in
    let fuel : depth_limit - length xs ≡ suc m = omega arith in
    let rest : depth_limit - length ys ≡ m = omega arith in
    let deeper : List ℕ = running m S (compose S (map_along S xs) (length xs) x.pages x.table x.version) (length xs + 1) (regs_at S x.block) in
    ap₂ (λ (p q : List ℕ). p ++ q)
    (ap (map syllable_of) e ∙ map-append syllable_of xs (x ∷ []))
    (ap (λ (k : ℕ). running k S (map_along S ys) (length ys) b.cpu) rest
    ∙ ap₂ (λ (F : List Slot) (j : ℕ). running m S F j b.cpu) (ap (map_along S) e ∙ map_along-snoc S xs x) longer
    ∙ ap (running m S (compose S (map_along S xs) (length xs) x.pages x.table x.version) (length xs + 1)) (sym (child_regs S (map_along S xs) s g b f)))
    ∙ append_assoc (map syllable_of xs) (s ∷ []) deeper
    ∙ ap (λ (p : List ℕ). map syllable_of xs ++ p) (sym (goes_on (depth_limit - length xs) m S (map_along S xs) (length xs) r s x fuel is ne (child_there S (map_along S xs) s g b f)))

pub beyond_next : (S : List ℕ) (xs ys : List Item) (s g : ℕ) (b : Block) → b.cpu.next < b.pages → ys ≡ xs ++ item_of s g b ∷ [] → b.cpu.next ≢ 0 → b.cpu.next < length (map_along S ys)
beyond_next = chain_next

pub beyond_malformed : (S : List ℕ) (xs : List Item) (r : Regs) (s g : ℕ) → s ≡ r.next → s ≢ 0 → Some (Malformed g) ≡ found_on S (map_along S xs) s → map syllable_of xs ≡ beyond S xs r
beyond_malformed S xs r s g is ne f = beyond_stops S xs r s is ne (child_malformed S (map_along S xs) s g f)

pub beyond_refused : (S : List ℕ) (xs : List Item) (r : Regs) (s : ℕ) (e : Refusal) → s ≡ r.next → s ≢ 0 → Some (Refused e) ≡ found_on S (map_along S xs) s → map syllable_of xs ≡ beyond S xs r
beyond_refused S xs r s e is ne f = beyond_stops S xs r s is ne (child_refused S (map_along S xs) s e f)

pub beyond_new : (S : List ℕ) (r : Regs) → beyond S [] r ≡ running_path S r
unfolding beyond map_along along
beyond_new S r = refl

-- the bare machine runs itself where it has no next
pub runs_none : (S : List ℕ) (r : Regs) → r.next ≡ 0 → [] ≡ running_path S r
runs_none S r e = sym (follows_none depth_limit S (identity (page_count S)) 0 r e)

-- a path without syllables, and no other, is the one that it then runs
pub runs_empty : (S : List ℕ) (r : Regs) (p : List ℕ) (n : ℕ) → r.next ≡ 0 → n ≡ length p → nat_eq n 0 ≡ true → p ≡ running_path S r
runs_empty S r p n e is z = nil_from_length p (sym is ∙ eqb-true n 0 z) ∙ runs_none S r e

pub runs_other : (S : List ℕ) (r : Regs) (p : List ℕ) (n : ℕ) → r.next ≡ 0 → n ≡ length p → nat_eq n 0 ≡ false → p ≢ running_path S r
runs_other S r p n e is nz q = eqb-false n 0 nz (is ∙ ap length (q ∙ sym (runs_none S r e)))

-- the map of the bare machine
pub length-map_new : (S : List ℕ) → length (map_along S []) ≡ page_count S
unfolding map_along along
length-map_new S = length-identity (page_count S)

pub ruleset following = (beyond_none, beyond_deepest, beyond_malformed, beyond_refused, beyond_child, beyond_next, beyond_new, runs_none, runs_empty, runs_other, chain_longer, length-map_new)
