-- The rows of a step: what it comes to, by what is pending, what is to run, and what is found there.
use Rattle.std.proofs.Common.{◌≡◌, ◌≢◌, ℕ, zero, suc, ◌+◌, ◌-◌, ◌<◌, Bool, true, false, cond, List, [], ◌∷◌, ◌++◌, length, Option, Some, None, refl, ap, ap₂, ◌∙◌, sym, subst, arith, slice_get, lit<}
use Rattle.std.specs.Prelude.{find}
use Rattle.std.specs.Option.{option_or}
use Rattle.std.proofs.lemmas.Bool.{ne_eqb, eq-eqb}
use Rattle.std.proofs.lemmas.List.{length-append}
use Rattle.std.proofs.lemmas.Option.{same_Some}
use Rattle.hv_word.specs.Storage.{page_count}
use Rattle.hv_cpu.specs.Regs.{Regs}
use Rattle.hv_csr.specs.Traps.{take_trap_of}
use Rattle.hv_csr.specs.Interrupts.{by_urgency, has_line, pending_of, most_urgent_open, is_open_m, raised_m, is_open_s, raised_s}
use Rattle.hv_store.specs.declared.access.Refusal.{Refusal}
use Rattle.hv_store.specs.declared.access.Slot.{Slot}
use Rattle.hv_store.specs.declared.access.Way.{Way}
use Rattle.hv_store.specs.declared.access.Way.TheVariants.{Open, Shut}
use Rattle.hv_store.specs.Access.{identity}
use Rattle.hv_store.proofs.Identity.{length-identity}
use Rattle.hv_exec.specs.Act.{act_of}
use Rattle.hv_block.specs.declared.Block.{Block}
use Rattle.hv_block.specs.Block.{Contents, block_of, put_regs}
use Rattle.hv_map.specs.Item.{Item}
use Rattle.hv_map.specs.Compose.{compose}
use Rattle.hv_map.specs.Chain.{along, map_along}
use Rattle.hv_limits.specs.Limits.{depth_limit}
use Rattle.hv_map.specs.declared.found.Found.{Found}
use Rattle.hv_map.specs.declared.found.Found.TheVariants.{Child, Malformed, Refused}
use Rattle.hv_map.specs.Found.{found_in, found_through, found_at, found_on, item_of}
use Rattle.hv_map.proofs.Slots.{along-snoc, length-composed}
use Rattle.hv_nest.proofs.Told.{differences_itself}
use Rattle.hv_nest.specs.declared.outcome.StepKind.{StepKind}
use Rattle.hv_nest.specs.declared.outcome.StepKind.TheVariants.{Worked as WorkedKind, Recall, Fault}
use Rattle.hv_nest.specs.Kinds.{step_as}
use Rattle.hv_nest.specs.Step.{Stepped, Worked, Recalled, Faulted, Barred, Machine, idle, interrupt_of, act_step, tell_of, put_back, malformed, too_deep, child_step, child_step_through, child_step_at, next_step, quiet_step, step_on, step_of, host_step_of}

-- an interrupt has a number below 16
all_small : List ℕ → Type 0
all_small [] = Unit {0}
all_small (k ∷ ks) = (k < 16) × all_small ks

first_small : (ks : List ℕ) (set k : ℕ) → all_small ks → find (has_line set) ks ≡ Some k → k < 16
unfolding all_small
first_small [] set k h e = absurd (none-some e)
  where
    none-some : None ≡ Some k → ⊥
    none-some p = cc
first_small (i ∷ ks) set k h e = by (first_small ks set k h.1) (has_line set i) e
  where
    by : (find (has_line set) ks ≡ Some k → k < 16) → (b : Bool) → cond b (Some i) (find (has_line set) ks) ≡ Some k → k < 16
    by rest true p = subst (λ (n : ℕ). n < 16) (same_Some i k p) h.0
    by rest false p = rest p

among_small : (open_to : Bool) (set k : ℕ) → most_urgent_open open_to set ≡ Some k → k < 16
unfolding all_small
among_small true set k e = first_small by_urgency set k (lit< tt, (lit< tt, (lit< tt, (lit< tt, (lit< tt, (lit< tt, tt)))))) e
among_small false set k e = absurd (none-some e)
  where
    none-some : None ≡ Some k → ⊥
    none-some p = cc

pub pending_small : (r : Regs) (k : ℕ) → Some k ≡ pending_of r → k < 16
pending_small r k e =
    or_small (most_urgent_open (is_open_m r) (raised_m r)) (most_urgent_open (is_open_s r) (raised_s r)) (among_small (is_open_m r) (raised_m r) k) (among_small (is_open_s r) (raised_s r) k) (sym e)
  where
    or_small : (a b : Option ℕ) → (a ≡ Some k → k < 16) → (b ≡ Some k → k < 16) → option_or a b ≡ Some k → k < 16
    or_small (Some i) b f g p = f p
    or_small None b f g p = g p

-- what a step comes to, by what is found on the page of the machine to run
by_found : Machine → List ℕ → List Slot → ℕ → Regs → Option Found → Stepped
by_found deeper S F j r None = Barred (too_deep r.next)
by_found deeper S F j r (Some (Child g b)) =
    put_back S j r g (deeper S (compose S F j b.pages b.table b.version) (j + 1) 0 b.cpu)
by_found deeper S F j r (Some (Malformed g)) = tell_of S j r g (malformed j r.next)
by_found deeper S F j r (Some (Refused e)) = Barred e

found_steps : (deeper : Machine) (S : List ℕ) (F : List Slot) (j : ℕ) (r : Regs) → child_step_at deeper S F j r (slice_get F r.next) ≡ by_found deeper S F j r (found_on S F r.next)
unfolding by_found
found_steps deeper S F j r = at (slice_get F r.next)
  where
    contents : (g : ℕ) (o : Option Contents) → child_step deeper S F j r g o ≡ by_found deeper S F j r (Some (found_in g o))
    contents g None = refl
    contents g (Some h) = refl

    through : (way : Way) → child_step_through deeper S F j r way ≡ by_found deeper S F j r (Some (found_through S way))
    through (Open g) = contents g (block_of S g)
    through (Shut l c p w) = refl

    at : (o : Option Slot) → child_step_at deeper S F j r o ≡ by_found deeper S F j r (found_at S o)
    at None = refl
    at (Some slot) = through slot.write

-- an interrupt is pending
pub row_pending : (n : ℕ) (S : List ℕ) (F : List Slot) (j h : ℕ) (r : Regs) (k : ℕ) → Some k ≡ pending_of r → step_of n S F j h r ≡ interrupt_of S j r k
unfolding step_of
row_pending zero S F j h r k e = ap (step_on None S F j h r) (sym e)
row_pending (suc n) S F j h r k e = ap (step_on (Some (step_of n)) S F j h r) (sym e)

-- none is pending
without : (n : ℕ) (S : List ℕ) (F : List Slot) (j h : ℕ) (r : Regs) → None ≡ pending_of r → (deeper : Option Machine) × (step_of n S F j h r ≡ quiet_step deeper S F j h r)
unfolding step_of
without zero S F j h r e = (None, ap (step_on None S F j h r) (sym e))
without (suc n) S F j h r e = (Some (step_of n), ap (step_on (Some (step_of n)) S F j h r) (sym e))

pub row_acts : (n : ℕ) (S : List ℕ) (F : List Slot) (j h : ℕ) (r : Regs) → None ≡ pending_of r → r.next ≡ 0 → step_of n S F j h r ≡ act_step (act_of S F h r)
row_acts n S F j h r e z =
    let w = without n S F j h r e in
    w.1 ∙ ap (λ (b : Bool). cond b (act_step (act_of S F h r)) (next_step w.0 S F j r)) (eq-eqb r.next 0 z)

pub row_deepest : (n : ℕ) (S : List ℕ) (F : List Slot) (j h : ℕ) (r : Regs) → n ≡ 0 → None ≡ pending_of r → r.next ≢ 0 → step_of n S F j h r ≡ Barred (too_deep r.next)
unfolding step_of
row_deepest n S F j h r z e ne =
    ap (λ (m : ℕ). step_of m S F j h r) z
    ∙ ap (step_on None S F j h r) (sym e)
    ∙ ap (λ (b : Bool). cond b (act_step (act_of S F h r)) (Barred (too_deep r.next))) (ne_eqb r.next 0 ne)

row_found : (n m : ℕ) (S : List ℕ) (F : List Slot) (j h : ℕ) (r : Regs) (o : Found) → n ≡ suc m → None ≡ pending_of r → r.next ≢ 0 → Some o ≡ found_on S F r.next → step_of n S F j h r ≡ by_found (step_of m) S F j r (Some o)
unfolding step_of
row_found n m S F j h r o is e ne f =
    ap (λ (k : ℕ). step_of k S F j h r) is
    ∙ ap (step_on (Some (step_of m)) S F j h r) (sym e)
    ∙ ap (λ (b : Bool). cond b (act_step (act_of S F h r)) (child_step_at (step_of m) S F j r (slice_get F r.next))) (ne_eqb r.next 0 ne)
    ∙ found_steps (step_of m) S F j r
    ∙ ap (by_found (step_of m) S F j r) (sym f)

pub row_refused : (n m : ℕ) (S : List ℕ) (F : List Slot) (j h : ℕ) (r : Regs) (e : Refusal) → n ≡ suc m → None ≡ pending_of r → r.next ≢ 0 → Some (Refused e) ≡ found_on S F r.next → step_of n S F j h r ≡ Barred e
unfolding by_found
row_refused n m S F j h r e is p ne f = row_found n m S F j h r (Refused e) is p ne f

pub row_malformed : (n m : ℕ) (S : List ℕ) (F : List Slot) (j h : ℕ) (r : Regs) (g : ℕ) → n ≡ suc m → None ≡ pending_of r → r.next ≢ 0 → Some (Malformed g) ≡ found_on S F r.next → step_of n S F j h r ≡ tell_of S j r g (malformed j r.next)
unfolding by_found
row_malformed n m S F j h r g is p ne f = row_found n m S F j h r (Malformed g) is p ne f

pub row_child : (n m : ℕ) (S : List ℕ) (F : List Slot) (j h : ℕ) (r : Regs) (g : ℕ) (b : Block) → n ≡ suc m → None ≡ pending_of r → r.next ≢ 0 → Some (Child g b) ≡ found_on S F r.next → step_of n S F j h r ≡ put_back S j r g (step_of m S (compose S F j b.pages b.table b.version) (j + 1) 0 b.cpu)
unfolding by_found
row_child n m S F j h r g b is p ne f = row_found n m S F j h r (Child g b) is p ne f

-- the map of one more machine
pub map_along-snoc : (S : List ℕ) (xs : List Item) (x : Item) → map_along S (xs ++ x ∷ []) ≡ compose S (map_along S xs) (length xs) x.pages x.table x.version
unfolding map_along
map_along-snoc S xs x =
    let e : 0 + length xs ≡ length xs = omega arith in
    along-snoc S (identity (page_count S)) 0 xs x
    ∙ ap (λ (j : ℕ). compose S (along S (identity (page_count S)) 0 xs) j x.pages x.table x.version) e

pub length-deeper : (S : List ℕ) (xs : List Item) (x : Item) → length (map_along S (xs ++ x ∷ [])) ≡ x.pages
length-deeper S xs x = ap length (map_along-snoc S xs x) ∙ length-composed S (map_along S xs) (length xs) x.pages x.table x.version

-- what a step of the last machine of a chain comes to where a child is found
pub chain_child : (S : List ℕ) (xs ys : List Item) (h : ℕ) (r : Regs) (s g : ℕ) (b : Block) → length xs < depth_limit → None ≡ pending_of r → s ≡ r.next → s ≢ 0 → Some (Child g b) ≡ found_on S (map_along S xs) s → ys ≡ xs ++ item_of s g b ∷ [] → step_of (depth_limit - length xs) S (map_along S xs) (length xs) h r ≡ put_back S (length xs) r g (step_of (depth_limit - length ys) S (map_along S ys) (length ys) 0 b.cpu)
chain_child S xs ys h r s g b lt p is ne f e =
    let m : ℕ = depth_limit - (length xs + 1) in
    let x : Item = item_of s g b in
    let longer : length ys ≡ length xs + 1 = ap length e ∙ length-append xs (x ∷ []) in
    let fuel : depth_limit - length xs ≡ suc m = omega arith in
    let rest : depth_limit - length ys ≡ m = omega arith in
    row_child (depth_limit - length xs) m S (map_along S xs) (length xs) h r g b fuel p (λ z. ne (is ∙ z)) (f ∙ ap (found_on S (map_along S xs)) is)
    ∙ ap (put_back S (length xs) r g)
    (ap₂ (λ (F : List Slot) (j : ℕ). step_of m S F j 0 b.cpu) (sym (ap (map_along S) e ∙ map_along-snoc S xs x)) (sym longer)
    ∙ ap (λ (k : ℕ). step_of k S (map_along S ys) (length ys) 0 b.cpu) (sym rest))

pub chain_malformed : (S : List ℕ) (xs : List Item) (h : ℕ) (r : Regs) (s g : ℕ) → length xs < depth_limit → None ≡ pending_of r → s ≡ r.next → s ≢ 0 → Some (Malformed g) ≡ found_on S (map_along S xs) s → step_of (depth_limit - length xs) S (map_along S xs) (length xs) h r ≡ tell_of S (length xs) r g (malformed (length xs) s)
chain_malformed S xs h r s g lt p is ne f =
    let fuel : depth_limit - length xs ≡ suc (depth_limit - (length xs + 1)) = omega arith in
    row_malformed (depth_limit - length xs) (depth_limit - (length xs + 1)) S (map_along S xs) (length xs) h r g fuel p (λ z. ne (is ∙ z)) (f ∙ ap (found_on S (map_along S xs)) is)
    ∙ ap (λ (k : ℕ). tell_of S (length xs) r g (malformed (length xs) k)) (sym is)

pub chain_refused : (S : List ℕ) (xs : List Item) (h : ℕ) (r : Regs) (s : ℕ) (e : Refusal) → length xs < depth_limit → None ≡ pending_of r → s ≡ r.next → s ≢ 0 → Some (Refused e) ≡ found_on S (map_along S xs) s → step_of (depth_limit - length xs) S (map_along S xs) (length xs) h r ≡ Barred e
chain_refused S xs h r s e lt p is ne f =
    let fuel : depth_limit - length xs ≡ suc (depth_limit - (length xs + 1)) = omega arith in
    row_refused (depth_limit - length xs) (depth_limit - (length xs + 1)) S (map_along S xs) (length xs) h r e fuel p (λ z. ne (is ∙ z)) (f ∙ ap (found_on S (map_along S xs)) is)

pub chain_deepest : (S : List ℕ) (xs : List Item) (h : ℕ) (r : Regs) (s : ℕ) → length xs ≡ depth_limit → None ≡ pending_of r → s ≡ r.next → s ≢ 0 → step_of (depth_limit - length xs) S (map_along S xs) (length xs) h r ≡ Barred (too_deep s)
chain_deepest S xs h r s is-deep p is ne =
    let fuel : depth_limit - length xs ≡ 0 = omega arith in
    row_deepest (depth_limit - length xs) S (map_along S xs) (length xs) h r fuel p (λ z. ne (is ∙ z))
    ∙ ap (λ (k : ℕ). Barred (too_deep k)) (sym is)

-- a child's chain is longer, and the child's next is inside its pages
pub chain_longer : (xs ys : List Item) (s g : ℕ) (b : Block) → length xs < depth_limit → ys ≡ xs ++ item_of s g b ∷ [] → depth_limit - length ys < depth_limit - length xs
chain_longer xs ys s g b lt e =
    let longer : length ys ≡ length xs + 1 = ap length e ∙ length-append xs (item_of s g b ∷ []) in
    omega arith

pub chain_next : (S : List ℕ) (xs ys : List Item) (s g : ℕ) (b : Block) → b.cpu.next < b.pages → ys ≡ xs ++ item_of s g b ∷ [] → b.cpu.next ≢ 0 → b.cpu.next < length (map_along S ys)
chain_next S xs ys s g b lt e _ =
    let is : length (map_along S ys) ≡ b.pages = ap (λ (zs : List Item). length (map_along S zs)) e ∙ length-deeper S xs (item_of s g b) in
    omega arith

-- a child's step that worked, with its registers put back
pub put_ok : (S T U : List ℕ) (j : ℕ) (r q : Regs) (g : ℕ) (kind : StepKind) → U ≡ put_regs T g q → step_as kind U r ≡ put_back S j r g (step_as kind T q)
put_ok S T U j r q g WorkedKind e = ap (λ (V : List ℕ). Worked V r) e
put_ok S T U j r q g (Recall l) e = ap (λ (V : List ℕ). Recalled l V r) e
put_ok S T U j r q g (Fault l c a x) e = ap (λ (V : List ℕ). Faulted l c a x V r) e

pub ruleset rows = (row_acts, length-deeper, pending_small)

-- the bare machine's chain has no machine
pub host_is : (S : List ℕ) (xs : List Item) (h : ℕ) (r : Regs) → xs ≡ [] → step_of (depth_limit - length xs) S (map_along S xs) (length xs) h r ≡ host_step_of S h r
unfolding map_along along host_step_of
host_is S xs h r e = ap (λ (ys : List Item). step_of (depth_limit - length ys) S (map_along S ys) (length ys) h r) e

pub host_pages : (S : List ℕ) (xs : List Item) → xs ≡ [] → length (map_along S xs) ≡ page_count S
unfolding map_along along
host_pages S xs e = ap (λ (ys : List Item). length (map_along S ys)) e ∙ length-identity (page_count S)

-- the bare machine, where it runs no other
pub host_acts : (S : List ℕ) (h : ℕ) (r : Regs) → None ≡ pending_of r → r.next ≡ 0 → host_step_of S h r ≡ act_step (act_of S (identity (page_count S)) h r)
unfolding host_step_of
host_acts S h r e z = row_acts depth_limit S (identity (page_count S)) 0 h r e z

pub host_traps : (S : List ℕ) (h : ℕ) (r : Regs) (k : ℕ) → Some k ≡ pending_of r → r.next ≡ 0 → host_step_of S h r ≡ Worked S (take_trap_of r k true 0)
unfolding host_step_of
host_traps S h r k e z =
    row_pending depth_limit S (identity (page_count S)) 0 h r k e
    ∙ ap (λ (b : Bool). cond b (Worked S (take_trap_of r k true 0)) (Recalled 0 S (idle r))) (eq-eqb r.next 0 z)

pub ruleset hosting = (host_is, host_pages, host_acts, host_traps, pending_small, differences_itself)
