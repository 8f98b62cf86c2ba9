-- The step of a hart that runs machines goes down to the innermost, and what it leaves comes up again.
use Rattle.std.proofs.Common.{◌≡◌, ◌≢◌, ℕ, zero, suc, ◌+◌, ◌<◌, ◌≤◌, inl, Bool, cond, List, [], ◌∷◌, length, Some, None, ap, ◌∙◌, sym, arith, slice_get}
use Rattle.std.specs.Option.{option_map}
use Rattle.std.proofs.lemmas.Bool.{ne_eqb}
use Rattle.std.proofs.lemmas.Option.{same_Some, slice_get-map}
use Rattle.hv_limits.specs.Limits.{depth_limit}
use Rattle.hv_word.specs.Storage.{page_count, word_at}
use Rattle.hv_cpu.specs.Regs.{Regs}
use Rattle.hv_csr.specs.Interrupts.{pending_of}
use Rattle.hv_store.specs.declared.access.Slot.{Slot}
use Rattle.hv_store.specs.Access.{identity}
use Rattle.hv_exec.specs.Act.{Done, act_of}
use Rattle.hv_block.specs.Block.{put_regs, regs_at}
use Rattle.hv_block.proofs.Blocks.{regs_alike}
use Rattle.hv_block.proofs.Same.{put_same}
use Rattle.hv_block.proofs.Words.{put_other}
use Rattle.hv_map.specs.Chain.{along, map_along}
use Rattle.hv_map.specs.Compose.{compose}
use Rattle.hv_map.specs.Held.{IsPlaced, Nexts, Placed}
use Rattle.hv_map.specs.Item.{Item}
use Rattle.hv_map.specs.Links.{last_block}
use Rattle.hv_map.specs.Gathered.{Listed, Gathered, bare_gathered_map, gathered_map, slots_of}
use Rattle.hv_map.proofs.GatheredMaps.{slots-bare, slots-gathered_map}
use Rattle.hv_nest.specs.Step.{Worked, act_step, child_step_at, child_step, child_step_through, host_step_of, put_back, step_of, step_on}
use Rattle.hv_nest.proofs.Rows.{row_acts}
use Rattle.hv_fast.specs.Laws.{RideLaw}
use Rattle.hv_fast.specs.Marked.{BlocksIn, Marked, SameMarked, listed}
use Rattle.hv_fast.specs.Rides.{Quiet}
use Rattle.hv_fast.proofs.Saying.{page_same, said}

-- the last machine runs no other
pub last_idle : (S : List ℕ) (r : Regs) (items : List Item) (g : ℕ) → Nexts S r items → last_block items ≡ Some g → word_at S g 64 ≡ 0
last_idle S r [] g nexts last = absurd (let f : None ≡ Some g = last in cc)
last_idle S r (x ∷ []) g nexts last = ap (λ (k : ℕ). word_at S k 64) (sym (same_Some x.block g last)) ∙ nexts.1
last_idle S r (x ∷ (y ∷ ys)) g nexts last = last_idle S (regs_at S x.block) (y ∷ ys) g nexts.1 last

-- a page that runs a machine isn't the page of the last block
pub runs_elsewhere : (S : List ℕ) (k g s : ℕ) → word_at S k 64 ≡ s → 0 < s → word_at S g 64 ≡ 0 → k ≢ g
runs_elsewhere S k g s names some idle e =
    let next : word_at S k 64 ≡ word_at S g 64 = ap (λ (h : ℕ). word_at S h 64) e in
    omega (arith, next, names, some, idle)

-- a machine with no interrupt to take gives the step to the child that it runs
goes_in : (n : ℕ) (S : List ℕ) (N : List Gathered) (F : List Slot) (p : Listed) (j h : ℕ) (r : Regs) (x : Item)
    → slots_of N ≡ F
    → IsPlaced S N p x
    → r.next ≡ x.syllable
    → 0 < x.syllable
    → pending_of r ≡ None
    → step_of (suc n) S F j h r ≡ put_back S j r x.block (step_of n S (compose S F j x.pages x.table x.version) (j + 1) 0 (regs_at S x.block))
unfolding step_of
goes_in n S N F p j h r x is placed names some quiet =
    let runs : r.next ≢ 0 = omega (arith, names, some) in
    let slot : slice_get F r.next ≡ Some placed.gathered.slot =
    ap (slice_get F) names
    ∙ ap (λ (G : List Slot). slice_get G x.syllable) (sym is)
    ∙ slice_get-map (λ (n : Gathered). n.slot) N x.syllable
    ∙ ap (option_map (λ (n : Gathered). n.slot)) placed.found
    in
    ap (step_on (Some (step_of n)) S F j h r) quiet
    ∙ ap (λ (b : Bool). cond b (act_step (act_of S F h r)) (child_step_at (step_of n) S F j r (slice_get F r.next))) (ne_eqb r.next 0 runs)
    ∙ ap (child_step_at (step_of n) S F j r) slot
    ∙ ap (child_step_through (step_of n) S F j r) placed.opens
    ∙ ap (child_step (step_of n) S F j r x.block) (said S x placed.says)

-- the registers in each of the items' blocks, but the last, are the same in two storages
Returns : List ℕ → List ℕ → List Item → Type 0
Returns S U [] = Unit {0}
Returns S U (x ∷ []) = Unit {0}
Returns S U (x ∷ (y ∷ ys)) = (regs_at U x.block ≡ regs_at S x.block) × Returns S U (y ∷ ys)

-- from a machine with the map F on, at level j
descends : (n : ℕ) (S T : List ℕ) (q : Regs) (g : ℕ) (N : List Gathered) (F : List Slot) (p : Listed) (j h : ℕ) (r : Regs) (x : Item) (xs : List Item)
    → slots_of N ≡ F
    → length (x ∷ xs) ≤ n
    → Placed S N p j (x ∷ xs)
    → Nexts S r (x ∷ xs)
    → Quiet S r (x ∷ xs)
    → last_block (x ∷ xs) ≡ Some g
    → pending_of (regs_at S g) ≡ None
    → act_of S (along S F j (x ∷ xs)) 0 (regs_at S g) ≡ Done T q
    → Returns S (put_regs T g q) (x ∷ xs)
    → step_of n S F j h r ≡ Worked (put_regs T g q) r
unfolding along Returns
descends zero S T q g N F p j h r x xs is short placed nexts quiet last idle acts returns = absurd (omega arith)
descends (suc n) S T q g N F p j h r x [] is short placed nexts quiet last idle acts returns =
    let G : List Slot = compose S F j x.pages x.table x.version in
    let here : x.block ≡ g = same_Some x.block g last in
    goes_in n S N F p j h r x is placed.0 nexts.0.0 nexts.0.1 quiet.0
    ∙ ap (put_back S j r x.block) (
    row_acts n S G (j + 1) 0 (regs_at S x.block) (sym (ap (λ (k : ℕ). pending_of (regs_at S k)) here ∙ idle)) nexts.1
    ∙ ap act_step (ap (λ (k : ℕ). act_of S G 0 (regs_at S k)) here ∙ acts)
    )
    ∙ ap (λ (k : ℕ). Worked (put_regs T k q) r) here
descends (suc n) S T q g N F p j h r x (y ∷ ys) is short placed nexts quiet last idle acts returns =
    let G : List Slot = compose S F j x.pages x.table x.version in
    let deeper : slots_of (gathered_map S N j x.pages x.table x.version) ≡ G =
    slots-gathered_map S N j x.pages x.table x.version ∙ ap (λ (H : List Slot). compose S H j x.pages x.table x.version) is
    in
    goes_in n S N F p j h r x is placed.0 nexts.0.0 nexts.0.1 quiet.0
    ∙ ap (put_back S j r x.block)
    (descends n S T q g (gathered_map S N j x.pages x.table x.version) G p (j + 1) 0 (regs_at S x.block) y ys deeper (omega arith) placed.1 nexts.1 quiet.1 last idle acts returns.1)
    ∙ ap (λ (V : List ℕ). Worked V r) (put_same (put_regs T g q) x.block (regs_at S x.block) returns.0)

-- the outer blocks are as they were
comes_up : (S T : List ℕ) (m : Marked) (g : ℕ) (q r : Regs) (items : List Item)
    → SameMarked S T m
    → BlocksIn m.blocks items
    → Nexts S r items
    → last_block items ≡ Some g
    → Returns S (put_regs T g q) items
unfolding Returns
comes_up S T m g q r [] same blocks nexts last = tt
comes_up S T m g q r (x ∷ []) same blocks nexts last = tt
comes_up S T m g q r (x ∷ (y ∷ ys)) same blocks nexts last =
    let idle : word_at S g 64 ≡ 0 = last_idle S (regs_at S x.block) (y ∷ ys) g nexts.1 last in
    let ne : x.block ≢ g = runs_elsewhere S x.block g y.syllable nexts.1.0.0 nexts.1.0.1 idle in (
      sym (
          regs_alike S (put_regs T g q) x.block x.block
          (λ w k. page_same S T x.block m.blocks blocks.0 same.blocks w k ∙ sym (put_other T g q x.block w k (inl ne)))
          ),
      comes_up S T m g q (regs_at S x.block) (y ∷ ys) same blocks.1 nexts.1 last,
    )

pub ride : RideLaw
unfolding host_step_of map_along
ride S T U hart r q [] m g pin blocks quiet last idle acts ridden = absurd (let f : None ≡ Some g = last in cc)
ride S T U hart r q (x ∷ xs) m g pin blocks quiet last idle acts ridden =
    descends depth_limit S T q g (bare_gathered_map (page_count S)) (identity (page_count S)) (listed m.tables) 0 hart r x xs
    (slots-bare (page_count S)) pin.short pin.placed pin.nexts quiet last idle acts
    (comes_up S T m g q r (x ∷ xs) ridden.same blocks pin.nexts last)
    ∙ ap (λ (V : List ℕ). Worked V r) (sym ridden.put)
