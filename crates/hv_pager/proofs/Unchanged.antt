-- A move that doesn't count, and leaves the kept words of a machine, leaves the machine as it was, but for its lines.
use Rattle.std.proofs.Common.{◌≡◌, ◌≢◌, ℕ, zero, suc, ◌+◌, ◌*◌, ◌<◌, ◌≤◌, inl, inr, Bool, true, false, not, ◌&&◌, List, [], ◌∷◌, ◌++◌, length, set, Option, Some, None, refl, ap, ◌∙◌, sym, subst, arith, slice_get, lit<, lit≤, bit_and}
use Rattle.std.specs.List.{range_with_len}
use Rattle.std.proofs.lemmas.Bool.{and_parts, eqb-true, eq-eqb, le-ltb, false≢true}
use Rattle.std.proofs.lemmas.Bool.Decides.{eqb_tells}
use Rattle.std.proofs.lemmas.Option.{same_Some}
use Rattle.hv_word.specs.Storage.{page_count, word_at}
use Rattle.hv_cpu.specs.Regs.{Regs}
use Rattle.hv_cpu.specs.Lines.{lines, unlined, lined_of}
use Rattle.hv_limits.specs.Limits.{lines_mask}
use Rattle.hv_block.specs.Block.{regs_at}
use Rattle.hv_store.specs.Access.{identity}
use Rattle.hv_map.specs.Item.{Item}
use Rattle.hv_map.specs.Chain.{map_along}
use Rattle.hv_map.specs.Words.{Chained}
use Rattle.hv_store.specs.declared.access.Slot.{Slot}
use Rattle.hv_store.specs.declared.access.Way.TheVariants.{Open}
use Rattle.hv_map.proofs.Words.{each_chain}
use Rattle.hv_nest.specs.declared.outcome.StepKind.{StepKind}
use Rattle.hv_nest.specs.declared.outcome.StepKind.TheVariants.{Worked as WorkedKind, Recall, Fault}
use Rattle.hv_nest.specs.Step.{Stepped, Worked, Recalled, Faulted, Barred, host_step_of}
use Rattle.hv_nest.specs.Move.{Move, StepOf, LinesOf, moved_by, moved_at, moved_of, lined_at, lined_state, state_after}
use Rattle.hv_nest.specs.Routing.{regs_along}
use Rattle.hv_nest.specs.State.{State, hart_regs}
use Rattle.hv_nest.specs.Watched.{is_outside, is_counted, last_block, are_same, same_status, lines_at, lines_of}
use Rattle.hv_whole.specs.Whole.{regs_of, own, IsMasked}
use Rattle.hv_whole.specs.Linked.{Alone}
use Rattle.hv_whole.proofs.Lined.{relined_own, relined_other, lines_relined}
use Rattle.hv_whole.proofs.Members.{Has, has_left, has_right, has_below, same_places}
use Rattle.hv_pager.specs.Paging.{outer, kept_places, keeps_words}
use Rattle.hv_pager.proofs.Kept.{kept_own, kept_chain, kept_size, kept_page, chained_outer}
use Rattle.hv_whole.proofs.Lengths.{move_long}

-- the registers of a machine inside another are in the last block
pub own_last : (S : List ℕ) (items : List Item) (b : ℕ) (r : Regs) → last_block items ≡ Some b → regs_along S items r ≡ regs_at S b
own_last S [] b r e = absurd (let f : None ≡ Some b = e in cc)
own_last S (x ∷ []) b r e = ap (regs_at S) (same_Some x.block b e)
own_last S (x ∷ (y ∷ ys)) b r e = own_last S (y ∷ ys) b (regs_at S x.block) e

-- the lines are those of its registers
hart_lines : (o : Option Regs) → lines_at o ≡ lines (hart_regs o).mip
hart_lines None = refl
hart_lines (Some r) = refl

block_lines : (h : ℕ) (x : Item) (xs : List Item) (st : State) (r : Regs) → lines_of h (x ∷ xs) st ≡ lines (regs_along st.storage (x ∷ xs) r).mip
block_lines h x [] st r = refl
block_lines h x (y ∷ ys) st r = block_lines h y ys st (regs_at st.storage x.block)

pub lines_own : (h : ℕ) (items : List Item) (st : State) → lines_of h items st ≡ lines (own h items st).mip
lines_own h [] st = hart_lines (slice_get st.harts h)
lines_own h (x ∷ xs) st = block_lines h x xs st (regs_of h st)

-- The words of the last block that hold registers, where those of the foot are the same.
module _ (A : List ℕ) (items : List Item) (b : ℕ) (is_last : last_block items ≡ Some b) (S T : List ℕ) (kept : are_same (kept_places A items) S T ≡ true) where
  own_word : (k : ℕ) → k < 1024 → k ≢ 42 → Has k (range_with_len 0 42 ++ (range_with_len 43 6 ++ 64 ∷ [])) → word_at T b k ≡ word_at S b k
  own_word k small ne h = sym (same_places (kept_places A items) S T (1024 * b + k) kept (kept_own A items b k is_last small ne h))

  low_word : (k : ℕ) → k < 42 → word_at T b k ≡ word_at S b k
  low_word k h = own_word k (omega arith) (λ e. omega arith) (has_left k (range_with_len 0 42) (range_with_len 43 6 ++ 64 ∷ []) (has_below 0 42 k (omega arith) h))

  high_word : (k : ℕ) → 43 ≤ k → k < 49 → word_at T b k ≡ word_at S b k
  high_word k low h =
      own_word k (omega arith) (λ e. omega arith)
      (has_right k (range_with_len 0 42) (range_with_len 43 6 ++ 64 ∷ []) (has_left k (range_with_len 43 6) (64 ∷ []) (has_below 43 6 k low h)))

  next_word : word_at T b 64 ≡ word_at S b 64
  next_word =
      own_word 64 (lit< tt) (λ e. omega arith)
      (has_right 64 (range_with_len 0 42) (range_with_len 43 6 ++ 64 ∷ []) (has_right 64 (range_with_len 43 6) (64 ∷ []) (inl refl)))

  -- they are the same but for the lines
  pub regs_kept : unlined (word_at S b 42) ≡ unlined (word_at T b 42) → regs_at T b ≡ lined_of (regs_at S b) (lines (word_at T b 42))
  regs_kept status = λ i. record {
    pc = (low_word 0 (lit< tt)) i;
    x1 = (low_word 1 (lit< tt)) i;
    x2 = (low_word 2 (lit< tt)) i;
    x3 = (low_word 3 (lit< tt)) i;
    x4 = (low_word 4 (lit< tt)) i;
    x5 = (low_word 5 (lit< tt)) i;
    x6 = (low_word 6 (lit< tt)) i;
    x7 = (low_word 7 (lit< tt)) i;
    x8 = (low_word 8 (lit< tt)) i;
    x9 = (low_word 9 (lit< tt)) i;
    x10 = (low_word 10 (lit< tt)) i;
    x11 = (low_word 11 (lit< tt)) i;
    x12 = (low_word 12 (lit< tt)) i;
    x13 = (low_word 13 (lit< tt)) i;
    x14 = (low_word 14 (lit< tt)) i;
    x15 = (low_word 15 (lit< tt)) i;
    x16 = (low_word 16 (lit< tt)) i;
    x17 = (low_word 17 (lit< tt)) i;
    x18 = (low_word 18 (lit< tt)) i;
    x19 = (low_word 19 (lit< tt)) i;
    x20 = (low_word 20 (lit< tt)) i;
    x21 = (low_word 21 (lit< tt)) i;
    x22 = (low_word 22 (lit< tt)) i;
    x23 = (low_word 23 (lit< tt)) i;
    x24 = (low_word 24 (lit< tt)) i;
    x25 = (low_word 25 (lit< tt)) i;
    x26 = (low_word 26 (lit< tt)) i;
    x27 = (low_word 27 (lit< tt)) i;
    x28 = (low_word 28 (lit< tt)) i;
    x29 = (low_word 29 (lit< tt)) i;
    x30 = (low_word 30 (lit< tt)) i;
    x31 = (low_word 31 (lit< tt)) i;
    mode = (low_word 32 (lit< tt)) i;
    mstatus = (low_word 33 (lit< tt)) i;
    mtvec = (low_word 34 (lit< tt)) i;
    mepc = (low_word 35 (lit< tt)) i;
    mcause = (low_word 36 (lit< tt)) i;
    mtval = (low_word 37 (lit< tt)) i;
    mscratch = (low_word 38 (lit< tt)) i;
    medeleg = (low_word 39 (lit< tt)) i;
    mideleg = (low_word 40 (lit< tt)) i;
    mie = (low_word 41 (lit< tt)) i;
    mip = (sym (relined_other (word_at S b 42) (word_at T b 42) status)) i;
    stvec = (high_word 43 (lit≤ tt) (lit< tt)) i;
    sepc = (high_word 44 (lit≤ tt) (lit< tt)) i;
    scause = (high_word 45 (lit≤ tt) (lit< tt)) i;
    stval = (high_word 46 (lit≤ tt) (lit< tt)) i;
    sscratch = (high_word 47 (lit≤ tt) (lit< tt)) i;
    satp = (high_word 48 (lit≤ tt) (lit< tt)) i;
    next = next_word i;
  }

-- registers with their own lines put in
lined_own : (r : Regs) → lined_of r (lines r.mip) ≡ r
lined_own r = ap (λ (w : ℕ). record r { mip = w }) (relined_own r.mip)

kept_same : (h : ℕ) (items : List Item) (st next : State) → own h items next ≡ own h items st → own h items next ≡ lined_of (own h items st) (lines_of h items next)
kept_same h items st next e =
    let lines_are : lines_of h items next ≡ lines (own h items st).mip = lines_own h items next ∙ ap (λ (r : Regs). lines r.mip) e in
    e ∙ sym (ap (lined_of (own h items st)) lines_are ∙ lined_own (own h items st))

lines_same : (h : ℕ) (items : List Item) (st next : State) → own h items next ≡ lined_of (own h items st) (lines_of h items next) → lines_of h items st ≡ lines_of h items next → own h items next ≡ own h items st
lines_same h items st next e same =
    e ∙ ap (lined_of (own h items st)) (sym same ∙ lines_own h items st) ∙ lined_own (own h items st)

-- the registers of the other harts
pub hart_other : (harts : List Regs) (k h : ℕ) (r : Regs) → h ≢ k → slice_get (set harts k r) h ≡ slice_get harts h
hart_other [] k h r ne = refl
hart_other (q ∷ qs) zero zero r ne = absurd (ne refl)
hart_other (q ∷ qs) zero (suc h) r ne = refl
hart_other (q ∷ qs) (suc k) zero r ne = refl
hart_other (q ∷ qs) (suc k) (suc h) r ne = hart_other qs k h r (λ e. ne (ap suc e))

hart_set : (harts : List Regs) (h : ℕ) (q r : Regs) → slice_get harts h ≡ Some q → slice_get (set harts h r) h ≡ Some r
hart_set [] h q r e = absurd (let f : None ≡ Some q = e in cc)
hart_set (p ∷ ps) zero q r e = refl
hart_set (p ∷ ps) (suc h) q r e = hart_set ps h q r e

moved_other : (st : State) (hart h : ℕ) (X : Stepped) → h ≢ hart → slice_get (moved_by st hart X).state.harts h ≡ slice_get st.harts h
moved_other st hart h (Worked T q) ne = hart_other st.harts hart h q ne
moved_other st hart h (Recalled l T q) ne = hart_other st.harts hart h q ne
moved_other st hart h (Faulted l c p a T q) ne = hart_other st.harts hart h q ne
moved_other st hart h (Barred e) ne = refl

step_other : (st : State) (hart h : ℕ) → h ≢ hart → slice_get (moved_of st hart).state.harts h ≡ slice_get st.harts h
step_other st hart h ne = by (slice_get st.harts hart)
  where
    by : (o : Option Regs) → slice_get (moved_at st hart o).state.harts h ≡ slice_get st.harts h
    by None = refl
    by (Some r) = moved_other st hart h (host_step_of st.storage hart r) ne

lines_other : (st : State) (hart mask h : ℕ) → h ≢ hart → slice_get (lined_state st hart mask).harts h ≡ slice_get st.harts h
lines_other st hart mask h ne = by (slice_get st.harts hart)
  where
    by : (o : Option Regs) → slice_get (lined_at st hart mask o).harts h ≡ slice_get st.harts h
    by None = refl
    by (Some r) = hart_other st.harts hart h (lined_of r mask) ne

-- Each step of the hart counts for the bare machine, which nobody is outside of.
never_outside : (kind : StepKind) → is_outside 0 kind ≡ false
never_outside WorkedKind = refl
never_outside (Recall l) = le-ltb l 0 (omega arith)
never_outside (Fault l c address a) = le-ltb l 0 (omega arith)

root_other : (h : ℕ) (st : State) (hart : ℕ) → is_counted h [] st (StepOf hart) ≡ false → h ≢ hart
root_other h st hart free e = false≢true (sym free ∙ ap (λ (b : Bool). b && not (is_outside 0 (moved_of st hart).kind)) (eq-eqb hart h (sym e)) ∙ ap not (never_outside (moved_of st hart).kind))

root_lined : (h : ℕ) (st : State) (mask : ℕ) → bit_and mask lines_mask ≡ mask → own h [] (lined_state st h mask) ≡ lined_of (own h [] st) (lines_of h [] (lined_state st h mask))
root_lined h st mask inside = by (slice_get st.harts h) refl
  where
    by : (o : Option Regs) → slice_get st.harts h ≡ o → own h [] (lined_at st h mask o) ≡ lined_of (own h [] st) (lines_of h [] (lined_at st h mask o))
    by None e = kept_same h [] st st refl
    by (Some r) e =
        let new : slice_get (set st.harts h (lined_of r mask)) h ≡ Some (lined_of r mask) = hart_set st.harts h r (lined_of r mask) e in
        let told : lines_at (slice_get (set st.harts h (lined_of r mask)) h) ≡ mask = ap lines_at new ∙ lines_relined r.mip mask inside in
        ap hart_regs new
        ∙ ap (lined_of r) (sym told)
        ∙ ap (λ (o : Option Regs). lined_of (hart_regs o) (lines_at (slice_get (set st.harts h (lined_of r mask)) h))) (sym e)

root_kept : (h : ℕ) (st : State) (move : Move) → IsMasked move → is_counted h [] st move ≡ false → own h [] (state_after st move) ≡ lined_of (own h [] st) (lines_of h [] (state_after st move))
root_kept h st (StepOf hart) masked free = kept_same h [] st (state_after st (StepOf hart)) (ap hart_regs (step_other st hart h (root_other h st hart free)))
root_kept h st (LinesOf hart mask) masked free = elim (eqb_tells h hart) [
  | inl e ↦
      subst (λ (k : ℕ). own h [] (lined_state st k mask) ≡ lined_of (own h [] st) (lines_of h [] (lined_state st k mask))) e.1 (root_lined h st mask masked)
  | inr e ↦ kept_same h [] st (state_after st (LinesOf hart mask)) (ap hart_regs (lines_other st hart mask h e.1))
]

some_last : (x : Item) (xs : List Item) → (b : ℕ) × (last_block (x ∷ xs) ≡ Some b)
some_last x [] = (x.block, refl)
some_last x (y ∷ ys) = some_last y ys

small_size : (k : ℕ) → Has k (65 ∷ 66 ∷ 67 ∷ []) → k < 1024
small_size k (inl e) = omega (arith, e)
small_size k (inr (inl e)) = omega (arith, e)
small_size k (inr (inr (inl e))) = omega (arith, e)
small_size k (inr (inr (inr none))) = absurd none

other_size : (k : ℕ) → Has k (65 ∷ 66 ∷ 67 ∷ []) → k ≢ 42
other_size k (inl e) f = omega (arith, e, f)
other_size k (inr (inl e)) f = omega (arith, e, f)
other_size k (inr (inr (inl e))) f = omega (arith, e, f)
other_size k (inr (inr (inr none))) f = absurd none

-- what a move leaves that doesn't count and isn't rough
module _ (h : ℕ) (p : List ℕ) (items : List Item) (root : items ≡ [] → p ≡ []) where
  own_kept : (xs : List Item) → items ≡ xs → (st : State) (move : Move) → IsMasked move → is_counted h p st move ≡ false
      → keeps_words st.storage items (state_after st move).storage ≡ true
      → own h items (state_after st move) ≡ lined_of (own h items st) (lines_of h items (state_after st move))
  own_kept [] is st move masked free keep =
      let none : is_counted h [] st move ≡ false = ap (λ (q : List ℕ). is_counted h q st move) (sym (root is)) ∙ free in
      subst (λ (ys : List Item). own h ys (state_after st move) ≡ lined_of (own h ys st) (lines_of h ys (state_after st move))) (sym is) (root_kept h st move masked none)
  own_kept (x ∷ xs) is st move masked free keep =
      let l = some_last x xs in
      let b : ℕ = l.0 in
      let at : last_block items ≡ Some b = ap last_block is ∙ l.1 in
      let next : State = state_after st move in
      let both = and_parts (are_same (kept_places st.storage items) st.storage next.storage) (same_status (last_block items) st.storage next.storage) keep in
      let status : same_status (Some b) st.storage next.storage ≡ true = ap (λ (o : Option ℕ). same_status o st.storage next.storage) (sym at) ∙ both.1 in
      let rest : unlined (word_at st.storage b 42) ≡ unlined (word_at next.storage b 42) = eqb-true (unlined (word_at st.storage b 42)) (unlined (word_at next.storage b 42)) status in
      let old : own h items st ≡ regs_at st.storage b = own_last st.storage items b (regs_of h st) at in
      let new : own h items next ≡ regs_at next.storage b = own_last next.storage items b (regs_of h next) at in
      let bits : lines_of h items next ≡ lines (word_at next.storage b 42) = lines_own h items next ∙ ap (λ (r : Regs). lines r.mip) new in
      new
      ∙ regs_kept st.storage items b at st.storage next.storage both.0 rest
      ∙ ap (lined_of (regs_at st.storage b)) (sym bits)
      ∙ ap (λ (r : Regs). lined_of r (lines_of h items next)) (sym old)

  -- what stays of the machine: its registers but for the lines, its pages, and where it is
  pub record Stays (st next : State) : Type 0 where
    pub len : length next.storage ≡ length st.storage
    pub pages : (y x w : ℕ) (s : Slot)
        → slice_get (map_along st.storage items) y ≡ Some s
        → s.read ≡ Open x
        → w < 1024
        → word_at st.storage x w ≡ word_at next.storage x w
    pub regs : own h items next ≡ lined_of (own h items st) (lines_of h items next)
    pub same : lines_of h items st ≡ lines_of h items next → own h items next ≡ own h items st
    pub chained : Chained next.storage (identity (page_count st.storage)) 0 items

  pub stays : (st : State) (move : Move) → Alone st.storage items (map_along st.storage items) → IsMasked move → is_counted h p st move ≡ false
      → keeps_words st.storage items (state_after st move).storage ≡ true
      → Stays st (state_after st move)
  stays st move stand masked free keep =
      let next : State = state_after st move in
      let A : List ℕ = st.storage in
      let same : are_same (kept_places A items) A next.storage ≡ true = (and_parts (are_same (kept_places A items) A next.storage) (same_status (last_block items) A next.storage) keep).0 in
      let regs : own h items next ≡ lined_of (own h items st) (lines_of h items next) = own_kept items refl st move masked free keep in
      record {
        len = (move_long st move).storage;
        pages = λ y x w s is e small. same_places (kept_places A items) A next.storage (1024 * x + w) same (kept_page A items stand x w small (y, s, is, e));
        regs = regs;
        same = λ e. lines_same h items st next regs e;
        chained =
            chained_outer A next.storage (identity (page_count A)) 0 items
            (each_chain (λ g w. Has (1024 * g + w) (kept_places A items)) (λ g w. word_at A g w ≡ word_at next.storage g w) (λ g w has. same_places (kept_places A items) A next.storage (1024 * g + w) same has)
            A (identity (page_count A)) 0 (outer items) (kept_chain A items (map_along A items) stand))
            (λ b k e has. same_places (kept_places A items) A next.storage (1024 * b + k) same (kept_size A items b k e (small_size k has) (other_size k has) has))
            stand.chained;
      }
