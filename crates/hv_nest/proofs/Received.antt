-- What a refused step leaves, level by level.
use Rattle.std.proofs.Common.{◌≡◌, ℕ, zero, suc, ◌+◌, ◌*◌, ◌<◌, ◌≤◌, ◌⊎◌, inl, inr, Bool, true, false, cond, ◌==◌, List, [], ◌∷◌, length, take, set, get_or, get_or-set_same, get_or-set_other, length-set, Some, refl, ap, ◌∙◌, sym, subst, arith, slice_get}
use Rattle.std.proofs.Math.Seq.{sets, length-sets}
use Rattle.std.proofs.Math.Dec.{lit<, lit≤}
use Rattle.std.proofs.lemmas.Bool.{cases_eq}
use Rattle.std.proofs.lemmas.List.{get_or_past}
use Rattle.std.proofs.lemmas.Option.{same_Some, slice_get_within}
use Rattle.hv_word.specs.Storage.{page_count, word_at, with_word}
use Rattle.hv_cpu.specs.Regs.{Regs, spelled}
use Rattle.hv_csr.specs.Traps.{take_trap_of}
use Rattle.hv_store.specs.declared.access.Access.{Access}
use Rattle.hv_store.specs.declared.access.Access.TheVariants.{Write}
use Rattle.hv_store.specs.declared.access.Refusal.{Refusal}
use Rattle.hv_store.specs.declared.access.Slot.{Slot}
use Rattle.hv_store.specs.declared.access.Way.TheVariants.{Open}
use Rattle.hv_store.specs.Access.{way_for, identity, open_at}
use Rattle.hv_store.proofs.Identity.{length-identity, slice_get-identity}
use Rattle.hv_exec.specs.Act.{Acted, Done, Refused}
use Rattle.hv_block.specs.Block.{put_regs, regs_at, with_fault, access_word}
use Rattle.hv_block.proofs.Same.{put_same}
use Rattle.hv_block.proofs.Words.{length-put_regs, put_other}
use Rattle.hv_map.specs.Item.{Item}
use Rattle.hv_map.specs.Compose.{compose}
use Rattle.hv_map.specs.Chain.{along}
use Rattle.hv_map.proofs.Handed.{composed_opens}
use Rattle.hv_map.proofs.Views.{identity_same}
use Rattle.hv_nest.specs.Step.{Stepped, Worked, Recalled, Faulted, Barred, idle, interrupt_of, act_step, tell_of, put_back}
use Rattle.hv_nest.specs.Routing.{regs_along}
use Rattle.hv_nest.specs.Received.{ChangesOnly, IsNextOf, IsFaultWord, GetsBack, HasBlock, Tells}

-- where two storages have the same word, they have it after the same writes
set_agrees : (S T : List ℕ) (k v i : ℕ) → length S ≡ length T → get_or S i 0 ≡ get_or T i 0 → get_or (set S k v) i 0 ≡ get_or (set T k v) i 0
set_agrees S T k v i size same = elim (cases_eq i k) [
  | inl here ↦ at_place here
  | inr other ↦ get_or-set_other S k i v 0 other ∙ same ∙ sym (get_or-set_other T k i v 0 other)
]
  where
    by_size : i ≡ k → (k < length S) ⊎ (length S ≤ k) → get_or (set S k v) i 0 ≡ get_or (set T k v) i 0
    by_size here (inl inside) =
        ap (λ (x : ℕ). get_or (set S k v) x 0) here
        ∙ get_or-set_same S k v 0 inside
        ∙ sym (get_or-set_same T k v 0 (omega arith))
        ∙ sym (ap (λ (x : ℕ). get_or (set T k v) x 0) here)
    by_size here (inr past) =
        get_or_past (set S k v) i 0 (omega (arith, length-set S k v)) ∙ sym (get_or_past (set T k v) i 0 (omega (arith, length-set T k v)))

    at_place : i ≡ k → get_or (set S k v) i 0 ≡ get_or (set T k v) i 0
    at_place here = by_size here (Rattle.std.proofs.lemmas.Bool.cases_lt k (length S))

sets_agree : (vs S T : List ℕ) (k i : ℕ) → length S ≡ length T → get_or S i 0 ≡ get_or T i 0 → get_or (sets S k vs) i 0 ≡ get_or (sets T k vs) i 0
sets_agree [] S T k i size same = same
sets_agree (v ∷ vs) S T k i size same =
    sets_agree vs (set S k v) (set T k v) (suc k) i (length-set S k v ∙ size ∙ sym (length-set T k v)) (set_agrees S T k v i size same)

put_agrees : (S T : List ℕ) (b : ℕ) (c : Regs) (g w : ℕ) → length S ≡ length T → word_at S g w ≡ word_at T g w → word_at (put_regs S b c) g w ≡ word_at (put_regs T b c) g w
put_agrees S T b c g w size same =
    set_agrees (sets S (1024 * b) (take 49 (spelled c))) (sets T (1024 * b) (take 49 (spelled c))) (1024 * b + 64) c.next (1024 * g + w)
    (length-sets S (1024 * b) (take 49 (spelled c)) ∙ size ∙ sym (length-sets T (1024 * b) (take 49 (spelled c))))
    (sets_agree (take 49 (spelled c)) S T (1024 * b) (1024 * g + w) size same)

-- the registers that a block had, put back into it
put_restores : (P : ℕ → ℕ → Type 0) (S T : List ℕ) (b : ℕ) → ChangesOnly P S T → ChangesOnly P S (put_regs T b (regs_at S b))
put_restores P S T b only = record {
  size = length-put_regs T b (regs_at S b) ∙ only.size;
  others = λ g w h not.
      put_agrees T S b (regs_at S b) g w only.size (only.others g w h not)
      ∙ ap (λ (X : List ℕ). word_at X g w) (put_same S b (regs_at S b) refl);
}

-- the same but for next
idle_word : (T : List ℕ) (b : ℕ) (c : Regs) (g w : ℕ) → w < 1024 → ((g ≡ b) × (w ≡ 64) → ⊥) → word_at (put_regs T b (idle c)) g w ≡ word_at (put_regs T b c) g w
idle_word T b c g w h other =
    get_or-set_other (sets T (1024 * b) (take 49 (spelled c))) (1024 * b + 64) (1024 * g + w) 0 0 apart
    ∙ sym (get_or-set_other (sets T (1024 * b) (take 49 (spelled c))) (1024 * b + 64) (1024 * g + w) c.next 0 apart)
  where
    apart : 1024 * g + w ≡ 1024 * b + 64 → ⊥
    apart e = other (omega arith, omega arith)

put_idles : (P : ℕ → ℕ → Type 0) (S T : List ℕ) (b : ℕ) → ChangesOnly P S T → ChangesOnly (λ g w. ((g ≡ b) × (w ≡ 64)) ⊎ P g w) S (put_regs T b (idle (regs_at S b)))
put_idles P S T b only =
    let back = put_restores P S T b only in
    record {
      size = length-put_regs T b (idle (regs_at S b)) ∙ only.size;
      others = λ g w h not. idle_word T b (regs_at S b) g w h (λ e. not (inl e)) ∙ back.others g w h (λ p. not (inr p));
    }

more_change : (P Q : ℕ → ℕ → Type 0) (S T : List ℕ) → ((g w : ℕ) → P g w → Q g w) → ChangesOnly P S T → ChangesOnly Q S T
more_change P Q S T step only = record { size = only.size; others = λ g w h not. only.others g w h (λ p. not (step g w p)) }

-- a fault that is told changes the words that tell of it
fault_changes : (S : List ℕ) (b cause address access : ℕ) → ChangesOnly (IsFaultWord b) S (with_fault S b cause address access)
fault_changes S b cause address access = record {
  size =
      length-set (with_word (with_word S b 72 cause) b 73 address) (1024 * b + 74) access
      ∙ length-set (with_word S b 72 cause) (1024 * b + 73) address
      ∙ length-set S (1024 * b + 72) cause;
  others = λ g w h not.
      get_or-set_other (with_word (with_word S b 72 cause) b 73 address) (1024 * b + 74) (1024 * g + w) access 0 (λ e. not (at g w h 74 (lit≤ tt) (lit≤ tt) e))
      ∙ get_or-set_other (with_word S b 72 cause) (1024 * b + 73) (1024 * g + w) address 0 (λ e. not (at g w h 73 (lit≤ tt) (lit≤ tt) e))
      ∙ get_or-set_other S (1024 * b + 72) (1024 * g + w) cause 0 (λ e. not (at g w h 72 (lit≤ tt) (lit≤ tt) e));
}
  where
    at : (g w : ℕ) → w < 1024 → (k : ℕ) → 72 ≤ k → k ≤ 74 → 1024 * g + w ≡ 1024 * b + k → IsFaultWord b g w
    at g w h k low high e = (omega arith, omega arith, omega arith)

fault_tells : (S : List ℕ) (b cause address : ℕ) (a : Access) → b < page_count S → Tells (with_fault S b cause address (access_word a)) b cause address a
fault_tells S b cause address a inside = record {
  cause_word =
      get_or-set_other (with_word (with_word S b 72 cause) b 73 address) (1024 * b + 74) (1024 * b + 72) (access_word a) 0 (λ e. omega arith)
      ∙ get_or-set_other (with_word S b 72 cause) (1024 * b + 73) (1024 * b + 72) address 0 (λ e. omega arith)
      ∙ get_or-set_same S (1024 * b + 72) cause 0 (omega arith);
  address_word =
      get_or-set_other (with_word (with_word S b 72 cause) b 73 address) (1024 * b + 74) (1024 * b + 73) (access_word a) 0 (λ e. omega arith)
      ∙ get_or-set_same (with_word S b 72 cause) (1024 * b + 73) address 0 (omega (arith, length-set S (1024 * b + 72) cause));
  kind_word =
      get_or-set_same (with_word (with_word S b 72 cause) b 73 address) (1024 * b + 74) (access_word a) 0
      (omega (arith, length-set (with_word S b 72 cause) (1024 * b + 73) address, length-set S (1024 * b + 72) cause));
}

-- registers that are put into a block leave these words
put_tells : (T : List ℕ) (g : ℕ) (q : Regs) (b cause address : ℕ) (a : Access) → Tells T b cause address a → Tells (put_regs T g q) b cause address a
put_tells T g q b cause address a tells = record {
  cause_word = put_other T g q b 72 (lit< tt) (inr (omega arith, λ e. omega arith)) ∙ tells.cause_word;
  address_word = put_other T g q b 73 (lit< tt) (inr (omega arith, λ e. omega arith)) ∙ tells.address_word;
  kind_word = put_other T g q b 74 (lit< tt) (inr (omega arith, λ e. omega arith)) ∙ tells.kind_word;
}

-- a map opens bare pages of the storage alone
pub OpensInside : ℕ → List Slot → Type 0
OpensInside P F = (y : ℕ) (s : Slot) (a : Access) (x : ℕ) → slice_get F y ≡ Some s → way_for s a ≡ Open x → x < P

pub composed_inside : (P : ℕ) (S : List ℕ) (F : List Slot) (j n t v : ℕ) → OpensInside P F → OpensInside P (compose S F j n t v)
unfolding OpensInside
composed_inside P S F j n t v inside y s a x is e =
    let o = composed_opens F j S n t v y s a x is e in
    inside o.0 o.1 a x o.2 o.3

pub writes_inside : (P : ℕ) (F : List Slot) (s b : ℕ) → OpensInside P F → HasBlock F s b → b < P
unfolding OpensInside
writes_inside P F s b inside has = inside s has.slot Write b has.there has.writes

-- A step of a machine at level j with the map F, where the items are the machines on the running path from there: a receiver is
-- i levels further in.
pub record Recall (S : List ℕ) (j : ℕ) (items : List Item) (r : Regs) (l : ℕ) (T : List ℕ) (q : Regs) : Type 0 where
  pub deep : ℕ
  pub level : l ≡ j + deep
  pub back : GetsBack S items r deep (λ g w. ⊥) T q

pub record Fault (S : List ℕ) (F : List Slot) (j : ℕ) (items : List Item) (r : Regs) (l cause address : ℕ) (a : Access) (T : List ℕ) (q : Regs) : Type 0 where
  pub deep : ℕ
  pub level : l ≡ j + deep
  pub block : ℕ
  pub back : GetsBack S items r deep (IsFaultWord block) T q
  pub has : HasBlock (along S F j (take deep items)) (regs_along S (take deep items) r).next block
  pub tells : Tells T block cause address a

abbrev pub Received : List ℕ → List Slot → ℕ → List Item → Regs → Stepped → Type 0
Received S F j items r (Worked T q) = Unit {0}
Received S F j items r (Recalled l T q) = Recall S j items r l T q
Received S F j items r (Faulted l cause address a T q) = Fault S F j items r l cause address a T q
Received S F j items r (Barred e) = Unit {0}

pub worked_received : (S : List ℕ) (F : List Slot) (j : ℕ) (items : List Item) (r : Regs) (A : Acted) → Received S F j items r (act_step A)
worked_received S F j items r (Done T q) = tt
worked_received S F j items r (Refused e) = tt

pub interrupted_received : (S : List ℕ) (F : List Slot) (j : ℕ) (items : List Item) (r : Regs) (k : ℕ) → Received S F j items r (interrupt_of S j r k)
interrupted_received S F j items r k = go (r.next == 0)
  where
    go : (b : Bool) → Received S F j items r (cond b (Worked S (take_trap_of r k true 0)) (Recalled j S (idle r)))
    go true = tt
    go false = record {
      deep = 0;
      level = omega arith;
      back = record {
        there = omega arith;
        changes = record { size = refl; others = λ g w h not. refl };
        hart = refl;
      };
    }

pub told_received : (S : List ℕ) (F : List Slot) (j : ℕ) (items : List Item) (r : Regs) (g : ℕ) (e : Refusal) → g < page_count S → HasBlock F r.next g → Received S F j items r (tell_of S j r g e)
unfolding along
told_received S F j items r g e inside has = go (e.level == j)
  where
    go : (b : Bool) → Received S F j items r (cond b (Faulted j e.cause e.address e.access (with_fault S g e.cause e.address (access_word e.access)) (idle r)) (Barred e))
    go true = record {
      deep = 0;
      level = omega arith;
      block = g;
      back = record {
        there = omega arith;
        changes = more_change (IsFaultWord g) (λ x w. ⊥ ⊎ IsFaultWord g x w) S (with_fault S g e.cause e.address (access_word e.access)) (λ x w p. inr p) (fault_changes S g e.cause e.address (access_word e.access));
        hart = refl;
      };
      has = has;
      tells = fault_tells S g e.cause e.address e.access inside;
    }
    go false = tt

-- one level further out
back_out : (S : List ℕ) (x : Item) (items : List Item) (r : Regs) (deep : ℕ) (P : ℕ → ℕ → Type 0) (T : List ℕ) (q : Regs)
    → GetsBack S items (regs_at S x.block) deep P T q
    → GetsBack S (x ∷ items) r (suc deep) P (put_regs T x.block q) r
back_out S x items r zero P T q back = record {
  there = omega arith;
  changes = subst (λ (c : Regs). ChangesOnly (λ g w. ((g ≡ x.block) × (w ≡ 64)) ⊎ P g w) S (put_regs T x.block c)) (sym back.hart)
      (put_idles P S T x.block (more_change (λ g w. ⊥ ⊎ P g w) P S T (λ g w p. past g w p) back.changes));
  hart = refl;
}
  where
    past : (g w : ℕ) → ⊥ ⊎ P g w → P g w
    past g w (inl never) = absurd never
    past g w (inr p) = p
back_out S x items r (suc deep) P T q back = record {
  there = omega (arith, back.there);
  changes = subst (λ (c : Regs). ChangesOnly (λ g w. IsNextOf items (suc deep) g w ⊎ P g w) S (put_regs T x.block c)) (sym back.hart)
      (put_restores (λ g w. IsNextOf items (suc deep) g w ⊎ P g w) S T x.block back.changes);
  hart = refl;
}

pub put_received : (S : List ℕ) (F : List Slot) (j : ℕ) (x : Item) (items : List Item) (r : Regs) (X : Stepped) → x.block < page_count S → HasBlock F r.next x.block
    → Received S (compose S F j x.pages x.table x.version) (j + 1) items (regs_at S x.block) X
    → Received S F j (x ∷ items) r (put_back S j r x.block X)
unfolding along
put_received S F j x items r (Worked T q) inside has h = tt
put_received S F j x items r (Recalled l T q) inside has h = record {
  deep = suc h.deep;
  level = (let e : l ≡ j + 1 + h.deep = h.level in omega arith);
  back = back_out S x items r h.deep (λ g w. ⊥) T q h.back;
}
put_received S F j x items r (Faulted l cause address a T q) inside has h = record {
  deep = suc h.deep;
  level = (let e : l ≡ j + 1 + h.deep = h.level in omega arith);
  block = h.block;
  back = back_out S x items r h.deep (IsFaultWord h.block) T q h.back;
  has = h.has;
  tells = put_tells T x.block q h.block cause address a h.tells;
}
put_received S F j x items r (Barred e) inside has h = told_received S F j (x ∷ items) r x.block e inside has

pub identity_inside : (P : ℕ) → OpensInside P (identity P)
unfolding OpensInside
identity_inside P y s a x is e =
    let within : y < length (identity P) = slice_get_within (identity P) y s is in
    let inside : y < P = omega (arith, length-identity P) in
    let here : s ≡ open_at y = same_Some s (open_at y) (sym is ∙ slice_get-identity P y inside) in
    let same : Open y ≡ Open x = sym (ap (λ (r : Slot). r.read) here) ∙ identity_same P y s a x is e in
    let page : y ≡ x = cc in
    omega arith
