-- The engine's steps are those of the bare machine, and what it keeps beside the state stays right.
use Rattle.std.proofs.Common.{◌≡◌, ◌≢◌, ℕ, zero, suc, ◌/◌, ◌<◌, ◌≤◌, inl, inr, length-set, List, [], ◌∷◌, length, set, Option, Some, None, IfSome, refl, ap, ◌∙◌, sym, subst, arith, slice_get}
use Rattle.std.specs.Prelude.{All}
use Rattle.std.proofs.lemmas.Bool.Decides.{eqb_tells}
use Rattle.std.proofs.lemmas.Option.{get_or_from_slice_get, same_Some, slice_get_within}
use Rattle.hv_word.specs.Storage.{page_count}
use Rattle.hv_cpu.specs.Lines.{lined_of}
use Rattle.hv_cpu.specs.Regs.{Regs}
use Rattle.hv_map.specs.Held.{Nexts}
use Rattle.hv_map.specs.Item.{Item}
use Rattle.hv_nest.specs.Frame.{IsFramedBy}
use Rattle.hv_nest.specs.Kinds.{NextBelow}
use Rattle.hv_nest.specs.Move.{Moved, lined_at, lined_state, moved_at, moved_by, moved_of, running_at, running_of}
use Rattle.hv_nest.specs.State.{State}
use Rattle.hv_nest.specs.Step.{Stepped, Worked, Recalled, Faulted, Barred, host_step_of}
use Rattle.hv_nest.specs.declared.outcome.StepKind.{StepKind}
use Rattle.hv_nest.specs.declared.outcome.StepKind.TheVariants.{Worked as WorkedKind}
use Rattle.hv_nest.proofs.AtHart.{moved_at_hart, next_kept}
use Rattle.hv_nest.proofs.Frames.{host_framed}
use Rattle.hv_fast.specs.Beside.{IsReady}
use Rattle.hv_fast.specs.declared.beside.Beside.{Beside}
use Rattle.hv_fast.specs.declared.pin.Pin.{Pin}
use Rattle.hv_fast.specs.Engine.{IsFast}
use Rattle.hv_fast.specs.Marked.{Marked}

-- the harts' registers, one by one
pub set_there : (rs : List Regs) (h : ℕ) (r : Regs) → slice_get rs h ≡ Some r → set rs h r ≡ rs
set_there [] h r e = refl
set_there (q ∷ rs) zero r e = ap (λ (k : Regs). k ∷ rs) (sym (same_Some q r e))
set_there (q ∷ rs) (suc h) r e = ap (λ (ks : List Regs). q ∷ ks) (set_there rs h r e)

set_same : (rs : List Regs) (h : ℕ) (q s : Regs) → slice_get (set rs h q) h ≡ Some s → q ≡ s
set_same [] h q s e = absurd (let f : None ≡ Some s = e in cc)
set_same (r ∷ rs) zero q s e = same_Some q s e
set_same (r ∷ rs) (suc h) q s e = set_same rs h q s e

set_other : (rs : List Regs) (h k : ℕ) (q : Regs) → (k ≡ h → ⊥) → slice_get (set rs h q) k ≡ slice_get rs k
set_other [] h k q ne = refl
set_other (r ∷ rs) zero zero q ne = absurd (ne refl)
set_other (r ∷ rs) zero (suc k) q ne = refl
set_other (r ∷ rs) (suc h) zero q ne = refl
set_other (r ∷ rs) (suc h) (suc k) q ne = set_other rs h k q (λ e. ne (ap suc e))

pub record Standing (rs : List Regs) (h : ℕ) : Type 0 where
  pub regs : Regs
  pub there : slice_get rs h ≡ Some regs

pub stands : (rs : List Regs) (h : ℕ) → h < length rs → Standing rs h
stands [] h lt = absurd (omega (arith, lt))
stands (r ∷ rs) zero lt = record { regs = r; there = refl }
stands (r ∷ rs) (suc h) lt = let s = stands rs h (omega (arith, lt)) in record { regs = s.regs; there = s.there }

-- a step leaves the registers of the other harts
pub record Replaced (rs ps : List Regs) (h : ℕ) : Type 0 where
  pub regs : Regs
  pub is : ps ≡ set rs h regs

pub moved_harts : (S T : List ℕ) (rs ps : List Regs) (h : ℕ) (r : Regs) (kind : StepKind)
    → slice_get rs h ≡ Some r
    → record { kind = kind; state = record { storage = T; harts = ps } } ≡ moved_of (record { storage = S; harts = rs }) h
    → Replaced rs ps h
moved_harts S T rs ps h r kind there moves = go (host_step_of S h r) (moves ∙ ap (moved_at st h) there)
  where
    st : State
    st = record { storage = S; harts = rs }

    harts_of : (m : Moved) → List Regs
    harts_of m = m.state.harts

    go : (X : Stepped) → record { kind = kind; state = record { storage = T; harts = ps } } ≡ moved_by st h X → Replaced rs ps h
    go (Worked U q) e = record { regs = q; is = ap harts_of e }
    go (Recalled l U q) e = record { regs = q; is = ap harts_of e }
    go (Faulted l c a x U q) e = record { regs = q; is = ap harts_of e }
    go (Barred f) e = record { regs = r; is = ap harts_of e ∙ sym (set_there rs h r there) }

-- a ride is a step
pub ridden_moves : (S T : List ℕ) (rs : List Regs) (h : ℕ) (r : Regs) (st : State)
    → slice_get rs h ≡ Some r
    → record { storage = S; harts = rs } ≡ st
    → host_step_of S h r ≡ Worked T r
    → record { kind = WorkedKind; state = record { storage = T; harts = rs } } ≡ moved_of st h
ridden_moves S T rs h r st there is step =
    moved_at_hart S T rs rs h r r WorkedKind there (sym (set_there rs h r there)) (sym step)
    ∙ ap (λ (s : State). moved_of s h) is

pub ridden_frames : (S T : List ℕ) (rs : List Regs) (h : ℕ) (r : Regs) (st : State)
    → slice_get rs h ≡ Some r
    → record { storage = S; harts = rs } ≡ st
    → host_step_of S h r ≡ Worked T r
    → IsFramedBy st.storage (running_of st h) T
ridden_frames S T rs h r st there is step =
    subst (λ (s : State). IsFramedBy s.storage (running_of s h) T) is
    (subst (λ (o : Option Regs). IsFramedBy S (running_at S o) T) (sym there) (host_framed S T h r r WorkedKind (sym step)))

-- each next is inside as long as the storage has as many words
pub same_pages : (S T : List ℕ) (rs : List Regs) → length T ≡ length S → All (NextBelow (page_count S)) rs → All (NextBelow (page_count T)) rs
same_pages S T rs len next = subst (λ (n : ℕ). All (NextBelow (n / 1024)) rs) (sym len) next

-- after a change of a hart's lines
nexts_like : (S : List ℕ) (r q : Regs) (items : List Item) → q.next ≡ r.next → Nexts S r items → Nexts S q items
nexts_like S r q [] e nexts = e ∙ nexts
nexts_like S r q (x ∷ xs) e nexts = ((e ∙ nexts.0.0, nexts.0.1), nexts.1)

ready_like : (S : List ℕ) (r q : Regs) (m : Marked) (p : Pin) → q.next ≡ r.next → IsReady S r m p → IsReady S q m p
ready_like S r q m p e ready = record {
  pin = record { short = ready.pin.short; placed = ready.pin.placed; nexts = nexts_like S r q p.chain e ready.pin.nexts };
  path = ready.path;
  ends = ready.ends;
  blocks = ready.blocks;
  quiet = ready.quiet;
  memo = ready.memo;
}

pub lined_fast : (S : List ℕ) (rs ps : List Regs) (b : Beside) (h mask : ℕ) (r : Regs)
    → slice_get rs h ≡ Some r
    → ps ≡ set rs h (lined_of r mask)
    → IsFast S rs b
    → IsFast S ps b
lined_fast S rs ps b h mask r there is fast = subst (λ (ks : List Regs). IsFast S ks b) (sym is) record {
  next = next_kept (page_count S) h rs (set rs h (lined_of r mask)) (lined_of r mask) refl mine fast.next;
  right = record {
    count = fast.right.count ∙ sym (length-set rs h (lined_of r mask));
    pins = λ k s p at found lives. elim (eqb_tells k h) [
      | inl agree ↦
          let q : lined_of r mask ≡ s = set_same rs h (lined_of r mask) s (subst (λ (i : ℕ). slice_get (set rs h (lined_of r mask)) i ≡ Some s) agree.1 at) in
          let mark : slice_get b.pins.items h ≡ Some p = subst (λ (i : ℕ). slice_get b.pins.items i ≡ Some p) agree.1 found in
          subst (λ (o : Regs). IsReady S o b.marks p) q (ready_like S r (lined_of r mask) b.marks p refl (fast.right.pins h r p there mark lives))
      | inr differ ↦
          fast.right.pins k s p (sym (set_other rs h k (lined_of r mask) differ.1) ∙ at) found lives
    ];
    rider = fast.right.rider;
    held = fast.right.held;
  };
}
  where
    mine : NextBelow (page_count S) (lined_of r mask)
    mine = subst (NextBelow (page_count S)) (get_or_from_slice_get rs h r r there) (fast.next h r (slice_get_within rs h r there))

pub lined_moves : (S : List ℕ) (rs ps : List Regs) (h mask : ℕ) (r : Regs) (st : State)
    → slice_get rs h ≡ Some r
    → ps ≡ set rs h (lined_of r mask)
    → record { storage = S; harts = rs } ≡ st
    → record { storage = S; harts = ps } ≡ lined_state st h mask
lined_moves S rs ps h mask r st there is same =
    ap (λ (ks : List Regs). let s : State = record { storage = S; harts = ks } in s) is
    ∙ ap (lined_at (record { storage = S; harts = rs }) h mask) (sym there)
    ∙ ap (λ (s : State). lined_state s h mask) same

-- a hart keeps its next below the number of pages, of which there is one at least
below : (n s : ℕ) → 1 ≤ n → (s ≢ 0 → s < n) → s < n
below n zero some b = omega (arith, some)
below n (suc s) some b = b (λ e. absurd (omega (arith, e)))

next_at : (n : ℕ) (rs : List Regs) (h : ℕ) (o : Option Regs) → 1 ≤ n → All (NextBelow n) rs → slice_get rs h ≡ o → IfSome o (λ r. r.next < n)
next_at n rs h None some all e = tt
next_at n rs h (Some r) some all e =
    below n r.next some (subst (NextBelow n) (get_or_from_slice_get rs h r r e) (all h r (slice_get_within rs h r e)))

pub next_inside : (n : ℕ) (rs : List Regs) (h : ℕ) → 1 ≤ n → All (NextBelow n) rs → IfSome (slice_get rs h) (λ r. r.next < n)
next_inside n rs h some all = next_at n rs h (slice_get rs h) some all refl
