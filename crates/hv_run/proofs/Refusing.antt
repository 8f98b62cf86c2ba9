-- A step that was refused, or after which a machine got control back, leaves each word with interrupt lines as it was.
use Rattle.std.proofs.Common.{◌≡◌, ◌≢◌, ℕ, zero, suc, ◌<◌, ◌⊎◌, inl, inr, Option, Some, None, IfSome, List, [], ◌∷◌, set, slice_get, refl, sym, ap, ◌∙◌, subst, arith}
use Rattle.std.specs.Prelude.{IsSomeAnd}
use Rattle.hv_word.specs.Storage.{page_count}
use Rattle.hv_cpu.specs.Regs.{Regs}
use Rattle.hv_map.specs.Item.{Item}
use Rattle.hv_nest.specs.declared.outcome.StepKind.{StepKind}
use Rattle.hv_nest.specs.declared.outcome.StepKind.TheVariants.{Worked as WorkedKind}
use Rattle.hv_nest.specs.State.{State, IsNextInside}
use Rattle.hv_nest.specs.Step.{Stepped, Worked, Recalled, Faulted, Barred, host_step_of}
use Rattle.hv_nest.specs.Move.{Moved, moved_by, moved_at, moved_of, with_hart}
use Rattle.hv_nest.specs.Received.{GetsBack, IsFaultWord, IsNextOf, IsReceived, hart_after}
use Rattle.hv_nest.proofs.Routes.{receiving}
use Rattle.hv_run.specs.Play.{mip_of, status_at}

-- the word with the lines is the same for each hart and each block
abbrev pub SameStatus : State → State → Type 0
SameStatus st next = (h : ℕ) (b : Option ℕ) → status_at h b next ≡ status_at h b st

mip_set : (rs : List Regs) (k h : ℕ) (r q : Regs) → slice_get rs k ≡ Some r → q.mip ≡ r.mip → mip_of (slice_get (set rs k q) h) ≡ mip_of (slice_get rs h)
mip_set [] k h r q there same = refl
mip_set (x ∷ xs) zero zero r q there same = same ∙ sym (ap mip_of there)
mip_set (x ∷ xs) zero (suc h) r q there same = refl
mip_set (x ∷ xs) (suc k) zero r q there same = refl
mip_set (x ∷ xs) (suc k) (suc h) r q there same = mip_set xs k h r q there same

mip_after : (l : ℕ) (r : Regs) → (hart_after l r).mip ≡ r.mip
mip_after zero r = refl
mip_after (suc l) r = refl

not_next_in : (o : Option Item) (g w : ℕ) → w < 64 → IsSomeAnd o (λ x. (g ≡ x.block) × (w ≡ 64)) → ⊥
not_next_in None g w below is = absurd is
not_next_in (Some x) g w below is = let e : w ≡ 64 = is.1 in omega (arith, below, e)

not_next : (items : List Item) (l g : ℕ) → IsNextOf items l g 42 → ⊥
not_next items zero g is = is
not_next items (suc l) g is = not_next_in (slice_get items l) g 42 (omega arith) is

back_status : (st : State) (hart : ℕ) (r : Regs) (items : List Item) (l : ℕ) (P : ℕ → ℕ → Type 0) (T : List ℕ) (q : Regs) → slice_get st.harts hart ≡ Some r → ((g : ℕ) → P g 42 → ⊥) → GetsBack st.storage items r l P T q → SameStatus st (with_hart st T hart q)
back_status st hart r items l P T q there apart back h None =
    mip_set st.harts hart h r q there (ap (λ (x : Regs). x.mip) back.hart ∙ mip_after l r)
back_status st hart r items l P T q there apart back h (Some g) =
    back.changes.others g 42 (omega arith) (other g)
  where
    other : (g : ℕ) → IsNextOf items l g 42 ⊎ P g 42 → ⊥
    other g (inl is) = not_next items l g is
    other g (inr is) = apart g is

not_fault : (b g : ℕ) → IsFaultWord b g 42 → ⊥
not_fault b g is = omega (arith, is.1)

by_step : (st : State) (hart : ℕ) (r : Regs) (items : List Item) (X : Stepped) → slice_get st.harts hart ≡ Some r → IsReceived st.storage items r X → (moved_by st hart X).kind ≢ WorkedKind → SameStatus st (moved_by st hart X).state
by_step st hart r items (Worked T q) there back refused = absurd (refused refl)
by_step st hart r items (Recalled l T q) there back refused =
    back_status st hart r items l (λ g w. ⊥) T q there (λ g is. is) back
by_step st hart r items (Faulted l c address a T q) there back refused =
    back_status st hart r items l (IsFaultWord back.0) T q there (not_fault back.0) back.1
by_step st hart r items (Barred e) there back refused = absurd back

at_hart : (st : State) (hart : ℕ) (o : Option Regs) → slice_get st.harts hart ≡ o → IfSome o (λ r. r.next < page_count st.storage) → (moved_at st hart o).kind ≢ WorkedKind → SameStatus st (moved_at st hart o).state
at_hart st hart None there inside refused = absurd (refused refl)
at_hart st hart (Some r) there inside refused =
    let law = receiving st.storage hart r inside in
    by_step st hart r law.0 (host_step_of st.storage hart r) there law.2 refused

pub refused_status : (st next : State) (hart : ℕ) (kind : StepKind) → record { kind = kind; state = next } ≡ moved_of st hart → IsNextInside st hart → kind ≢ WorkedKind → SameStatus st next
refused_status st next hart kind is inside refused =
    subst (λ (m : Moved). SameStatus st m.state) (sym is)
    (at_hart st hart (slice_get st.harts hart) refl inside (subst (λ (m : Moved). m.kind ≢ WorkedKind) is refused))
