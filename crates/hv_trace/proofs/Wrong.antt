-- What a row can't be, once the step is made.
use Rattle.std.proofs.Common.{◌≡◌, ◌≢◌, ℕ, List, Option, sym, ap, ◌∙◌, subst}
use Rattle.hv_cpu.specs.Regs.{Regs, spelled}
use Rattle.hv_exec.specs.Act.{Done}
use Rattle.hv_capsule.specs.Parked.{Parked}
use Rattle.hv_trace.specs.Check.{FollowsByStep, IsWritten, changes_from}
use Rattle.hv_trace.specs.Flat.{flat_step_of}

pub same_storage : (S T : List ℕ) (c d : Regs) → Done S c ≡ Done T d → S ≡ T
same_storage S T c d e = cc

pub same_regs : (S T : List ℕ) (c d : Regs) → Done S c ≡ Done T d → c ≡ d
same_regs S T c d e = cc

pub wrong_pc : (S : List ℕ) (c : Regs) (pc : ℕ) (changes : List (ℕ × ℕ)) (mem : Option (ℕ × ℕ)) (n : Parked) → pc ≢ c.pc → FollowsByStep record { regs = c; storage = S } pc changes mem n → ⊥
wrong_pc S c pc changes mem n ne f = ne f.before

pub wrong_next : (S T : List ℕ) (c d : Regs) (pc : ℕ) (changes : List (ℕ × ℕ)) (mem : Option (ℕ × ℕ)) (n : Parked) → Done T d ≡ flat_step_of S c → d.next ≢ 0 → FollowsByStep record { regs = c; storage = S } pc changes mem n → ⊥
wrong_next S T c d pc changes mem n step ne f =
    ne (ap (λ (r : Regs). r.next) (same_regs T n.storage d n.regs (step ∙ f.step)) ∙ f.next)

pub wrong_changes : (S T : List ℕ) (c d : Regs) (pc : ℕ) (changes : List (ℕ × ℕ)) (mem : Option (ℕ × ℕ)) (n : Parked) → Done T d ≡ flat_step_of S c → changes ≢ changes_from 0 (spelled c) (spelled d) → FollowsByStep record { regs = c; storage = S } pc changes mem n → ⊥
wrong_changes S T c d pc changes mem n step ne f =
    ne (f.told ∙ ap (λ (r : Regs). changes_from 0 (spelled c) (spelled r)) (sym (same_regs T n.storage d n.regs (step ∙ f.step))))

pub wrong_written : (S T : List ℕ) (c d : Regs) (pc : ℕ) (changes : List (ℕ × ℕ)) (mem : Option (ℕ × ℕ)) (n : Parked) → Done T d ≡ flat_step_of S c → (IsWritten S T mem → ⊥) → FollowsByStep record { regs = c; storage = S } pc changes mem n → ⊥
wrong_written S T c d pc changes mem n step ne f =
    ne (subst (λ (U : List ℕ). IsWritten S U mem) (sym (same_storage T n.storage d n.regs (step ∙ f.step))) f.written)

pub ruleset wrong = (wrong_pc, wrong_next, wrong_changes, wrong_written)
