-- A machine can't tell that it runs inside others. F is the map of a machine at level k, in the bare storage S, and T
-- is what that machine takes for the bare storage: a step of the machine in S is that of a bare machine with the
-- storage T, but for refusals that are for machines further out.
use Rattle.std.specs.Prelude.{◌≡◌, ◌≢◌, ℕ, ◌+◌, ◌-◌, ◌*◌, ◌<◌, ◌≤◌, List, length, Some}
use Rattle.hv_word.specs.Storage.{page_count, word_at, with_word}
use Rattle.hv_cpu.specs.Regs.{Regs}
use Rattle.hv_store.specs.declared.access.Access.{Access}
use Rattle.hv_store.specs.declared.access.Access.TheVariants.{Read}
use Rattle.hv_store.specs.declared.access.Refusal.{Refusal}
use Rattle.hv_store.specs.declared.access.Slot.{Slot}
use Rattle.hv_store.specs.declared.access.Way.TheVariants.{Open}
use Rattle.hv_map.specs.Carried.{Agree, MapLike, Opens, OpensSame, ShutBelow}
use Rattle.hv_limits.specs.Limits.{depth_limit}
use Rattle.hv_map.specs.Compose.{reading}
use Rattle.hv_nest.specs.Step.{Stepped, Worked, Recalled, Faulted, Barred, step_of, host_step_of}

-- T is what a machine at level k with the map F sees of S. The pages that F opens for reading are all different and
-- inside S, its other open ways are to the same pages, and each shut way has a level below k. T has as many pages as F
-- has slots, and the words of each page that F opens.
pub record Sees (k : ℕ) (F : List Slot) (S T : List ℕ) : Type 0 where
  pub apart : (y z x : ℕ) → reading F y ≡ Some (Open x) → reading F z ≡ Some (Open x) → y ≡ z
  pub inside : (y x : ℕ) → reading F y ≡ Some (Open x) → x < page_count S
  pub same : OpensSame F
  pub below : ShutBelow k F
  pub size : length T ≡ 1024 * length F
  pub agree : Agree F S T

-- a relation of two storages that makes each what the machine sees of the other, and that stays where the machine
-- writes a word
pub record Simulation (k : ℕ) (F : List Slot) (R : List ℕ → List ℕ → Type 0) : Type 0 where
  pub sees : (S T : List ℕ) → R S T → Sees k F S T
  pub write : (S T : List ℕ) (y x w v : ℕ)
      → R S T
      → reading F y ≡ Some (Open x)
      → w < 1024
      → R (with_word S x w v) (with_word T y w v)

-- a refusal told k levels further in
abbrev pub deepened : ℕ → Refusal → Refusal
deepened k e = record { level = e.level + k; cause = e.cause; address = e.address; access = e.access }

-- How a step of the machine at level k, or of one inside it, is the step with its ancestors left out: it is refused by
-- an ancestor, or comes to the same, with levels raised by k, with the same registers, and with storages of which R
-- holds.
pub data StepLike (k : ℕ) (R : List ℕ → List ℕ → Type 0) : Stepped → Stepped → Type 0 where
  refused_further_out : (e : Refusal) (Y : Stepped) → e.level < k → StepLike k R (Barred e) Y
  both_work : (S T : List ℕ) (r : Regs) → R S T → StepLike k R (Worked S r) (Worked T r)
  both_recall : (l : ℕ) (S T : List ℕ) (r : Regs) → R S T → StepLike k R (Recalled (l + k) S r) (Recalled l T r)
  both_fault : (l cause address : ℕ) (a : Access) (S T : List ℕ) (r : Regs)
      → R S T
      → StepLike k R (Faulted (l + k) cause address a S r) (Faulted l cause address a T r)
  both_refused : (e : Refusal) → StepLike k R (Barred (deepened k e)) (Barred e)

-- S and T after a step that began with A and B: still T is what the machine sees of S, S is A off the pages that F
-- opens for reading, and T is B on the pages that F doesn't open for reading.
pub record StillSees (k : ℕ) (F : List Slot) (A B S T : List ℕ) : Type 0 where
  pub sees : Sees k F S T
  pub size : length S ≡ length A
  pub host : (x w : ℕ) → (Opens F Read x → ⊥) → w < 1024 → word_at S x w ≡ word_at A x w
  pub guest : (y w : ℕ) → ((x : ℕ) → reading F y ≢ Some (Open x)) → w < 1024 → word_at T y w ≡ word_at B y w

-- A step of the machine at level k in the bare storage is the step of a bare machine whose storage is what the machine
-- sees.
abbrev pub SimulationLaw : Type 0
SimulationLaw =
    (k : ℕ) (F : List Slot) (S T : List ℕ) (hart : ℕ) (r : Regs)
    → k ≤ depth_limit
    → Sees k F S T
    → StepLike k (StillSees k F S T) (step_of (depth_limit - k) S F k hart r) (host_step_of T hart r)

-- The same of a machine inside it. G is the map of a machine at level j in T, and H that of one at level j + k in S,
-- each of whose ways is refused below k or is the way of G carried through F.
abbrev pub InnerSimulationLaw : Type 0
InnerSimulationLaw =
    (k : ℕ) (F : List Slot) (S T : List ℕ) (H G : List Slot) (j hart : ℕ) (r : Regs)
    → j + k ≤ depth_limit
    → Sees k F S T
    → MapLike k F H G
    → StepLike k (StillSees k F S T) (step_of (depth_limit - (j + k)) S H (j + k) hart r)
    (step_of (depth_limit - j) T G j hart r)
