-- How few words one instruction changes.
use Rattle.std.specs.Prelude.{◌≡◌, ℕ, ◌+◌, ◌/◌, ◌≤◌, Bool, true, false, ◌==◌, if◌then◌else◌, List, [], ◌∷◌}
use Rattle.std.specs.Prelude.{length, slice_index}
use Rattle.std.specs.List.{list_any}
use Rattle.hv_word.specs.Words.{has}
use Rattle.hv_cpu.specs.Regs.{Regs, spelled}
use Rattle.hv_store.specs.declared.access.Slot.{Slot}
use Rattle.hv_store.specs.declared.access.Way.{Way}
use Rattle.hv_store.specs.declared.access.Way.TheVariants.{Open, Shut}
use Rattle.hv_exec.specs.Act.{Acted, Done, Refused, act_of}

-- at how many places two lists differ, as far as both go
unfoldable pub differing : List ℕ → List ℕ → ℕ
differing [] ys = 0
differing (x ∷ xs) [] = 0
differing (x ∷ xs) (y ∷ ys) = (if x == y then 0 else 1) + differing xs ys

-- how many words two states of the registers differ in
unfoldable pub changed_regs : Regs → Regs → ℕ
changed_regs r q = differing (spelled r) (spelled q)

-- The storage T is S but for some places, and the registers q are r but for n words.
pub record ChangesAt (S T : List ℕ) (r q : Regs) (ps : List ℕ) (n : ℕ) : Type 0 where
  pub elsewhere : (a : ℕ) → has a ps ≡ false → slice_index T a ≡ slice_index S a
  pub regs : changed_regs r q ≤ n

-- a way that opens bare page g
abbrev pub leads_to : ℕ → Way → Bool
leads_to g (Open h) = h == g
leads_to g (Shut l c p w) = false

-- whether a machine with the map F may write the bare page g, as some page of its own
abbrev pub opens_for_writing : List Slot → ℕ → Bool
opens_for_writing F g = list_any (λ (s : Slot). leads_to g s.write) F

-- Six words are changed at most, of the storage and the registers together, and of the storage only words of bare pages
-- that the machine may write.
abbrev pub ChangesFew : List ℕ → List Slot → Regs → Acted → Type 0
ChangesFew S F r (Refused e) = Unit {0}
ChangesFew S F r (Done T q) =
    (ps : List ℕ)
    × (n : ℕ)
    × ChangesAt S T r q ps n
    × (length ps + n ≤ 6)
    × ((a : ℕ) → has a ps ≡ true → opens_for_writing F (a / 1024) ≡ true)

-- that holds of every instruction, over every map
abbrev pub FewLaw : Type 0
FewLaw = (S : List ℕ) (F : List Slot) (hart : ℕ) (r : Regs) → ChangesFew S F r (act_of S F hart r)
