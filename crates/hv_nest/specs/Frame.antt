-- Which words of the bare storage a step may change.
use Rattle.std.specs.Prelude.{◌≡◌, ◌≢◌, ℕ, ◌/◌, ◌%◌, Bool, true, ◌&&◌, ◌||◌, ◌==◌, nat_le, List, Some, slice_index}
use Rattle.std.specs.List.{list_any}
use Rattle.hv_store.specs.declared.access.Slot.{Slot}
use Rattle.hv_exec.specs.Changes.{opens_for_writing}
use Rattle.hv_map.specs.Item.{Item}
use Rattle.hv_map.specs.Chain.{map_along, pin_of}

-- the words of a control block that hold registers, 0 to 48 and 64, or the last fault, 72 to 74
abbrev pub is_kept_word : ℕ → Bool
is_kept_word k = nat_le k 48 || (k == 64 || (nat_le 72 k && nat_le k 74))

-- whether place a is such a word of the block in bare page g
abbrev pub is_kept_in : ℕ → ℕ → Bool
is_kept_in g a = (a / 1024 == g) && is_kept_word (a % 1024)

-- whether it is one in the block of one of these machines
abbrev pub is_kept_of : List Item → ℕ → Bool
is_kept_of items a = list_any (λ (x : Item). is_kept_in x.block a) items

-- A word of T that isn't that of S is in a bare page which a machine with the map F may write, or is a word of the
-- block of one of the machines that holds its registers or its last fault.
abbrev pub IsFramed : List ℕ → List Slot → List Item → List ℕ → Type 0
IsFramed S F items T =
    (a : ℕ) → slice_index S a ≢ slice_index T a → (opens_for_writing F (a / 1024) || is_kept_of items a) ≡ true

-- The same where the machines are those on a path from the bare machine, and the map is that of the last. There are
-- such.
unfoldable pub IsFramedBy : List ℕ → List ℕ → List ℕ → Type 0
IsFramedBy S path T = (items : List Item) × (pin_of S path ≡ Some items) × IsFramed S (map_along S items) items T
