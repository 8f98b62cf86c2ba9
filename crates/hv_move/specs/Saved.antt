-- What can be saved of a machine, by its map.
use Rattle.std.specs.Prelude.{ℕ, Bool, true, false, not, List, length, Option, Some, None}
use Rattle.std.specs.List.{find, range_with_len}
use Rattle.hv_store.specs.declared.access.Slot.{Slot}
use Rattle.hv_store.specs.declared.access.Way.{Way}
use Rattle.hv_store.specs.declared.access.Way.TheVariants.{Open, Shut}
use Rattle.hv_map.specs.Compose.{reading}

-- whether a way is there and open
abbrev pub opens : Option Way → Bool
opens None = false
opens (Some (Open g)) = true
opens (Some (Shut l c p w)) = false

-- whether the machine with the map F can read its page i
abbrev pub can_read : List Slot → ℕ → Bool
can_read F i = opens (reading F i)

-- the first of its pages that it can't read
abbrev pub first_absent : List Slot → Option ℕ
first_absent F = find (λ i. not (can_read F i)) (range_with_len 0 (length F))
