-- What is kept of a translation, and what it rests on.
use Rattle.std.specs.Prelude.{ℕ, Bool, ◌||◌, List}
use Rattle.hv_store.specs.declared.access.Slot.{Slot}
use Rattle.hv_word.specs.Words.{has}
use Rattle.hv_map.specs.Apart.{blocks_of}
use Rattle.hv_map.specs.Item.{Item}

-- the slot of a page in the map of the machine at the end of a chain, and the bare pages that it rests on: those of the
-- blocks of the chain's machines, and those of the tables and directories that were read
pub record Kept : Type 0 where
  pub slot : Slot
  pub blocks : List ℕ
  pub tables : List ℕ

abbrev pub kept_of : Slot → List Item → List ℕ → Kept
kept_of slot items tables = record { slot = slot; blocks = blocks_of items; tables = tables }

-- whether it rests on the bare page g
abbrev pub rests_on : ℕ → Kept → Bool
rests_on g k = has g k.blocks || has g k.tables
