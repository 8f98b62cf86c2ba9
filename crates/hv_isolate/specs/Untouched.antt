-- What a step of one machine leaves as it was of another one.
use Rattle.std.specs.Prelude.{◌≡◌, ℕ, true, List, map}
use Rattle.hv_map.specs.Item.{Item}
use Rattle.hv_map.specs.Links.{syllable_of}
use Rattle.hv_nest.specs.State.{State}
use Rattle.hv_nest.specs.Move.{moved_of, running_of}
use Rattle.hv_nest.specs.Watched.{foot, keeps_foot}

-- In every state with the storage S in which a hart runs the machine at the end of the items `a`, its step leaves each
-- word of the foot of the machine at the end of the items `b` as it was, and the word of its block that has the
-- interrupt lines but for the lines.
abbrev pub IsUntouched : List ℕ → List Item → List Item → Type 0
IsUntouched S a b =
    (st : State) (hart : ℕ)
    → st.storage ≡ S
    → running_of st hart ≡ map syllable_of a
    → keeps_foot (foot S b) b S (moved_of st hart).state.storage ≡ true
