-- What a call on a space leaves as it was. The records take what the space's trait says of any space (its storage, map,
-- depth, place, frame, origin and room), and the space before and after the call.
use Rattle.std.specs.Prelude.{◌≡◌, ℕ, List, length}
use Rattle.hv_store.specs.declared.access.Slot.{Slot}
use Rattle.hv_store.specs.Frame.{Framed}

-- No call changes how many words there are, where the machine is, where it writes, what its map is made of, or what the
-- storage was when changes began to be noted.
pub record Stays {A : Type 0} (storage_of : A → List ℕ) (depth_of : A → ℕ) (place_of : A → List ℕ)
    (frame_of : A → List Framed) (origin_of : A → List ℕ) (old new : A) : Type 0 where
  pub len : length (storage_of new) ≡ length (storage_of old)
  pub depth : depth_of new ≡ depth_of old
  pub place : place_of new ≡ place_of old
  pub frame : frame_of new ≡ frame_of old
  pub origin : origin_of new ≡ origin_of old

-- a call that is refused changes neither the storage nor the map
pub record Untouched {A : Type 0} (storage_of : A → List ℕ) (slots_of : A → List Slot) (old new : A) : Type 0 where
  pub storage : storage_of new ≡ storage_of old
  pub slots : slots_of new ≡ slots_of old

-- a call that only reads changes nothing
pub record Reads {A : Type 0} (storage_of : A → List ℕ) (slots_of : A → List Slot) (depth_of : A → ℕ)
    (place_of : A → List ℕ) (frame_of : A → List Framed) (origin_of : A → List ℕ) (room_of : A → ℕ)
    (old new : A) : Type 0 where
  pub storage : storage_of new ≡ storage_of old
  pub slots : slots_of new ≡ slots_of old
  pub depth : depth_of new ≡ depth_of old
  pub place : place_of new ≡ place_of old
  pub frame : frame_of new ≡ frame_of old
  pub origin : origin_of new ≡ origin_of old
  pub room : room_of new ≡ room_of old
