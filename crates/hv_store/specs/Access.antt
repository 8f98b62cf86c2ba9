-- What a machine sees of a storage. A machine's map is a list of slots, one for each of its pages: after Goldberg's map
-- of resource names, which is a partial function. A storage is the list of its words, 1024 in a page.
use Rattle.std.specs.Prelude.{ℕ, ◌+◌, ◌*◌, List, map, Option, None, Some, Result, Ok, Err, slice_get}
use Rattle.std.specs.List.{range_with_len}
use Rattle.hv_word.specs.declared.Lane.{Lane}
use Rattle.hv_word.specs.Words.{lane_with}
use Rattle.hv_word.specs.Storage.{word_at, with_word}
use Rattle.hv_store.specs.declared.access.Access.{Access}
use Rattle.hv_store.specs.declared.access.Access.TheVariants.{Read, Write, Fetch}
use Rattle.hv_store.specs.declared.access.Refusal.{Refusal}
use Rattle.hv_store.specs.declared.access.Slot.{Slot}
use Rattle.hv_store.specs.declared.access.Way.{Way}
use Rattle.hv_store.specs.declared.access.Way.TheVariants.{Open, Shut}

-- the way of a slot that serves an access
abbrev pub way_for : Slot → Access → Way
way_for s Read = s.read
way_for s Write = s.write
way_for s Fetch = s.fetch

-- the slot of a page that lies in bare page g for every access
abbrev pub open_at : ℕ → Slot
open_at g = record { read = Open g; write = Open g; fetch = Open g }

-- the map of the bare machine: each page is itself
unfoldable pub identity : ℕ → List Slot
identity pages = map open_at (range_with_len 0 pages)

-- The refusal of a way that is shut at level l with cause c, for an access a to word k. Where a table word w couldn't
-- be read, it names that word, which was read; else it names word k of page p and the access a.
abbrev pub refused : ℕ → ℕ → ℕ → Option ℕ → ℕ → Access → Refusal
refused l c p (Some w) k a = record { level = l; cause = c; address = 4096 * p + 4 * w; access = Read }
refused l c p None k a = record { level = l; cause = c; address = 4096 * p + 4 * k; access = a }

-- word k through a way, for an access a
abbrev pub read_through : List ℕ → Way → ℕ → Access → Result ℕ Refusal
read_through S (Open g) k a = Ok (word_at S g k)
read_through S (Shut l c p w) k a = Err (refused l c p w k a)

-- the same through a slot; none where there is no such page
abbrev pub get_at : List ℕ → Option Slot → ℕ → Access → Option (Result ℕ Refusal)
get_at S None k a = None
get_at S (Some s) k a = Some (read_through S (way_for s a) k a)

-- Word k of a page of the machine with the map F, for an access a: none where the machine has no such page, and else
-- the word or the refusal.
abbrev pub get : List ℕ → List Slot → ℕ → ℕ → Access → Option (Result ℕ Refusal)
get S F page k a = get_at S (slice_get F page) k a

-- the storage after a write of the lane of word k through a way
abbrev pub write_through : List ℕ → Way → ℕ → Lane → ℕ → Result (List ℕ) Refusal
write_through S (Open g) k lane v = Ok (with_word S g k (lane_with (word_at S g k) lane v))
write_through S (Shut l c p w) k lane v = Err (refused l c p w k Write)

-- the same through a slot
abbrev pub put_at : List ℕ → Option Slot → ℕ → Lane → ℕ → Option (Result (List ℕ) Refusal)
put_at S None k lane v = None
put_at S (Some s) k lane v = Some (write_through S s.write k lane v)

-- The storage after a write of a lane of word k of a page of the machine with the map F; a refusal gives no new
-- storage.
abbrev pub set : List ℕ → List Slot → ℕ → ℕ → Lane → ℕ → Option (Result (List ℕ) Refusal)
set S F page k lane v = put_at S (slice_get F page) k lane v

-- the storage with words 72 to 74 of bare page g zero, where a control block keeps the last fault
abbrev pub without_fault : List ℕ → ℕ → List ℕ
without_fault S g = with_word (with_word (with_word S g 72 0) g 73 0) g 74 0

-- the same through a way
abbrev pub clear_through : List ℕ → Way → Result (List ℕ) Refusal
clear_through S (Open g) = Ok (without_fault S g)
clear_through S (Shut l c p w) = Err (refused l c p w 72 Write)

-- the same through a slot
abbrev pub cleared_at : List ℕ → Option Slot → Option (Result (List ℕ) Refusal)
cleared_at S None = None
cleared_at S (Some s) = Some (clear_through S s.write)

-- The storage after words 72 to 74 of one page of the machine with the map F became zero, all in the bare page that was
-- found for word 72 before the first write.
abbrev pub cleared : List ℕ → List Slot → ℕ → Option (Result (List ℕ) Refusal)
cleared S F page = cleared_at S (slice_get F page)

-- what a call answered, with the storage that it left where it succeeded
abbrev pub with_storage : {A : Type 0} → Result A Refusal → List ℕ → Result (List ℕ) Refusal
with_storage (Ok _) S = Ok S
with_storage (Err e) S = Err e
