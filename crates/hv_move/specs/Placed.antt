-- What placing a parked machine makes of a storage, and when it is refused.
use Rattle.std.specs.Prelude.{◌≡◌, ◌≢◌, ℕ, ◌<◌, ◌⊎◌, ◌==◌, not, if◌then◌else◌, IfSome, Option, Some, None}
use Rattle.std.specs.Prelude.{List, length, map, slice_index}
use Rattle.std.specs.List.{find, range_with_len}
use Rattle.std.specs.Option.{is_none, option_map}
use Rattle.hv_word.specs.Storage.{page_count, word_at}
use Rattle.hv_store.specs.declared.access.Slot.{Slot}
use Rattle.hv_store.specs.declared.access.Access.TheVariants.{Read}
use Rattle.hv_block.specs.Block.{IsOther, regs_at}
use Rattle.hv_apart.specs.Upgrade.{written_in}
use Rattle.hv_map.specs.Apart.{is_apart}
use Rattle.hv_map.specs.Carried.{Opens}
use Rattle.hv_map.specs.Chain.{map_along, pin_of}
use Rattle.hv_map.specs.Item.{Item}
use Rattle.hv_map.specs.Links.{last_block, syllable_of}
use Rattle.hv_map.specs.Seen.{seen}
use Rattle.hv_capsule.specs.Parked.{Parked}
use Rattle.hv_move.specs.Saved.{first_absent}
use Rattle.hv_move.specs.declared.placing.PlaceEnd.{PlaceEnd}
use Rattle.hv_move.specs.declared.placing.PlaceEnd.TheVariants as end

-- the first page that the machine with the map F can't write
abbrev pub first_shut : List Slot → Option ℕ
first_shut F = find (λ i. is_none (written_in F i)) (range_with_len 0 (length F))

-- why the machine at the end of the items can't be made the parked machine m: the first of the three reasons that holds
abbrev pub place_refusal : List ℕ → List Item → Parked → Option PlaceEnd
place_refusal S items m =
    if not (page_count m.storage == length (map_along S items)) then Some end.Pages
    else if not (is_apart S items) then Some end.Apart
    else option_map (λ page. end.Shut page) (first_shut (map_along S items))

-- word w of bare page g holds no register of the machine whose block is in that page
abbrev pub IsBeside : Option ℕ → ℕ → ℕ → Type 0
IsBeside None g w = Unit {0}
IsBeside (Some b) g w = (g ≢ b) ⊎ IsOther w

-- The machine at the end of the items was made the parked machine m, from the storage S to T. It sees m's pages, all
-- of which it can read, its block has m's registers, it is on its path as before and has the map that it had, and no
-- word changed but those of the pages that it reads and of the registers in its block.
pub record IsPlaced (S T : List ℕ) (items : List Item) (m : Parked) : Type 0 where
  pub len : length T ≡ length S
  pub storage : seen T (map_along T items) ≡ m.storage
  pub readable : first_absent (map_along T items) ≡ None
  pub regs : IfSome (last_block items) (λ g. regs_at T g ≡ m.regs)
  pub pinned : pin_of T (map syllable_of items) ≡ Some items
  pub map_kept : map_along T items ≡ map_along S items
  pub stays :
      (g w : ℕ)
      → w < 1024
      → (Opens (map_along S items) Read g → ⊥)
      → IsBeside (last_block items) g w
      → word_at T g w ≡ word_at S g w

-- the bare pages, of P, in which the machine with the map F writes its pages
pub record AreHosts (P : ℕ) (F : List Slot) (hosts : List ℕ) : Type 0 where
  pub len : length hosts ≡ 16384
  pub found : (i : ℕ) → i < length F → written_in F i ≡ Some (slice_index hosts i)
  pub within : (i : ℕ) → i < length F → slice_index hosts i < P

-- the first n are all different
abbrev pub DifferAll : ℕ → List ℕ → Type 0
DifferAll n hosts = (i j : ℕ) → i < n → j < n → slice_index hosts i ≡ slice_index hosts j → i ≡ j

-- the first n of them have, in T, the words of the pages of a copy, and no other bare page changed from S to T
pub record AreWritten (S T hosts copy : List ℕ) (n : ℕ) : Type 0 where
  pub len : length T ≡ length S
  pub words : (i w : ℕ) → i < n → w < 1024 → word_at T (slice_index hosts i) w ≡ word_at copy i w
  pub stays : (g w : ℕ) → w < 1024 → ((i : ℕ) → i < n → g ≢ slice_index hosts i) → word_at T g w ≡ word_at S g w
