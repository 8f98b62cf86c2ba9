-- How the map of a machine, and the map that the same machine has where its ancestors are left out, are alike. F is the
-- map of a machine at level k, in a storage S; a storage T is what that machine takes for the bare one. A map of a
-- machine inside it is H as S has it, and G as T has it.
use Rattle.std.specs.Prelude.{◌≡◌, ℕ, ◌+◌, ◌<◌, ◌⊎◌, List, Option, Some, None, slice_get}
use Rattle.hv_word.specs.Storage.{word_at}
use Rattle.hv_store.specs.declared.access.Access.{Access}
use Rattle.hv_store.specs.declared.access.Slot.{Slot}
use Rattle.hv_store.specs.declared.access.Way.{Way}
use Rattle.hv_store.specs.declared.access.Way.TheVariants.{Open, Shut}
use Rattle.hv_store.specs.Access.{way_for}

-- a way that is shut at a level below k
abbrev pub IsShutBelow : ℕ → Way → Type 0
IsShutBelow k (Open g) = ⊥
IsShutBelow k (Shut l c p w) = l < k

-- the way h for the access a is the other way carried through F: an open page becomes F's way for that page and the
-- same access, and a shut way has its level raised by k
abbrev pub IsCarried : ℕ → List Slot → Access → Way → Way → Type 0
IsCarried k F a h (Open y) = (s : Slot) × (slice_get F y ≡ Some s) × (h ≡ way_for s a)
IsCarried k F a h (Shut l c p w) = h ≡ Shut (l + k) c p w

-- h is refused by an ancestor of the machine at level k, or is the way g carried through F
abbrev pub WayLike : ℕ → List Slot → Access → Way → Way → Type 0
WayLike k F a h g = IsShutBelow k h ⊎ IsCarried k F a h g

-- the same of the three ways of two slots; where one map has no such page, the other has none
abbrev pub SlotLike : ℕ → List Slot → Option Slot → Option Slot → Type 0
SlotLike k F None None = Unit {0}
SlotLike k F None (Some g) = ⊥
SlotLike k F (Some h) None = ⊥
SlotLike k F (Some h) (Some g) = (a : Access) → WayLike k F a (way_for h a) (way_for g a)

-- H has as many slots as G, and each way of H is refused at a level below k, or is the way of G carried through F
abbrev pub MapLike : ℕ → List Slot → List Slot → List Slot → Type 0
MapLike k F H G = (i : ℕ) → SlotLike k F (slice_get H i) (slice_get G i)

-- each shut way of F is shut at a level below k
abbrev pub ShutBelow : ℕ → List Slot → Type 0
ShutBelow k F =
    (y : ℕ) (s : Slot) (a : Access) (l c p : ℕ) (w : Option ℕ)
    → slice_get F y ≡ Some s
    → way_for s a ≡ Shut l c p w
    → l < k

-- each open way of F for writing or fetching is its open way for reading of the same page
abbrev pub OpensSame : List Slot → Type 0
OpensSame F =
    (y : ℕ) (s : Slot) (a : Access) (x : ℕ)
    → slice_get F y ≡ Some s
    → way_for s a ≡ Open x
    → s.read ≡ Open x

-- T agrees with S through F: each page that F opens for reading has the same words
abbrev pub Agree : List Slot → List ℕ → List ℕ → Type 0
Agree F S T =
    (y x w : ℕ) (s : Slot)
    → slice_get F y ≡ Some s
    → s.read ≡ Open x
    → w < 1024
    → word_at S x w ≡ word_at T y w

-- F opens bare page x for the access a
abbrev pub Opens : List Slot → Access → ℕ → Type 0
Opens F a x = (y : ℕ) × (s : Slot) × (slice_get F y ≡ Some s) × (way_for s a ≡ Open x)

-- some way of F is shut at level l
abbrev pub ShutAt : List Slot → ℕ → Type 0
ShutAt F l =
    (y : ℕ)
    × (s : Slot)
    × (a : Access)
    × (c : ℕ)
    × (p : ℕ)
    × (w : Option ℕ)
    × (slice_get F y ≡ Some s)
    × (way_for s a ≡ Shut l c p w)
