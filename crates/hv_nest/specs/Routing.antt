-- Where a refusal goes: to the machine whose map refused first, whichever machine runs.
use Rattle.std.specs.Prelude.{◌≡◌, ◌≢◌, ℕ, ◌<◌, ◌⊎◌, ◌↔◌, Bool, ◌&&◌, ◌||◌, ◌==◌, nat_le, if◌then◌else◌, IsTrue}
use Rattle.std.specs.Prelude.{IsFalse, is_none, IsSome, IfSome, IsSomeAnd, List, [], ◌∷◌, length, Option, Some, None}
use Rattle.std.specs.Prelude.{slice_get}
use Rattle.std.specs.Option.{option_and_then}
use Rattle.hv_word.specs.Storage.{page_count}
use Rattle.hv_cpu.specs.Regs.{Regs}
use Rattle.hv_csr.specs.Interrupts.{pending_of}
use Rattle.hv_store.specs.declared.access.Access.TheVariants.{Write}
use Rattle.hv_store.specs.declared.access.Refusal.{Refusal}
use Rattle.hv_store.specs.declared.access.Slot.{Slot}
use Rattle.hv_store.specs.declared.access.Way.TheVariants.{Open}
use Rattle.hv_block.specs.Block.{block_of, regs_at}
use Rattle.hv_map.specs.Item.{Item}
use Rattle.hv_map.specs.Chain.{map_along, pin_of, running_path}
use Rattle.hv_limits.specs.Limits.{depth_limit}
use Rattle.hv_map.specs.Trail.{trail_of}
use Rattle.hv_nest.specs.Step.{Stepped, Worked, Recalled, Faulted, Barred, malformed, too_deep, host_step_of}
use Rattle.hv_nest.specs.Asks.{Ask, asks, first_refused, refusal_through}

-- the registers of the machine at the end of the items, for the registers r of the machine before the first
abbrev pub regs_along : List ℕ → List Item → Regs → Regs
regs_along S [] r = r
regs_along S (x ∷ xs) r = regs_along S xs (regs_at S x.block)

-- a machine inside another is hart 0 of its own
abbrev pub hart_along : List Item → ℕ → ℕ
hart_along [] hart = hart
hart_along (x ∷ xs) hart = 0

-- neither the machine with the registers r nor one of the items has a pending interrupt
abbrev pub is_calm : List ℕ → List Item → Regs → Bool
is_calm S [] r = is_none (pending_of r)
is_calm S (x ∷ xs) r = is_none (pending_of r) && is_calm S xs (regs_at S x.block)

-- What the machine at level k asks for that ends the running path, where F is its map and c its registers: if it has a
-- next, that word 0 of that page may be written, but nothing at the deepest level; else what its instruction asks for.
abbrev pub asks_at_end : List ℕ → List Slot → ℕ → ℕ → Regs → List Ask
asks_at_end S F k hart c =
    if c.next == 0 then asks S F hart c
    else if k == depth_limit then []
    else record { page = c.next; word = 0; access = Write } ∷ []

-- the ask that is refused, if one is
abbrev pub refused_ask : List ℕ → List Slot → ℕ → ℕ → Regs → Option Ask
refused_ask S F k hart c = first_refused F (asks_at_end S F k hart c)

-- the page of the block can be written, and the block in it is malformed
pub record HasMalformed (S : List ℕ) (F : List Slot) (page : ℕ) : Type 0 where
  pub slot : Slot
  pub host : ℕ
  pub there : slice_get F page ≡ Some slot
  pub writes : slot.write ≡ Open host
  pub bad : block_of S host ≡ None

-- the fault that a step came to: its receiver, cause, address and access
abbrev pub fault_of : Stepped → Option Refusal
fault_of (Worked S r) = None
fault_of (Recalled l S r) = None
fault_of (Faulted l c address a S r) = Some record { level = l; cause = c; address = address; access = a }
fault_of (Barred e) = None

-- a fault with this cause and receiver
abbrev pub IsFault : Option Refusal → ℕ → ℕ → Type 0
IsFault fault cause receiver = IsSomeAnd fault (λ e. (e.cause ≡ cause) × (e.level ≡ receiver))

-- the causes of the maps are 1 to 4 and 7
abbrev pub is_map_cause : ℕ → Bool
is_map_cause c = (nat_le 1 c && nat_le c 4) || (c == 7)

-- there is a refusal, and it has such a cause
abbrev pub IsMapFault : Option Refusal → Type 0
IsMapFault fault = IsSomeAnd fault (λ e. IsTrue (is_map_cause e.cause))

-- what the trail says of an ask, found from the inside out
abbrev pub refusal_on_trail : List ℕ → List ℕ → Ask → Option Refusal
refusal_on_trail S path q =
    option_and_then (λ way. refusal_through way q.word q.access) (trail_of S path q.page q.access)

-- The fault of a step whose running path is given, with the map F, the hart and the registers c of the machine at its
-- end.
pub record IsRouted (S path : List ℕ) (F : List Slot) (hart : ℕ) (c : Regs) (fault : Option Refusal) : Type 0 where
  -- the bare machine is told of a machine that is too deep to run another
  pub deep : IsFault fault 5 0 ↔ ((length path ≡ depth_limit) × (c.next ≢ 0))
  pub deep_told : IsFault fault 5 0 → fault ≡ Some (too_deep c.next)
  -- the machine that holds a block is told that it is malformed
  pub block : IsFault fault 6 (length path) ↔ ((c.next ≢ 0) × (length path < depth_limit) × HasMalformed S F c.next)
  pub block_told : IsFault fault 6 (length path) → fault ≡ Some (malformed (length path) c.next)
  -- the machine whose map refuses first is told what was asked of it
  pub map : IsMapFault fault ↔ IsSome (refused_ask S F (length path) hart c)
  pub map_told : IfSome (refused_ask S F (length path) hart c) (λ q. fault ≡ refusal_on_trail S path q)
  -- there is no other fault
  pub whole : IfSome fault (λ e. IsFault fault 5 0 ⊎ (IsFault fault 6 (length path) ⊎ IsMapFault fault))

-- Routing: the machines on the running path are all there; where none of them has a pending interrupt a fault is
-- routed, and where one has, there is none. (Each machine keeps its next below the number of its pages.)
abbrev pub RoutingLaw : Type 0
RoutingLaw =
    (S : List ℕ) (hart : ℕ) (r : Regs)
    → r.next < page_count S
    → (items : List Item)
    × (pin_of S (running_path S r) ≡ Some items)
    × (IsTrue (is_calm S items r)
    → IsRouted S (running_path S r) (map_along S items) (hart_along items hart) (regs_along S items r)
    (fault_of (host_step_of S hart r)))
    × (IsFalse (is_calm S items r) → fault_of (host_step_of S hart r) ≡ None)
