-- The page walk of Sv32, with its tests in the order of the manual. An entry is read as a load of the machine's storage
-- is, and nothing is ever written. (Privileged Architecture, sections 4.1.11 and 4.3.)
use Rattle.std.specs.Prelude.{ℕ, ◌+◌, ◌*◌, ◌/◌, ◌%◌, ◌==◌, ◌&&◌, ◌||◌, Bool, nat_lt, if◌then◌else◌, List, length}
use Rattle.std.specs.Prelude.{Option, Some, None, Result, Ok, Err}
use Rattle.hv_word.specs.Words.{field_of}
use Rattle.hv_cpu.specs.Regs.{Regs}
use Rattle.hv_store.specs.declared.access.Access.{Access}
use Rattle.hv_store.specs.declared.access.Access.TheVariants.{Read, Write, Fetch}
use Rattle.hv_store.specs.declared.access.Refusal.{Refusal}
use Rattle.hv_store.specs.declared.access.Slot.{Slot}
use Rattle.hv_store.specs.Access.{get}
use Rattle.hv_sv32.specs.Entry.{is_faulty, is_leaf, is_plain, page_of, effective_mode, grants}
use Rattle.hv_sv32.specs.Stop.{Walked, Found, TrapWith, RefusedBy}

-- the causes of a page fault and of an access fault (Privileged Architecture, section 3.1.15)
abbrev pub page_fault_of : Access → ℕ
page_fault_of Fetch = 12
page_fault_of Read = 13
page_fault_of Write = 15

abbrev pub access_fault_of : Access → ℕ
access_fault_of Fetch = 1
access_fault_of Read = 5
access_fault_of Write = 7

-- the page fault of an access
abbrev pub barred : ℕ → Access → Walked
barred address a = TrapWith (page_fault_of a) address

-- the access fault of an access
abbrev pub outside : ℕ → Access → Walked
outside address a = TrapWith (access_fault_of a) address

-- the place of an address in a page of the machine, which has one slot for each of its pages
abbrev pub located : List Slot → ℕ → ℕ → Access → Walked
located F page address a = if nat_lt page (length F) then Found page (address % 4096) else outside address a

-- the entry of a table of the second level: only a leaf is of use there
abbrev pub at_second : List Slot → Regs → ℕ → Access → ℕ → Walked
at_second F r address a e =
    if is_faulty e then barred address a
    else if is_leaf e && grants r a e then located F (page_of e) address a
    else barred address a

-- the same by what reading it gave
abbrev pub from_second : List Slot → Regs → ℕ → Access → Option (Result ℕ Refusal) → Walked
from_second F r address a None = outside address a
from_second F r address a (Some (Err refusal)) = RefusedBy refusal
from_second F r address a (Some (Ok e)) = at_second F r address a e

-- through the second table, which is a page of the machine; bits 21:12 of the address choose the entry
abbrev pub through_second : List ℕ → List Slot → Regs → ℕ → ℕ → Access → Walked
through_second S F r table address a = from_second F r address a (get S F table (field_of address 12 10) Read)

-- the page that a leaf of the first level names: it has 1024 pages, of which bits 21:12 of the address take one
abbrev pub large_page : ℕ → ℕ → ℕ
large_page e address = field_of e 20 12 * 1024 + field_of address 12 10

-- the entry of a table of the first level; a leaf there must begin at a multiple of 1024 pages
abbrev pub at_first : List ℕ → List Slot → Regs → ℕ → Access → ℕ → Walked
at_first S F r address a e =
    if is_faulty e then barred address a
    else if is_leaf e then
    (if (field_of e 10 10 == 0) && grants r a e then located F (large_page e address) address a else barred address a)
    else if is_plain e then through_second S F r (page_of e) address a
    else barred address a

-- the same by what reading it gave
abbrev pub from_first : List ℕ → List Slot → Regs → ℕ → Access → Option (Result ℕ Refusal) → Walked
from_first S F r address a None = outside address a
from_first S F r address a (Some (Err refusal)) = RefusedBy refusal
from_first S F r address a (Some (Ok e)) = at_first S F r address a e

-- through the first table, whose page bits 21:0 of satp name; bits 31:22 of the address choose the entry
abbrev pub through_first : List ℕ → List Slot → Regs → ℕ → Access → Walked
through_first S F r address a =
    from_first S F r address a (get S F (field_of r.satp 0 22) (field_of address 22 10) Read)

-- Whether an access isn't translated: in mode M, or while bit 31 of satp is clear. Its address is then that of the
-- storage.
abbrev pub is_bare : Regs → Access → Bool
is_bare r a = (effective_mode r a == 3) || (field_of r.satp 31 1 == 0)

-- where the address of an access lies in a machine with storage S and map F
abbrev pub walk_of : List ℕ → List Slot → Regs → ℕ → Access → Walked
walk_of S F r address a =
    if is_bare r a then located F (address / 4096) address a else through_first S F r address a
