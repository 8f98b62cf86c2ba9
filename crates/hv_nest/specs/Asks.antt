-- What a machine asks of its storage while it executes one instruction: the word of a page, and the access that it is
-- for. The asks go in the order of the instruction, as far as it comes: each is made only where those before it were
-- answered.
use Rattle.std.specs.Prelude.{ℕ, ◌/◌, ◌%◌, ◌==◌, ◌&&◌, Bool, not, is_some, if◌then◌else◌, List, [], ◌∷◌, ◌++◌, Option}
use Rattle.std.specs.Prelude.{Some, None, Result, Ok, Err, slice_get}
use Rattle.hv_word.specs.Words.{field_of}
use Rattle.hv_cpu.specs.Regs.{Regs}
use Rattle.hv_isa.specs.declared.Instr.{Instr}
use Rattle.hv_isa.specs.Table.{decode_of}
use Rattle.hv_store.specs.declared.access.Access.{Access}
use Rattle.hv_store.specs.declared.access.Access.TheVariants.{Read, Write, Fetch}
use Rattle.hv_store.specs.declared.access.Refusal.{Refusal}
use Rattle.hv_store.specs.declared.access.Slot.{Slot}
use Rattle.hv_store.specs.declared.access.Way.{Way}
use Rattle.hv_store.specs.declared.access.Way.TheVariants.{Open, Shut}
use Rattle.hv_store.specs.Access.{way_for, refused, get}
use Rattle.hv_sv32.specs.Entry.{is_faulty, is_leaf, is_plain, page_of}
use Rattle.hv_sv32.specs.Stop.{Walked, Found, TrapWith, RefusedBy}
use Rattle.hv_sv32.specs.Walk.{is_bare, walk_of}
use Rattle.hv_exec.specs.Answer.{Answer, Next, Trap, Load, Store, Enter}
use Rattle.hv_exec.specs.Do.{do_of}

-- a page of the machine, a word in it, and what it is asked for
pub record Ask : Type 0 where
  pub page : ℕ
  pub word : ℕ
  pub access : Access

-- whether an entry of the first table leads to a second one
abbrev pub leads_on : ℕ → Bool
leads_on e = not (is_faulty e) && (not (is_leaf e) && is_plain e)

-- the entry of the second table, where that of the first was read and leads there
abbrev pub second_ask : ℕ → Option (Result ℕ Refusal) → List Ask
second_ask address None = []
second_ask address (Some (Err e)) = []
second_ask address (Some (Ok e)) =
    if leads_on e then record { page = page_of e; word = field_of address 12 10; access = Read } ∷ [] else []

-- the entries that the walk of an address reads; none where the address isn't translated
-- (Privileged Architecture, section 4.3.2)
abbrev pub walk_asks : List ℕ → List Slot → Regs → ℕ → Access → List Ask
walk_asks S F r address a =
    if is_bare r a then []
    else record { page = field_of r.satp 0 22; word = field_of address 22 10; access = Read }
    ∷ second_ask address (get S F (field_of r.satp 0 22) (field_of address 22 10) Read)

-- the word where the walk found the address to be
abbrev pub place_ask : Access → Walked → List Ask
place_ask a (Found page offset) = record { page = page; word = offset / 4; access = a } ∷ []
place_ask a (TrapWith cause tval) = []
place_ask a (RefusedBy e) = []

-- a word of the machine at an address: the entries of the walk, and then the word
abbrev pub address_asks : List ℕ → List Slot → Regs → ℕ → Access → List Ask
address_asks S F r address a = walk_asks S F r address a ++ place_ask a (walk_of S F r address a)

-- word 72 of the page of the machine that is to run, where that is named as it must be
abbrev pub enter_ask : ℕ → List Ask
enter_ask value =
    if value % 4096 == 0
    then (if value / 4096 == 0 then [] else record { page = value / 4096; word = 72; access = Write } ∷ [])
    else []

-- what an instruction asks for once it is fetched
abbrev pub answer_asks : List ℕ → List Slot → Regs → Answer → List Ask
answer_asks S F r (Next q) = []
answer_asks S F r (Trap cause tval) = []
answer_asks S F r (Load address width signed rd) = address_asks S F r address Read
answer_asks S F r (Store address width v) = address_asks S F r address Write
answer_asks S F r (Enter value) = enter_ask value

-- the same by what the fetched word decodes to; a word that is no instruction asks for nothing
abbrev pub decoded_asks : List ℕ → List Slot → ℕ → Regs → ℕ → Option Instr → List Ask
decoded_asks S F hart r w None = []
decoded_asks S F hart r w (Some i) = answer_asks S F r (do_of i w r hart)

-- the same by what the fetch gave
abbrev pub fetched_asks : List ℕ → List Slot → ℕ → Regs → Option (Result ℕ Refusal) → List Ask
fetched_asks S F hart r None = []
fetched_asks S F hart r (Some (Err e)) = []
fetched_asks S F hart r (Some (Ok w)) = decoded_asks S F hart r w (decode_of w)

-- the same by what the walk of the program counter came to
abbrev pub found_asks : List ℕ → List Slot → ℕ → Regs → Walked → List Ask
found_asks S F hart r (Found page offset) = fetched_asks S F hart r (get S F page (offset / 4) Fetch)
found_asks S F hart r (TrapWith cause tval) = []
found_asks S F hart r (RefusedBy e) = []

-- All of them: the entries of the walk of the program counter, the instruction's word, the entries of the walk of a
-- load or store, and its word, or word 72 of the page of a machine that is to run.
unfoldable pub asks : List ℕ → List Slot → ℕ → Regs → List Ask
asks S F hart r = address_asks S F r r.pc Fetch ++ found_asks S F hart r (walk_of S F r r.pc Fetch)

-- what a way refuses of a word and an access
abbrev pub refusal_through : Way → ℕ → Access → Option Refusal
refusal_through (Open g) k a = None
refusal_through (Shut l c p w) k a = Some (refused l c p w k a)

-- what a slot refuses; nothing where there is no such page
abbrev pub refusal_at : Option Slot → ℕ → Access → Option Refusal
refusal_at None k a = None
refusal_at (Some slot) k a = refusal_through (way_for slot a) k a

-- the refusal of an ask by the machine's map F; a page that the machine doesn't have is no matter of the map
abbrev pub refusal_of : List Slot → Ask → Option Refusal
refusal_of F q = refusal_at (slice_get F q.page) q.word q.access

-- the first ask that the map F refuses
unfoldable pub first_refused : List Slot → List Ask → Option Ask
first_refused F [] = None
first_refused F (q ∷ qs) = if is_some (refusal_of F q) then Some q else first_refused F qs
