-- A page table entry, and what it lets an access do. (Privileged Architecture, sections 3.1.6, 4.3.1 and 4.3.2.)
use Rattle.std.specs.Prelude.{ℕ, ◌==◌, ◌&&◌, ◌||◌, Bool, false, not, if◌then◌else◌}
use Rattle.hv_word.specs.Words.{field_of}
use Rattle.hv_cpu.specs.Regs.{Regs}
use Rattle.hv_store.specs.declared.access.Access.{Access}
use Rattle.hv_store.specs.declared.access.Access.TheVariants.{Read, Write, Fetch}

-- bit k of a word
abbrev pub has_bit : ℕ → ℕ → Bool
has_bit w k = field_of w k 1 == 1

-- The bits of an entry are V 0, R 1, W 2, X 3, U 4, A 6 and D 7. Bit 5 and bits 9:8 are ignored.
abbrev pub is_valid : ℕ → Bool
is_valid e = has_bit e 0

abbrev pub is_readable : ℕ → Bool
is_readable e = has_bit e 1

abbrev pub is_writable : ℕ → Bool
is_writable e = has_bit e 2

abbrev pub is_executable : ℕ → Bool
is_executable e = has_bit e 3

abbrev pub is_user : ℕ → Bool
is_user e = has_bit e 4

abbrev pub is_accessed : ℕ → Bool
is_accessed e = has_bit e 6

abbrev pub is_dirty : ℕ → Bool
is_dirty e = has_bit e 7

-- an entry that isn't valid, or is writable and not readable, which is reserved
abbrev pub is_faulty : ℕ → Bool
is_faulty e = not (is_valid e) || (is_writable e && not (is_readable e))

-- a leaf is readable or executable; every other entry that isn't faulty is a pointer to a table
abbrev pub is_leaf : ℕ → Bool
is_leaf e = is_readable e || is_executable e

-- a pointer must have U, A and D clear
abbrev pub is_plain : ℕ → Bool
is_plain e = not (is_user e) && (not (is_accessed e) && not (is_dirty e))

-- the page that an entry names, in bits 31:10
abbrev pub page_of : ℕ → ℕ
page_of e = field_of e 10 22

-- The mode that an access is made in, 0 for U, 1 for S and 3 for M. MPRV, bit 17 of mstatus, puts MPP, bits 12:11, in
-- the place of the mode for loads and stores; it never changes a fetch.
abbrev pub data_mode : Regs → ℕ
data_mode r = if has_bit r.mstatus 17 then field_of r.mstatus 11 2 else r.mode

-- the mode that an access is made in
abbrev pub effective_mode : Regs → Access → ℕ
effective_mode r Fetch = r.mode
effective_mode r Read = data_mode r
effective_mode r Write = data_mode r

-- what a leaf is for: a fetch needs X, a load R, or X with MXR, which is bit 19 of mstatus, and a store W
abbrev pub permits : Regs → Access → ℕ → Bool
permits r Fetch e = is_executable e
permits r Read e = is_readable e || (is_executable e && has_bit r.mstatus 19)
permits r Write e = is_writable e

-- S fetches nothing from a page of U, and loads and stores there only with SUM, which is bit 18 of mstatus
abbrev pub reaches_user : Regs → Access → Bool
reaches_user r Fetch = false
reaches_user r Read = has_bit r.mstatus 18
reaches_user r Write = has_bit r.mstatus 18

-- whose page a leaf is: mode U needs U, and mode S needs U clear but where it reaches pages of U
abbrev pub admits : Regs → Access → ℕ → Bool
admits r a e = if effective_mode r a == 0 then is_user e else (not (is_user e) || reaches_user r a)

-- the marks that software has set before: A for each access, and D for a store
abbrev pub shows_use : Access → ℕ → Bool
shows_use Fetch e = is_accessed e
shows_use Read e = is_accessed e
shows_use Write e = is_accessed e && is_dirty e

-- whether a leaf lets an access through
abbrev pub grants : Regs → Access → ℕ → Bool
grants r a e = permits r a e && (admits r a e && shows_use a e)
