-- The names of the control and status registers: Privileged Architecture 20211203, chapter 2, tables 2.2 to 2.6.
use Rattle.std.specs.Prelude.{ℕ, ◌≢◌, ◌==◌, List, [], ◌∷◌, Option, find, codes}
use Rattle.std.specs.List.{AllByRecursion}
use Rattle.std.specs.Option.{option_map}
use Rattle.std.specs.Str.{bytes_eq}

-- the registers' numbers and names
abbrev pub csrs : List (ℕ × List ℕ)
csrs =
    (0x100, codes "sstatus") ∷
    (0x104, codes "sie") ∷
    (0x105, codes "stvec") ∷
    (0x106, codes "scounteren") ∷
    (0x140, codes "sscratch") ∷
    (0x141, codes "sepc") ∷
    (0x142, codes "scause") ∷
    (0x143, codes "stval") ∷
    (0x144, codes "sip") ∷
    (0x180, codes "satp") ∷
    (0x300, codes "mstatus") ∷
    (0x301, codes "misa") ∷
    (0x302, codes "medeleg") ∷
    (0x303, codes "mideleg") ∷
    (0x304, codes "mie") ∷
    (0x305, codes "mtvec") ∷
    (0x306, codes "mcounteren") ∷
    (0x310, codes "mstatush") ∷
    (0x340, codes "mscratch") ∷
    (0x341, codes "mepc") ∷
    (0x342, codes "mcause") ∷
    (0x343, codes "mtval") ∷
    (0x344, codes "mip") ∷
    (0xf11, codes "mvendorid") ∷
    (0xf12, codes "marchid") ∷
    (0xf13, codes "mimpid") ∷
    (0xf14, codes "mhartid") ∷
    []

-- the name of the register of a number, if one has it
unfoldable pub csr_name_of : ℕ → Option (List ℕ)
csr_name_of n = option_map (λ row. row.1) (find (λ row. row.0 == n) csrs)

-- the number of the register of a name, if one has it
unfoldable pub csr_number_of : List ℕ → Option ℕ
csr_number_of text = option_map (λ row. row.0) (find (λ row. bytes_eq row.1 text) csrs)

-- no register has this name
abbrev pub LacksName : List ℕ → Type 0
LacksName text = AllByRecursion (λ row. text ≢ row.1) csrs
