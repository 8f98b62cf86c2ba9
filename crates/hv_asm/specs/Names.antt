-- The names of registers and operations.
use Rattle.std.specs.Prelude.{ℕ, ◌≢◌, ◌==◌, List, [], ◌∷◌, Option, Some, find, map, codes, if◌then◌else◌}
use Rattle.std.specs.List.{AllByRecursion}
use Rattle.std.specs.Option.{option_map, option_or}
use Rattle.std.specs.Str.{bytes_eq}
use Rattle.hv_isa.specs.Names.{name_of}
use Rattle.hv_isa.specs.Table.{ops}
use Rattle.hv_asm.specs.declared.names.Operation.{Operation}
use Rattle.hv_asm.specs.declared.names.Operation.TheVariants.{Row, Nop, Mv, J, Ret, Beqz, Bnez, Csrr, Csrw, Li, La}
use Rattle.hv_asm.specs.declared.names.Operation.TheVariants.{Words, Space}

-- the number of a name in a table
unfoldable pub number_in : List (ℕ × List ℕ) → List ℕ → Option ℕ
number_in rows text = option_map (λ row. row.0) (find (λ row. bytes_eq row.1 text) rows)

-- the name of a number in a table
unfoldable pub name_in : List (ℕ × List ℕ) → ℕ → Option (List ℕ)
name_in rows n = option_map (λ row. row.1) (find (λ row. row.0 == n) rows)

-- a table has no such name
abbrev pub Lacks : List (ℕ × List ℕ) → List ℕ → Type 0
Lacks rows text = AllByRecursion (λ row. text ≢ row.1) rows

-- the registers by number
abbrev pub numbered : List (ℕ × List ℕ)
numbered =
    (0, codes "x0") ∷
    (1, codes "x1") ∷
    (2, codes "x2") ∷
    (3, codes "x3") ∷
    (4, codes "x4") ∷
    (5, codes "x5") ∷
    (6, codes "x6") ∷
    (7, codes "x7") ∷
    (8, codes "x8") ∷
    (9, codes "x9") ∷
    (10, codes "x10") ∷
    (11, codes "x11") ∷
    (12, codes "x12") ∷
    (13, codes "x13") ∷
    (14, codes "x14") ∷
    (15, codes "x15") ∷
    (16, codes "x16") ∷
    (17, codes "x17") ∷
    (18, codes "x18") ∷
    (19, codes "x19") ∷
    (20, codes "x20") ∷
    (21, codes "x21") ∷
    (22, codes "x22") ∷
    (23, codes "x23") ∷
    (24, codes "x24") ∷
    (25, codes "x25") ∷
    (26, codes "x26") ∷
    (27, codes "x27") ∷
    (28, codes "x28") ∷
    (29, codes "x29") ∷
    (30, codes "x30") ∷
    (31, codes "x31") ∷
    []

-- the registers by use (Unprivileged ISA, chapter 25, table 25.1)
abbrev pub used : List (ℕ × List ℕ)
used =
    (0, codes "zero") ∷
    (1, codes "ra") ∷
    (2, codes "sp") ∷
    (3, codes "gp") ∷
    (4, codes "tp") ∷
    (5, codes "t0") ∷
    (6, codes "t1") ∷
    (7, codes "t2") ∷
    (8, codes "s0") ∷
    (9, codes "s1") ∷
    (10, codes "a0") ∷
    (11, codes "a1") ∷
    (12, codes "a2") ∷
    (13, codes "a3") ∷
    (14, codes "a4") ∷
    (15, codes "a5") ∷
    (16, codes "a6") ∷
    (17, codes "a7") ∷
    (18, codes "s2") ∷
    (19, codes "s3") ∷
    (20, codes "s4") ∷
    (21, codes "s5") ∷
    (22, codes "s6") ∷
    (23, codes "s7") ∷
    (24, codes "s8") ∷
    (25, codes "s9") ∷
    (26, codes "s10") ∷
    (27, codes "s11") ∷
    (28, codes "t3") ∷
    (29, codes "t4") ∷
    (30, codes "t5") ∷
    (31, codes "t6") ∷
    []

-- the number of the register of a name, if one has it; x8 is also the frame pointer
unfoldable pub register_of : List ℕ → Option ℕ
register_of text =
    if bytes_eq text (codes "fp") then Some 8 else option_or (number_in numbered text) (number_in used text)

-- the name of an operation: of a row of the instruction table, or of a short form
abbrev pub operation_name : Operation → List ℕ
operation_name (Row op) = name_of op
operation_name Nop = codes "nop"
operation_name Mv = codes "mv"
operation_name J = codes "j"
operation_name Ret = codes "ret"
operation_name Beqz = codes "beqz"
operation_name Bnez = codes "bnez"
operation_name Csrr = codes "csrr"
operation_name Csrw = codes "csrw"
operation_name Li = codes "li"
operation_name La = codes "la"
operation_name Words = codes ".word"
operation_name Space = codes ".space"

-- all operations
abbrev pub operations : List Operation
operations = Nop ∷ Mv ∷ J ∷ Ret ∷ Beqz ∷ Bnez ∷ Csrr ∷ Csrw ∷ Li ∷ La ∷ Words ∷ Space ∷ map (λ op. Row op) ops

-- the operation of a name, if one has it
unfoldable pub operation_of : List ℕ → Option Operation
operation_of text = find (λ operation. bytes_eq (operation_name operation) text) operations
