-- The laws of control registers, as statements.
use Rattle.std.specs.Prelude.{◌≡◌, ℕ, Some}
use Rattle.std.specs.Option.{option_map}
use Rattle.hv_isa.specs.Csrs.{csr_name_of, csr_number_of}
use Rattle.hv_csr.specs.declared.csr.Csr.{Csr}
use Rattle.hv_csr.specs.Table.{row_of, csr_of}

-- the name of the machine's register with a number is the name that the assembler has for the number; where one has
-- none, neither has the other
abbrev pub NameLaw : Type 0
NameLaw = (number : ℕ) → option_map (λ csr. (row_of csr).name) (csr_of number) ≡ csr_name_of number

-- and what the assembler makes of that name is the register's number
abbrev pub NumberLaw : Type 0
NumberLaw = (number : ℕ) (csr : Csr) → csr_of number ≡ Some csr → csr_number_of (row_of csr).name ≡ Some number
