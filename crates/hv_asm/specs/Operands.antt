-- The shape of a line: an optional label, and then nothing, or an operation with operands that commas separate.
use Rattle.std.specs.Prelude.{ℕ, ◌*◌, ◌%◌, ◌==◌, ◌&&◌, nat_le, List, [], ◌∷◌, ◌++◌, length, Bool, true, false}
use Rattle.std.specs.Prelude.{if◌then◌else◌, Option, Some, None, Result, Ok, Err, take, drop}
use Rattle.std.specs.List.{slice_split}
use Rattle.std.specs.Option.{option_and_then}
use Rattle.hv_lex.specs.Tokens.{tokens_of}
use Rattle.hv_lex.specs.declared.Token.{Token}
use Rattle.hv_lex.specs.declared.Kind.{Kind}
use Rattle.hv_lex.specs.declared.Kind.TheVariants.{Name, Number, Comma, Colon, Open, Close}
use Rattle.hv_lex.specs.declared.LexEnd.{LexEnd}
use Rattle.hv_lex.specs.declared.LexEnd.TheVariants.{BadByte, BadNumber, Memory}
use Rattle.hv_asm.specs.Amounts.{amount_of}
use Rattle.hv_asm.specs.Limits.{space_limit}
use Rattle.hv_asm.specs.Names.{operation_of}
use Rattle.hv_asm.specs.declared.AsmKind.{AsmKind}
use Rattle.hv_asm.specs.declared.AsmKind.TheVariants as fault
use Rattle.hv_asm.specs.declared.amounts.Amount.TheVariants.{Plus}
use Rattle.hv_asm.specs.declared.names.Operation.{Operation}
use Rattle.hv_asm.specs.declared.names.Operation.TheVariants as does
use Rattle.hv_asm.specs.declared.operands.Operand.{Operand}
use Rattle.hv_asm.specs.declared.operands.Operand.TheVariants as operand

-- the bytes of a token
abbrev pub text_of : List ℕ → Token → List ℕ
text_of line token = drop token.start (take token.end line)

-- a token is a comma
abbrev pub is_comma : Kind → Bool
is_comma Comma = true
is_comma Name = false
is_comma (Number v) = false
is_comma Colon = false
is_comma Open = false
is_comma Close = false

-- what stands between commas
unfoldable pub groups_of : List Token → List (List Token)
groups_of ts = slice_split (λ t. is_comma t.kind) ts

-- the groups of what is behind a group, where a comma ended it
abbrev pub groups_behind : Option (List Token) → List (List Token)
groups_behind None = []
groups_behind (Some ts) = groups_of ts

-- the operand that a token alone is
abbrev pub single : Kind → Token → Option Operand
single Name t = Some (operand.Name t)
single (Number v) t = Some (operand.Number (amount_of v))
single Comma t = None
single Colon t = None
single Open t = None
single Close t = None

-- a number and a name in parentheses
abbrev pub based : Kind → Kind → Kind → Kind → Token → Option Operand
based (Number v) Open Name Close t = Some (operand.Based (amount_of v) t)
based _ _ _ _ t = None

-- the operand that some tokens are
unfoldable pub operand_of : List Token → Option Operand
operand_of (a ∷ []) = single a.kind a
operand_of (a ∷ b ∷ c ∷ d ∷ []) = based a.kind b.kind c.kind d.kind c
operand_of _ = None

-- the operands `front`, and then the one that each group is
unfoldable pub operands_from : List Operand → List (List Token) → Option (List Operand)
operands_from front [] = Some front
operands_from front (group ∷ groups) = option_and_then (λ o. operands_from (front ++ o ∷ []) groups) (operand_of group)

-- the operands that some tokens are
unfoldable pub operands_of : List Token → Option (List Operand)
operands_of ts = if length ts == 0 then Some [] else operands_from [] (groups_of ts)

-- what a line does
pub data Deed : Type 0 where
  Refused : (kind : AsmKind) → Deed
  Nothing : Deed
  -- an operation, if its name is one, and its operands
  Work : (operation : Option Operation) (operands : List Operand) → Deed

-- an operation by its name and its operands, if these have their shape
abbrev pub worked : List ℕ → Token → Option (List Operand) → Deed
worked line t None = Refused fault.Syntax
worked line t (Some operands) = Work (operation_of (text_of line t)) operands

-- what begins with a token of this kind: only a name can be an operation
abbrev pub named : Kind → Deed → Deed
named Name deed = deed
named (Number v) deed = Refused fault.Syntax
named Comma deed = Refused fault.Syntax
named Colon deed = Refused fault.Syntax
named Open deed = Refused fault.Syntax
named Close deed = Refused fault.Syntax

-- what the tokens behind a label do
unfoldable pub deed_of : List ℕ → List Token → Deed
deed_of line [] = Nothing
deed_of line (t ∷ ts) = named t.kind (worked line t (operands_of ts))

-- the tokens begin with a name and a colon
abbrev pub begins_label : Kind → Kind → Bool
begins_label Name Colon = true
begins_label _ _ = false

-- a line: the name that it defines, and what it does
pub record Reading : Type 0 where
  pub label : Option (List ℕ)
  pub deed : Deed

-- a line from its tokens
unfoldable pub reading_of : List ℕ → List Token → Reading
reading_of line (a ∷ b ∷ ts) =
    if begins_label a.kind b.kind then record { label = Some (text_of line a); deed = deed_of line ts }
    else record { label = None; deed = deed_of line (a ∷ b ∷ ts) }
reading_of line ts = record { label = None; deed = deed_of line ts }

-- how a line without tokens is refused
abbrev pub kind_of : LexEnd → AsmKind
kind_of (BadByte at) = fault.Byte
kind_of (BadNumber at) = fault.Syntax
kind_of Memory = fault.Syntax

-- a line from its tokens, if it has them
abbrev pub read_tokens : List ℕ → Result (List Token) LexEnd → Reading
read_tokens line (Ok ts) = reading_of line ts
read_tokens line (Err end) = record { label = None; deed = Refused (kind_of end) }

-- a line as it is read
unfoldable pub read_of : List ℕ → Reading
read_of line = read_tokens line (tokens_of line)

-- the bytes of `.space`, if its number is in its range
abbrev pub space_of : List Operand → ℕ
space_of (operand.Number (Plus n) ∷ []) = if nat_le n space_limit && n % 4 == 0 then n else 0
space_of _ = 0

-- how many bytes an operation makes
abbrev pub size_with : Operation → List Operand → ℕ
size_with does.Li operands = 8
size_with does.La operands = 8
size_with does.Words operands = 4 * length operands
size_with does.Space operands = space_of operands
size_with _ operands = 4

-- how many bytes a line makes, refused or not
unfoldable pub size_of : Deed → ℕ
size_of (Work (Some operation) operands) = size_with operation operands
size_of _ = 0
