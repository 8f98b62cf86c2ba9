-- The lines of a text that is assembled, with the words that each contributes and where these lie.
use Rattle.std.specs.Prelude.{ℕ, ◌≡◌, ◌+◌, ◌*◌, Bool, false, if◌then◌else◌, List, [], ◌∷◌, ◌++◌, length, map}
use Rattle.std.specs.Prelude.{flat_map, find, All, Option, option_map, Ok}
use Rattle.std.specs.List.{slice_split}
use Rattle.std.specs.Str.{bytes_eq}
use Rattle.hv_lex.specs.Lines.{lines_of}
use Rattle.hv_lex.specs.Tokens.{tokens_of}
use Rattle.hv_lex.specs.declared.Token.{Token}
use Rattle.hv_lex.specs.declared.Kind.TheVariants.{Name}
use Rattle.hv_asm.specs.Assembly.{asm_of}
use Rattle.hv_asm.specs.Names.{operation_name}
use Rattle.hv_asm.specs.Operands.{begins_label, is_comma, text_of}
use Rattle.hv_asm.specs.declared.names.Operation.{Operation}
use Rattle.hv_asm.specs.Meaning.{Addresses, Contributes}

-- A line: its bytes, its tokens, its address, and the words that it contributes.
pub record AssembledLine : Type 0 where
  pub text : List ℕ
  pub tokens : List Token
  pub at : ℕ
  pub words : List ℕ

-- the words of lines, one after another
abbrev pub all_words : List AssembledLine → List ℕ
all_words lines = flat_map (λ l. l.words) lines

-- a line defines a label of this name: its first two tokens are the name and a colon
abbrev pub defines : List ℕ → List ℕ → List Token → Bool
defines name line (a ∷ b ∷ ts) = if begins_label a.kind b.kind then bytes_eq (text_of line a) name else false
defines name line _ = false

-- the tokens without the label that they may begin with
abbrev pub behind_label : List Token → List Token
behind_label (a ∷ b ∷ ts) = if begins_label a.kind b.kind then ts else a ∷ b ∷ ts
behind_label ts = ts

-- a label's address: that of the first line that defines it
abbrev pub address_of : List AssembledLine → List ℕ → Option ℕ
address_of lines name = option_map (λ l. l.at) (find (λ l. defines name l.text l.tokens) lines)

-- operands: what stands between commas, and none where nothing stands
abbrev pub operands_in : List Token → List (List Token)
operands_in [] = []
operands_in (t ∷ ts) = slice_split (λ t. is_comma t.kind) (t ∷ ts)

-- Behind its label a line has no token, and contributes no word; or it has the name of an operation and operands, and
-- contributes the words of these.
abbrev pub HasWords : (labels : Addresses) → (at : ℕ) → List ℕ → List Token → List ℕ → Type 0
HasWords labels at line [] words = words ≡ []
HasWords labels at line (t ∷ ts) words =
    (operation : Operation) × (t.kind ≡ Name) × (text_of line t ≡ operation_name operation)
    × Contributes labels at line operation (operands_in ts) words

-- A line is as it is read, and its words are those that its operation makes.
pub record IsAssembled (labels : Addresses) (l : AssembledLine) : Type 0 where
  pub tokens : tokens_of l.text ≡ Ok l.tokens
  pub words : HasWords labels l.at l.text (behind_label l.tokens) l.words

-- The words of a text from a base on: those of its lines in order. A line's address is the base and four times the
-- number of the words before it, and a label's is that of the first line that defines it.
pub record HasImage (text : List ℕ) (base : ℕ) (words : List ℕ) : Type 0 where
  pub lines : List AssembledLine
  pub texts : map (λ l. l.text) lines ≡ lines_of text
  pub in_order : all_words lines ≡ words
  pub places :
      (front behind : List AssembledLine) (l : AssembledLine) → lines ≡ front ++ l ∷ behind
      → l.at ≡ base + 4 * length (all_words front)
  pub meaning : All (IsAssembled (address_of lines)) lines

-- what is assembled means what is written
abbrev pub AssemblerLaw : Type 0
AssemblerLaw = (text words : List ℕ) (base : ℕ) → asm_of text base ≡ Ok words → HasImage text base words
