-- What is written for an input: a text, or the line that refuses the input; and when each status comes.
use Rattle.std.specs.Prelude.{◌≡◌, ◌≢◌, ◌⊎◌, ℕ, List, ◌++◌, codes}
use Rattle.std.specs.Fmt.{decimal}
use Rattle.hv_text.specs.Text.{line}
use Rattle.hv_top.specs.declared.TheConstants.{DONE, REFUSED, WRITE_FAULT, NO_MEMORY}

-- the text of a command, or the line that refuses its input
pub data Output : Type 0 where
  Text : List ℕ → Output
  Refusal : List ℕ → Output

-- its bytes
abbrev pub text_of : Output → List ℕ
text_of (Text text) = text
text_of (Refusal text) = text

-- the number of the line that is refused, and why it is
abbrev pub refusal_line : ℕ → List ℕ → List ℕ
refusal_line number kind = line (codes "refused line " ++ decimal number ++ codes ": " ++ kind)

-- a refusal of the line of this number
abbrev pub refusal : ℕ → List ℕ → Output
refusal number kind = Refusal (refusal_line number kind)

-- a text in front; a refusal stays
abbrev pub in_front : List ℕ → Output → Output
in_front front (Text text) = Text (front ++ text)
in_front front (Refusal text) = Refusal text

-- it is the text of a command, of which this holds
abbrev pub IsTextAnd : Output → (List ℕ → Type 0) → Type 0
IsTextAnd (Text text) P = P text
IsTextAnd (Refusal text) P = ⊥

-- it is a refusal, of which this holds
abbrev pub IsRefusalAnd : Output → (List ℕ → Type 0) → Type 0
IsRefusalAnd (Text text) P = ⊥
IsRefusalAnd (Refusal text) P = P text

-- the status, where nothing outside failed: that of the output, or want of memory
abbrev pub IsAnswer : Output → ℕ → Type 0
IsAnswer (Text text) status = (status ≡ DONE) ⊎ (status ≡ NO_MEMORY)
IsAnswer (Refusal text) status = (status ≡ REFUSED) ⊎ (status ≡ NO_MEMORY)

-- what follows where one of the two statuses comes that end with the whole output
abbrev pub Ends : ℕ → Type 0 → Type 0
Ends status P = (status ≡ DONE) ⊎ (status ≡ REFUSED) → P

-- what follows where a status comes with which nothing is written
abbrev pub WritesNothing : ℕ → Type 0 → Type 0
WritesNothing status P = status ≢ DONE → status ≢ REFUSED → status ≢ WRITE_FAULT → P
